-- 'Checking a record', of documents 01 and 02: its refusals (1 to 3, 23, 4 to 17 with 25 and 26, 21), its answer, what it leaves in the table.
use Rattle.std.specs.Prelude.{ℕ, ◌≡◌, Bool, true, false, ◌&&◌, List, ◌∷◌, eqb, length, Result, Ok, Err}
use Rattle.refusal.specs.declared.Refusal.{Refusal}
use Rattle.refusal.specs.{Check, passed, ◌then◌, changed_if, Answer, answered, refused_as, answer_if}
use Rattle.trace.specs.{digit}
use Rattle.semantics.specs.declared.Verdict.{Verdict}
use Rattle.semantics.specs.Language.{Program}
use Rattle.semantics.specs.Numbering.{cells}
use Rattle.semantics.specs.Verdicts.{verdict_of, verdict_number, verdict_values}
use Rattle.semantics.specs.Passes.{decided_table}
use Rattle.semantics.specs.Demand.{Decides}
use Rattle.rule.specs.Form.{Accepted}
use Rattle.rule.specs.Reading.{program_of}
use Rattle.prepare.specs.Checks.{table_check}
use Rattle.layout.specs.Form.{Contents, format_sort, format_of, traces_held}
use Rattle.layout.specs.Trailer.{trailer_check, contents_in}
use Rattle.record.specs.declared.Checked.{Checked}
use Rattle.record.specs.declared.Checked.TheVariants as checked
use Rattle.record.specs.declared.Examined.{Examined}
use Rattle.record.specs.Reading.{read_check, reading}

-- the program that a record holds
abbrev pub program_held : Contents → Program
program_held c = program_of c.program

-- what reading is refused for, then 21
unfoldable pub record_check : List ℕ → ℕ → Check
record_check bytes lent =
    let c = contents_in bytes in
    read_check bytes then table_check (cells (traces_held c) (program_held c)) lent

-- 'over verdict and pass count together'
abbrev pub agrees : ℕ → ℕ → Verdict → Bool
agrees verdict passes v = eqb verdict (verdict_number v.decision) && eqb passes v.passes

abbrev pub compared : Bool → Verdict → Checked
compared true v = checked.Agrees v
compared false v = checked.Differs v

abbrev pub checked_by : Check → Contents → Verdict → Result Checked Refusal
checked_by (Ok u) c v = Ok (compared (agrees c.verdict c.passes v) v)
checked_by (Err f) c v = Err f

-- 'works the verdict out again and answers agrees or differs'
unfoldable pub checking : List ℕ → ℕ → Result Checked Refusal
checking bytes lent =
    let c = contents_in bytes in
    checked_by (record_check bytes lent) c (verdict_of (program_held c) (traces_held c))

-- the table: the cells worked out; beyond them it keeps its content
unfoldable pub table_checked : List ℕ → List ℕ → List ℕ
table_checked bytes table =
    let c = contents_in bytes in
    changed_if (record_check bytes (length table)) (decided_table (program_held c) (traces_held c) table) table

-- the answer in numbers: 1 for 'agrees' and 0 for 'differs', the number of the verdict worked out and its pass count
abbrev pub checked_answer : Result Checked Refusal → Answer
checked_answer (Ok (checked.Agrees v)) = answered (1 ∷ verdict_values v)
checked_answer (Ok (checked.Differs v)) = answered (0 ∷ verdict_values v)
checked_answer (Err f) = refused_as f

-- what checking answers, in numbers
abbrev pub check_numbers : List ℕ → ℕ → Answer
check_numbers bytes lent =
    let c = contents_in bytes in
    let v = verdict_of (program_held c) (traces_held c) in
    answer_if (record_check bytes lent) (digit (agrees c.verdict c.passes v) ∷ verdict_values v)

-- Demand 3, of the verdict that checking works out: for bytes that end in a record whose trailer is not refused, the program
-- that it holds an accepted encoding of, and a table that 21 leaves
abbrev pub CheckDemand3 : List ℕ → ℕ → (Verdict → Type 0) → List ℕ → Type 0
CheckDemand3 bytes lent Told table =
    (P : Program) → trailer_check bytes ≡ passed → Accepted (contents_in bytes).program (format_sort (format_of (contents_in bytes))) P
    → table_check (cells (traces_held (contents_in bytes)) P) lent ≡ passed
    → (v : Verdict) × Told v × Decides P (traces_held (contents_in bytes)) v table

-- what is told of a verdict: whether the record has it, over verdict and pass count together
abbrev pub compared_in : List ℕ → Verdict → Result Checked Refusal
compared_in bytes v = Ok (compared (agrees (contents_in bytes).verdict (contents_in bytes).passes v) v)

-- reading and checking in one
unfoldable pub examining : List ℕ → ℕ → Examined
examining bytes lent = record { reading = reading bytes; checked = checking bytes lent }
