-- 'Evaluating' of documents 01 and 02: its answer and what it leaves in the table. Its refusals (5 to 17 with 25 and 26, 20, 23, 21) are those of crate prepare.
use Rattle.std.specs.Prelude.{ℕ, ◌≡◌, List, [], ◌∷◌, length, Result, Ok, Err}
use Rattle.refusal.specs.declared.Refusal.{Refusal}
use Rattle.refusal.specs.{Check, passed, changed_if, Answer, answered, refused_as}
use Rattle.semantics.specs.declared.Verdict.{Verdict}
use Rattle.semantics.specs.Language.{Program}
use Rattle.semantics.specs.Handed.{Handed, samples_of}
use Rattle.semantics.specs.Numbering.{cells}
use Rattle.semantics.specs.Visits.{pass, pass_stores}
use Rattle.semantics.specs.Verdicts.{verdict_of, verdict_values}
use Rattle.semantics.specs.Demand.{Decides}
use Rattle.rule.specs.Form.{Accepted}
use Rattle.semantics.specs.Passes.{decided_table}
use Rattle.rule.specs.Reading.{program_of}
use Rattle.prepare.specs.Checks.{trace_check, table_check, evaluate_check}

-- ---- Evaluating

abbrev pub answer_by : Check → Verdict → Result Verdict Refusal
answer_by (Ok u) v = Ok v
answer_by (Err f) v = Err f

unfoldable pub evaluation : List ℕ → Handed → ℕ → Result Verdict Refusal
evaluation program h lent = answer_by (evaluate_check program h lent) (verdict_of (program_of program) (samples_of h))

-- what it leaves in the table
unfoldable pub table_evaluated : List ℕ → Handed → List ℕ → List ℕ
table_evaluated program h table =
    changed_if (evaluate_check program h (length table)) (decided_table (program_of program) (samples_of h) table) table

-- the answer in numbers: the verdict's, and its pass count
abbrev pub evaluated_answer : Result Verdict Refusal → Answer
evaluated_answer (Ok v) = answered (verdict_values v)
evaluated_answer (Err f) = refused_as f

-- Demand 3: for the program that the bytes are accepted as, of the sort that the traces say, traces that 20 and 23 leave and a table
-- that 21 leaves, a verdict is told, and it and the table are what they should be
abbrev pub Demand3 : List ℕ → Handed → ℕ → (Verdict → Type 0) → List ℕ → Type 0
Demand3 program h lent Told table =
    (P : Program) → Accepted program h.sort P → trace_check h ≡ passed → table_check (cells (samples_of h) P) lent ≡ passed
    → (v : Verdict) × Told v × Decides P (samples_of h) v table

-- ---- A single pass over a table with any content

abbrev pub made_by : Check → ℕ → Result ℕ Refusal
made_by (Ok u) stored = Ok stored
made_by (Err f) stored = Err f

unfoldable pub pass_made : List ℕ → Handed → List ℕ → Result ℕ Refusal
pass_made program h table = made_by (evaluate_check program h (length table)) (pass_stores (program_of program) (samples_of h) table)

-- the answer in numbers: how many outcomes were stored
abbrev pub made_answer : Result ℕ Refusal → Answer
made_answer (Ok k) = answered (k ∷ [])
made_answer (Err f) = refused_as f

unfoldable pub table_passed : List ℕ → Handed → List ℕ → List ℕ
table_passed program h table =
    changed_if (evaluate_check program h (length table)) (pass (program_of program) (samples_of h) table) table
