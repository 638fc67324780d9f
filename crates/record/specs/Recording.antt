-- 'Recording', of documents 01 and 02: its refusals (5 to 17 with 25 and 26, 20, 23, 21, 22), its answer, what it leaves in the table and writes.
use Rattle.std.specs.Prelude.{ℕ, ◌≡◌, List, ◌∷◌, ltb, length, Result, Ok, Err}
use Rattle.refusal.specs.declared.Refusal.{Refusal}
use Rattle.refusal.specs.declared.Refusal.TheVariants.{OutputShort}
use Rattle.refusal.specs.{Check, passed, refuse_if, ◌then◌, changed_if, Answer, answered, refused_as}
use Rattle.semantics.specs.declared.Verdict.{Verdict}
use Rattle.semantics.specs.declared.Sort.{Sort}
use Rattle.semantics.specs.declared.Sort.TheVariants.{One, Two}
use Rattle.semantics.specs.Handed.{Handed, one_trace, two_traces, samples_of}
use Rattle.semantics.specs.Verdicts.{verdict_of, verdict_values}
use Rattle.rule.specs.Reading.{program_of}
use Rattle.prepare.specs.Checks.{evaluate_check}
use Rattle.evaluate.specs.Evaluate.{table_evaluated, Demand3}
use Rattle.encoding.specs.{begins}
use Rattle.layout.specs.declared.Format.{Format}
use Rattle.layout.specs.Form.{format2, format3, layout}
use Rattle.layout.specs.Filling.{recorded}
use Rattle.record.specs.declared.Written.{Written}

-- the format that is written, by the traces handed in
abbrev pub format_written : Sort → Format
format_written One = format2
format_written Two = format3

-- traces as a caller hands them in: one, or two
pub data OneOrTwo : Handed → Type 0 where
  one : (trace : List ℕ) (n : ℕ) → OneOrTwo (one_trace trace n)
  two : (ram : List ℕ) (n : ℕ) (guard : List ℕ) (m : ℕ) → OneOrTwo (two_traces ram n guard m)

-- 'works the verdict out itself' from program and traces, 'and is never handed one'
abbrev pub worked_out : List ℕ → Handed → Verdict
worked_out program h = verdict_of (program_of program) (samples_of h)

-- the record's bytes
unfoldable pub record_of : List ℕ → Handed → List ℕ
record_of program h = layout (recorded program h (worked_out program h))

-- 22: 'the output is shorter than what is to be written'
abbrev pub room_check : List ℕ → Handed → ℕ → Check
room_check program h room = refuse_if (ltb room (length (record_of program h))) OutputShort

-- 5 to 17 with 25 and 26, 20, 23, 21, then 22
unfoldable pub write_check : List ℕ → Handed → ℕ → ℕ → Check
write_check program h lent room = evaluate_check program h lent then room_check program h room

-- a record of so many bytes, with this verdict
abbrev pub written : ℕ → Verdict → Result Written Refusal
written size v = Ok (record { length = size; verdict = v })

abbrev pub written_by : Check → ℕ → Verdict → Result Written Refusal
written_by (Ok u) size v = written size v
written_by (Err f) size v = Err f

-- the answer: how long the record is, and the verdict that went into it
unfoldable pub writing : List ℕ → Handed → ℕ → ℕ → Result Written Refusal
writing program h lent room =
    written_by
    (write_check program h lent room)
    (length (record_of program h))
    (worked_out program h)

-- the output: the record at its front; past it, it keeps its content
unfoldable pub output_written : List ℕ → Handed → ℕ → List ℕ → List ℕ
output_written program h lent out =
    changed_if (write_check program h lent (length out)) (begins (record_of program h) out) out

-- the table: as evaluating leaves it
unfoldable pub table_written : List ℕ → Handed → List ℕ → ℕ → List ℕ
table_written program h table room =
    changed_if (write_check program h (length table) room) (table_evaluated program h table) table

-- the answer in numbers: the record's length, the verdict's number and its pass count
abbrev pub written_answer : Result Written Refusal → Answer
written_answer (Ok w) = answered (w.length ∷ verdict_values w.verdict)
written_answer (Err f) = refused_as f

-- Demand 3, of the verdict that recording works out: as evaluating owes it, for an output that 22 leaves
abbrev pub RecordDemand3 : List ℕ → Handed → ℕ → ℕ → (Verdict → Type 0) → List ℕ → Type 0
RecordDemand3 program h lent room Told table =
    room_check program h room ≡ passed → Demand3 program h lent Told table
