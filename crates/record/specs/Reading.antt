-- 'Reading' a record, of documents 01 and 02: from the last byte backwards; its refusals, 1 to 3, 23 and 4 to 17 with 25 and 26, and the parts it
-- yields.
use Rattle.std.specs.Prelude.{ℕ, List, ◌∷◌, [], Option, Some, None, Result, Ok, Err}
use Rattle.refusal.specs.declared.Refusal.{Refusal}
use Rattle.refusal.specs.{Check, ◌then◌, Answer, answered, refused_as}
use Rattle.rule.specs.Reading.{program_check}
use Rattle.layout.specs.declared.Format.{Format}
use Rattle.layout.specs.declared.Span.{Span}
use Rattle.layout.specs.declared.GuardTrace.{GuardTrace}
use Rattle.layout.specs.declared.Parts.{Parts}
use Rattle.layout.specs.Form.{formats, format_sort}
use Rattle.layout.specs.Trailer.{part_of, format_held, trailer_check_with, parts_with, read_by}

-- ---- Of a release that knows these formats

-- 1 to 3, 23, 4, then 5 to 17 with 25 and 26 of the program, which must be of the format's sort (6)
unfoldable pub read_check_with : List Format → List ℕ → Check
read_check_with known bytes =
    trailer_check_with known bytes
    then program_check (Some (format_sort (format_held known bytes))) (part_of bytes (parts_with known bytes).program)

-- what reading answers
unfoldable pub reading_with : List Format → List ℕ → Result Parts Refusal
reading_with known bytes = read_by (read_check_with known bytes) (parts_with known bytes)

-- ---- With the formats that are read

abbrev pub read_check : List ℕ → Check
read_check = read_check_with formats

abbrev pub reading : List ℕ → Result Parts Refusal
reading = reading_with formats

-- ---- In numbers

-- where a label stands, and its length; 'no label' has 0 for both
abbrev pub label_start : Option Span → ℕ
label_start (Some s) = s.start
label_start None = 0

abbrev pub label_length : Option Span → ℕ
label_length (Some s) = s.length
label_length None = 0

-- where a guard trace stands, its length and the number of its samples; 0 for all three where there is none
abbrev pub guard_values : Option GuardTrace → List ℕ
guard_values (Some g) = g.span.start ∷ g.span.length ∷ g.samples ∷ []
guard_values None = 0 ∷ 0 ∷ 0 ∷ []

-- the parts in numbers: program start and length, trace start and length, n, label start, verdict, passes, bytes before the
-- record, format, label length, and those of the guard trace
abbrev pub parts_values : Parts → List ℕ
parts_values p =
    p.program.start
    ∷ p.program.length
    ∷ p.trace.start
    ∷ p.trace.length
    ∷ p.n
    ∷ label_start p.label
    ∷ p.verdict
    ∷ p.passes
    ∷ p.program.start
    ∷ p.format
    ∷ label_length p.label
    ∷ guard_values p.guard

-- the answer in numbers
abbrev pub read_answer : Result Parts Refusal → Answer
read_answer (Ok p) = answered (parts_values p)
read_answer (Err f) = refused_as f
