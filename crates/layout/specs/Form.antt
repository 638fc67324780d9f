-- 'Record and archive' of document 01, and formats 2 and 3 of document 02: the formats, what a record holds, and its bytes.
use Rattle.std.specs.Prelude.{ℕ, ◌+◌, ◌^◌, ◌<◌, ◌≤◌, ◌≡◌, Bool, true, false, cond, ◌||◌, List, [], ◌∷◌, ◌++◌, eqb, length}
use Rattle.std.proofs.Math.Option.{Option, none, some}
use Rattle.trace.specs.{most_samples, pack}
use Rattle.semantics.specs.declared.Sort.{Sort}
use Rattle.semantics.specs.declared.Sort.TheVariants.{One, Two}
use Rattle.semantics.specs.Language.{Program, Trace, Traces}
use Rattle.rule.specs.Form.{Accepted}
use Rattle.encoding.specs.{low_first}
use Rattle.layout.specs.declared.Format.{Format}

-- ---- Formats

-- 'format 1', with a site label, 'format 2, without the eight label bytes', and 'format 3', which 'puts the guard trace after the
-- ram trace'
abbrev pub format1 : Format
format1 = record { number = 1; labelled = true; guarded = false }

abbrev pub format2 : Format
format2 = record { number = 2; labelled = false; guarded = false }

abbrev pub format3 : Format
format3 = record { number = 3; labelled = false; guarded = true }

-- the formats that are read, the newest first, and those that older releases read: the first format 1 alone, the second 1 and 2
abbrev pub formats : List Format
formats = format3 ∷ format2 ∷ format1 ∷ []

abbrev pub formats_of1 : List Format
formats_of1 = format1 ∷ []

abbrev pub formats_of2 : List Format
formats_of2 = format2 ∷ format1 ∷ []

-- whether a number is that of a format known, and the format that it stands for; what an unknown number stands for is never
-- asked, as 2 refuses it
unfoldable pub knows : List Format → ℕ → Bool
knows [] k = false
knows (F ∷ Fs) k = eqb k F.number || knows Fs k

unfoldable pub numbered : List Format → ℕ → Format
numbered [] k = record { number = k; labelled = false; guarded = false }
numbered (F ∷ Fs) k = cond (eqb k F.number) F (numbered Fs k)

-- the sort of the programs in records of a format: 'formats 1 and 2 hold no such program' of two contacts
abbrev pub format_sort : Format → Sort
format_sort F = cond F.guarded Two One

-- ---- Contents

-- what a record holds: the program by its bytes, the samples of the ram trace, oldest first, and of the guard trace if there is
-- one, the site label if there is one, the number of the verdict, the pass count
pub record Contents : Type 0 where
  pub program : List ℕ
  pub samples : Trace
  pub guard : Option Trace
  pub label : Option (List ℕ)
  pub verdict : ℕ
  pub passes : ℕ

-- the format of contents: 3 with a guard trace, else 1 with a label, 2 with 'no label'
abbrev pub format_for : Option Trace → Option (List ℕ) → Format
format_for (some guard) label = format3
format_for none (some label) = format1
format_for none none = format2

abbrev pub format_of : Contents → Format
format_of c = format_for c.guard c.label

-- the samples of a guard trace, none where there is no such trace
abbrev pub guard_samples : Option Trace → Trace
guard_samples (some guard) = guard
guard_samples none = []

-- both traces
abbrev pub traces_held : Contents → Traces
traces_held c = record { of_ram = c.samples; of_guard = guard_samples c.guard }

-- ---- Its bytes

-- 'mark 0x52'
abbrev pub mark : ℕ
mark = 0x52

-- 'an eight-byte site label'
abbrev pub label_bytes : ℕ
label_bytes = 8

-- 'a trailer of eight bytes', in format 3 'of ten bytes'
abbrev pub least_trailer : ℕ
least_trailer = 8

abbrev pub guard_trailer : ℕ
guard_trailer = 10

unfoldable pub trailer_bytes : Format → ℕ
trailer_bytes F = cond F.guarded guard_trailer least_trailer

-- the verdict byte and the pass count
abbrev pub result_bytes : ℕ
result_bytes = 1 + 4

-- the label, if the format has one
unfoldable pub label_size : Format → ℕ
label_size F = cond F.labelled label_bytes 0

-- what stands between the traces and the trailer: that, the verdict byte and the pass count
abbrev pub after_trace : Format → ℕ
after_trace F = label_size F + result_bytes

-- the bytes of the guard trace, if there is one
abbrev pub guard_part : Option Trace → List ℕ
guard_part guard = pack (guard_samples guard)

-- the distances 'from the trailer's first byte to the program's first, the same to the trace's first'; in format 3 'to the ram
-- trace, the bytes of both traces plus 5'
abbrev pub trace_distance : Format → Contents → ℕ
trace_distance F c = length (pack c.samples) + (length (guard_part c.guard) + after_trace F)

abbrev pub program_distance : Format → Contents → ℕ
program_distance F c = length c.program + trace_distance F c

-- the number of the guard trace's samples, 'after the other count'
abbrev pub guard_count : Option Trace → List ℕ
guard_count (some guard) = low_first 2 (length guard)
guard_count none = []

-- 'last a trailer of eight bytes that points back'; 'all are low byte first'
abbrev pub trailer : Format → Contents → List ℕ
trailer F c =
    low_first 2 (program_distance F c)
    ++ (low_first 2 (trace_distance F c)
    ++ (low_first 2 (length c.samples)
    ++ (guard_count c.guard
    ++ (F.number ∷ mark ∷ []))))

-- the bytes of a label; 'no label' has none
abbrev pub label_part : Option (List ℕ) → List ℕ
label_part (some label) = label
label_part none = []

-- 'a record is program, trace bytes, an eight-byte site label', in formats 2 and 3 none, 'verdict byte, pass count (32 bits), and last
-- a trailer'; in format 3 'the guard trace after the ram trace'
unfoldable pub layout_in : Format → Contents → List ℕ
layout_in F c =
    c.program
    ++ (pack c.samples
    ++ (guard_part c.guard
    ++ (label_part c.label
    ++ (c.verdict ∷ low_first 4 c.passes
    ++ trailer F c))))

abbrev pub layout : Contents → List ℕ
layout c = layout_in (format_of c) c

-- ---- Contents that a record can hold

-- the highest number of a verdict
abbrev pub most_verdict : ℕ
most_verdict = 4

-- a label has eight bytes; beside a guard trace there is none
abbrev pub LabelFits : Option Trace → Option (List ℕ) → Type 0
LabelFits guard none = Unit {0}
LabelFits none (some label) = length label ≡ label_bytes
LabelFits (some guard) (some label) = ⊥

-- what 2, 3, 23 and 4 to 17 with 25 and 26 leave
pub record Stated (c : Contents) : Type 0 where
  pub program : (P : Program) × Accepted c.program (format_sort (format_of c)) P
  pub few : length c.samples ≤ most_samples
  pub few_guard : length (guard_samples c.guard) ≤ most_samples
  pub label : LabelFits c.guard c.label
  pub verdict : c.verdict ≤ most_verdict
  pub counted : 1 ≤ c.passes
  pub fits : c.passes < 256 ^ 4
