-- The trailer of a record, of documents 01 and 02: where the parts stand in bytes that end in it, and its refusals, 1 to 4 and 23.
use Rattle.std.specs.Prelude.{ℕ, ◌+◌, ◌-◌, Bool, cond, not, ◌&&◌, ◌||◌, List, eqb, leb, ltb, length, get_or, take, drop, Option, Some, None, Result, Ok, Err}
use Rattle.std.proofs.Math.Option as math
use Rattle.refusal.specs.declared.Refusal.{Refusal}
use Rattle.refusal.specs.declared.Refusal.TheVariants.{TrailerMissing, MarkOrFormat, TrailerFields, VerdictOrPasses, PaddingSet}
use Rattle.refusal.specs.{Check, refuse_if, ◌then◌}
use Rattle.trace.specs.{most_samples, bytes_for, samples, padding_set}
use Rattle.encoding.specs.{from_low}
use Rattle.layout.specs.declared.Format.{Format}
use Rattle.layout.specs.declared.Span.{Span}
use Rattle.layout.specs.declared.GuardTrace.{GuardTrace}
use Rattle.layout.specs.declared.Parts.{Parts}
use Rattle.semantics.specs.Language.{Trace}
use Rattle.layout.specs.Form.{formats, knows, numbered, Contents, mark, label_bytes, least_trailer, trailer_bytes, result_bytes, after_trace, most_verdict}

-- ---- What stands in the bytes

-- a part of the bytes
unfoldable pub part_of : List ℕ → Span → List ℕ
part_of bytes s = take s.length (drop s.start bytes)

abbrev pub span : ℕ → ℕ → Span
span start length = record { start = start; length = length }

-- a number of so many bytes, low byte first, at a place
unfoldable pub number_at : ℕ → ℕ → List ℕ → ℕ
number_at width at bytes = from_low (part_of bytes (span at width))

-- the place of the trailer's first byte, in a format
abbrev pub trailer_at : Format → List ℕ → ℕ
trailer_at F bytes = length bytes - trailer_bytes F

-- the trailer's fields: the distances to the program and to the ram trace, the number of samples, in format 3 that of the guard
-- trace; last the format and the mark
unfoldable pub program_distance_in : Format → List ℕ → ℕ
program_distance_in F bytes = number_at 2 (trailer_at F bytes) bytes

unfoldable pub trace_distance_in : Format → List ℕ → ℕ
trace_distance_in F bytes = number_at 2 (trailer_at F bytes + 2) bytes

unfoldable pub samples_in : Format → List ℕ → ℕ
samples_in F bytes = number_at 2 (trailer_at F bytes + 4) bytes

unfoldable pub guard_samples_in : Format → List ℕ → ℕ
guard_samples_in F bytes = cond F.guarded (number_at 2 (trailer_at F bytes + 6) bytes) 0

unfoldable pub format_in : List ℕ → ℕ
format_in bytes = get_or bytes (length bytes - 2) 0

unfoldable pub mark_in : List ℕ → ℕ
mark_in bytes = get_or bytes (length bytes - 1) 0

-- the format that this number stands for, of those known
abbrev pub format_held : List Format → List ℕ → Format
format_held known bytes = numbered known (format_in bytes)

-- before the trailer: where the traces stand, one after the other, the verdict byte and the pass count
abbrev pub trace_span : Format → List ℕ → Span
trace_span F bytes = span (trailer_at F bytes - trace_distance_in F bytes) (bytes_for (samples_in F bytes))

abbrev pub guard_span : Format → List ℕ → Span
guard_span F bytes =
    span (trailer_at F bytes - trace_distance_in F bytes + bytes_for (samples_in F bytes)) (bytes_for (guard_samples_in F bytes))

unfoldable pub verdict_in : Format → List ℕ → ℕ
verdict_in F bytes = get_or bytes (trailer_at F bytes - result_bytes) 0

unfoldable pub passes_in : Format → List ℕ → ℕ
passes_in F bytes = number_at 4 (trailer_at F bytes - 4) bytes

-- the label that begins at a place; a format without one has 'no label'
unfoldable pub label_place : Format → ℕ → Option Span
label_place F start = cond F.labelled (Some (span start label_bytes)) None

-- the guard trace of so many samples that stands at a place; a format without one has none
unfoldable pub guard_place : Format → Span → ℕ → Option GuardTrace
guard_place F s m = cond F.guarded (Some (record { span = s; samples = m })) None

-- ---- Refusals, in the order of the list

-- 1: 'fewer than eight bytes remain for a trailer', or fewer than the format has 'where the last two are' its number and the mark
abbrev pub trailer_cut : Format → List ℕ → Bool
trailer_cut F bytes = ltb (length bytes) least_trailer || (eqb (mark_in bytes) mark && ltb (length bytes) (trailer_bytes F))

-- 3: n, or the guard trace's count, 'is above 4,095, the second distance is not n / 8 rounded up plus 13', in format 2 plus 5, in
-- format 3 that of both traces plus 5, 'the first is not larger than the second, or the first exceeds the bytes before the trailer'
abbrev pub fields_fault : Format → ℕ → ℕ → ℕ → ℕ → ℕ → Bool
fields_fault F before first second n m =
    (ltb most_samples n || ltb most_samples m)
    || (not (eqb second (bytes_for n + (bytes_for m + after_trace F))) || (leb first second || ltb before first))

-- of a release that knows these formats:
-- 1, 2: 'the mark is not 0x52' or the format is none of them, 3, and directly after it 23: 'a bit above the last sample is set', of
-- either trace, 4: 'the verdict byte is above 4 or the pass count is 0'
unfoldable pub trailer_check_with : List Format → List ℕ → Check
trailer_check_with known bytes =
    let F = format_held known bytes in
    let n = samples_in F bytes in
    let m = guard_samples_in F bytes in
    refuse_if (trailer_cut F bytes) TrailerMissing
    then refuse_if (not (eqb (mark_in bytes) mark) || not (knows known (format_in bytes))) MarkOrFormat
    then refuse_if (fields_fault F (trailer_at F bytes) (program_distance_in F bytes) (trace_distance_in F bytes) n m) TrailerFields
    then refuse_if (padding_set (part_of bytes (trace_span F bytes)) n || padding_set (part_of bytes (guard_span F bytes)) m) PaddingSet
    then refuse_if (ltb most_verdict (verdict_in F bytes) || eqb (passes_in F bytes) 0) VerdictOrPasses

-- ---- The parts

-- where the parts of a record of this format stand; the bytes before the record are those before its program
unfoldable pub parts_for : Format → List ℕ → Parts
parts_for F bytes =
    record {
      format = F.number;
      program = span (trailer_at F bytes - program_distance_in F bytes) (program_distance_in F bytes - trace_distance_in F bytes);
      trace = trace_span F bytes;
      n = samples_in F bytes;
      guard = guard_place F (guard_span F bytes) (guard_samples_in F bytes);
      label = label_place F (trailer_at F bytes - after_trace F);
      verdict = verdict_in F bytes;
      passes = passes_in F bytes;
    }

-- the label that stands at a place of the bytes
abbrev pub label_at : List ℕ → Option Span → math.Option (List ℕ)
label_at bytes (Some s) = math.some (part_of bytes s)
label_at bytes None = math.none

-- the guard trace that stands at a place of the bytes
abbrev pub guard_at : List ℕ → Option GuardTrace → math.Option Trace
guard_at bytes (Some g) = math.some (samples (part_of bytes g.span) g.samples)
guard_at bytes None = math.none

-- the contents that parts of the bytes make up
abbrev pub contents_at : List ℕ → Parts → Contents
contents_at bytes p =
    record {
      program = part_of bytes p.program;
      samples = samples (part_of bytes p.trace) p.n;
      guard = guard_at bytes p.guard;
      label = label_at bytes p.label;
      verdict = p.verdict;
      passes = p.passes;
    }

-- ---- Reading, up to the program

abbrev pub read_by : Check → Parts → Result Parts Refusal
read_by (Ok u) p = Ok p
read_by (Err f) p = Err f

abbrev pub parts_with : List Format → List ℕ → Parts
parts_with known bytes = parts_for (format_held known bytes) bytes

-- reading without the program's check, of a release that knows these formats
unfoldable pub located_with : List Format → List ℕ → Result Parts Refusal
located_with known bytes = read_by (trailer_check_with known bytes) (parts_with known bytes)

-- ---- With the formats that are read

abbrev pub trailer_check : List ℕ → Check
trailer_check = trailer_check_with formats

abbrev pub parts_in : List ℕ → Parts
parts_in = parts_with formats

-- the record that the bytes end in
abbrev pub contents_in : List ℕ → Contents
contents_in bytes = contents_at bytes (parts_in bytes)

abbrev pub located : List ℕ → Result Parts Refusal
located = located_with formats
