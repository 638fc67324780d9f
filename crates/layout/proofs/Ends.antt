-- Bytes whose trailer passes its checks end in the layout of what they hold:
--   format_back            their format is that of what they hold
--   contents-stated        with an accepted program of its sort, a record can hold that
--   from_program           from the program's first byte on the bytes are the layout
--   ends-whole             so they are those before the program, and the layout
use mathlib.Core.Path.{◌≡◌, refl, sym, ap, ◌∙◌}
use mathlib.Core.Bool.{Bool, true, false, cond}
use mathlib.Core.List.{List, [], ◌∷◌, ◌++◌}
use Prim.Native.Nat.{ℕ, ◌+◌, ◌-◌, ◌^◌, ◌<◌, ◌≤◌}
use native.Mathlib.Omega.{arith}
use lib.ListN.{length, take, drop, take-append-drop, drop_of_length-le}
use Rattle.refusal.specs.{passed}
use Rattle.trace.specs.{bytes_for, samples, pack}
use Rattle.trace.proofs.Packing.{length-samples, length-pack}
use Rattle.trace.proofs.Padding.{clean_packed}
use Rattle.semantics.specs.Language.{Program}
use Rattle.rule.specs.Form.{AreBytes, Accepted}
use Rattle.rule.specs.Reading.{program_sort, program_check}
use Rattle.rule.proofs.Programs.{passed_accepted, takes-only}
use Rattle.encoding.specs.{low_first}
use Rattle.layout.specs.Form.{Contents, format_of, format_sort, guard_samples, mark, label_bytes, label_size, least_trailer, after_trace, trailer_bytes, result_bytes, guard_part, guard_count, trace_distance, program_distance, trailer, label_part, layout_in, layout, Stated}
use Rattle.std.specs.Prelude.{Some, None}
use Rattle.layout.specs.declared.Format.{Format}
use Rattle.layout.specs.declared.Span.{Span}
use Rattle.layout.specs.Trailer.{part_of, span, number_at, trace_span, guard_span, trailer_at, program_distance_in, trace_distance_in, samples_in, guard_samples_in, format_in, mark_in, verdict_in, passes_in, label_place, guard_place, label_at, guard_at, parts_for, contents_at}
use Rattle.layout.proofs.FormatLaws.{ByParts, least_trailer_lem, parts-format, label-fits}
use Rattle.layout.proofs.Fields.{Fields}
use Rattle.layout.proofs.Places.{split, split_byte, split_number, length_part, bytes_part, number-below}

module _ (F : Format) (bytes : List ℕ) (are : AreBytes bytes) (f : Fields F bytes) where
  -- the trailer's place, its distances and counts, and what the bytes hold
  abbrev place : ℕ
  place = trailer_at F bytes

  abbrev first : ℕ
  first = program_distance_in F bytes

  abbrev second : ℕ
  second = trace_distance_in F bytes

  abbrev n : ℕ
  n = samples_in F bytes

  abbrev m : ℕ
  m = guard_samples_in F bytes

  abbrev C : Contents
  C = contents_at bytes (parts_for F bytes)

  distances : (second ≡ bytes_for n + (bytes_for m + after_trace F)) × (second < first) × (first ≤ place) × (place + trailer_bytes F ≡ length bytes)
      × (least_trailer ≤ trailer_bytes F)
  distances = (f.second, f.larger, f.before, omega (arith, f.room), least_trailer_lem F)

  -- ---- The contents

  length-program : length C.program ≡ first - second
  unfolding parts_for
  length-program = length_part bytes _ _ (omega (arith, distances))

  count : length C.samples ≡ n
  unfolding parts_for
  count = length-samples (part_of bytes (trace_span F bytes)) n

  -- the trace's bytes are those of its samples
  trace-packed : part_of bytes (trace_span F bytes) ≡ pack C.samples
  unfolding parts_for
  trace-packed =
      clean_packed (part_of bytes (trace_span F bytes)) n (bytes_part bytes are _ _) (length_part bytes _ _ (omega (arith, distances))) f.clean

  -- the samples of the guard trace, of which there are none where the format has no such trace
  guard-samples : guard_samples C.guard ≡ samples (part_of bytes (guard_span F bytes)) m
  unfolding parts_for guard_place guard_samples_in samples
  guard-samples = go F.guarded (guard_span F bytes) (number_at 2 (place + 6) bytes)
    where
      go : (b : Bool) (s : Span) (k : ℕ)
          → guard_samples (guard_at bytes (cond b (Some (record { span = s; samples = cond b k 0 })) None)) ≡ samples (part_of bytes s) (cond b k 0)
      go true s k = refl
      go false s k = refl

  guard_count_lem : length (guard_samples C.guard) ≡ m
  guard_count_lem = ap length guard-samples ∙ length-samples (part_of bytes (guard_span F bytes)) m

  guard-packed : part_of bytes (guard_span F bytes) ≡ guard_part C.guard
  guard-packed =
      clean_packed (part_of bytes (guard_span F bytes)) m (bytes_part bytes are _ _) (length_part bytes _ _ (omega (arith, distances))) f.clean_guard
      ∙ ap pack (sym guard-samples)

  bytes_program : AreBytes C.program
  unfolding parts_for
  bytes_program = bytes_part bytes are _ _

  passes_fit : passes_in F bytes < 256 ^ 4
  unfolding passes_in
  passes_fit = number-below bytes are 4 (place - 4) (omega (arith, distances))

  -- ---- The bytes, from the last backwards

  from_format : drop (length bytes - 2) bytes ≡ F.number ∷ mark ∷ []
  unfolding format_in mark_in
  from_format =
      rw (
        split_byte bytes (length bytes - 2) {next = length bytes - 1} (omega (arith, distances)) (omega (arith, distances)),
        split_byte bytes (length bytes - 1) {next = length bytes} (omega (arith, distances)) (omega (arith, distances)),
        f.formatted,
        f.marked,
        drop_of_length-le bytes {i = length bytes} (omega arith),
      )

  -- the number of the guard trace's samples, if there is one, ends where the format's stands
  from_guard_count : drop (place + 6) bytes ≡ guard_count C.guard ++ drop (length bytes - 2) bytes
  unfolding parts_for guard_place guard_samples_in trailer_bytes
  from_guard_count = go F.guarded place (guard_span F bytes) (omega (arith, f.room))
    where
      go : (b : Bool) (at : ℕ) (s : Span) → at + cond b 10 least_trailer ≡ length bytes
          → drop (at + 6) bytes
          ≡ guard_count (guard_at bytes (cond b (Some (record { span = s; samples = cond b (number_at 2 (at + 6) bytes) 0 })) None)) ++ drop (length bytes - 2) bytes
      go true at s e =
          rw (length-samples (part_of bytes s) (number_at 2 (at + 6) bytes))
          (split_number bytes are 2 (at + 6) {next = length bytes - 2} (omega arith) (omega arith))
      go false at s e = let here : at + 6 ≡ length bytes - 2 = omega arith in ap (λ (k : ℕ). drop k bytes) here

  from_fields : drop place bytes ≡ low_first 2 first ++ (low_first 2 second ++ (low_first 2 n ++ (guard_count C.guard ++ (F.number ∷ mark ∷ []))))
  unfolding program_distance_in trace_distance_in samples_in
  from_fields =
      rw (
        split_number bytes are 2 place {next = place + 2} refl (omega (arith, distances)),
        split_number bytes are 2 (place + 2) {next = place + 4} (omega arith) (omega (arith, distances)),
        split_number bytes are 2 (place + 4) {next = place + 6} (omega arith) (omega (arith, distances)),
        from_guard_count,
        from_format,
      )

  from_trailer : drop place bytes ≡ trailer F C
  from_trailer =
      let size : length (pack C.samples) ≡ bytes_for n = length-pack C.samples ∙ ap bytes_for count in
      let guard-size : length (guard_part C.guard) ≡ bytes_for m = length-pack (guard_samples C.guard) ∙ ap bytes_for guard_count_lem in
      let to-program : first ≡ program_distance F C = omega (arith, distances, length-program, size, guard-size) in
      let to-trace : second ≡ trace_distance F C = omega (arith, distances, size, guard-size) in
      rw (← to-program, ← to-trace, count) from_fields

  -- the label, if there is one, ends where the verdict byte stands
  from_label : drop (place - after_trace F) bytes ≡ label_part C.label ++ drop (place - result_bytes) bytes
  unfolding label_place label_size parts_for
  from_label = go F.labelled (omega (arith, distances))
    where
      go : (b : Bool) → cond b label_bytes 0 + result_bytes ≤ second
          → drop (place - (cond b label_bytes 0 + result_bytes)) bytes
          ≡ label_part (label_at bytes (cond b (Some (span (place - (cond b label_bytes 0 + result_bytes)) label_bytes)) None))
          ++ drop (place - result_bytes) bytes
      go true h = split bytes (place - (label_bytes + result_bytes)) label_bytes {next = place - result_bytes} (omega (arith, distances))
      go false h = refl

  from_result : drop (place - result_bytes) bytes ≡ C.verdict ∷ low_first 4 C.passes ++ trailer F C
  unfolding verdict_in passes_in parts_for
  from_result =
      rw (
        split_byte bytes (place - result_bytes) {next = place - 4} (omega (arith, distances)) (omega (arith, distances)),
        split_number bytes are 4 (place - 4) {next = place} (omega (arith, distances)) (omega (arith, distances)),
        from_trailer,
      )

  from_guard : drop (place - second + bytes_for n) bytes ≡ guard_part C.guard ++ drop (place - after_trace F) bytes
  from_guard =
      split bytes (place - second + bytes_for n) (bytes_for m) {next = place - after_trace F} (omega (arith, distances))
      ∙ ap (λ (l : List ℕ). l ++ drop (place - after_trace F) bytes) guard-packed

  from_trace : drop (place - second) bytes ≡ pack C.samples ++ drop (place - second + bytes_for n) bytes
  from_trace = split bytes (place - second) (bytes_for n) refl ∙ ap (λ (l : List ℕ). l ++ drop (place - second + bytes_for n) bytes) trace-packed

  from_start : drop (place - first) bytes ≡ layout_in F C
  unfolding layout_in parts_for
  from_start =
      rw (
        split bytes (place - first) (first - second) {next = place - second} (omega (arith, distances)),
        from_trace,
        from_guard,
        from_label,
        from_result,
      )

  module _ (by : ByParts F) where
    -- the format of what the bytes hold
    pub format_back : format_of C ≡ F
    unfolding parts_for
    format_back = parts-format bytes F (guard_span F bytes) m (place - after_trace F) by

    program-held : program_check (Some (format_sort F)) C.program ≡ passed → (P : Program) × Accepted C.program (format_sort (format_of C)) P
    program-held p =
        let a = passed_accepted (Some (format_sort F)) C.program bytes_program p in
        let sort : program_sort C.program ≡ format_sort (format_of C) =
        takes-only (format_sort F) (program_sort C.program) a.2 ∙ ap format_sort (sym format_back) in
        (a.0, rw sort at a.1)

    pub contents-stated : program_check (Some (format_sort F)) C.program ≡ passed → Stated C
    unfolding parts_for
    contents-stated p =
        record {
          program = program-held p;
          few = rw count f.few;
          few_guard = rw guard_count_lem f.few_guard;
          label = label-fits bytes F (guard_span F bytes) m (place - after_trace F) by (length_part bytes _ _ (omega (arith, distances)));
          verdict = f.verdict;
          counted = f.counted;
          fits = passes_fit;
        }

    pub from_program : drop (parts_for F bytes).program.start bytes ≡ layout C
    unfolding parts_for
    from_program = from_start ∙ ap (λ (G : Format). layout_in G C) (sym format_back)

    pub ends-whole : bytes ≡ take (parts_for F bytes).program.start bytes ++ layout C
    ends-whole =
        let start = (parts_for F bytes).program.start in
        sym (take-append-drop start bytes) ∙ ap (λ (l : List ℕ). take start bytes ++ l) from_program
