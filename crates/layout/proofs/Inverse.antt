-- Bytes that end in the layout of contents:
--   format-held            they end in its format
--   contents_in_lem            they hold the contents
--   layout_fields          their trailer passes its checks
--   layout-left            the bytes before the program are those before the layout
--   same_layout            contents with the same layout are the same
use mathlib.Core.Path.{◌≡◌, refl, sym, ap, ◌∙◌}
use mathlib.Core.Bool.{cond}
use mathlib.Core.List.{List, [], ◌∷◌, ◌++◌}
use mathlib.Core.Option.{Option, none, some}
use Prim.Native.Nat.{ℕ, ◌+◌, ◌-◌, ◌≤◌}
use native.Mathlib.Omega.{arith}
use lib.ListN.{length, take, length-append}
use lib.Seq.{take_at, drop-append_seam}
use Rattle.trace.specs.{most_samples, pack}
use Rattle.trace.proofs.Packing.{bytes_few, length-pack, samples-packed}
use Rattle.trace.proofs.Padding.{packed_clean}
use Rattle.semantics.specs.Language.{Trace}
use Rattle.rule.proofs.Places.{program_bytes}
use Rattle.encoding.specs.{low_first}
use Rattle.encoding.proofs.Low.{length_low}
use Rattle.layout.specs.declared.Format.{Format}
use Rattle.layout.specs.Form.{formats, format_for, Contents, format_of, guard_samples, mark, label_bytes, label_size, after_trace, trailer_bytes, result_bytes, guard_part, guard_count, trace_distance, program_distance, trailer, label_part, layout_in, layout, LabelFits, Stated}
use Rattle.layout.specs.Trailer.{part_of, span, number_at, trace_span, guard_span, trailer_at, program_distance_in, trace_distance_in, samples_in, guard_samples_in, format_in, format_held, mark_in, verdict_in, passes_in, label_place, guard_place, label_at, guard_at, parts_for, parts_in, contents_in, contents_at}
use Rattle.layout.proofs.FormatLaws.{held_reads, trailer-size, label-few, label-size}
use Rattle.layout.proofs.Fields.{Fields}
use Rattle.layout.proofs.Places.{Stands, part_there, byte_there, number_there, next_there}

-- ---- The guard trace and the label that stand at the places for them

module _ (bytes : List ℕ) (at : ℕ) {z : List ℕ} where
  guard_there : (guard : Option Trace) (label : Option (List ℕ)) → Stands bytes at (guard_part guard) z
      → guard_at bytes (guard_place (format_for guard label) (span at (length (guard_part guard))) (length (guard_samples guard))) ≡ guard
  unfolding guard_place
  guard_there (some guard) label s = ap some (rw (part_there (length (pack guard)) s refl) (samples-packed guard))
  guard_there none (some label) s = refl
  guard_there none none s = refl

  count_there : (guard : Option Trace) (label : Option (List ℕ)) → length (guard_samples guard) ≤ most_samples → Stands bytes at (guard_count guard) z
      → cond (format_for guard label).guarded (number_at 2 at bytes) 0 ≡ length (guard_samples guard)
  count_there (some guard) label few s = number_there 2 (length guard) s (omega arith)
  count_there none (some label) few s = refl
  count_there none none few s = refl

  label_there : (guard : Option Trace) (label : Option (List ℕ)) → LabelFits guard label → Stands bytes at (label_part label) z
      → label_at bytes (label_place (format_for guard label) at) ≡ label
  unfolding label_place
  label_there (some guard) (some label) e s = absurd e
  label_there (some guard) none e s = refl
  label_there none (some label) e s = ap some (part_there label_bytes s e)
  label_there none none e s = refl

module _ (before : List ℕ) (c : Contents) (s : Stated c) where
  abbrev Bytes : List ℕ
  Bytes = before ++ layout c

  abbrev F : Format
  F = format_of c

  size : length (label_part c.label) ≡ label_size F
  size = label-size c.guard c.label s.label

  -- ---- The places

  -- the trailer's place
  abbrev place : ℕ
  place = trailer_at F Bytes

  -- what follows the label, and what follows the distances
  abbrev result : List ℕ
  result = c.verdict ∷ low_first 4 c.passes ++ trailer F c

  abbrev ending : List ℕ
  ending = low_first 2 (length c.samples) ++ (guard_count c.guard ++ (F.number ∷ mark ∷ []))

  length_bytes : length Bytes ≡ length before + program_distance F c + trailer_bytes F
  unfolding layout_in
  length_bytes = simp (length-append, length_low) (omega (arith, size, trailer-size c.guard c.label))

  start : place - program_distance F c ≡ length before
  start = omega (arith, length_bytes)

  from_program : Stands Bytes (place - program_distance F c) c.program
      (pack c.samples ++ (guard_part c.guard ++ (label_part c.label ++ result)))
  unfolding layout_in
  from_program = rw start (record { there = drop-append_seam before (layout c) })

  from_trace : Stands Bytes (place - trace_distance F c) (pack c.samples) (guard_part c.guard ++ (label_part c.label ++ result))
  from_trace = next_there from_program (omega (arith, length_bytes))

  from_guard : Stands Bytes (place - trace_distance F c + length (pack c.samples)) (guard_part c.guard) (label_part c.label ++ result)
  from_guard = next_there from_trace refl

  from_label : Stands Bytes (place - after_trace F) (label_part c.label) result
  from_label = next_there from_guard (omega (arith, length_bytes))

  from_verdict : Stands Bytes (place - result_bytes) (c.verdict ∷ []) (low_first 4 c.passes ++ trailer F c)
  from_verdict = next_there from_label (omega (arith, length_bytes, size))

  from_passes : Stands Bytes (place - 4) (low_first 4 c.passes) (trailer F c)
  from_passes = next_there from_verdict (omega (arith, length_bytes))

  from_first : Stands Bytes place (low_first 2 (program_distance F c)) (low_first 2 (trace_distance F c) ++ ending)
  from_first = next_there from_passes (omega (arith, length_bytes, length_low 4 c.passes))

  from_second : Stands Bytes (place + 2) (low_first 2 (trace_distance F c)) ending
  from_second = next_there from_first (omega (arith, length_low 2 (program_distance F c)))

  from_count : Stands Bytes (place + 4) (low_first 2 (length c.samples)) (guard_count c.guard ++ (F.number ∷ mark ∷ []))
  from_count = next_there from_second (omega (arith, length_low 2 (trace_distance F c)))

  from_guard_count : Stands Bytes (place + 6) (guard_count c.guard) (F.number ∷ mark ∷ [])
  from_guard_count = next_there from_count (omega (arith, length_low 2 (length c.samples)))

  from_format : Stands Bytes (length Bytes - 2) (F.number ∷ []) (mark ∷ [])
  from_format = next_there from_guard_count (omega (arith, length_bytes, trailer-size c.guard c.label))

  from_mark : Stands Bytes (length Bytes - 1) (mark ∷ []) []
  from_mark = next_there from_format (omega (arith, length_bytes, trailer-size c.guard c.label))

  -- ---- What stands there

  trace-short : length (pack c.samples) ≤ 512
  trace-short = bytes_few (length c.samples) s.few (length-pack c.samples)

  guard-short : length (guard_part c.guard) ≤ 512
  guard-short = bytes_few (length (guard_samples c.guard)) s.few_guard (length-pack (guard_samples c.guard))

  first_in_lem : program_distance_in F Bytes ≡ program_distance F c
  unfolding program_distance_in
  first_in_lem = number_there 2 (program_distance F c) from_first (omega (arith, s.program.1.short, trace-short, guard-short, label-few F))

  second_in : trace_distance_in F Bytes ≡ trace_distance F c
  unfolding trace_distance_in
  second_in = number_there 2 (trace_distance F c) from_second (omega (arith, trace-short, guard-short, label-few F))

  count_in_lem : samples_in F Bytes ≡ length c.samples
  unfolding samples_in
  count_in_lem = number_there 2 (length c.samples) from_count (omega (arith, s.few))

  guard_count_in : guard_samples_in F Bytes ≡ length (guard_samples c.guard)
  unfolding guard_samples_in
  guard_count_in = count_there Bytes (place + 6) c.guard c.label s.few_guard from_guard_count

  format_in_lem : format_in Bytes ≡ F.number
  unfolding format_in
  format_in_lem = byte_there from_format

  pub format-held : format_held formats Bytes ≡ F
  format-held = rw format_in_lem (held_reads c.guard c.label).found

  mark_in_lem : mark_in Bytes ≡ mark
  unfolding mark_in
  mark_in_lem = byte_there from_mark

  verdict_in_lem : verdict_in F Bytes ≡ c.verdict
  unfolding verdict_in
  verdict_in_lem = byte_there from_verdict

  passes_in_lem : passes_in F Bytes ≡ c.passes
  unfolding passes_in
  passes_in_lem = number_there 4 c.passes from_passes s.fits

  -- where the traces stand
  trace-place : trace_span F Bytes ≡ span (place - trace_distance F c) (length (pack c.samples))
  trace-place = rw (second_in, count_in_lem, length-pack c.samples)

  guard-place : guard_span F Bytes ≡ span (place - trace_distance F c + length (pack c.samples)) (length (guard_part c.guard))
  guard-place = rw (second_in, count_in_lem, guard_count_in, length-pack c.samples, length-pack (guard_samples c.guard))

  trace_in : part_of Bytes (trace_span F Bytes) ≡ pack c.samples
  trace_in = rw trace-place (part_there (length (pack c.samples)) from_trace refl)

  guard_bytes_in : part_of Bytes (guard_span F Bytes) ≡ guard_part c.guard
  guard_bytes_in = rw guard-place (part_there (length (guard_part c.guard)) from_guard refl)

  guard_in : guard_at Bytes (guard_place F (guard_span F Bytes) (guard_samples_in F Bytes)) ≡ c.guard
  guard_in = rw (guard-place, guard_count_in) (guard_there Bytes _ c.guard c.label from_guard)

  label_in : label_at Bytes (label_place F (place - after_trace F)) ≡ c.label
  label_in = label_there Bytes (place - after_trace F) c.guard c.label s.label from_label

  contents_for : contents_at Bytes (parts_for F Bytes) ≡ c
  unfolding parts_for
  contents_for =
      let program : program_distance F c - trace_distance F c ≡ length c.program = omega arith in
      rw (
        guard_in,
        trace_in,
        first_in_lem,
        second_in,
        count_in_lem,
        verdict_in_lem,
        passes_in_lem,
        label_in,
        program,
        part_there (length c.program) from_program refl,
        samples-packed c.samples,
      )

  pub contents_in_lem : contents_in Bytes ≡ c
  contents_in_lem = ap (λ (G : Format). contents_at Bytes (parts_for G Bytes)) format-held ∙ contents_for

  pub layout_fields : Fields F Bytes
  layout_fields =
      record {
        room = omega (arith, length_bytes);
        marked = mark_in_lem;
        formatted = format_in_lem;
        few = rw count_in_lem s.few;
        few_guard = rw guard_count_in s.few_guard;
        second = rw (second_in, count_in_lem, guard_count_in, length-pack c.samples, length-pack (guard_samples c.guard));
        larger = rw (first_in_lem, second_in) (omega (arith, program_bytes c.program _ s.program.0 s.program.1));
        before = rw first_in_lem (omega (arith, length_bytes));
        clean = rw (trace_in, count_in_lem) (packed_clean c.samples);
        clean_guard = rw (guard_bytes_in, guard_count_in) (packed_clean (guard_samples c.guard));
        verdict = rw verdict_in_lem s.verdict;
        counted = rw passes_in_lem s.counted;
      }

  pub layout-left : take (parts_in Bytes).program.start Bytes ≡ before
  unfolding parts_for
  layout-left = rw (format-held, first_in_lem, start) (take_at before (layout c) (length before) refl)

pub same_layout : (c c' : Contents) → Stated c → Stated c' → layout c ≡ layout c' → c ≡ c'
same_layout c c' s s' e = sym (contents_in_lem [] c s) ∙ ap contents_in e ∙ contents_in_lem [] c' s'
