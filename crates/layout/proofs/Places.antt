-- Where the parts of a record stand in the bytes that it is read from:
--   split, split_byte,
--   split_number                   the bytes from a place on: a part, a byte or a number, and the bytes after it
--   length_part, bytes_part        a part's length, and its bytes
--   number-below                   a number's bound
--   Stands                         what the bytes are from a place on
--   part_there, byte_there,
--   number_there, next_there       the part, byte or number that stands at a place, and what stands after it
--   LabelWithin, GuardWithin,
--   Within, within                 the parts lie within the bytes
use mathlib.Core.Path.{◌≡◌, sym, ap, ◌∙◌}
use mathlib.Core.Bool.{Bool, true, false, cond}
use mathlib.Core.List.{List, [], ◌∷◌, ◌++◌}
use Prim.Native.Nat.{ℕ, ◌+◌, ◌-◌, ◌^◌, ◌<◌, ◌≤◌}
use native.Mathlib.Omega.{arith}
use native.Mathlib.Numerals.{add-one}
use lib.ListN.{length, get_or, take, drop, length-drop, take-append-drop}
use lib.Seq.{length-take-le, take_at, drop-append_seam, drop-cons, drop-drop, get_or-drop}
use Rattle.trace.specs.{most_samples}
use Rattle.rule.specs.Form.{AreBytes}
use Rattle.rule.proofs.FunctionBytes.{bytes_take, bytes_drop}
use Rattle.encoding.specs.{low_first, from_low}
use Rattle.encoding.proofs.Low.{length_low, from_low_lem, low_from, from_below}
use Rattle.layout.specs.declared.Format.{Format}
use Rattle.std.specs.Prelude.{Option, Some, None}
use Rattle.layout.specs.declared.GuardTrace.{GuardTrace}
use Rattle.layout.specs.declared.Span.{Span}
use Rattle.layout.specs.declared.Parts.{Parts}
use Rattle.layout.specs.Form.{label_bytes, after_trace}
use Rattle.layout.specs.Trailer.{part_of, span, number_at, trailer_at, guard_span, guard_samples_in, label_place, guard_place, parts_for}
use Rattle.layout.proofs.FormatLaws.{least_trailer_lem}
use Rattle.layout.proofs.Fields.{Fields}

-- ---- Parts of bytes

module _ (bytes : List ℕ) where
  pub split : (at size : ℕ) {next : ℕ} → at + size ≡ next → drop at bytes ≡ part_of bytes (span at size) ++ drop next bytes
  unfolding part_of
  split at size e =
      sym (take-append-drop size (drop at bytes))
      ∙ ap (λ (l : List ℕ). take size (drop at bytes) ++ l) (drop-drop size at bytes ∙ ap (λ (k : ℕ). drop k bytes) e)

  pub split_byte : (at : ℕ) {next : ℕ} → at + 1 ≡ next → at < length bytes → drop at bytes ≡ get_or bytes at 0 ∷ drop next bytes
  split_byte at e h = drop-cons bytes at 0 h ∙ ap (λ (k : ℕ). get_or bytes at 0 ∷ drop k bytes) (sym (add-one at) ∙ e)

  pub length_part : (at size : ℕ) → at + size ≤ length bytes → length (part_of bytes (span at size)) ≡ size
  unfolding part_of
  length_part at size h = length-take-le size (drop at bytes) (omega (arith, length-drop at bytes))

  module _ (are : AreBytes bytes) where
    pub bytes_part : (at size : ℕ) → AreBytes (part_of bytes (span at size))
    unfolding part_of
    bytes_part at size = bytes_take size (drop at bytes) (bytes_drop at bytes are)

    number_low : (width at : ℕ) → at + width ≤ length bytes → low_first width (number_at width at bytes) ≡ part_of bytes (span at width)
    unfolding number_at
    number_low width at h =
        let part = part_of bytes (span at width) in
        ap (λ (k : ℕ). low_first k (from_low part)) (sym (length_part at width h)) ∙ low_from part (bytes_part at width)

    pub split_number : (width at : ℕ) {next : ℕ} → at + width ≡ next → next ≤ length bytes
        → drop at bytes ≡ low_first width (number_at width at bytes) ++ drop next bytes
    split_number width at {next} e h = split at width e ∙ ap (λ (l : List ℕ). l ++ drop next bytes) (sym (number_low width at (omega arith)))

    pub number-below : (width at : ℕ) → at + width ≤ length bytes → number_at width at bytes < 256 ^ width
    unfolding number_at
    number-below width at h = rw (length_part at width h) at (from_below (part_of bytes (span at width)) (bytes_part at width))

-- from a place on the bytes are y, and then z
pub record Stands (bytes : List ℕ) (at : ℕ) (y z : List ℕ) : Type 0 where
  pub there : drop at bytes ≡ y ++ z

module _ {bytes : List ℕ} {at : ℕ} where
  pub part_there : {y z : List ℕ} (size : ℕ) → Stands bytes at y z → length y ≡ size → part_of bytes (span at size) ≡ y
  unfolding part_of
  part_there {y} {z} size s l = rw s.there (take_at y z size l)

  pub byte_there : {y : ℕ} {z : List ℕ} → Stands bytes at (y ∷ []) z → get_or bytes at 0 ≡ y
  byte_there s =
      let at-is : at + 0 ≡ at = omega arith in
      ap (λ (k : ℕ). get_or bytes k 0) (sym at-is) ∙ sym (get_or-drop at bytes 0 0) ∙ ap (λ (l : List ℕ). get_or l 0 0) s.there

  pub number_there : {z : List ℕ} (width x : ℕ) → Stands bytes at (low_first width x) z → x < 256 ^ width → number_at width at bytes ≡ x
  unfolding number_at
  number_there width x s h = rw (part_there width s (length_low width x)) (from_low_lem width x h)

  pub next_there : {y y' z : List ℕ} {next : ℕ} → Stands bytes at y (y' ++ z) → at + length y ≡ next → Stands bytes next y' z
  next_there {y} {y'} {z} s e =
      record { there = ap (λ (k : ℕ). drop k bytes) (sym e) ∙ sym (drop-drop (length y) at bytes) ∙ rw s.there (drop-append_seam y (y' ++ z)) }

-- ---- The parts of a record

-- a label lies within the bytes
abbrev pub LabelWithin : List ℕ → Option Span → Type 0
LabelWithin bytes (Some s) = s.start + s.length ≤ length bytes
LabelWithin bytes None = Unit {0}

-- a guard trace does, and has no more samples than a trace may
abbrev pub GuardWithin : List ℕ → Option GuardTrace → Type 0
GuardWithin bytes (Some g) = (g.span.start + g.span.length ≤ length bytes) × (g.samples ≤ most_samples)
GuardWithin bytes None = Unit {0}

-- the parts lie within the bytes, and the program begins before their end
pub record Within (bytes : List ℕ) (p : Parts) : Type 0 where
  pub some : p.program.start < length bytes
  pub program : p.program.start + p.program.length ≤ length bytes
  pub trace : p.trace.start + p.trace.length ≤ length bytes
  pub guard : GuardWithin bytes p.guard
  pub label : LabelWithin bytes p.label
  pub few : p.n ≤ most_samples

module _ (F : Format) (bytes : List ℕ) (f : Fields F bytes) where
  label-within : LabelWithin bytes (label_place F (trailer_at F bytes - after_trace F))
  unfolding label_place
  label-within = go F.labelled
    where
      go : (b : Bool) → LabelWithin bytes (cond b (Some (span (trailer_at F bytes - after_trace F) label_bytes)) None)
      go true = omega (arith, f.room, least_trailer_lem F)
      go false = tt

  guard-within : GuardWithin bytes (guard_place F (guard_span F bytes) (guard_samples_in F bytes))
  unfolding guard_place
  guard-within = go F.guarded
    where
      go : (b : Bool) → GuardWithin bytes (cond b (Some (record { span = guard_span F bytes; samples = guard_samples_in F bytes })) None)
      go true = (omega (arith, f.room, f.second, f.larger, f.before), f.few_guard)
      go false = tt

  pub within : Within bytes (parts_for F bytes)
  unfolding parts_for
  within =
      record {
        some = omega (arith, f.room, f.larger, f.before, least_trailer_lem F);
        program = omega arith;
        trace = omega arith;
        guard = guard-within;
        label = label-within;
        few = f.few;
      }
