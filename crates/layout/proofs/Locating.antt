-- The trailer's checks, one law for each way through the code:
--   missing, wrong_mark, unknown, cut        1 and 2
--   faulty                                   3
--   sound, distances                         23, 4, or the parts, and what 3 leaves of the distances
--   two_at, four_at                          the bytes of a number at a place
use mathlib.Core.Path.{◌≡◌, sym, ap, ◌∙◌}
use mathlib.Core.Bool.{Bool, true, false}
use mathlib.Core.List.{List, [], ◌∷◌}
use Prim.Native.Nat.{ℕ, suc, ◌+◌, ◌<◌, ◌≤◌}
use native.Mathlib.Omega.{arith}
use native.Mathlib.Numerals.{add-one}
use borrow.Author.Tests.{lt-ltb, le-ltb, ne_eqb, eq-eqb}
use lib.ListN.{length, get_or}
use lib.Seq.{drop-cons}
use Rattle.refusal.specs.declared.Refusal.TheVariants.{TrailerMissing, MarkOrFormat, TrailerFields}
use Rattle.encoding.specs.{from_low}
use Rattle.std.specs.Prelude.{Err}
use Rattle.layout.specs.declared.trailer.Fields.{Fields}
use Rattle.layout.specs.declared.Format.{Format}
use Rattle.layout.specs.Form.{formats, knows, mark, least_trailer, trailer_bytes}
use Rattle.layout.specs.Trailer.{part_of, number_at, trailer_at, program_distance_in, trace_distance_in, samples_in, guard_samples_in, format_in, format_held, mark_in, verdict_in, passes_in, fields_fault, trailer_check_with, parts_for, located_with, located}
use Rattle.layout.specs.Steps.{Distances, guard_count_at, fields_at, parts_stored}
use Rattle.layout.proofs.Fields.{unknown_refused, fields_sound}

module _ (bytes : List ℕ) where
  pub missing : length bytes < least_trailer → Err TrailerMissing ≡ located bytes
  unfolding located_with trailer_check_with
  missing h = rw (lt-ltb (length bytes) least_trailer h)

  module _ (long : least_trailer ≤ length bytes) where
    pub wrong_mark : (mark_in bytes ≡ mark → ⊥) → Err MarkOrFormat ≡ located bytes
    unfolding located_with trailer_check_with
    wrong_mark m = rw (le-ltb (length bytes) least_trailer long, ne_eqb (mark_in bytes) mark m)

    module _ (m : mark_in bytes ≡ mark) where
      pub unknown : knows formats (format_in bytes) ≡ false → Err MarkOrFormat ≡ located bytes
      unfolding located_with
      unknown k = rw (unknown_refused formats bytes long m k)

      module _ {F : Format} (f : F ≡ format_held formats bytes) where
        pub cut : length bytes < trailer_bytes F → Err TrailerMissing ≡ located bytes
        unfolding located_with trailer_check_with
        cut h = rw (le-ltb (length bytes) least_trailer long, eq-eqb (mark_in bytes) mark m, ← f, lt-ltb (length bytes) (trailer_bytes F) h)

        -- with the fields of the trailer, and whether 3 applies
        module _ (k : knows formats (format_in bytes) ≡ true) (whole : trailer_bytes F ≤ length bytes) {at : ℕ} {g : Fields} {fault : Bool}
            (a : at ≡ trailer_at F bytes) (p : g ≡ fields_at F at bytes) (e : fault ≡ fields_fault F g.at g.first g.second g.n g.m) where
          told : fields_fault F (trailer_at F bytes) (program_distance_in F bytes) (trace_distance_in F bytes) (samples_in F bytes) (guard_samples_in F bytes)
              ≡ fault
          unfolding program_distance_in trace_distance_in samples_in guard_samples_in guard_count_at
          told = rw (p, a) at (sym e)

          pub faulty : fault ≡ true → Err TrailerFields ≡ located bytes
          unfolding located_with trailer_check_with
          faulty w =
              rw (
                le-ltb (length bytes) least_trailer long,
                eq-eqb (mark_in bytes) mark m,
                k,
                ← f,
                le-ltb (length bytes) (trailer_bytes F) whole,
                told ∙ w,
              )

          pub sound : fault ≡ false → parts_stored bytes F g ≡ located bytes
          unfolding located_with trailer_check_with parts_stored parts_for verdict_in passes_in program_distance_in trace_distance_in samples_in guard_samples_in guard_count_at
          sound w =
              rw (
                le-ltb (length bytes) least_trailer long,
                eq-eqb (mark_in bytes) mark m,
                k,
                ← f,
                le-ltb (length bytes) (trailer_bytes F) whole,
                told ∙ w,
                p,
                a,
              )

          pub distances : fault ≡ false → Distances F (length bytes) g.at g.first g.second
          distances w =
              let s = fields_sound F g.at g.first g.second g.n g.m (sym e ∙ w) in
              let here : g.at ≡ trailer_at F bytes = ap (λ (h : Fields). h.at) p ∙ a in
              record { trailer = omega arith; within = s.within; larger = s.larger; tail = omega (arith, s.exact) }

-- ---- Numbers at a place

pub two_at : (bytes : List ℕ) (at : ℕ) → at + 2 ≤ length bytes → from_low (get_or bytes at 0 ∷ get_or bytes (at + 1) 0 ∷ []) ≡ number_at 2 at bytes
unfolding number_at part_of
two_at bytes at h = rw (drop-cons bytes at 0 (omega arith), drop-cons bytes (suc at) 0 (omega arith), add-one at)

pub four_at : (bytes : List ℕ) (at : ℕ) → at + 4 ≤ length bytes
    → from_low (get_or bytes at 0 ∷ get_or bytes (at + 1) 0 ∷ get_or bytes (at + 2) 0 ∷ get_or bytes (at + 3) 0 ∷ []) ≡ number_at 4 at bytes
unfolding number_at part_of
four_at bytes at h =
    let two : at + 2 ≡ suc (suc at) = omega arith in
    let three : at + 3 ≡ suc (suc (suc at)) = omega arith in
    rw (
      drop-cons bytes at 0 (omega arith),
      drop-cons bytes (suc at) 0 (omega arith),
      drop-cons bytes (suc (suc at)) 0 (omega arith),
      drop-cons bytes (suc (suc (suc at))) 0 (omega arith),
      add-one at,
      two,
      three,
    )
