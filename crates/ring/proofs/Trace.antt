-- The trace that a ring yields, of any slots and any state that taking it is not refused for:
--   taken_bytes       the first bytes of the output are the packing of what is held
--   taken-trace       so evaluating it meets neither 20 nor 23: it has at most 4,095 samples and the bytes that they take, and no
--                     bit above the last is set
use mathlib.Core.Path.{◌≡◌, ap, ◌∙◌}
use mathlib.Core.Bool.{false}
use mathlib.Core.List.{List}
use Prim.Native.Nat.{ℕ, ◌≤◌}
use native.Mathlib.Omega.{arith}
use lib.ListN.{length, take, drop}
use lib.Seq.{take_at}
use Rattle.refusal.specs.{passed}
use Rattle.trace.specs.{most_samples, bytes_for, pack, padding_set, packed_into}
use Rattle.trace.proofs.Packing.{length-pack}
use Rattle.trace.proofs.Padding.{packed_clean}
use Rattle.ring.specs.declared.Ring.{Ring}
use Rattle.ring.specs.{held, take_check, output_after}
use Rattle.ring.specs.Place.{Sound}
use Rattle.ring.proofs.Held.{length-held}
use Rattle.ring.proofs.Checks.{room-sound}

module _ (slots : List ℕ) (ring : Ring) (out : List ℕ) (taking : take_check (length slots) ring (length out) ≡ passed) where
  -- the bytes that are the trace
  abbrev taken : List ℕ
  taken = take (bytes_for ring.count) (output_after slots ring out)

  sound : Sound (length slots) ring
  sound = (room-sound (length slots) ring (length out) taking).0

  count : length (held slots ring) ≡ ring.count
  count = length-held slots ring sound

  pub taken_bytes : taken ≡ pack (held slots ring)
  unfolding output_after packed_into
  taken_bytes =
      let bits = held slots ring in
      let size : length (pack bits) ≡ bytes_for ring.count = length-pack bits ∙ ap bytes_for count in
      rw taking (take_at (pack bits) (drop (bytes_for (length bits)) out) (bytes_for ring.count) size)

  pub taken-trace : (ring.count ≤ most_samples) × (length taken ≡ bytes_for ring.count) × (padding_set taken ring.count ≡ false)
  taken-trace =
      let bits = held slots ring in (
        omega (arith, sound.few, sound.fits),
        ap length taken_bytes ∙ length-pack bits ∙ ap bytes_for count,
        rw taken_bytes (rw count at (packed_clean bits)),
      )
