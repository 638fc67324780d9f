-- The ring over any list of samples:
--   held_all          added to any sound ring, what is held is the last of what was held and what was added
--   yields_last       demand 2 of the ring: from a new ring on, the last samples, oldest first
use mathlib.Core.Path.{◌≡◌, refl, sym, ap, ◌∙◌}
use mathlib.Core.Bool.{Bool, true, false}
use mathlib.Core.List.{List, [], ◌∷◌, ◌++◌, map, append_assoc, append-nil}
use Prim.Native.Nat.{ℕ, ◌+◌, ◌<◌, ◌≤◌, min}
use native.Mathlib.Omega.{arith}
use lib.Dec.{eqb}
use lib.ListN.{length, set, length-set}
use borrow.Author.Tests.{eqb-false}
use Rattle.trace.specs.{most_samples, bytes_for, packed_into}
use Rattle.ring.specs.declared.Ring.{Ring}
use Rattle.ring.specs.{new_ring, reads, last_of, held, sample_byte, following, stepped, slots_after, ring_after, output_after, taking, Lent, add_all, TakenAs, YieldsLast}
use Rattle.ring.specs.Place.{Sound}
use Rattle.ring.proofs.Round.{last-all, last-append}
use Rattle.ring.proofs.Held.{held_new, length-held, held_step}
use Rattle.ring.proofs.Checks.{check_passed, room_enough}

-- a state stays sound
sound_step : (len : ℕ) (ring : Ring) → Sound len ring → Sound len (stepped len ring)
unfolding stepped
sound_step len ring s = go (eqb (ring.next + 1) len) refl
  where
    go : (b : Bool) → eqb (ring.next + 1) len ≡ b → Sound len (record { next = following b (ring.next + 1); count = min (ring.count + 1) len })
    go true e = record { few = s.few; within = omega (arith, s.within); fits = omega arith }
    go false e =
        let other = eqb-false (ring.next + 1) len e in
        record { few = s.few; within = omega (arith, s.within, other); fits = omega arith }

slots-stored : (slots : List ℕ) (ring : Ring) (sample : ℕ) → Sound (length slots) ring
    → slots_after slots ring sample ≡ set slots ring.next (sample_byte sample)
unfolding slots_after
slots-stored slots ring sample s = rw (check_passed (length slots) ring s)

ring-stepped : (len : ℕ) (ring : Ring) → Sound len ring → ring_after len ring ≡ stepped len ring
unfolding ring_after
ring-stepped len ring s = rw (check_passed len ring s)

-- what any number of samples leaves
pub record Kept (lent : Lent) (len : ℕ) (bits : List Bool) : Type 0 where
  pub same : length lent.slots ≡ len
  pub sound : Sound len lent.ring
  pub holds : held lent.slots lent.ring ≡ bits

pub held_all : (slots : List ℕ) (ring : Ring) (samples : List ℕ) → Sound (length slots) ring
    → Kept (add_all (record { slots = slots; ring = ring }) samples) (length slots) (last_of (length slots) (held slots ring ++ map reads samples))
unfolding add_all
held_all slots ring [] s =
    record {
      same = refl;
      sound = s;
      holds = sym (rw (append-nil (held slots ring)) (last-all (length slots) (held slots ring) (omega (arith, length-held slots ring s, s.fits))));
    }
held_all slots ring (sample ∷ samples) s =
    let n = length slots in
    let next = set slots ring.next (sample_byte sample) in
    let same : length next ≡ n = length-set slots ring.next (sample_byte sample) in
    let sound : Sound n (stepped n ring) = sound_step n ring s in
    let rest = held_all next (stepped n ring) samples (rw same sound) in
    rw (slots-stored slots ring sample s, ring-stepped n ring s)
    (rw (
      same,
      held_step slots ring s sample,
      last-append n (held slots ring ++ (reads sample ∷ [])) (map reads samples),
      append_assoc (held slots ring) (reads sample ∷ []) (map reads samples),
    ) at rest)

-- taking the trace of a sound ring
pub taken_as : (lent : Lent) (bits : List Bool) (out : List ℕ) → Kept lent (length lent.slots) bits → bytes_for (length bits) ≤ length out
    → TakenAs lent out bits
unfolding output_after taking
taken_as lent bits out k room =
    let n = length lent.slots in
    let size : lent.ring.count ≡ length bits = sym (length-held lent.slots lent.ring k.sound) ∙ ap length k.holds in
    let enough : bytes_for lent.ring.count ≤ length out = rw size room in
    let p = room_enough n lent.ring (length out) (check_passed n lent.ring k.sound) enough in
    record { accepted = p; told = rw (p, size); packs = rw p (ap (packed_into out) k.holds) }

pub yields_last : (slots samples : List ℕ) → 0 < length slots → length slots ≤ most_samples → YieldsLast slots samples
yields_last slots samples some few =
    let new : Sound (length slots) new_ring = record { few = few; within = some; fits = omega arith } in
    let k = rw (held_new slots) at (held_all slots new_ring samples new) in
    record {
      sound = rw k.same (check_passed (length slots) _ k.sound);
      holds = k.holds;
      taken = λ out. taken_as (add_all (record { slots = slots; ring = new_ring }) samples) _ out
          (record { same = refl; sound = rw k.same k.sound; holds = k.holds });
    }
