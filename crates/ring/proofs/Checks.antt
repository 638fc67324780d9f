-- Laws of what is refused of a ring:
--   check_ok, room_ok            a check that is Ok has passed
--   check_passed, check_sound    nothing is refused exactly when the state is sound
--   room_enough, room-sound      nothing is refused exactly when the state is sound and the output long enough
use mathlib.Core.Path.{◌≡◌, refl}
use mathlib.Core.Bool.{Bool, true, false, ◌||◌}
use Prim.Native.Nat.{ℕ, ◌≤◌}
use native.Mathlib.Omega.{arith}
use lib.Dec.{eqb, leb, ltb}
use borrow.Author.Tests.{ne_eqb, lt-leb, le-ltb, leb-false, ltb-false}
use Rattle.refusal.specs.declared.Refusal.TheVariants.{RingLength, RingState, OutputShort}
use Rattle.std.specs.Prelude.{Ok, Err}
use Rattle.std.specs.Result.{is_ok}
use Rattle.std.proofs.Common.{rules}
use Rattle.refusal.specs.{Check, passed, refuse_if, ◌then◌}
use Rattle.refusal.proofs.Numbers.{refused}
use Rattle.trace.specs.{most_samples, bytes_for}
use Rattle.ring.specs.declared.Ring.{Ring}
use Rattle.ring.specs.{ring_check, take_check}
use Rattle.ring.specs.Place.{Sound}

ok_passed : (k : Check) → is_ok k ≡ true → k ≡ passed
ok_passed (Ok tt) e = refl
ok_passed (Err f) e = absurd (search rules)

module _ (len : ℕ) (ring : Ring) where
  pub check_passed : Sound len ring → ring_check len ring ≡ passed
  unfolding ring_check
  check_passed s =
      let n : eqb len 0 ≡ false = ne_eqb len 0 (λ e. omega (arith, s.within)) in
      simp (n, le-ltb _ _ s.few, lt-leb _ _ s.within, le-ltb _ _ s.fits)

  pub check_ok : is_ok (ring_check len ring) ≡ true → ring_check len ring ≡ passed
  check_ok e = ok_passed (ring_check len ring) e

  pub check_sound : ring_check len ring ≡ passed → Sound len ring
  unfolding ring_check
  check_sound e = go (eqb len 0) (ltb most_samples len) (leb len ring.next) (ltb len ring.count) refl refl refl refl e
    where
      go : (a b c d : Bool) → eqb len 0 ≡ a → ltb most_samples len ≡ b → leb len ring.next ≡ c → ltb len ring.count ≡ d
          → (refuse_if (a || b) RingLength then refuse_if (c || d) RingState) ≡ passed → Sound len ring
      go true b c d ea eb ec ed e = absurd (refused e)
      go false true c d ea eb ec ed e = absurd (refused e)
      go false false true d ea eb ec ed e = absurd (refused e)
      go false false false true ea eb ec ed e = absurd (refused e)
      go false false false false ea eb ec ed e =
          record { few = ltb-false _ _ eb; within = leb-false _ _ ec; fits = ltb-false _ _ ed }

  pub room_enough : (room : ℕ) → ring_check len ring ≡ passed → bytes_for ring.count ≤ room → take_check len ring room ≡ passed
  unfolding take_check
  room_enough room p h = simp (p, le-ltb _ _ h)

  pub room_ok : (room : ℕ) → is_ok (take_check len ring room) ≡ true → take_check len ring room ≡ passed
  room_ok room e = ok_passed (take_check len ring room) e

  pub room-sound : (room : ℕ) → take_check len ring room ≡ passed → Sound len ring × (bytes_for ring.count ≤ room)
  unfolding take_check
  room-sound room e = go (ring_check len ring) (ltb room (bytes_for ring.count)) refl refl e
    where
      go : (k : Check) (b : Bool) → ring_check len ring ≡ k → ltb room (bytes_for ring.count) ≡ b → (k then refuse_if b OutputShort) ≡ passed
          → Sound len ring × (bytes_for ring.count ≤ room)
      go (Ok u) true ek eb e = absurd (refused e)
      go (Ok tt) false ek eb e = (check_sound ek, ltb-false _ _ eb)
      go (Err f) b ek eb e = absurd (refused e)

pub ruleset trace_taken = (room_ok, room-sound)
