-- What a check that passes has seen:
--   then_passed            both of two checks, the one after the other
--   refuse_passed          what the refusal names is not the case
--   either_passed          neither of two things is
--   handed_on              what `?` hands on
use mathlib.Core.Path.{◌≡◌, refl, ap}
use mathlib.Core.Bool.{Bool, true, false, ◌||◌}
use Rattle.refusal.specs.declared.Refusal.{Refusal}
use Rattle.std.specs.Prelude.{Result, Ok, Err, IsErrAnd}
use Rattle.refusal.specs.{Check, passed, refuse_if, ◌then◌}
use Rattle.refusal.proofs.Numbers.{refused}

pub then_passed : (a b : Check) → (a then b) ≡ passed → (a ≡ passed) × (b ≡ passed)
then_passed (Ok tt) b e = (refl, e)
then_passed (Err f) b e = absurd (refused e)

pub refuse_passed : (b : Bool) (f : Refusal) → refuse_if b f ≡ passed → b ≡ false
refuse_passed true f e = absurd (refused e)
refuse_passed false f e = refl

pub either_passed : (a b : Bool) (f : Refusal) → refuse_if (a || b) f ≡ passed → (a ≡ false) × (b ≡ false)
either_passed true b f e = absurd (refused e)
either_passed false b f e = (refl, refuse_passed b f e)

-- what `?` hands on is the refusal that it met
pub handed_on : {A : Type 0} {f : Refusal} (r : Result A Refusal) → IsErrAnd r (λ g. g ≡ f) → r ≡ Err f
handed_on (Ok x) e = elim e [ ]
handed_on (Err g) e = ap (λ (h : Refusal). Err h) e
