-- `main_decision` meets its contract: each arm answers what its number stands for, and no other number stands for an outcome.
use Prim.Native.Nat.{ℕ, zero, suc}
use mathlib.Core.Path.{◌≡◌, refl, sym, ap}
use Rattle.semantics.specs.declared.Decision.TheVariants.{Forever}
use Rattle.semantics.specs.Cells.{outcome_in}
use Rattle.semantics.specs.Verdicts.{main_decision}
use Rattle.semantics.proofs.main_decision.Goals as goal

other : (cell : ℕ) → (cell ≡ 1 → ⊥) → (cell ≡ 2 → ⊥) → (cell ≡ 3 → ⊥) → (cell ≡ 4 → ⊥) → Forever ≡ main_decision cell
unfolding main_decision outcome_in
other zero a b c d = refl
other (suc zero) a b c d = absurd (a refl)
other (suc (suc zero)) a b c d = absurd (b refl)
other (suc (suc (suc zero))) a b c d = absurd (c refl)
other (suc (suc (suc (suc zero)))) a b c d = absurd (d refl)
other (suc (suc (suc (suc (suc k))))) a b c d = refl

pub returns-in-1 : goal.returns-in-1
unfolding main_decision outcome_in
returns-in-1 c = sym (ap main_decision c.in-1.is)

pub returns-in-2 : goal.returns-in-2
unfolding main_decision outcome_in
returns-in-2 c = sym (ap main_decision c.in-2.is)

pub returns-in-3 : goal.returns-in-3
unfolding main_decision outcome_in
returns-in-3 c = sym (ap main_decision c.in-3.is)

pub returns-in-4 : goal.returns-in-4
unfolding main_decision outcome_in
returns-in-4 c = sym (ap main_decision c.in-4.is)

pub returns-in_default : goal.returns-in_default
returns-in_default c = let r = c.in_default.in_default-own.rest in other _ r.0.0.0.1 r.0.0.1 r.0.1 r.1
