-- Laws of bodies, one for each way through the code:
--   body_passed, body_after, body-stopped    one body
--   Going                                    a check that has gone past some bodies
use Rattle.std.specs.Prelude.{Ok, Err}
use mathlib.Core.Path.{◌≡◌, sym, ap, ◌∙◌}
use Prim.Native.Nat.{ℕ, suc, ◌+◌, ◌-◌, ◌<◌, ◌≤◌}
use native.Mathlib.Omega.{arith}
use lib.ListN.{length}
use borrow.Author.Tests.{eq-eqb, ne_eqb}
use Rattle.refusal.specs.declared.Refusal.{Refusal}
use Rattle.refusal.specs.declared.Refusal.TheVariants.{BytesAfterExpression}
use Rattle.refusal.specs.{passed, ◌then◌}
use Rattle.semantics.specs.declared.Kind.{Kind}
use Rattle.syntax.specs.Limits.{most_depth}
use Rattle.rule.specs.Reading.{kind_at, body_place}
use Rattle.rule.specs.Walk.{Frame, own_kinds, own_guard, Walked, check_at, body_end, body_at, bodies_at}

module _ (F : Frame) {kind : Kind} (k : kind ≡ kind_at (own_kinds F) (own_guard F) 4) {w : Walked} (e : w ≡ check_at F most_depth (body_place kind) 0) where
  walked : body_end (length F.body) w ≡ body_at F
  unfolding body_at
  walked = ap (body_end (length F.body)) (e ∙ ap (λ (κ : Kind). check_at F most_depth (body_place κ) 0) k)

  pub body_passed : {end : ℕ} → w ≡ Ok end → end ≡ length F.body → passed ≡ body_at F
  body_passed q z = rw (q, eq-eqb _ _ z) at walked

  pub body_after : {end : ℕ} → w ≡ Ok end → (end ≡ length F.body → ⊥) → Err BytesAfterExpression ≡ body_at F
  body_after q z = rw (q, ne_eqb _ _ z) at walked

  pub body-stopped : {f : Refusal} → w ≡ Err f → Err f ≡ body_at F
  body-stopped q = rw q at walked

-- the bodies before i have passed
pub record Going (frames : ℕ → Frame) (n i : ℕ) : Type 0 where
  pub below : i ≤ n
  pub rest : bodies_at frames n 0 ≡ bodies_at frames (n - i) i

module _ {frames : ℕ → Frame} {n i : ℕ} (g : Going frames n i) where
  pub going_end : n ≤ i → passed ≡ bodies_at frames n 0
  unfolding bodies_at
  going_end h = let none : n - i ≡ 0 = omega arith in sym (rw none at g.rest)

  step : i < n → bodies_at frames n 0 ≡ body_at (frames i) then bodies_at frames (n - (i + 1)) (i + 1)
  unfolding bodies_at
  step h = let more : n - i ≡ suc (n - (i + 1)) = omega arith in rw more at g.rest

  pub going_stop : {f : Refusal} → i < n → body_at (frames i) ≡ Err f → Err f ≡ bodies_at frames n 0
  going_stop h e = sym (rw e at (step h))

  pub going_more : i < n → body_at (frames i) ≡ passed → Going frames n (i + 1)
  going_more h e = record { below = omega arith; rest = rw e at (step h) }
