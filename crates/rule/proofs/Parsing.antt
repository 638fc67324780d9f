-- Laws of readings, over what any reader reads:
--   not-got                a refusal is no reading
--   got_inv                a reading has one outcome
--   refused_inv            where something was read, a test that refuses has failed
--   allowed_inv            where something was read, a test whose failure refuses has held
--   allowed_met            where it holds, nothing is refused
--   onward_inv             going on: what was read first, and then
use mathlib.Core.Path.{◌≡◌, refl, ap}
use mathlib.Core.Bool.{Bool, true, false, not}
use mathlib.Core.List.{List}
use Prim.Native.Nat.{ℕ}
use native.Mathlib.Omega.{arith}
use lib.Dec.{T}
use Rattle.refusal.specs.declared.Refusal.{Refusal}
use Rattle.rule.specs.Reading.{Parsed, got, refused, onward, unless_fault}

-- 0 of a reading, 1 of a refusal
abbrev verdict : {A : Type 0} → Parsed A → ℕ
verdict (got a rest) = 0
verdict (refused f) = 1

module _ {A : Type 0} where
  pub not-got : {f : Refusal} {a : A} {rest : List ℕ} → refused f ≡ got a rest → ⊥
  not-got e = let clash : ◌≡◌ {A = ℕ} 1 0 = ap verdict e in omega arith

  pub got_inv : {a b : A} {r s : List ℕ} → got a r ≡ got b s → (b ≡ a) × (s ≡ r)
  got_inv e = (cc, cc)

  pub refused_inv : (t : Bool) (f : Refusal) (p : Parsed A) (a : A) (rest : List ℕ) → unless_fault t f p ≡ got a rest → (t ≡ false) × (p ≡ got a rest)
  refused_inv true f p a rest e = absurd (not-got e)
  refused_inv false f p a rest e = (refl, e)

  pub allowed_inv : (t : Bool) (f : Refusal) (p : Parsed A) (a : A) (rest : List ℕ) → unless_fault (not t) f p ≡ got a rest → T t × (p ≡ got a rest)
  allowed_inv true f p a rest e = (tt, e)
  allowed_inv false f p a rest e = absurd (not-got e)

  pub allowed_met : (t : Bool) (f : Refusal) (p : Parsed A) → T t → unless_fault (not t) f p ≡ p
  allowed_met true f p h = refl
  allowed_met false f p h = absurd h

-- what was read first, and then
pub data Onward {A B : Type 0} (p : Parsed A) (k : A → List ℕ → Parsed B) (b : B) (rest : List ℕ) : Type 0 where
  by : (a : A) (r : List ℕ) → p ≡ got a r → k a r ≡ got b rest → Onward p k b rest

pub onward_inv : {A B : Type 0} (p : Parsed A) (k : A → List ℕ → Parsed B) (b : B) (rest : List ℕ) → onward p k ≡ got b rest → Onward p k b rest
onward_inv (got a r) k b rest e = by a r refl e
onward_inv (refused f) k b rest e = absurd (not-got e)
