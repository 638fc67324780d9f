-- The content of a cell:
--   outcome_code, code_outcome            a number stands for the outcome of its function's kind whose code it is
--   held_code, code_held                  a cell holds the outcomes of its function's kind, each by its code
--   code_not_zero                         no outcome has the code of an undecided cell
--   code_truth                            the range of the codes of a Bool
use Prim.Native.Nat.{ℕ, zero, suc, ◌+◌, ◌≤◌}
use native.Mathlib.Omega.{arith}
use mathlib.Core.Path.{◌≡◌, refl, sym}
use mathlib.Core.Bool.{Bool, true, false, cond}
use mathlib.Core.Option.{Option, none, some}
use lib.Dec.{T}
use Rattle.semantics.specs.declared.Error.TheVariants.{Head, Tail}
use Rattle.semantics.specs.declared.Outcome.{Outcome}
use Rattle.semantics.specs.declared.Outcome.TheVariants.{Truth, Suffix, Failed}
use Rattle.semantics.specs.declared.Kind.{Kind}
use Rattle.semantics.specs.declared.Kind.TheVariants.{Truth as truth, List as list}
use Rattle.semantics.specs.Language.{Traces}
use Rattle.semantics.specs.Cells.{code_of, outcome_of, of_kind, only_of_kind, outcome_in}
use Rattle.semantics.proofs.Demands.{suffix_in}

five : (k : ℕ) → 5 + k ≡ suc (suc (suc (suc (suc k))))
five k = omega arith

pub outcome_code : (t : Traces) (κ : Kind) (o : Outcome) → T (of_kind t κ o) → outcome_of κ (code_of o) ≡ some o
outcome_code t κ (Truth false) h = refl
outcome_code t κ (Truth true) h = refl
outcome_code t truth (Suffix c k) h = absurd h
outcome_code t (list c') (Suffix c k) h = rw (five k, (suffix_in t c' c k h).0)
outcome_code t κ (Failed Head) h = refl
outcome_code t κ (Failed Tail) h = refl

pub code_outcome : (κ : Kind) (c : ℕ) (o : Outcome) → outcome_of κ c ≡ some o → c ≡ code_of o
code_outcome κ zero o h = let z : ◌≡◌ {A = ℕ} 0 1 = cc in absurd (omega arith)
code_outcome κ (suc zero) o h = let e : o ≡ Truth false = cc in rw e
code_outcome κ (suc (suc zero)) o h = let e : o ≡ Truth true = cc in rw e
code_outcome κ (suc (suc (suc zero))) o h = let e : o ≡ Failed Head = cc in rw e
code_outcome κ (suc (suc (suc (suc zero)))) o h = let e : o ≡ Failed Tail = cc in rw e
code_outcome truth (suc (suc (suc (suc (suc k))))) o h = let z : ◌≡◌ {A = ℕ} 0 1 = cc in absurd (omega arith)
code_outcome (list a) (suc (suc (suc (suc (suc k))))) o h = let e : o ≡ Suffix a k = cc in rw e (sym (five k))

pub code_not_zero : (o : Outcome) → code_of o ≡ 0 → ⊥
code_not_zero (Truth false) h = omega arith
code_not_zero (Truth true) h = omega arith
code_not_zero (Suffix c k) h = omega arith
code_not_zero (Failed Head) h = omega arith
code_not_zero (Failed Tail) h = omega arith

is_true : (b : Bool) → T b → b ≡ true
is_true true h = refl
is_true false h = absurd h

pub held_code : (t : Traces) (κ : Kind) (o : Outcome) → T (of_kind t κ o) → outcome_in t κ (code_of o) ≡ some o
unfolding outcome_in
held_code t κ o h = rw (outcome_code t κ o h, is_true (of_kind t κ o) h)

pub code_held : (t : Traces) (κ : Kind) (c : ℕ) (o : Outcome) → outcome_in t κ c ≡ some o → (c ≡ code_of o) × T (of_kind t κ o)
unfolding outcome_in
code_held t κ c o h = go (outcome_of κ c) refl h
  where
    by : (a : Outcome) (b : Bool) → outcome_of κ c ≡ some a → of_kind t κ a ≡ b → cond b (some a) none ≡ some o → (c ≡ code_of o) × T (of_kind t κ o)
    by a true p q h = let e : a ≡ o = cc in (code_outcome κ c o (rw e at p), rw (sym e, q) tt)
    by a false p q h = let z : ◌≡◌ {A = ℕ} 0 1 = cc in absurd (omega arith)

    go : (r : Option Outcome) → outcome_of κ c ≡ r → only_of_kind t κ r ≡ some o → (c ≡ code_of o) × T (of_kind t κ o)
    go none p h = let z : ◌≡◌ {A = ℕ} 0 1 = cc in absurd (omega arith)
    go (some a) p h = by a (of_kind t κ a) p refl h

pub code_truth : (t : Traces) (o : Outcome) → T (of_kind t truth o) → (1 ≤ code_of o) × (code_of o ≤ 4)
code_truth t (Truth false) h = (omega arith, omega arith)
code_truth t (Truth true) h = (omega arith, omega arith)
code_truth t (Suffix c k) h = absurd h
code_truth t (Failed Head) h = (omega arith, omega arith)
code_truth t (Failed Tail) h = (omega arith, omega arith)
