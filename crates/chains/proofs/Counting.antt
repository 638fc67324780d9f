-- Counting, with no configuration in it:
--   fewer     numbers below n that are all different are at most n
use Prim.Native.Nat.{ℕ, zero, suc, ◌≤◌, ◌<◌}
use native.Mathlib.Omega.{arith}
use mathlib.Core.Path.{◌≡◌, refl, sym, ◌∙◌}
use mathlib.Core.Bool.{Bool, true, false, cond}
use lib.Dec.{eqb}
use borrow.Author.Tests.{eqb-true, eqb-false}

-- f at 0, .., m is below n, and all are different
abbrev pub Below : ℕ → ℕ → (ℕ → ℕ) → Type 0
Below n m f = (i : ℕ) → i ≤ m → f i < n

abbrev pub Different : ℕ → (ℕ → ℕ) → Type 0
Different m f = (i j : ℕ) → i ≤ m → j ≤ m → f i ≡ f j → i ≡ j

-- the last one takes the place of the greatest number, so that all are below it
abbrev moved : ℕ → ℕ → (ℕ → ℕ) → ℕ → ℕ
moved n m f i = cond (eqb (f i) n) (f (suc m)) (f i)

module _ (n m : ℕ) (f : ℕ → ℕ) (below : Below (suc n) (suc m) f) (different : Different (suc m) f) where
  moved_below : Below n m (moved n m f)
  moved_below i h = go (eqb (f i) n) refl
    where
      go : (b : Bool) → eqb (f i) n ≡ b → cond b (f (suc m)) (f i) < n
      go true e =
          let top : f i ≡ n = eqb-true (f i) n e in
          let apart : (f (suc m) ≡ n) → ⊥ = λ q. omega (arith, different i (suc m) (omega arith) (omega arith) (top ∙ sym q)) in
          omega (arith, below (suc m) (omega arith), apart)
      go false e = omega (arith, below i (omega arith), eqb-false (f i) n e)

  moved_different : Different m (moved n m f)
  moved_different i j hi hj = go (eqb (f i) n) refl (eqb (f j) n) refl
    where
      go : (a : Bool) → eqb (f i) n ≡ a → (b : Bool) → eqb (f j) n ≡ b → cond a (f (suc m)) (f i) ≡ cond b (f (suc m)) (f j) → i ≡ j
      go true e true q s = different i j (omega arith) (omega arith) (eqb-true (f i) n e ∙ sym (eqb-true (f j) n q))
      go true e false q s = omega (arith, different (suc m) j (omega arith) (omega arith) s)
      go false e true q s = omega (arith, different i (suc m) (omega arith) (omega arith) s)
      go false e false q s = different i j (omega arith) (omega arith) s

pub fewer : (n m : ℕ) (f : ℕ → ℕ) → Below n m f → Different m f → m < n
fewer zero m f below different = omega (arith, below 0 (omega arith))
fewer (suc n) zero f below different = omega arith
fewer (suc n) (suc m) f below different =
    omega (arith, fewer n m (moved n m f) (moved_below n m f below different) (moved_different n m f below different))
