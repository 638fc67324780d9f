-- Laws of padded lists:
--   length-padded          how long they are
--   get_or-padded            past the list the added element stands
--   set-padded             writing the first added place is one more element
use mathlib.Core.Path.{◌≡◌, refl}
use mathlib.Core.List.{List, [], ◌∷◌, ◌++◌, append_assoc}
use Prim.Native.Nat.{ℕ, zero, suc, ◌-◌, ◌<◌, ◌≤◌}
use native.Mathlib.Omega.{arith}
use lib.ListN.{length, get_or, set, replicate, length-append, length-replicate}
use lib.Seq.{set-append_seam}
use Rattle.rule.specs.Form.{padded}

module _ {A : Type 0} where
  pub length-padded : (n : ℕ) (z : A) (l : List A) → length l ≤ n → length (padded n z l) ≡ n
  unfolding padded
  length-padded n z l h = omega (arith, length-append l (replicate (n - length l) z), length-replicate (n - length l) z)

  -- a default is found among copies of it and past them
  get_or_copies : (m : ℕ) (z : A) (i : ℕ) → get_or (replicate m z) i z ≡ z
  get_or_copies zero z i = refl
  get_or_copies (suc m) z zero = refl
  get_or_copies (suc m) z (suc i) = get_or_copies m z i

  get_or-followed : (m : ℕ) (z : A) (l : List A) (i : ℕ) → get_or (l ++ replicate m z) i z ≡ get_or l i z
  get_or-followed m z [] i = get_or_copies m z i
  get_or-followed m z (x ∷ l) zero = refl
  get_or-followed m z (x ∷ l) (suc i) = get_or-followed m z l i

  pub get_or-padded : (n : ℕ) (z : A) (l : List A) (i : ℕ) → get_or (padded n z l) i z ≡ get_or l i z
  unfolding padded
  get_or-padded n z l i = get_or-followed (n - length l) z l i

  pub set-padded : (n : ℕ) (z : A) (l : List A) (v : A) → length l < n → set (padded n z l) (length l) v ≡ padded n z (l ++ (v ∷ []))
  unfolding padded
  set-padded n z l v h =
      let m = n - length (l ++ (v ∷ [])) in
      let e : n - length l ≡ suc m = omega (arith, length-append l (v ∷ [])) in
      rw (e, set-append_seam, append_assoc)
