-- Laws of lists that go round, over any element:
--   part_taken                   a part of a list, taken from either end first
--   drop_parted                  what is left of two lists one after the other
--   length_last, last-all        the last k of a list: how many, and all of it
--   last-append                  only the last of what was there bears on the last of a longer list
--   length-around                the elements going round from a place
--   around-set                   storing at the place and stepping on drops the first and adds one at the end
--   last_step                    what that does to the last ones
use mathlib.Core.Path.{◌≡◌, refl, sym, ap, ◌∙◌}
use mathlib.Core.Bool.{Bool, true, false}
use mathlib.Core.List.{List, [], ◌∷◌, ◌++◌, append_assoc, append-nil}
use Prim.Native.Nat.{ℕ, zero, suc, ◌+◌, ◌-◌, ◌<◌, ◌≤◌, min}
use native.Mathlib.Numerals.{add-one}
use native.Mathlib.Omega.{arith}
use lib.Dec.{eqb, leb}
use lib.ListN.{length, take, drop, set, length-append, length-take, length-drop, length-set}
use lib.Seq.{drop-cons, drop-length, take-length, take-nil, drop-append-le, drop-append-add, drop-drop, drop-set-lt, take-suc-set}
use borrow.Author.Tests.{eqb-true, leb-true, leb-false}
use Rattle.ring.specs.{around, last_of, following}

module _ {A : Type 0} where
  -- ---- A list in parts

  pub part_taken : (k m : ℕ) (l : List A) → take (m - k) (drop k l) ≡ drop k (take m l)
  part_taken zero m l = ap (λ (n : ℕ). take n l) (omega arith)
  part_taken (suc k) zero l = let none : 0 - suc k ≡ 0 = omega arith in rw none refl
  part_taken (suc k) (suc m) [] = take-nil (suc m - suc k)
  part_taken (suc k) (suc m) (x ∷ l) = let less : suc m - suc k ≡ m - k = omega arith in rw less (part_taken k m l)

  pub drop_parted : (n : ℕ) (a b : List A) → drop n (a ++ b) ≡ drop (min n (length a)) a ++ drop (n - min n (length a)) b
  drop_parted n a b = go (leb n (length a)) refl
    where
      go : (c : Bool) → leb n (length a) ≡ c → drop n (a ++ b) ≡ drop (min n (length a)) a ++ drop (n - min n (length a)) b
      go true e =
          let h : n ≤ length a = leb-true n (length a) e in
          let least : min n (length a) ≡ n = omega (arith, h) in
          let none : n - n ≡ 0 = omega arith in
          rw (least, none) (drop-append-le n a b h)
      go false e =
          let h : length a < n = leb-false n (length a) e in
          let least : min n (length a) ≡ length a = omega (arith, h) in
          let rest : n ≡ length a + (n - length a) = omega (arith, h) in
          rw (least, drop-length a) (ap (λ (m : ℕ). drop m (a ++ b)) rest ∙ drop-append-add a b (n - length a))

  -- ---- The last of a list

  pub length_last : (k : ℕ) (l : List A) → length (last_of k l) ≡ min k (length l)
  unfolding last_of
  length_last k l = omega (arith, length-drop (length l - k) l)

  pub last-all : (k : ℕ) (l : List A) → length l ≤ k → last_of k l ≡ l
  unfolding last_of
  last-all k l h = let none : length l - k ≡ 0 = omega arith in rw none

  pub last-append : (k : ℕ) (l xs : List A) → last_of k (last_of k l ++ xs) ≡ last_of k (l ++ xs)
  unfolding last_of
  last-append k l xs =
      let d = length l - k in
      let n : d + (length (drop d l ++ xs) - k) ≡ length (l ++ xs) - k =
      omega (arith, length-append (drop d l) xs, length-append l xs, length-drop d l) in
      ap (drop (length (drop d l ++ xs) - k)) (sym (drop-append-le d l xs (omega arith)))
      ∙ drop-drop (length (drop d l ++ xs) - k) d (l ++ xs)
      ∙ ap (λ (m : ℕ). drop m (l ++ xs)) n

  -- ---- Going round

  pub length-around : (l : List A) (p : ℕ) → p < length l → length (around l p) ≡ length l
  unfolding around
  length-around l p h = omega (arith, length-append (drop p l) (take p l), length-drop p l, length-take p l)

  around-whole : (l : List A) → around l 0 ≡ around l (length l)
  unfolding around
  around-whole l = rw (drop-length l, take-length l) (append-nil l)

  around_next : (l : List A) (p : ℕ) (a : A) → p < length l → around (set l p a) (p + 1) ≡ drop 1 (around l p) ++ (a ∷ [])
  unfolding around
  around_next l p a h =
      rw (add-one p, drop-set-lt (suc p) l p a (omega arith), take-suc-set l p a h, drop-cons l p a h)
      (sym (append_assoc (drop (suc p) l) (take p l) (a ∷ [])))

  pub around-set : (l : List A) (p : ℕ) (a : A) → p < length l
      → around (set l p a) (following (eqb (p + 1) (length l)) (p + 1)) ≡ drop 1 (around l p) ++ (a ∷ [])
  around-set l p a h = go (eqb (p + 1) (length l)) refl
    where
      go : (b : Bool) → eqb (p + 1) (length l) ≡ b → around (set l p a) (following b (p + 1)) ≡ drop 1 (around l p) ++ (a ∷ [])
      go true e =
          around-whole (set l p a)
          ∙ ap (around (set l p a)) (length-set l p a ∙ sym (eqb-true (p + 1) (length l) e))
          ∙ around_next l p a h
      go false e = around_next l p a h

  pub last_step : (c : ℕ) (l : List A) (a : A) → 0 < length l → c ≤ length l
      → last_of (min (c + 1) (length l)) (drop 1 l ++ (a ∷ [])) ≡ last_of (length l) (last_of c l ++ (a ∷ []))
  unfolding last_of
  last_step c l a h hc =
      let n = length l in
      let whole = l ++ (a ∷ []) in
      let one : drop 1 l ++ (a ∷ []) ≡ drop 1 whole = sym (drop-append-le 1 l (a ∷ []) (omega arith)) in
      let rest : drop (n - c) l ++ (a ∷ []) ≡ drop (n - c) whole = sym (drop-append-le (n - c) l (a ∷ []) (omega arith)) in
      let total : length whole ≡ n + 1 = length-append l (a ∷ []) in
      let e : 1 + (length (drop 1 whole) - min (c + 1) n) ≡ n - c + (length (drop (n - c) whole) - n) =
      omega (arith, length-drop 1 whole, length-drop (n - c) whole) in
      rw (one, rest)
      (drop-drop (length (drop 1 whole) - min (c + 1) n) 1 whole
      ∙ ap (λ (m : ℕ). drop m whole) e
      ∙ sym (drop-drop (length (drop (n - c) whole) - n) (n - c) whole))
