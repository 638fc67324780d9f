-- Laws of the bits of a number:
--   bit_past               a number of n binary digits has no bit past them
--   bit-binary             bit k of a number is its k-th binary digit
--   binary-bound           a number of n binary digits is below 2 ^ n
--   binary_snoc            one more digit at the high end
--   with_bit_lem               writing the next bit of a number is one more digit
--   weight_exact           the code's 1 << k is 2 ^ k
use mathlib.Core.Path.{◌≡◌, sym, ap, ◌∙◌}
use mathlib.Core.Bool.{Bool, true, false}
use mathlib.Core.List.{List, [], ◌∷◌, ◌++◌}
use Prim.Native.Nat.{ℕ, zero, suc, ◌+◌, ◌*◌, ◌/◌, ◌%◌, ◌^◌, ◌<◌, ◌≤◌}
use native.Mathlib.Nat.{pow-le-pow_right, div-eq_of_lt, zero-div, pow-succ', mul_left_comm, one-mul, mod-eq_of_lt}
use native.Mathlib.Omega.{arith}
use lib.Dec.{eqb}
use lib.ListN.{length, get_or}
use lib.Pow.{shr-shr, shl_exact}
use Rattle.trace.specs.{bit_of, digit, binary, with_bit}

pub bit_past : (n i x : ℕ) → x < 2 ^ n → n ≤ i → bit_of i x ≡ false
unfolding bit_of
bit_past n i x low past =
    let wide = pow-le-pow_right {n = 2} (omega arith) past in
    let zero-part : x / 2 ^ i ≡ 0 = div-eq_of_lt (omega (arith, low, wide)) in
    rw zero-part

half : (b : Bool) (m : ℕ) → (digit b + 2 * m) / 2 ≡ m
half false m = omega arith
half true m = omega arith

lowest : (b : Bool) (m : ℕ) → eqb ((digit b + 2 * m) / 1 % 2) 1 ≡ b
lowest false m = let e : (0 + 2 * m) / 1 % 2 ≡ 0 = omega arith in rw e
lowest true m = let e : (1 + 2 * m) / 1 % 2 ≡ 1 = omega arith in rw e

higher : (b : Bool) (m k : ℕ) → (digit b + 2 * m) / 2 ^ suc k ≡ m / 2 ^ k
higher b m k =
    let e : suc k ≡ 1 + k = omega arith in
    ap (λ (j : ℕ). (digit b + 2 * m) / 2 ^ j) e ∙ sym (shr-shr (digit b + 2 * m) 1 k) ∙ ap (λ (x : ℕ). x / 2 ^ k) (half b m)

pub bit-binary : (bs : List Bool) (k : ℕ) → bit_of k (binary bs) ≡ get_or bs k false
unfolding bit_of binary
bit-binary [] k = rw (zero-div (2 ^ k))
bit-binary (b ∷ bs) zero = lowest b (binary bs)
bit-binary (b ∷ bs) (suc k) = rw (higher b (binary bs) k) (bit-binary bs k)

digit_le : (b : Bool) → digit b ≤ 1
digit_le false = omega arith
digit_le true = omega arith

pub binary-bound : (bs : List Bool) → binary bs < 2 ^ length bs
unfolding binary
binary-bound [] = omega arith
binary-bound (b ∷ bs) = rw (pow-succ' 2 (length bs)) (omega (arith, digit_le b, binary-bound bs))

pub binary_snoc : (bs : List Bool) (b : Bool) → binary (bs ++ (b ∷ [])) ≡ binary bs + digit b * 2 ^ length bs
unfolding binary
binary_snoc [] b = omega arith
binary_snoc (a ∷ bs) b = rw (binary_snoc bs b, pow-succ' 2 (length bs), mul_left_comm (digit b) 2 (2 ^ length bs)) (omega arith)

pub with_bit_lem : (bs : List Bool) (b : Bool) → with_bit (length bs) (binary bs) b ≡ binary (bs ++ (b ∷ []))
unfolding with_bit
with_bit_lem bs b = rw (mod-eq_of_lt (binary-bound bs)) (sym (binary_snoc bs b))

pub weight_exact : {k : ℕ} → k < 8 → (1 * 2 ^ k) % 256 ≡ 2 ^ k
weight_exact {k} h = shl_exact 1 k 8 (omega arith) (omega arith) ∙ one-mul (2 ^ k)
