-- Laws of numbers low byte first:
--   length_low             a number in k bytes is k bytes
--   from_low_lem, low_from     a number in enough bytes is read back, and so are bytes
--   from_below             the number of k bytes is below 256 ^ k
--   low_two, low_four      the bytes of a number of 16 and of 32 bits
use mathlib.Core.Path.{◌≡◌, refl, ap}
use mathlib.Core.List.{List, [], ◌∷◌}
use Prim.Native.Nat.{ℕ, zero, suc, ◌+◌, ◌*◌, ◌/◌, ◌%◌, ◌^◌, ◌<◌}
use native.Mathlib.Nat.{pow-succ'}
use native.Mathlib.Omega.{arith}
use lib.ListN.{length, get_or}
use Rattle.encoding.specs.{low_first, from_low}

pub length_low : (k x : ℕ) → length (low_first k x) ≡ k
unfolding low_first
length_low zero x = refl
length_low (suc k) x = ap suc (length_low k (x / 256))

pub from_low_lem : (k x : ℕ) → x < 256 ^ k → from_low (low_first k x) ≡ x
unfolding low_first from_low
from_low_lem zero x h = omega arith
from_low_lem (suc k) x h =
    let below : x < 256 * 256 ^ k = rw (pow-succ' 256 k) at h in
    rw (from_low_lem k (x / 256) (omega arith)) (omega arith)

pub low_from : (bs : List ℕ) → ((i : ℕ) → get_or bs i 0 < 256) → low_first (length bs) (from_low bs) ≡ bs
unfolding low_first from_low
low_from [] h = refl
low_from (b ∷ bs) h =
    let byte : b < 256 = h 0 in
    let low : (b + 256 * from_low bs) % 256 ≡ b = omega arith in
    let high : (b + 256 * from_low bs) / 256 ≡ from_low bs = omega arith in
    rw (low, high, low_from bs (λ i. h (suc i)))

pub from_below : (bs : List ℕ) → ((i : ℕ) → get_or bs i 0 < 256) → from_low bs < 256 ^ length bs
unfolding from_low
from_below [] h = omega arith
from_below (b ∷ bs) h = rw (pow-succ' 256 (length bs)) (omega (arith, h 0, from_below bs (λ i. h (suc i))))

pub low_two : (x : ℕ) → x < 65536 → x % 256 ∷ x / 256 ∷ [] ≡ low_first 2 x
unfolding low_first
low_two x h =
    let high : x / 256 % 256 ≡ x / 256 = omega arith in
    rw high

pub low_four : (x : ℕ) → x < 4294967296 → x % 256 ∷ x / 256 % 256 ∷ x / 65536 % 256 ∷ x / 16777216 ∷ [] ≡ low_first 4 x
unfolding low_first
low_four x h =
    let third : x / 256 / 256 ≡ x / 65536 = omega arith in
    let fourth : x / 65536 / 256 ≡ x / 16777216 = omega arith in
    let highest : x / 16777216 % 256 ≡ x / 16777216 = omega arith in
    rw (third, fourth, highest)
