-- Bytes copied to a place, one after the other:
--   Copied, copied_start, copied_more, copied_whole      the loop's start, a turn, its end
--   copied_length                                        what they are copied into keeps its length
use mathlib.Core.Path.{◌≡◌, ap, ◌∙◌}
use mathlib.Core.List.{List}
use Prim.Native.Nat.{ℕ, ◌+◌, ◌<◌, ◌≤◌}
use native.Mathlib.Numerals.{add-one}
use native.Mathlib.Omega.{arith}
use lib.ListN.{length, get_or, set}
use lib.Seq.{paste, paste-zero, paste-suc, length-paste}

module _ (d : List ℕ) (at : ℕ) (s : List ℕ) where
  -- the first i are copied
  pub record Copied (m : List ℕ) (i : ℕ) : Type 0 where
    pub below : i ≤ length s
    pub whole : m ≡ paste d at s i

  pub copied_start : Copied d 0
  copied_start = record { below = omega arith; whole = paste-zero d at s }

  pub copied_more : (i : ℕ) {m : List ℕ} → Copied m i → i < length s → at + length s ≤ length d → Copied (set m (at + i) (get_or s i 0)) (i + 1)
  copied_more i u h room =
      record { below = omega arith; whole = rw (u.whole, add-one) (paste-suc d at s i 0 (omega arith) h) }

  pub copied_whole : (i : ℕ) {m : List ℕ} → Copied m i → length s ≤ i → m ≡ paste d at s (length s)
  copied_whole i u h = let e : i ≡ length s = omega (arith, u.below) in rw e at u.whole

  pub copied_length : (i : ℕ) {m : List ℕ} → Copied m i → at + length s ≤ length d → length m ≡ length d
  copied_length i u room = ap length u.whole ∙ length-paste d at s i (omega (arith, u.below)) u.below
