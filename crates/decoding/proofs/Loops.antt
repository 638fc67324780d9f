-- Laws of decoding, for each loop of the code a turn:
--   after_more                           the operands of a node, passed one after the other
--   leaves_more                          whether they are leaves
--   Swept, swept_start, swept_more       the words and the ends, from the last place down
use mathlib.Core.Path.{◌≡◌}
use mathlib.Core.Bool.{Bool, true}
use mathlib.Core.List.{List}
use Prim.Native.Nat.{ℕ, zero, suc, ◌+◌, ◌-◌, ◌/◌, ◌%◌, ◌<◌, ◌≤◌}
use native.Mathlib.Numerals.{add-one, sub-one}
use native.Mathlib.Omega.{arith}
use lib.ListN.{get_or, set, replicate}
use Rattle.syntax.specs.declared.Node.{Node}
use Rattle.syntax.specs.Limits.{most_body}
use Rattle.syntax.specs.Bytes.{node_of}
use Rattle.decoding.specs.Words.{is_leaf}
use Rattle.decoding.specs.Decoding.{end_at, ends_after, operands_of, leaves_in, end_by, ends_down, decoded_by, word_by, words_down}

-- ---- Operands

-- of more expressions than `passed` the next is passed
pub after_more : (ends : List ℕ) (count passed place : ℕ) {next end : ℕ} → ends_after ends (count - passed) place ≡ end → passed < count
    → next ≡ end_at ends place → ends_after ends (count - (passed + 1)) next ≡ end
unfolding ends_after
after_more ends count passed place e h n = let left : count - passed ≡ suc (count - (passed + 1)) = omega arith in
    rw n (rw left at e)

pub leaves_more : (words : List ℕ) (count passed rest : ℕ) {whole : Bool} → leaves_in words (count - passed) rest ≡ whole → passed < count
    → is_leaf (get_or words (rest % 4096) 0) ≡ true → leaves_in words (count - (passed + 1)) (rest / 4096) ≡ whole
unfolding leaves_in
leaves_more words count passed rest e h y = let left : count - passed ≡ suc (count - (passed + 1)) = omega arith in
    rw (left, y) at e

-- ---- The words of a program

module _ (code params functions words₀ : List ℕ) (len : ℕ) where
  abbrev zeros : List ℕ
  zeros = replicate most_body 0

  -- the places from `at` on have their words and ends
  pub record Swept (E W : List ℕ) (at : ℕ) : Type 0 where
    pub below : at ≤ len
    pub ends : E ≡ ends_down code params (len - at) at zeros
    pub words : W ≡ words_down code params functions zeros (len - at) at words₀

  pub swept_start : Swept zeros words₀ len
  unfolding ends_down words_down
  swept_start = let none : len - len ≡ 0 = omega arith in record { below = omega arith; ends = rw none; words = rw none }

  pub swept_more : (at : ℕ) {ends words : List ℕ} {node : Node} {next word end count : ℕ} → Swept ends words at → 0 < at
      → node ≡ node_of (get_or code (at - 1) 0) → next ≡ get_or words (at - 1 + 1) 0 → word ≡ decoded_by params functions ends words (at - 1 + 1) next node
      → count ≡ operands_of params node → end ≡ ends_after ends count (at - 1 + 1)
      → Swept (set ends ((at - 1) % most_body) end) (set words (at - 1) word) (at - 1)
  unfolding ends_down words_down end_by word_by
  swept_more zero u h n x w c e = absurd (omega arith)
  swept_more (suc at) u h n x w c e =
      let k : len - at ≡ suc (len - suc at) = omega (arith, u.below) in
      record {
        below = omega (arith, u.below);
        ends = simp (sub-one, k, add-one, e, c, n, u.ends);
        words = simp (sub-one, k, add-one, w, x, n, u.ends, u.words);
      }
