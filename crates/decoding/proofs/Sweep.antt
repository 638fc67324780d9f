-- The words of a program and of its functions, each at its place:
--   words_from      places that the sweep has passed keep their words
--   word_there      each place of a program holds the decoding of the byte there over the words after it
--   entry_there     each place of the functions holds its entry
use Prim.Native.Nat.{ℕ, zero, suc, ◌+◌, ◌<◌, ◌≤◌}
use native.Mathlib.Nat.{zero-add, eq-or-lt_of_le}
use native.Mathlib.Omega.{arith}
use mathlib.Core.Path.{◌≡◌, refl, ◌∙◌}
use mathlib.Core.Logic.{⊎_elim}
use mathlib.Core.List.{List}
use lib.ListN.{length, get_or, length-set}
use lib.Seq.{get_or-set_same, get_or-set_other}
use Rattle.codes.specs.declared.Lengths.{Lengths}
use Rattle.decoding.specs.Words.{functions_from}
use Rattle.decoding.specs.Decoding.{ends_down, word_by, words_down, entry_of, entries_upto}

module _ (code params functions ends : List ℕ) where
  pub words-length : (k at : ℕ) (words : List ℕ) → length (words_down code params functions ends k at words) ≡ length words
  unfolding words_down
  words-length zero at words = refl
  words-length (suc k) at words =
      length-set (words_down code params functions ends k (at + 1) words) at _ ∙ words-length k (at + 1) words

  -- places past those that are written keep their words
  pub words_above : (k at : ℕ) (words : List ℕ) (p : ℕ) → at + k ≤ p → get_or (words_down code params functions ends k at words) p 0 ≡ get_or words p 0
  unfolding words_down
  words_above zero at words p h = refl
  words_above (suc k) at words p h =
      get_or-set_other (words_down code params functions ends k (at + 1) words) at p _ 0 (λ e. omega arith) ∙ words_above k (at + 1) words p (omega arith)

  -- places from a place on have the words that they had when the sweep had come down to it
  pub words_from : (j k at : ℕ) (words : List ℕ) (p : ℕ) → at + j ≤ p
      → get_or (words_down code params functions ends (j + k) at words) p 0 ≡ get_or (words_down code params functions ends k (at + j) words) p 0
  unfolding words_down
  words_from zero k at words p h = let same : at + 0 ≡ at = omega arith in rw (same, zero-add k)
  words_from (suc j) k at words p h =
      let more : suc j + k ≡ suc (j + k) = omega arith in
      let same : at + 1 + j ≡ at + suc j = omega arith in
      rw more
      (get_or-set_other (words_down code params functions ends (j + k) (at + 1) words) at p _ 0 (λ e. omega arith)
      ∙ rw same at (words_from j k (at + 1) words p (omega arith)))

  -- the word at a place, by the words and the ends after it
  pub word_there : (k p : ℕ) (words : List ℕ) → p < length words
      → get_or (words_down code params functions ends (suc k) p words) p 0
      ≡ word_by code params functions (ends_down code params k (p + 1) ends) (words_down code params functions ends k (p + 1) words) p
  unfolding words_down
  word_there k p words room =
      get_or-set_same (words_down code params functions ends k (p + 1) words) p _ 0 (omega (arith, words-length k (p + 1) words))

-- ---- Functions

module _ (functions : List ℕ) (n : Lengths) where
  pub entries_length : (m : ℕ) (words : List ℕ) → length (entries_upto functions n m words) ≡ length words
  unfolding entries_upto
  entries_length zero words = refl
  entries_length (suc m) words = length-set (entries_upto functions n m words) (functions_from + m) _ ∙ entries_length m words

  pub entry_there : (m : ℕ) (words : List ℕ) (k : ℕ) → functions_from + m ≤ length words → k < m
      → get_or (entries_upto functions n m words) (functions_from + k) 0 ≡ entry_of functions n k
  unfolding entries_upto
  entry_there zero words k room h = absurd (omega arith)
  entry_there (suc m) words k room h =
      let before = entries_upto functions n m words in
      let l : k ≤ m = omega arith in
      ⊎_elim
      (λ (e : k ≡ m). rw e (get_or-set_same before (functions_from + m) (entry_of functions n m) 0 (omega (arith, entries_length m words))))
      (λ (o : k < m). get_or-set_other before (functions_from + m) (functions_from + k) (entry_of functions n m) 0 (λ e. omega arith)
      ∙ entry_there m words k (omega arith) o)
      (eq-or-lt_of_le l)
