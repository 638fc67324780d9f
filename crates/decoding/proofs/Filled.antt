-- What the words of an evaluation hold:
--   after, after_kept                 the words after a place, as they stood when it was decoded: they stay
--   node_filled                       at each place of a program the decoding of the byte there over the words after it
--   function_filled, param-filled     for each function its own word, and one for each parameter
use Prim.Native.Nat.{ℕ, suc, ◌+◌, ◌-◌, ◌*◌, ◌/◌, ◌%◌, ◌<◌, ◌≤◌}
use native.Mathlib.Nat.{min-eq_left, min-eq_right}
use native.Mathlib.Omega.{arith}
use mathlib.Core.Path.{◌≡◌, sym, ◌∙◌}
use mathlib.Core.List.{List}
use lib.ListN.{length, get_or, replicate}
use borrow.Author.Tests.{ne_eqb}
use Rattle.syntax.specs.Limits.{most_functions, most_body, most_bytes}
use Rattle.syntax.specs.Kinds.{kind_in}
use Rattle.codes.specs.declared.Lengths.{Lengths}
use Rattle.decoding.specs.Words.{functions_from, stride, most_words, function_word, kind_word}
use Rattle.decoding.specs.Decoding.{ends_down, word_by, words_down, entry_of, entries_upto, words_filled}
use Rattle.decoding.proofs.Sweep.{words_above, words_from, word_there, entries_length, entry_there}

-- ---- Entries

module _ (functions : List ℕ) (n : Lengths) (g : ℕ) where
  function_entry : entry_of functions n (stride * g) ≡ function_word (get_or functions g 0) (kind_in (get_or functions (32 + g) 0) 4) n
  unfolding entry_of
  function_entry =
      let which : stride * g / stride ≡ g = omega arith in
      let first : stride * g % stride ≡ 0 = omega arith in
      rw (which, first)

  param_entry : (i : ℕ) → i < 4 → entry_of functions n (stride * g + 1 + i) ≡ kind_word (kind_in (get_or functions (32 + g) 0) i) n
  unfolding entry_of
  param_entry i h =
      let which : (stride * g + 1 + i) / stride ≡ g = omega arith in
      let later : (stride * g + 1 + i) % stride ≡ 1 + i = omega arith in
      let back : 1 + i - 1 ≡ i = omega arith in
      rw (which, later, ne_eqb (1 + i) 0 (λ e. omega arith), back)

-- ---- The words of a program and of its functions, written into as many

module _ (code params functions : List ℕ) (count : ℕ) (n : Lengths) (z : List ℕ) (long : length z ≡ most_words) (short : length code ≤ most_bytes)
    (few : count ≤ most_functions) where
  abbrev words : List ℕ
  words = words_filled code params functions count n z

  abbrev zeros : List ℕ
  zeros = replicate most_body 0

  whole : words ≡ words_down code params functions zeros (length code) 0 (entries_upto functions n (stride * count) z)
  unfolding words_filled
  whole = rw (min-eq_right short, min-eq_left few)

  -- the words after a place, as they stood when it was decoded
  abbrev pub after : ℕ → List ℕ
  after at = words_down code params functions zeros (length code - (at + 1)) (at + 1) (entries_upto functions n (stride * count) z)

  pub after_kept : (at : ℕ) → at < length code → (p : ℕ) → at < p → get_or (after at) p 0 ≡ get_or words p 0
  after_kept at h p l =
      let all : at + 1 + (length code - (at + 1)) ≡ length code = omega arith in
      let from : 0 + (at + 1) ≡ at + 1 = omega arith in
      let k = words_from code params functions zeros (at + 1) (length code - (at + 1)) 0 (entries_upto functions n (stride * count) z) p (omega arith) in
      rw whole (sym (rw (all, from) at k))

  pub node_filled : (at : ℕ) → at < length code
      → get_or words at 0 ≡ word_by code params functions (ends_down code params (length code - (at + 1)) (at + 1) zeros) (after at) at
  node_filled at h =
      let all : at + suc (length code - (at + 1)) ≡ length code = omega arith in
      let from : 0 + at ≡ at = omega arith in
      let entries = entries_upto functions n (stride * count) z in
      let k = words_from code params functions zeros at (suc (length code - (at + 1))) 0 entries at (omega arith) in
      rw whole
      (rw (all, from) at k
      ∙ word_there code params functions zeros (length code - (at + 1)) at entries (omega (arith, entries_length functions n (stride * count) z)))

  entry_filled : (k : ℕ) → k < stride * count → get_or words (functions_from + k) 0 ≡ entry_of functions n k
  entry_filled k h =
      rw whole
      (words_above code params functions zeros (length code) 0 (entries_upto functions n (stride * count) z) (functions_from + k) (omega arith)
      ∙ entry_there functions n (stride * count) z k (omega arith) h)

  pub function_filled : (g : ℕ) → g < count
      → get_or words (functions_from + stride * g) 0 ≡ function_word (get_or functions g 0) (kind_in (get_or functions (32 + g) 0) 4) n
  function_filled g h = entry_filled (stride * g) (omega arith) ∙ function_entry functions n g

  pub param-filled : (g i : ℕ) → g < count → i < 4
      → get_or words (functions_from + stride * g + 1 + i) 0 ≡ kind_word (kind_in (get_or functions (32 + g) 0) i) n
  param-filled g i h l =
      let place : functions_from + stride * g + 1 + i ≡ functions_from + (stride * g + 1 + i) = omega arith in
      rw place (entry_filled (stride * g + 1 + i) (omega arith) ∙ param_entry functions n g i l)
