-- What is put into a word is read from it:
--   sort-packed, param-packed, callee-packed, count_packed,
--   first-packed, second_packed, third_packed             the fields of a node
--   places_alike, place_0 to place_3                      its places, as a call goes through them
--   constant-packed                                       the number of a constant
--   first_in_lem, held_in_lem                                     a function's first cell, and what a cell of it holds
--   values_in_lem, lowest_in_lem                                  a parameter's values
use Prim.Native.Nat.{ℕ, ◌/◌, ◌%◌, ◌<◌}
use native.Mathlib.Omega.{arith}
use mathlib.Core.Path.{◌≡◌}
use Rattle.semantics.specs.declared.Kind.{Kind}
use Rattle.codes.specs.declared.Lengths.{Lengths}
use Rattle.codes.specs.{Short, least_code, most_code, decided_code, radix_of, lowest_code}
use Rattle.codes.proofs.Bounds.{least_small, lowest_small, most_small, radix_small}
use Rattle.decoding.specs.Words.{packed, sort_of, param_of, callee_of, count_of, places_of, constant_of, first_place, second_place, third_place, function_word, first_in, least_in, most_in, held_in, kind_word, values_in, lowest_in}
use Rattle.decoding.specs.Decoding.{constant_by}

-- ---- Nodes

module _ (sort small first second third fourth : ℕ) where
  abbrev word : ℕ
  word = packed sort small first second third fourth

  pub sort-packed : sort_of word ≡ sort % 16
  unfolding packed
  sort-packed = omega arith

  pub param-packed : param_of word ≡ small % 4
  unfolding packed
  param-packed = omega arith

  pub callee-packed : callee_of word ≡ small % 32
  unfolding packed
  callee-packed = omega arith

  pub count_packed : count_of word ≡ small % 256 / 32
  unfolding packed
  count_packed = omega arith

  pub first-packed : first_place word ≡ first % 4096
  unfolding packed
  first-packed = omega arith

  pub second_packed : second_place word ≡ second % 4096
  unfolding packed
  second_packed = omega arith

  pub third_packed : third_place word ≡ third % 4096
  unfolding packed
  third_packed = omega arith

  pub place_0 : places_of word % 4096 ≡ first % 4096
  unfolding packed
  place_0 = omega arith

  pub place_1 : places_of word / 4096 % 4096 ≡ second % 4096
  unfolding packed
  place_1 = omega arith

  pub place_2 : places_of word / 4096 / 4096 % 4096 ≡ third % 4096
  unfolding packed
  place_2 = omega arith

  pub place_3 : places_of word / 4096 / 4096 / 4096 % 4096 ≡ fourth % 4096
  unfolding packed
  place_3 = omega arith

pub constant-packed : (c : ℕ) → c < 65536 → constant_of (constant_by c) ≡ c
unfolding packed
constant-packed c h = omega arith

-- a sort leaves the places as they are
pub places_alike : (s t small first second third fourth : ℕ) → places_of (packed s small first second third fourth) ≡ places_of (packed t small first second third fourth)
unfolding packed
places_alike s t small first second third fourth = omega arith

-- ---- Functions

module _ (first : ℕ) (kind : Kind) (n : Lengths) where
  pub first_in_lem : first_in (function_word first kind n) ≡ first % 4294967296
  unfolding function_word
  first_in_lem = omega arith

  least_in_lem : least_in (function_word first kind n) ≡ least_code kind
  unfolding function_word
  least_in_lem = omega (arith, least_small kind)

  most_in_lem : Short n → most_in (function_word first kind n) ≡ most_code kind n
  unfolding function_word
  most_in_lem short = omega (arith, least_small kind, most_small kind n short)

  pub held_in_lem : (cell : ℕ) → Short n → held_in (function_word first kind n) cell ≡ decided_code (least_code kind) (most_code kind n) cell
  held_in_lem cell short = rw (least_in_lem, most_in_lem short)

module _ (kind : Kind) (n : Lengths) where
  pub values_in_lem : Short n → values_in (kind_word kind n) ≡ radix_of kind n
  unfolding kind_word
  values_in_lem short = omega (arith, radix_small kind n short)

  pub lowest_in_lem : lowest_in (kind_word kind n) ≡ lowest_code kind
  unfolding kind_word
  lowest_in_lem = omega (arith, lowest_small kind)
