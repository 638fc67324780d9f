-- A mirror of the code: how the words of an evaluation are made and read. No reader need believe it: proofs/ shows that what
-- is put into a word is read from it.
use Rattle.semantics.specs.declared.Kind.{Kind}
use Rattle.std.specs.Prelude.{ℕ, ◌+◌, ◌*◌, ◌/◌, ◌%◌, Bool, true, cond, ltb, eqb}
use Rattle.codes.specs.declared.Lengths.{Lengths}
use Rattle.codes.specs.{least_code, most_code, decided_code, radix_of, lowest_code}

-- ---- Nodes

-- The sorts of decoded nodes. hd, tl and null of a parameter have sorts of their own; so has an if whose condition is a
-- parameter, or null or hd of one, a call of a function with a guard list result, any other call with one argument, and of the
-- rest a call whose arguments are all leaves.
abbrev pub constant_sort : ℕ
constant_sort = 0

abbrev pub param_sort : ℕ
param_sort = 1

abbrev pub head_sort : ℕ
head_sort = 2

abbrev pub tail_sort : ℕ
tail_sort = 3

abbrev pub null_sort : ℕ
null_sort = 4

abbrev pub head_param_sort : ℕ
head_param_sort = 5

abbrev pub tail_param_sort : ℕ
tail_param_sort = 6

abbrev pub null_param_sort : ℕ
null_param_sort = 7

abbrev pub if_sort : ℕ
if_sort = 8

abbrev pub if_param_sort : ℕ
if_param_sort = 9

abbrev pub if_null_sort : ℕ
if_null_sort = 10

abbrev pub if_head_sort : ℕ
if_head_sort = 11

abbrev pub call_sort : ℕ
call_sort = 12

abbrev pub call_one_sort : ℕ
call_one_sort = 13

abbrev pub call_guard_sort : ℕ
call_guard_sort = 14

abbrev pub call_leaves_sort : ℕ
call_leaves_sort = 15

-- A node's word: its sort in bits 0 to 3, a small number in bits 8 to 15, four places of 12 bits above. The small number
-- is a parameter, or of a call the callee and 32 times the number of arguments. The places are those of the operands, in
-- their order; of a constant the first two have its number, the lowest 12 bits in the first.
unfoldable pub packed : ℕ → ℕ → ℕ → ℕ → ℕ → ℕ → ℕ
packed sort small first second third fourth =
    sort % 16
    + (small % 256) * 256
    + (first % 4096) * 65536
    + (second % 4096) * 268435456
    + (third % 4096) * 1099511627776
    + (fourth % 4096) * 4503599627370496

abbrev pub sort_of : ℕ → ℕ
sort_of w = w % 16

-- whether a word is that of a leaf: a constant, a parameter, its hd or its tl
unfoldable pub is_leaf : ℕ → Bool
is_leaf w = cond (ltb (sort_of w) head_sort) true (cond (eqb (sort_of w) head_param_sort) true (eqb (sort_of w) tail_param_sort))

abbrev pub param_of : ℕ → ℕ
param_of w = w / 256 % 4

abbrev pub callee_of : ℕ → ℕ
callee_of w = w / 256 % 32

abbrev pub count_of : ℕ → ℕ
count_of w = w / 8192 % 8

-- all places, the first in the lowest 12 bits
abbrev pub places_of : ℕ → ℕ
places_of w = w / 65536

abbrev pub first_place : ℕ → ℕ
first_place w = w / 65536 % 4096

-- the number of a constant
abbrev pub constant_of : ℕ → ℕ
constant_of w = w / 65536 % 65536

abbrev pub second_place : ℕ → ℕ
second_place w = w / 268435456 % 4096

abbrev pub third_place : ℕ → ℕ
third_place w = w / 1099511627776 % 4096

-- ---- Functions

-- where the nodes end and the functions begin; each function has so many words, one of its own and one for each parameter
abbrev pub functions_from : ℕ
functions_from = 4096

abbrev pub stride : ℕ
stride = 8

-- how many words there are: those of 32 functions after the nodes
abbrev pub most_words : ℕ
most_words = 4352

-- the first cell of a function, in bits 0 to 31, and above it the least and the most number of an outcome of its kind
unfoldable pub function_word : ℕ → Kind → Lengths → ℕ
function_word first kind n =
    first % 4294967296 + least_code kind * 4294967296 + (most_code kind n % 65536) * 281474976710656

abbrev pub first_in : ℕ → ℕ
first_in w = w % 4294967296

abbrev pub least_in : ℕ → ℕ
least_in w = w / 4294967296 % 65536

abbrev pub most_in : ℕ → ℕ
most_in w = w / 281474976710656

-- what a cell of the function holds
abbrev pub held_in : ℕ → ℕ → ℕ
held_in w cell = decided_code (least_in w) (most_in w) cell

-- how many values a parameter has, in bits 0 to 15, and above it the number of the first
unfoldable pub kind_word : Kind → Lengths → ℕ
kind_word kind n = radix_of kind n % 65536 + lowest_code kind * 65536

abbrev pub values_in : ℕ → ℕ
values_in w = w % 65536

abbrev pub lowest_in : ℕ → ℕ
lowest_in w = w / 65536 % 65536
