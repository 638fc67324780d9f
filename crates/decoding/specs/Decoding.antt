-- A mirror of the code: the words of a program and its functions. No reader need believe it: proofs/ shows that each place
-- holds the decoding of the byte there.
use Rattle.semantics.specs.Language.{is_guard}
use Rattle.semantics.specs.declared.Kind.{Kind}
use Rattle.std.specs.Prelude.{ℕ, zero, suc, ◌+◌, ◌-◌, ◌*◌, ◌/◌, ◌%◌, min, Bool, true, false, cond, List, ltb, eqb, length, get_or, set, replicate}
use Rattle.semantics.specs.Cells.{undecided_code, false_code, true_code, suffix_code}
use Rattle.codes.specs.declared.Lengths.{Lengths}
use Rattle.codes.specs.{guard_code}
use Rattle.syntax.specs.declared.Node.{Node}
use Rattle.syntax.specs.declared.Node.TheVariants as node
use Rattle.syntax.specs.Limits.{most_functions, most_body, most_bytes}
use Rattle.syntax.specs.Bytes.{node_of}
use Rattle.syntax.specs.Kinds.{kind_in}
use Rattle.rule.specs.Walk.{at_most_four}
use Rattle.decoding.specs.Words.{constant_sort, param_sort, head_sort, tail_sort, null_sort, head_param_sort, tail_param_sort, null_param_sort, if_sort, if_param_sort, if_null_sort, if_head_sort, call_sort, call_one_sort, call_guard_sort, call_leaves_sort, packed, sort_of, is_leaf, param_of, places_of, functions_from, stride, function_word, kind_word}

-- ---- Where expressions end

-- The end of the expression at a place stands at the place's remainder by the most bytes of a body. An expression lies within
-- a body, so the ends of all that is in one at once have places of their own.
unfoldable pub end_at : List ℕ → ℕ → ℕ
end_at ends at = get_or ends (at % most_body) 0

-- the end of so many expressions, one after the other
unfoldable pub ends_after : List ℕ → ℕ → ℕ → ℕ
ends_after ends zero at = at
ends_after ends (suc n) at = ends_after ends n (end_at ends at)

-- how many arguments a call of function g has; `params` are the counts of the functions
abbrev pub arguments_of : List ℕ → ℕ → ℕ
arguments_of params g = cond (ltb g 32) (at_most_four (get_or params g 0)) 0

-- how many operands a node has
abbrev pub operands_of : List ℕ → Node → ℕ
operands_of params node.False = 0
operands_of params node.True = 0
operands_of params node.Empty = 0
operands_of params node.EmptyGuard = 0
operands_of params (node.Param i) = 0
operands_of params node.Head = 1
operands_of params node.Tail = 1
operands_of params node.Null = 1
operands_of params node.If = 3
operands_of params node.Cons = 0
operands_of params (node.Call g) = arguments_of params g
operands_of params node.Unknown = 0

-- the end of the expression at a place, by the ends after it
unfoldable pub end_by : List ℕ → List ℕ → List ℕ → ℕ → ℕ
end_by code params ends at = ends_after ends (operands_of params (node_of (get_or code at 0))) (at + 1)

-- the ends at so many places from a place on, worked out backwards from the last
unfoldable pub ends_down : List ℕ → List ℕ → ℕ → ℕ → List ℕ → List ℕ
ends_down code params zero at ends = ends
ends_down code params (suc k) at ends = let later = ends_down code params k (at + 1) ends in set later (at % most_body) (end_by code params later at)

-- ---- Nodes

-- a constant, by the number of its outcome; that of undecided for a byte that is no node of a program
abbrev pub constant_by : ℕ → ℕ
constant_by c = packed constant_sort 0 (c % 4096) (c / 4096) 0 0

-- hd, tl or null, by the word of its operand
abbrev pub unary_by : ℕ → ℕ → ℕ → ℕ → ℕ
unary_by sort of_param first operand =
    cond (eqb (sort_of operand) param_sort) (packed of_param (param_of operand) first 0 0 0) (packed sort 0 first 0 0 0)

-- the sort of an if, by the word of its condition
abbrev pub conditional_by : ℕ → ℕ
conditional_by condition =
    cond (eqb (sort_of condition) param_sort) if_param_sort
    (cond (eqb (sort_of condition) null_param_sort) if_null_sort
    (cond (eqb (sort_of condition) head_param_sort) if_head_sort if_sort))

-- a node whose operands stand one after the other from a place on
abbrev pub placed : List ℕ → ℕ → ℕ → ℕ → ℕ
placed ends sort small first =
    packed sort small first (end_at ends first) (end_at ends (end_at ends first)) (end_at ends (end_at ends (end_at ends first)))

-- the signature of function g in an array of functions: first cells from 0 on, signatures from 32 on
abbrev pub signature_in : List ℕ → ℕ → ℕ
signature_in functions g = get_or functions (32 + g) 0

-- whether so many operands are leaves; their places stand in `rest`
unfoldable pub leaves_in : List ℕ → ℕ → ℕ → Bool
leaves_in words zero rest = true
leaves_in words (suc n) rest = cond (is_leaf (get_or words (rest % 4096) 0)) (leaves_in words n (rest / 4096)) false

-- the sort of a call by the callee's result kind, the number of arguments and whether they are leaves
abbrev pub call_sort_of : Kind → ℕ → Bool → ℕ
call_sort_of kind count leaves =
    cond (is_guard kind) call_guard_sort (cond (eqb count 1) call_one_sort (cond leaves call_leaves_sort call_sort))

-- a call of function g with so many arguments
abbrev pub called_by : List ℕ → List ℕ → List ℕ → ℕ → ℕ → ℕ → ℕ
called_by functions ends words count g first =
    let small = g % 32 + 32 * count in
    let leaves = leaves_in words count (places_of (placed ends call_sort small first)) in
    placed ends (call_sort_of (kind_in (signature_in functions (g % 32)) 4) count leaves) small first

-- the word of a node, by the words and the ends after it: `first` is the place after it, `next` the word there
abbrev pub decoded_by : List ℕ → List ℕ → List ℕ → List ℕ → ℕ → ℕ → Node → ℕ
decoded_by params functions ends words first next node.False = constant_by false_code
decoded_by params functions ends words first next node.True = constant_by true_code
decoded_by params functions ends words first next node.Empty = constant_by suffix_code
decoded_by params functions ends words first next node.EmptyGuard = constant_by guard_code
decoded_by params functions ends words first next (node.Param i) = packed param_sort i 0 0 0 0
decoded_by params functions ends words first next node.Head = unary_by head_sort head_param_sort first next
decoded_by params functions ends words first next node.Tail = unary_by tail_sort tail_param_sort first next
decoded_by params functions ends words first next node.Null = unary_by null_sort null_param_sort first next
decoded_by params functions ends words first next node.If = placed ends (conditional_by next) (param_of next) first
decoded_by params functions ends words first next node.Cons = constant_by undecided_code
decoded_by params functions ends words first next (node.Call g) = called_by functions ends words (arguments_of params g) g first
decoded_by params functions ends words first next node.Unknown = constant_by undecided_code

-- the word at a place, by the words and the ends after it
unfoldable pub word_by : List ℕ → List ℕ → List ℕ → List ℕ → List ℕ → ℕ → ℕ
word_by code params functions ends words at = decoded_by params functions ends words (at + 1) (get_or words (at + 1) 0) (node_of (get_or code at 0))

-- the words at so many places from a place on, worked out backwards from the last, with the ends
unfoldable pub words_down : List ℕ → List ℕ → List ℕ → List ℕ → ℕ → ℕ → List ℕ → List ℕ
words_down code params functions ends zero at words = words
words_down code params functions ends (suc k) at words =
    let later = words_down code params functions ends k (at + 1) words in
    set later at (word_by code params functions (ends_down code params k (at + 1) ends) later at)

-- ---- Functions

-- word k of the functions
unfoldable pub entry_of : List ℕ → Lengths → ℕ → ℕ
entry_of functions n k =
    let signature = signature_in functions (k / stride) in
    cond (eqb (k % stride) 0) (function_word (get_or functions (k / stride) 0) (kind_in signature 4) n) (kind_word (kind_in signature (k % stride - 1)) n)

-- the first so many words of functions written
unfoldable pub entries_upto : List ℕ → Lengths → ℕ → List ℕ → List ℕ
entries_upto functions n zero words = words
entries_upto functions n (suc k) words = set (entries_upto functions n k words) (functions_from + k) (entry_of functions n k)

-- ---- All words

-- words with those of a program and of so many functions, at most 32, written; a program's bytes beyond the longest are
-- passed over
unfoldable pub words_filled : List ℕ → List ℕ → List ℕ → ℕ → Lengths → List ℕ → List ℕ
words_filled program params functions count n words =
    words_down program params functions (replicate most_body 0) (min most_bytes (length program)) 0
    (entries_upto functions n (stride * min count most_functions) words)
