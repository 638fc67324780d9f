-- A mirror of the code: outcomes as their numbers, expressions by their decoded words. No reader need believe it: proofs/
-- shows that it comes to what the rules say.
use Rattle.std.specs.Prelude.{ℕ, zero, suc, ◌+◌, ◌-◌, ◌*◌, ◌/◌, ◌%◌, ◌^◌, ◌≤◌, ◌≡◌, cond, Option, Some, None, List, leb, eqb, get_or}
use Rattle.semantics.specs.Cells.{undecided_code, false_code, true_code}
use Rattle.codes.specs.{head_of, tail_of, null_of, shifted_code, foreign}
use Rattle.decoding.specs.Words.{constant_sort, param_sort, head_sort, tail_sort, null_sort, head_param_sort, tail_param_sort, null_param_sort, if_sort, if_param_sort, if_null_sort, if_head_sort, call_sort, call_one_sort, call_guard_sort, call_leaves_sort}
use Rattle.decoding.specs.Words.{sort_of, is_leaf, param_of, callee_of, count_of, places_of, constant_of, first_place, second_place, third_place, functions_from, stride, first_in, held_in, values_in, lowest_in}

-- ---- Functions

-- digits and radices are below this one
abbrev pub digit_bound : ℕ
digit_bound = 65536

-- the words of function g: its own, and that of parameter i
abbrev pub function_at : List ℕ → ℕ → ℕ
function_at words g = get_or words (functions_from + stride * g) 0

abbrev pub param_at : List ℕ → ℕ → ℕ → ℕ
param_at words g i = get_or words (functions_from + stride * g + 1 + i) 0

-- numbers of configurations are cut to be below this one; those of a table that is lent are
abbrev pub bound : ℕ
bound = 4294967296

abbrev pub next_index : ℕ → ℕ → ℕ → ℕ
next_index index radix digit = index % bound * radix + digit

-- what comes of it is below this one
abbrev pub most_index : ℕ
most_index = 562949953421312

-- the digit of a value, which comes after all digits where the value is foreign to its kind: below the lowest it wraps round
abbrev pub Digit : ℕ → ℕ → ℕ → Type 0
Digit kind c digit =
    (leb (values_in kind) digit ≡ foreign (lowest_in kind) (values_in kind) c)
    × (lowest_in kind ≤ c → digit ≡ c - lowest_in kind)
    × ((digit + lowest_in kind) % 2 ^ 64 ≡ c)

-- the number of what the table holds for a configuration, by the function's word
unfoldable pub lookup_by : ℕ → List ℕ → ℕ → ℕ
lookup_by function table index = held_in function (get_or table (first_in function + index) 0)

-- the number of a configuration with one argument's digit more; none where the argument is none of its parameter's values
abbrev pub passed_by : ℕ → ℕ → ℕ → Option ℕ
passed_by kind index value =
    cond (foreign (lowest_in kind) (values_in kind) value) None (Some (next_index index (values_in kind) (value - lowest_in kind)))

-- ---- Nodes

-- so many arguments, from argument i on, whose places stand in `rest`, and then the look-up
unfoldable pub args_in : List ℕ → List ℕ → (ℕ → ℕ) → ℕ → ℕ → ℕ → ℕ → ℕ → ℕ
args_in words table eval g zero i index rest = lookup_by (function_at words g) table index
args_in words table eval g (suc left) i index rest =
    let kind = param_at words g i in
    let value = eval (rest % 4096) in
    cond (foreign (lowest_in kind) (values_in kind) value) value
    (args_in words table eval g left (i + 1) (next_index index (values_in kind) (value - lowest_in kind)) (rest / 4096))

abbrev pub branch_by : (ℕ → ℕ) → ℕ → ℕ → ℕ
branch_by eval w chosen = cond (eqb chosen true_code) (eval (second_place w)) (cond (eqb chosen false_code) (eval (third_place w)) chosen)

-- the word of the branch chosen; none where the condition's outcome is that of the if
abbrev pub branch_word : List ℕ → ℕ → ℕ → Option ℕ
branch_word words w chosen =
    cond (eqb chosen true_code) (Some (get_or words (second_place w) 0))
    (cond (eqb chosen false_code) (Some (get_or words (third_place w) 0)) None)

abbrev pub call_by : List ℕ → List ℕ → (ℕ → ℕ) → ℕ → ℕ → ℕ
call_by words table eval w count = args_in words table eval (callee_of w) count 0 0 (places_of w)

abbrev pub param_in : List ℕ → ℕ → ℕ
param_in env w = get_or env (param_of w) 0

-- the working number of what a call gave, by the sort of its word
abbrev pub working_by : ℕ → ℕ → ℕ
working_by sort number = cond (eqb sort call_guard_sort) (shifted_code number) number

-- a leaf: tl of a parameter, a parameter, its hd or a constant; other words are taken as constants
unfoldable pub leaf_by : List ℕ → List ℕ → ℕ → ℕ
leaf_by traces env w =
    cond (eqb (sort_of w) tail_param_sort) (tail_of (param_in env w))
    (cond (eqb (sort_of w) param_sort) (param_in env w)
    (cond (eqb (sort_of w) head_param_sort) (head_of traces env (param_in env w))
    (constant_of w)))

-- and none for words that are no leaves
abbrev pub leaf_of : List ℕ → List ℕ → ℕ → Option ℕ
leaf_of traces env w = cond (is_leaf w) (Some (leaf_by traces env w)) None

-- the same in two: the leaves that name a parameter, and the constants
abbrev pub param_leaf_of : List ℕ → List ℕ → ℕ → Option ℕ
param_leaf_of traces env w = cond (eqb (sort_of w) constant_sort) None (leaf_of traces env w)

abbrev pub constant_leaf_of : ℕ → Option ℕ
constant_leaf_of w = cond (eqb (sort_of w) constant_sort) (Some (constant_of w)) None

-- and the leaf at a place
abbrev pub leaf_at : List ℕ → List ℕ → List ℕ → ℕ → ℕ
leaf_at words traces env place = leaf_by traces env (get_or words place 0)

-- a word of a sort; eval gives the outcome of the word at a place
abbrev pub sort_by : List ℕ → List ℕ → List ℕ → List ℕ → (ℕ → ℕ) → ℕ → ℕ → ℕ
sort_by words traces table env eval w sort =
    cond (eqb sort constant_sort) (constant_of w)
    (cond (eqb sort param_sort) (param_in env w)
    (cond (eqb sort head_sort) (head_of traces env (eval (first_place w)))
    (cond (eqb sort tail_sort) (tail_of (eval (first_place w)))
    (cond (eqb sort null_sort) (null_of (eval (first_place w)))
    (cond (eqb sort head_param_sort) (head_of traces env (param_in env w))
    (cond (eqb sort tail_param_sort) (tail_of (param_in env w))
    (cond (eqb sort null_param_sort) (null_of (param_in env w))
    (cond (eqb sort if_sort) (branch_by eval w (eval (first_place w)))
    (cond (eqb sort if_param_sort) (branch_by eval w (param_in env w))
    (cond (eqb sort if_null_sort) (branch_by eval w (null_of (param_in env w)))
    (cond (eqb sort if_head_sort) (branch_by eval w (head_of traces env (param_in env w)))
    (cond (eqb sort call_sort) (call_by words table eval w (count_of w))
    (cond (eqb sort call_one_sort) (call_by words table eval w 1)
    (cond (eqb sort call_guard_sort) (shifted_code (call_by words table eval w (count_of w)))
    (cond (eqb sort call_leaves_sort) (call_by words table (leaf_at words traces env) w (count_of w))
    undecided_code)))))))))))))))

-- the number of the outcome of a word, with so much depth left; undecided where there is none
unfoldable pub eval_word : List ℕ → List ℕ → List ℕ → List ℕ → ℕ → ℕ → ℕ
eval_word words traces table env zero w = undecided_code
eval_word words traces table env (suc d) w =
    sort_by words traces table env (λ (place : ℕ). eval_word words traces table env d (get_or words place 0)) w (sort_of w)

-- and of the word at a place
abbrev pub eval_at : List ℕ → List ℕ → List ℕ → List ℕ → ℕ → ℕ → ℕ
eval_at words traces table env d place = eval_word words traces table env d (get_or words place 0)

unfoldable pub branch_at : List ℕ → List ℕ → List ℕ → List ℕ → ℕ → ℕ → ℕ → ℕ
branch_at words traces table env d w chosen = branch_by (eval_at words traces table env d) w chosen

unfoldable pub call_at : List ℕ → List ℕ → List ℕ → List ℕ → ℕ → ℕ → ℕ
call_at words traces table env d w = call_by words table (eval_at words traces table env d) w (count_of w)

unfoldable pub call_one_at : List ℕ → List ℕ → List ℕ → List ℕ → ℕ → ℕ → ℕ
call_one_at words traces table env d w = call_by words table (eval_at words traces table env d) w 1

-- a call of one argument, by the argument's value
unfoldable pub call_with_at : List ℕ → List ℕ → ℕ → ℕ → ℕ
call_with_at words table w value = call_by words table (λ (place : ℕ). value) w 1

unfoldable pub call_leaves_at : List ℕ → List ℕ → List ℕ → List ℕ → ℕ → ℕ
call_leaves_at words traces table env w = call_by words table (leaf_at words traces env) w (count_of w)
