-- A mirror of the code: calls followed over the words of a program, outcomes as their numbers. No reader need believe it: proofs/ shows
-- that it comes to what the rules say.
use Rattle.std.specs.Prelude.{ℕ, zero, suc, ◌+◌, ◌/◌, ◌%◌, ◌<◌, ◌≡◌, Bool, true, false, cond, List, [], ◌∷◌, ltb, eqb, length, get_or, set, Result, Ok, Err}
use Rattle.refusal.specs.declared.Refusal.TheVariants.{CallElsewhere}
use Rattle.refusal.specs.{Check}
use Rattle.rule.specs.declared.Outline.{Outline}
use Rattle.loops.specs.{loops_by}
use Rattle.semantics.specs.Cells.{undecided_code, false_code, true_code, head_code, tail_code, suffix_code}
use Rattle.syntax.specs.Limits.{most_depth}
use Rattle.codes.specs.declared.Lengths.{Lengths}
use Rattle.codes.specs.{head_of, null_of, guard_code, ram_offset, guard_offset}
use Rattle.decoding.specs.Words.{if_sort, if_param_sort, if_null_sort, if_head_sort, call_sort, call_one_sort, sort_of, callee_of, count_of, places_of, first_place, second_place, third_place}
use Rattle.decoding.specs.Decoding.{constant_by}
use Rattle.evaluator.specs.{param_in, eval_word, eval_at}
use Rattle.passes.specs.Mirror.{body_at}
use Rattle.follow.specs.declared.run.Ran.{Ran}

-- ---- Nodes

-- a number that is that of an error
abbrev pub failing : ℕ → Bool
failing c = cond (eqb c head_code) true (eqb c tail_code)

-- what a number tells: a value, or the number of an error
abbrev pub value_told : ℕ → Result ℕ ℕ
value_told c = cond (failing c) (Err c) (Ok c)

-- the same of all arguments of a call, whose values are elsewhere
abbrev pub args_told : ℕ → Result (Unit {0}) ℕ
args_told c = cond (eqb c undecided_code) (Ok tt) (Err c)

abbrev pub is_if : ℕ → Bool
is_if sort = cond (ltb sort if_sort) false (ltb sort call_sort)

-- what the condition of an if gives, by the if's word
unfoldable pub condition_by : List ℕ → List ℕ → List ℕ → List ℕ → ℕ → ℕ
condition_by words traces table env w =
    cond (eqb (sort_of w) if_null_sort) (null_of (param_in env w))
    (cond (eqb (sort_of w) if_head_sort) (head_of traces env (param_in env w))
    (cond (eqb (sort_of w) if_param_sort) (param_in env w)
    (eval_at words traces table env most_depth (first_place w))))

-- the word of the branch that an outcome chooses; a constant where it chooses none
unfoldable pub branch_word : List ℕ → ℕ → ℕ → ℕ
branch_word words w c =
    cond (eqb c true_code) (get_or words (second_place w) 0) (cond (eqb c false_code) (get_or words (third_place w) 0) (constant_by c))

-- the word that another comes to along ifs, with so much depth left
unfoldable pub spine_of : List ℕ → List ℕ → List ℕ → List ℕ → ℕ → ℕ → ℕ
spine_of words traces table env zero w = constant_by undecided_code
spine_of words traces table env (suc d) w =
    cond (is_if (sort_of w)) (spine_of words traces table env d (branch_word words w (condition_by words traces table env w))) w

-- ---- Arguments

-- the argument at the first of some places, if there is one; eval gives the outcome of the word at a place
unfoldable pub arg_by : (ℕ → ℕ) → Bool → ℕ → ℕ
arg_by eval there rest = cond there (eval (rest % 4096)) undecided_code

-- argument i of so many
abbrev pub arg_in : (ℕ → ℕ) → ℕ → ℕ → ℕ → ℕ
arg_in eval count i rest = arg_by eval (ltb i count) rest

-- so many places of arguments from argument i on: the number of the first error, undecided where there is none
unfoldable pub args_stop : (ℕ → ℕ) → ℕ → ℕ → ℕ → ℕ → ℕ
args_stop eval count zero i rest = undecided_code
args_stop eval count (suc k) i rest =
    cond (failing (arg_in eval count i rest)) (arg_in eval count i rest) (args_stop eval count k (i + 1) (rest / 4096))

-- their values put into an array
unfoldable pub args_put : (ℕ → ℕ) → ℕ → ℕ → ℕ → ℕ → List ℕ → List ℕ
args_put eval count zero i rest next = next
args_put eval count (suc k) i rest next = args_put eval count k (i + 1) (rest / 4096) (set next i (arg_in eval count i rest))

-- what is left in it: the values where none is an error
unfoldable pub args_left : (ℕ → ℕ) → ℕ → ℕ → ℕ → List ℕ → List ℕ
args_left eval count k rest env = cond (eqb (args_stop eval count k 0 rest) undecided_code) (args_put eval count k 0 rest env) env

-- how many arguments a call has, by its word, and how many places of them are looked at
abbrev pub arg_count : ℕ → ℕ
arg_count w = cond (eqb (sort_of w) call_one_sort) 1 (count_of w)

abbrev pub arg_places : ℕ → ℕ
arg_places w = cond (eqb (sort_of w) call_one_sort) 1 4

unfoldable pub args_stop_at : List ℕ → List ℕ → List ℕ → List ℕ → ℕ → ℕ
args_stop_at words traces table env w = args_stop (eval_at words traces table env most_depth) (arg_count w) (arg_places w) 0 (places_of w)

unfoldable pub args_left_at : List ℕ → List ℕ → List ℕ → List ℕ → ℕ → List ℕ
args_left_at words traces table env w = args_left (eval_at words traces table env most_depth) (arg_count w) (arg_places w) (places_of w) env

-- ---- Calls

-- an array of the words of bodies, of which the first so many are there, by the places where they start
pub record BodiesUpto (words starts : List ℕ) (count : ℕ) (bodies : List ℕ) : Type 0 where
  pub long : length bodies ≡ 32
  pub each : (g : ℕ) → g < count → get_or bodies g 0 ≡ body_at words (get_or starts g 0)

-- with so many calls left after so many made
unfoldable pub run_from : List ℕ → List ℕ → List ℕ → List ℕ → ℕ → ℕ → List ℕ → ℕ → Ran
run_from words traces table bodies zero made env body = record { outcome = undecided_code; calls = made }
run_from words traces table bodies (suc left) made env body =
    let w = spine_of words traces table env most_depth body in
    cond (ltb (sort_of w) call_sort) (record { outcome = eval_word words traces table env most_depth w; calls = made })
    (cond (eqb (args_stop_at words traces table env w) undecided_code)
    (run_from words traces table bodies left (made + 1) (args_left_at words traces table env w) (get_or bodies (callee_of w) 0))
    (record { outcome = args_stop_at words traces table env w; calls = made }))

-- ---- The whole

-- the values of main's parameters: the whole traces, and the origins of places
abbrev pub whole_values : Lengths → List ℕ
whole_values n = (n.ram + suffix_code) ∷ (n.guard + guard_code) ∷ 0 ∷ 0 ∷ (n.ram + ram_offset) ∷ (n.guard + guard_offset) ∷ []

-- the whole check of following, by that of an evaluation with room for all cells that there can be; the code asks its parts one by one
unfoldable pub check_by : List ℕ → Check → Outline → Check
check_by bytes c outline = cond (eqb outline.functions 0) c (cond (loops_by bytes outline) c (Err CallElsewhere))
