-- A mirror of the code: outcomes as their numbers, bodies by their decoded words, functions by an array of first cells,
-- signatures and counts. No reader need believe it: proofs/ shows that it comes to what the rules say.
use Rattle.std.specs.Prelude.{ℕ, zero, suc, ◌+◌, ◌-◌, ◌*◌, ◌%◌, ◌<◌, ◌≤◌, min, ◌≡◌, Bool, ◌&&◌, cond, List, ◌++◌, ltb, leb, eqb, length, get_or, set, take, drop, replicate}
use Rattle.trace.specs.{most_samples}
use Rattle.semantics.specs.Cells.{undecided_code}
use Rattle.codes.specs.declared.Lengths.{Lengths}
use Rattle.codes.specs.{most_trace_bytes, Short, radix_of, cell_code}
use Rattle.syntax.specs.Limits.{most_functions, most_bytes, most_depth}
use Rattle.syntax.specs.Kinds.{signature_of, kind_in}
use Rattle.rule.specs.declared.Outline.{Outline}
use Rattle.rule.specs.Form.{padded}
use Rattle.rule.specs.Walk.{at_most_four}
use Rattle.decoding.specs.Words.{held_in}
use Rattle.decoding.specs.Decoding.{signature_in}
use Rattle.evaluator.specs.{function_at, eval_word}
use Rattle.passes.specs.Digits.{values_of, env_of, firsts_of, lasts_of}

-- ---- Configurations

-- the most values of a kind: a list of each length
abbrev pub most_values : ℕ
most_values = suc most_samples

-- the most configurations of a function: most_values ^ 4
abbrev pub most_configurations : ℕ
most_configurations = 281474976710656

-- whether traces can have such lengths
abbrev pub short : Lengths → Bool
short n = leb n.ram most_samples && leb n.guard most_samples

-- lengths cut to such
abbrev pub shortened : Lengths → Lengths
shortened n = record { ram = min n.ram most_samples; guard = min n.guard most_samples }

-- how many configurations so many parameters have, from parameter i on
unfoldable pub size_from : ℕ → Lengths → ℕ → ℕ → ℕ
size_from signature n i zero = 1
size_from signature n i (suc left) = radix_of (kind_in signature i) n * size_from signature n (i + 1) left

-- the values of so many parameters stepped as digits, by the first and the last value of each: the last digit goes up by one,
-- with a carry to the left where it has reached its last value
unfoldable pub stepped : List ℕ → List ℕ → ℕ → List ℕ → List ℕ
stepped firsts lasts zero env = env
stepped firsts lasts (suc i) env =
    cond (ltb (get_or env i 0) (get_or lasts i 0)) (set env i (get_or env i 0 + 1))
    (stepped firsts lasts i (set env i (get_or firsts i 0)))

-- ---- The arrays of an evaluation

-- what an evaluation does not change: words, functions and the bytes of both traces
pub record Setup : Type 0 where
  pub words : List ℕ
  pub functions : List ℕ
  pub traces : List ℕ

abbrev pub setup : List ℕ → List ℕ → List ℕ → Setup
setup words functions traces = record { words = words; functions = functions; traces = traces }

abbrev pub first_of : List ℕ → ℕ → ℕ
first_of functions g = get_or functions g 0

abbrev pub count_of : List ℕ → ℕ → ℕ
count_of functions g = at_most_four (get_or functions (64 + g) 0 % 256)

-- the word of the body that starts at a place
abbrev pub body_at : List ℕ → ℕ → ℕ
body_at words start = get_or words (start % most_bytes) 0

-- ---- Cells and passes

abbrev pub size_of : List ℕ → Lengths → ℕ → ℕ
size_of functions n g = size_from (signature_in functions g) n 0 (count_of functions g)

-- the place of the last parameter; 0 where there is none
abbrev pub last_of : List ℕ → ℕ → ℕ
last_of functions g = count_of functions g - 1

-- the first and the last value of the last parameter, and how many it has
abbrev pub low_of : List ℕ → ℕ → ℕ
low_of functions g = get_or (firsts_of (signature_in functions g) (count_of functions g)) (last_of functions g) 0

abbrev pub high_of : List ℕ → Lengths → ℕ → ℕ
high_of functions n g = get_or (lasts_of (signature_in functions g) (count_of functions g) n) (last_of functions g) 0

abbrev pub width_of : List ℕ → Lengths → ℕ → ℕ
width_of functions n g = high_of functions n g + 1 - low_of functions g

-- the parameter values of configuration `index` of a function
abbrev pub env_at : List ℕ → Lengths → ℕ → ℕ → List ℕ
env_at functions n g index = env_of n (values_of (signature_in functions g) (count_of functions g) n index)

-- the number of the outcome of a configuration's body, with calls looked up in the table
unfoldable pub filled_at : Setup → Lengths → ℕ → ℕ → List ℕ → ℕ → ℕ
filled_at S n g body table index = eval_word S.words S.traces table (env_at S.functions n g index) most_depth body

-- a table with a working number stored in a cell, unless it is that of undecided
abbrev pub put_in : List ℕ → ℕ → ℕ → List ℕ
put_in table cell c = cond (eqb c undecided_code) table (set table cell (cell_code c))

-- what the visit of a configuration stores; undecided for nothing
unfoldable pub stored_at : Setup → Lengths → ℕ → ℕ → List ℕ → ℕ → ℕ
stored_at S n g body table index =
    cond (eqb (held_in (function_at S.words g) (get_or table (first_of S.functions g + index) 0)) undecided_code)
    (filled_at S n g body table index)
    undecided_code

unfoldable pub visit_at : Setup → Lengths → ℕ → ℕ → List ℕ → ℕ → List ℕ
visit_at S n g body table index = put_in table (first_of S.functions g + index) (stored_at S n g body table index)

abbrev pub one_unless : ℕ → ℕ
one_unless c = cond (eqb c undecided_code) 0 1

-- so many configurations of a function, from one on
unfoldable pub visits_from : Setup → Lengths → ℕ → ℕ → ℕ → ℕ → List ℕ → List ℕ
visits_from S n g body base zero table = table
visits_from S n g body base (suc i) table = visit_at S n g body (visits_from S n g body base i table) (base + i)

unfoldable pub stores_from : Setup → Lengths → ℕ → ℕ → ℕ → ℕ → List ℕ → ℕ
stores_from S n g body base zero table = 0
stores_from S n g body base (suc i) table =
    stores_from S n g body base i table + one_unless (stored_at S n g body (visits_from S n g body base i table) (base + i))

-- a function whose cells lie within a table of so many
pub record Ready (functions : List ℕ) (n : Lengths) (g len : ℕ) : Type 0 where
  pub below : g < most_functions
  pub samples : Short n
  pub within : first_of functions g + size_of functions n g ≤ len

-- what is worked out of such a function once in a pass: its word, the place of the last parameter, the first value of that and how many it has
pub record RowReady (words functions : List ℕ) (n : Lengths) (g len function slot low width : ℕ) : Type 0 where
  pub ready : Ready functions n g len
  pub word : function ≡ function_at words g
  pub place : slot ≡ last_of functions g
  pub first : low ≡ low_of functions g
  pub wide : width ≡ width_of functions n g

-- two arrays of values that differ in the last parameter's place at most
abbrev pub SameOthers : ℕ → List ℕ → List ℕ → Type 0
SameOthers slot env env' = (v : ℕ) → set env' slot v ≡ set env slot v

-- whether a function is ready for a table of so many cells
unfoldable pub fits : List ℕ → Lengths → ℕ → ℕ → Bool
fits functions n g len = ltb g most_functions && (short n && leb (first_of functions g + size_of functions n g) len)

-- the first so many functions; one whose cells do not lie within the table is passed over, and so is each from the
-- thirty-third on
unfoldable pub pass_visits : Setup → Lengths → List ℕ → ℕ → List ℕ → List ℕ
pass_visits S n starts zero table = table
pass_visits S n starts (suc g) table =
    let before = pass_visits S n starts g table in
    cond (fits S.functions n g (length table)) (visits_from S n g (body_at S.words (get_or starts g 0)) 0 (size_of S.functions n g) before) before

unfoldable pub pass_counts : Setup → Lengths → List ℕ → ℕ → List ℕ → ℕ
pass_counts S n starts zero table = 0
pass_counts S n starts (suc g) table =
    pass_counts S n starts g table
    + cond (fits S.functions n g (length table))
    (stores_from S n g (body_at S.words (get_or starts g 0)) 0 (size_of S.functions n g) (pass_visits S n starts g table))
    0

-- the first so many cells, as many of them as there are, made undecided
unfoldable pub cleared : ℕ → List ℕ → List ℕ
cleared needed table = replicate (min needed (length table)) undecided_code ++ drop needed table

-- main's cell on the whole traces: the last of function 0
unfoldable pub main_cell_of : List ℕ → Lengths → ℕ
main_cell_of functions n = size_of functions (shortened n) 0 - 1

-- ---- Setting up

-- the bytes of both traces, with zeros after each; those beyond the longest trace are passed over
unfoldable pub traces_of : List ℕ → List ℕ → List ℕ
traces_of ram guard = padded most_trace_bytes 0 (take most_trace_bytes ram) ++ padded most_trace_bytes 0 (take most_trace_bytes guard)

-- what the headers of functions say: kinds bytes, guard bytes and counts of parameters
pub record Heads : Type 0 where
  pub kinds : List ℕ
  pub guards : List ℕ
  pub params : List ℕ

abbrev pub heads : List ℕ → List ℕ → List ℕ → Heads
heads kinds guards params = record { kinds = kinds; guards = guards; params = params }

-- those of an outline
abbrev pub heads_of : Outline → Heads
heads_of o = heads o.kinds o.guards o.params

abbrev pub signature_at : Heads → ℕ → ℕ
signature_at H g = signature_of (get_or H.kinds g 0) (get_or H.guards g 0)

-- the cells of the first so many functions
unfoldable pub total_before : Heads → Lengths → ℕ → ℕ
total_before H n zero = 0
total_before H n (suc g) = total_before H n g + size_from (signature_at H g) n 0 (at_most_four (get_or H.params g 0))

-- the array of functions after the first so many of them: first cells, with signatures and counts beside them
unfoldable pub functions_upto : Heads → Lengths → ℕ → List ℕ
functions_upto H n zero = replicate 96 0
functions_upto H n (suc g) =
    set (set (set (functions_upto H n g) g (total_before H n g)) (32 + g) (signature_at H g)) (64 + g) (get_or H.params g 0)

-- the array of so many functions, and their cells; a count above 32 counts as 32, and lengths above 4,095 as 4,095
unfoldable pub functions_of : Heads → Lengths → ℕ → List ℕ
functions_of H n count = functions_upto H (shortened n) (min count most_functions)

unfoldable pub total_of : Heads → Lengths → ℕ → ℕ
total_of H n count = total_before H (shortened n) (min count most_functions)
