-- 'Table and passes' of document 01: configurations and their numbers.
use Rattle.std.specs.Prelude.{ℕ, zero, suc, ◌+◌, ◌-◌, ◌*◌, ◌/◌, ◌%◌, true, false, cond, List, [], ◌∷◌, length, ltb}
use Rattle.std.proofs.Math.Option.{Option, none, some}
use Rattle.semantics.specs.declared.Kind.{Kind}
use Rattle.semantics.specs.declared.Kind.TheVariants.{Truth as truth, List as list}
use Rattle.semantics.specs.Language.{Function, Program, Traces, trace_of, Value, bit, suffix}

-- how many values a kind has: '2 for Bool, n + 1 for a list', n being the length of the list's trace
abbrev pub kind_size : Traces → Kind → ℕ
kind_size t truth = 2
kind_size t (list c) = suc (length (trace_of t c))

-- the place of a value among those of its kind: 'False before True, shorter before longer'
abbrev pub digit_of : Value → ℕ
digit_of (bit false) = 0
digit_of (bit true) = 1
digit_of (suffix c k) = k

abbrev pub value_at : Kind → ℕ → Value
value_at truth zero = bit false
value_at truth (suc i) = bit true
value_at (list c) k = suffix c k

-- how many configurations a function has, by its parameters' kinds
abbrev pub size : Traces → List Kind → ℕ
size t [] = 1
size t (κ ∷ κs) = kind_size t κ * size t κs

-- the number of a configuration inside its function: 'parameter 0 is the most significant digit'
abbrev pub number : Traces → List Kind → List Value → ℕ
number t [] vs = 0
number t (κ ∷ κs) [] = 0
number t (κ ∷ κs) (v ∷ vs) = digit_of v * size t κs + number t κs vs

-- the parameter values that a number stands for
abbrev pub values_at : Traces → List Kind → ℕ → List Value
values_at t [] i = []
values_at t (κ ∷ κs) i = value_at κ (i / size t κs) ∷ values_at t κs (i % size t κs)

-- how many cells a program needs: one for each configuration
abbrev pub cells : Traces → Program → ℕ
cells t [] = 0
cells t (f ∷ fs) = size t f.params + cells t fs

-- the most cells of a table: 'the lent table or 16,777,216'
abbrev pub most_cells : ℕ
most_cells = 16777216

-- the cell of function g on given values: 'functions come in order'
abbrev pub cell_of : Traces → Program → ℕ → List Value → ℕ
cell_of t [] g vs = 0
cell_of t (f ∷ fs) zero vs = number t f.params vs
cell_of t (f ∷ fs) (suc g) vs = size t f.params + cell_of t fs g vs

-- 'a configuration is a function with a value for each parameter'
pub record Config : Type 0 where
  pub fun : Function
  pub args : List Value

-- the configuration that a cell stands for
abbrev pub config_at : Traces → Program → ℕ → Option Config
config_at t [] c = none
config_at t (f ∷ fs) c =
    cond (ltb c (size t f.params))
    (some (record { fun = f; args = values_at t f.params c }))
    (config_at t fs (c - size t f.params))
