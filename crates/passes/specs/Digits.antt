-- Document 02, request 04: the parameter values of the cell that a pass comes to, kept as digits in an array.
use Rattle.std.specs.Prelude.{ℕ, ◌+◌, ◌-◌, ◌/◌, ◌%◌, ◌<◌, ◌≤◌, ◌≡◌, false, cond, List, [], ◌∷◌, ◌++◌, leb, length, get_or, set, drop, replicate}
use Rattle.semantics.specs.declared.Kind.{Kind}
use Rattle.semantics.specs.Language.{Traces, Value, given}
use Rattle.semantics.specs.Numbering.{size, values_at}
use Rattle.syntax.specs.Limits.{most_params}
use Rattle.syntax.specs.Kinds.{kind_in}
use Rattle.rule.specs.Reading.{kinds_from}
use Rattle.codes.specs.declared.Lengths.{Lengths}
use Rattle.codes.specs.{working_of, ram_offset, guard_offset, radix_of, lowest_code}

-- the kinds of so many parameters, by the signature of their function: the kinds byte, and above it the guard byte
abbrev pub kinds_of : ℕ → ℕ → List Kind
kinds_of signature count = kinds_from (signature % 256) (signature / 256) 0 count

-- traces of such lengths: how many values a kind has hangs on these alone
abbrev pub traces_long : Lengths → Traces
traces_long n = record { of_ram = replicate n.ram false; of_guard = replicate n.guard false }

-- how many configurations a function has, and the values that the number of one stands for
abbrev pub configurations : ℕ → ℕ → Lengths → ℕ
configurations signature count n = size (traces_long n) (kinds_of signature count)

abbrev pub values_of : ℕ → ℕ → Lengths → ℕ → List Value
values_of signature count n index = values_at (traces_long n) (kinds_of signature count) index

-- ---- Digits in an array

-- the digits of values are their working numbers
abbrev pub digits_of : List Value → List ℕ
digits_of [] = []
digits_of (v ∷ vs) = working_of (given v) ∷ digits_of vs

-- what stands after the values: the origins of places
abbrev pub origins : Lengths → List ℕ
origins n = (n.ram + ram_offset) ∷ (n.guard + guard_offset) ∷ []

abbrev pub blank : Lengths → List ℕ
blank n = 0 ∷ 0 ∷ 0 ∷ 0 ∷ origins n

-- the array of values: 0 for an absent parameter, and at 4 and 5 the origins
abbrev pub env_of : Lengths → List Value → List ℕ
env_of n vs = digits_of vs ++ drop (length vs) (blank n)

-- the array of four digits
abbrev pub array_of : List ℕ → Lengths → List ℕ
array_of digits n = get_or digits 0 0 ∷ get_or digits 1 0 ∷ get_or digits 2 0 ∷ get_or digits 3 0 ∷ origins n

-- the first and the last digit of each parameter; 0 for an absent one
abbrev pub first_value : ℕ → ℕ → ℕ → ℕ
first_value signature count i = cond (leb count i) 0 (lowest_code (kind_in signature i))

abbrev pub firsts_of : ℕ → ℕ → List ℕ
firsts_of signature count = first_value signature count 0 ∷ first_value signature count 1 ∷ first_value signature count 2 ∷ first_value signature count 3 ∷ []

abbrev pub last_value : ℕ → ℕ → Lengths → ℕ → ℕ
last_value signature count n i = cond (leb count i) 0 (lowest_code (kind_in signature i) + radix_of (kind_in signature i) n - 1)

abbrev pub lasts_of : ℕ → ℕ → Lengths → List ℕ
lasts_of signature count n =
    last_value signature count n 0 ∷ last_value signature count n 1 ∷ last_value signature count n 2 ∷ last_value signature count n 3 ∷ []

-- ---- From cell to cell

-- A pass has come to configuration `index` of a function: `env`, with `digit` in the last parameter's place, has the values that this number
-- stands for.
pub record AtCell (signature count : ℕ) (n : Lengths) (index : ℕ) (env : List ℕ) (digit : ℕ) : Type 0 where
  pub inside : index < configurations signature count n
  pub values : set env (count - 1) digit ≡ env_of n (values_of signature count n index)

-- The step from a cell to the next: what were the values of a cell are those of the next, if there is one. It holds of every function whose
-- parameters have these first and last values.
abbrev pub StepsCells : List ℕ → List ℕ → ℕ → List ℕ → ℕ → List ℕ → ℕ → Type 0
StepsCells firsts lasts slot env digit env' digit' =
    (signature count : ℕ) (n : Lengths) (index : ℕ) → count ≤ most_params
    → firsts ≡ firsts_of signature count → lasts ≡ lasts_of signature count n → slot ≡ count - 1
    → AtCell signature count n index env digit → index + 1 < configurations signature count n
    → AtCell signature count n (index + 1) env' digit'
