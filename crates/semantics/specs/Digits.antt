-- Document 02, request 04: the parameter values of a configuration as 'running digits', which step to those of the next.
use Rattle.std.specs.Prelude.{◌+◌, cond, List, [], ◌∷◌, ltb}
use Rattle.std.proofs.Math.Option.{Option, none, some}
use Rattle.semantics.specs.declared.Kind.{Kind}
use Rattle.semantics.specs.Language.{Traces, Value}
use Rattle.semantics.specs.Numbering.{kind_size, digit_of, value_at}

-- every digit at its kind's first value
abbrev pub first_values : List Kind → List Value
first_values [] = []
first_values (κ ∷ κs) = value_at κ 0 ∷ first_values κs

-- a digit before others: it stays where these could step, and goes up by one where all of them had reached their last values
abbrev pub carried_to : Traces → Kind → List Kind → Value → Option (List Value) → Option (List Value)
carried_to t κ κs v (some vs) = some (v ∷ vs)
carried_to t κ κs v none =
    cond (ltb (digit_of v + 1) (kind_size t κ))
    (some (value_at κ (digit_of v + 1) ∷ first_values κs))
    none

-- the last digit up by one, with a carry to the left where it has reached its kind's last value; none after the last configuration
abbrev pub next_values : Traces → List Kind → List Value → Option (List Value)
next_values t [] vs = none
next_values t (κ ∷ κs) [] = none
next_values t (κ ∷ κs) (v ∷ vs) = carried_to t κ κs v (next_values t κs vs)
