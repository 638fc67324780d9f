-- 'Rules that need no table' of document 02: 'such rules should be decided by following the calls from main, with no table lent'.
use Rattle.std.specs.Prelude.{ℕ, zero, suc, true, false, List, [], ◌∷◌}
use Rattle.std.proofs.Math.Option.{Option, none, some}
use Rattle.std.proofs.Math.ListN.{get_elem?}
use Rattle.semantics.specs.declared.Sort.{Sort}
use Rattle.semantics.specs.declared.Outcome.{Outcome}
use Rattle.semantics.specs.declared.Outcome.TheVariants.{Failed}
use Rattle.semantics.specs.declared.Decision.TheVariants.{Forever, Decided}
use Rattle.semantics.specs.Language.{Expr, constant, empty, param, op, ifte, call, Function, Program, Traces, Value, bit, suffix, whole_traces}
use Rattle.semantics.specs.Numbering.{cells}
use Rattle.semantics.specs.Bodies.{Calls, with_value, with_values, body_outcome, args_outcome}
use Rattle.semantics.specs.Verdicts.{verdict_number}
use Rattle.chains.specs.declared.Followed.{Followed}

-- what taking a body comes to: an outcome, or a call of a function on the values of its arguments
pub data Turn : Type 0 where
  ends : Outcome → Turn
  calls : ℕ → List Value → Turn

-- no call is looked up: none stands in a condition, operand or argument
abbrev pub no_table : Calls
no_table g vs = none

abbrev pub ends_with : Option Outcome → Option Turn
ends_with none = none
ends_with (some o) = some (ends o)

abbrev pub chosen_turn : Option Turn → Option Turn → Value → Option Turn
chosen_turn a b (bit true) = a
chosen_turn a b (bit false) = b
chosen_turn a b (suffix c k) = none

-- an expression in a place where calls may stand. An error in a condition or an argument is the outcome; 'a call counts once all its
-- arguments have values'
unfoldable pub turn_of : Traces → List Value → Expr → Option Turn
turn_of t env (constant b) = ends_with (body_outcome t no_table env (constant b))
turn_of t env (empty c) = ends_with (body_outcome t no_table env (empty c))
turn_of t env (param i) = ends_with (body_outcome t no_table env (param i))
turn_of t env (op p e) = ends_with (body_outcome t no_table env (op p e))
turn_of t env (ifte c a b) =
    with_value (λ x. ends (Failed x)) (body_outcome t no_table env c) (chosen_turn (turn_of t env a) (turn_of t env b))
turn_of t env (call g xs) = with_values (λ x. ends (Failed x)) (args_outcome t no_table env xs) (λ vs. some (calls g vs))

-- the body of a function
abbrev pub turn_in : Traces → Option Function → List Value → Option Turn
turn_in t none vs = none
turn_in t (some f) vs = turn_of t vs f.body

-- after so many calls: an outcome ends them, and a call is followed
abbrev pub on_turn : ℕ → (ℕ → List Value → Followed) → Option Turn → Followed
on_turn made go none = record { decision = Forever; calls = made }
on_turn made go (some (ends o)) = record { decision = Decided o; calls = made }
on_turn made go (some (calls g vs)) = go g vs

-- function g on given values, after so many calls and with so many left: with none left it is 'forever', and the body is not taken
unfoldable pub follow_from : Program → Traces → ℕ → ℕ → ℕ → List Value → Followed
follow_from P t zero made g vs = record { decision = Forever; calls = made }
follow_from P t (suc left) made g vs = on_turn made (follow_from P t left (suc made)) (turn_in t (get_elem? P g) vs)

-- from main on the whole trace or traces: 'forever is answered when as many calls were made as there are configurations'
unfoldable pub followed : Sort → Program → Traces → Followed
followed s P t = follow_from P t (cells t P) 0 0 (whole_traces s t)

-- what is told, in numbers: the verdict's, and 'the calls made'
abbrev pub followed_values : Followed → List ℕ
followed_values r = verdict_number r.decision ∷ r.calls ∷ []
