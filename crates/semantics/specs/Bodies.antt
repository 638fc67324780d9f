-- The outcome of a body with its calls looked up, in whatever holds outcomes.
use Rattle.std.specs.Prelude.{ℕ, zero, true, false, List, [], ◌∷◌}
use Rattle.std.proofs.Math.Option.{Option, none, some}
use Rattle.std.proofs.Math.ListN.{get_elem?}
use Rattle.semantics.specs.declared.Error.{Error}
use Rattle.semantics.specs.declared.Outcome.{Outcome}
use Rattle.semantics.specs.declared.Outcome.TheVariants.{Truth, Suffix, Failed}
use Rattle.semantics.specs.Language.{Op, Expr, constant, empty, param, op, ifte, call, Args, no_args, arg, Traces, Value, bit, suffix, given}
use Rattle.semantics.specs.Rules.{applied, Arguments, values, failed}

-- calls looked up: the outcome of a function on given values, or none where it is undecided
abbrev pub Calls : Type 0
Calls = ℕ → List Value → Option Outcome

-- go on with a value; 'an error in an operand, condition or argument is the outcome of the whole'; what is
-- undecided leaves its user undecided
abbrev pub with_value : {A : Type 0} → (Error → A) → Option Outcome → (Value → Option A) → Option A
with_value e none k = none
with_value e (some (Truth b)) k = k (bit b)
with_value e (some (Suffix c n)) k = k (suffix c n)
with_value e (some (Failed x)) k = some (e x)

abbrev pub with_values : {A : Type 0} → (Error → A) → Option Arguments → (List Value → Option A) → Option A
with_values e none k = none
with_values e (some (values vs)) k = k vs
with_values e (some (failed x)) k = some (e x)

abbrev pub operated : Traces → Op → Value → Option Outcome
operated t p (bit b) = none
operated t p (suffix c k) = some (applied t p c k)

abbrev pub chosen : Option Outcome → Option Outcome → Value → Option Outcome
chosen a b (bit true) = a
chosen a b (bit false) = b
chosen a b (suffix c k) = none

abbrev pub param_value : Option Value → Option Outcome
param_value none = none
param_value (some v) = some (given v)

unfoldable mutual
  pub body_outcome : Traces → Calls → List Value → Expr → Option Outcome
  body_outcome t calls env (constant b) = some (Truth b)
  body_outcome t calls env (empty c) = some (Suffix c zero)
  body_outcome t calls env (param i) = param_value (get_elem? env i)
  body_outcome t calls env (op p e) = with_value Failed (body_outcome t calls env e) (operated t p)
  body_outcome t calls env (ifte c a b) =
      with_value Failed (body_outcome t calls env c) (chosen (body_outcome t calls env a) (body_outcome t calls env b))
  body_outcome t calls env (call g xs) = with_values Failed (args_outcome t calls env xs) (calls g)

  pub args_outcome : Traces → Calls → List Value → Args → Option Arguments
  args_outcome t calls env no_args = some (values [])
  args_outcome t calls env (arg e xs) =
      with_value failed (body_outcome t calls env e)
      (λ v. with_values failed (args_outcome t calls env xs) (λ vs. some (values (v ∷ vs))))
