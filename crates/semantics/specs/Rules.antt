-- 'Evaluation' of document 01: the rules, each a constructor. A derivation is a finite tree of them, of
-- whatever height. Program and traces alone decide which derivations exist.
use Rattle.std.specs.Prelude.{ℕ, zero, suc, ◌-◌, ◌≡◌, Bool, true, false, List, [], ◌∷◌, length, get_or}
use Rattle.std.proofs.Math.Option.{some}
use Rattle.std.proofs.Math.ListN.{get_elem?}
use Rattle.semantics.specs.declared.Contact.{Contact}
use Rattle.semantics.specs.declared.Error.{Error}
use Rattle.semantics.specs.declared.Error.TheVariants.{Head, Tail}
use Rattle.semantics.specs.declared.Outcome.{Outcome}
use Rattle.semantics.specs.declared.Outcome.TheVariants.{Truth, Suffix, Failed}
use Rattle.semantics.specs.Language.{Op, hd, tl, null, Expr, constant, empty, param, op, ifte, call, Args, no_args, arg, Function, Program, Traces, trace_of, Value, given}

-- hd, tl and null of a suffix of length k; 'hd of length k ≥ 1 is sample n - k; tl is length k - 1; null is
-- True exactly for k = 0. For k = 0, hd gives head of empty and tl tail of empty'; c says of which trace it is
abbrev pub applied : Traces → Op → Contact → ℕ → Outcome
applied t hd c zero = Failed Head
applied t hd c (suc k) = Truth (get_or (trace_of t c) (length (trace_of t c) - suc k) false)
applied t tl c zero = Failed Tail
applied t tl c (suc k) = Suffix c k
applied t null c zero = Truth true
applied t null c (suc k) = Truth false

-- what the arguments of a call give: their values, or the error that ended them
pub data Arguments : Type 0 where
  values : List Value → Arguments
  failed : Error → Arguments

mutual
  -- `Derives P t env e o`: the expression e, on the parameter values env, gives the outcome o
  pub data Derives (P : Program) (t : Traces) : List Value → Expr → Outcome → Type 0 where
    -- 'constants and parameters have their value'
    r_constant : {env : List Value} {b : Bool} → Derives P t env (constant b) (Truth b)
    r_empty : {env : List Value} {c : Contact} → Derives P t env (empty c) (Suffix c zero)
    r_param : {env : List Value} {i : ℕ} {v : Value} → get_elem? env i ≡ some v → Derives P t env (param i) (given v)
    -- hd, tl and null; an error in the operand is the outcome of the whole
    r_op : {env : List Value} {p : Op} {e : Expr} {c : Contact} {k : ℕ}
        → Derives P t env e (Suffix c k) → Derives P t env (op p e) (applied t p c k)
    r_op_error : {env : List Value} {p : Op} {e : Expr} {x : Error} → Derives P t env e (Failed x) → Derives P t env (op p e) (Failed x)
    -- 'if takes the condition's outcome, then only the chosen branch'
    r_then : {env : List Value} {c a b : Expr} {o : Outcome} → Derives P t env c (Truth true) → Derives P t env a o → Derives P t env (ifte c a b) o
    r_else : {env : List Value} {c a b : Expr} {o : Outcome} → Derives P t env c (Truth false) → Derives P t env b o → Derives P t env (ifte c a b) o
    r_if_error : {env : List Value} {c a b : Expr} {x : Error} → Derives P t env c (Failed x) → Derives P t env (ifte c a b) (Failed x)
    -- 'a call takes its arguments left to right, then the callee's body on them, used or not'
    r_call : {env : List Value} {g : ℕ} {xs : Args} {vs : List Value} {f : Function} {o : Outcome}
        → DerivesAll P t env xs (values vs) → get_elem? P g ≡ some f → Derives P t vs f.body o → Derives P t env (call g xs) o
    r_call_error : {env : List Value} {g : ℕ} {xs : Args} {x : Error} → DerivesAll P t env xs (failed x) → Derives P t env (call g xs) (Failed x)

  -- the arguments, left to right; after an error nothing is taken
  pub data DerivesAll (P : Program) (t : Traces) : List Value → Args → Arguments → Type 0 where
    r_none : {env : List Value} → DerivesAll P t env no_args (values [])
    r_arg : {env : List Value} {e : Expr} {xs : Args} {v : Value} {vs : List Value}
        → Derives P t env e (given v) → DerivesAll P t env xs (values vs) → DerivesAll P t env (arg e xs) (values (v ∷ vs))
    r_arg_error : {env : List Value} {e : Expr} {xs : Args} {x : Error} → Derives P t env e (Failed x) → DerivesAll P t env (arg e xs) (failed x)
    r_later_error : {env : List Value} {e : Expr} {xs : Args} (v : Value) {x : Error}
        → Derives P t env e (given v) → DerivesAll P t env xs (failed x) → DerivesAll P t env (arg e xs) (failed x)
