-- Rule induction: what each rule keeps holds of all that is derived.
--   Kept                    a property of outcomes and one of arguments, kept by each rule
--   derived                 the first holds of what is derived
use Prim.Native.Nat.{ℕ, zero}
use mathlib.Core.Path.{◌≡◌}
use mathlib.Core.Bool.{Bool, true, false}
use mathlib.Core.List.{List, [], ◌∷◌}
use mathlib.Core.Option.{some}
use lib.ListN.{get_elem?}
use Rattle.semantics.specs.declared.Contact.{Contact}
use Rattle.semantics.specs.declared.Error.{Error}
use Rattle.semantics.specs.declared.Outcome.{Outcome}
use Rattle.semantics.specs.declared.Outcome.TheVariants.{Truth, Suffix, Failed}
use Rattle.semantics.specs.Language.{Op, Expr, constant, empty, param, op, ifte, call, Args, no_args, arg, Function, Program, Traces, Value, given}
use Rattle.semantics.specs.Rules.{applied, Arguments, values, failed, Derives, r_constant, r_empty, r_param, r_op, r_op_error, r_then, r_else, r_if_error, r_call, r_call_error, r_none, r_arg, r_arg_error, r_later_error}

pub record Kept (P : Program) (t : Traces) (A : List Value → Expr → Outcome → Type 0) (B : List Value → Args → Arguments → Type 0) : Type 0 where
  pub k_constant : {env : List Value} {b : Bool} → A env (constant b) (Truth b)
  pub k_empty : {env : List Value} {c : Contact} → A env (empty c) (Suffix c zero)
  pub k_param : {env : List Value} {i : ℕ} {v : Value} → get_elem? env i ≡ some v → A env (param i) (given v)
  pub k_op : {env : List Value} {p : Op} {e : Expr} {c : Contact} {k : ℕ} → A env e (Suffix c k) → A env (op p e) (applied t p c k)
  pub k_op_error : {env : List Value} {p : Op} {e : Expr} {x : Error} → A env e (Failed x) → A env (op p e) (Failed x)
  pub k_then : {env : List Value} {c a b : Expr} {o : Outcome} → A env c (Truth true) → A env a o → A env (ifte c a b) o
  pub k_else : {env : List Value} {c a b : Expr} {o : Outcome} → A env c (Truth false) → A env b o → A env (ifte c a b) o
  pub k_if_error : {env : List Value} {c a b : Expr} {x : Error} → A env c (Failed x) → A env (ifte c a b) (Failed x)
  pub k_call : {env : List Value} {g : ℕ} {xs : Args} {vs : List Value} {f : Function} {o : Outcome}
      → B env xs (values vs) → get_elem? P g ≡ some f → A vs f.body o → A env (call g xs) o
  pub k_call_error : {env : List Value} {g : ℕ} {xs : Args} {x : Error} → B env xs (failed x) → A env (call g xs) (Failed x)
  pub k_none : {env : List Value} → B env no_args (values [])
  pub k_arg : {env : List Value} {e : Expr} {xs : Args} {v : Value} {vs : List Value} → A env e (given v) → B env xs (values vs)
      → B env (arg e xs) (values (v ∷ vs))
  pub k_arg_error : {env : List Value} {e : Expr} {xs : Args} {x : Error} → A env e (Failed x) → B env (arg e xs) (failed x)
  pub k_later_error : {env : List Value} {e : Expr} {xs : Args} (v : Value) {x : Error} → A env e (given v) → B env xs (failed x)
      → B env (arg e xs) (failed x)

module _ {P : Program} {t : Traces} {A : List Value → Expr → Outcome → Type 0} {B : List Value → Args → Arguments → Type 0} (k : Kept P t A B) where
  pub derived : {env : List Value} {e : Expr} {o : Outcome} → Derives P t env e o → A env e o
  derived d = elim d as (λ env e o _. A env e o) (λ env xs r _. B env xs r) [
    | r_constant ↦ k.k_constant
    | r_empty ↦ k.k_empty
    | r_param h ↦ k.k_param h
    | r_op (d → ih) ↦ k.k_op ih
    | r_op_error (d → ih) ↦ k.k_op_error ih
    | r_then (d → ic) (d' → ia) ↦ k.k_then ic ia
    | r_else (d → ic) (d' → ib) ↦ k.k_else ic ib
    | r_if_error (d → ic) ↦ k.k_if_error ic
    | r_call (d → is) h (d' → ib) ↦ k.k_call is h ib
    | r_call_error (d → is) ↦ k.k_call_error is
    | r_none ↦ k.k_none
    | r_arg (d → ih) (d' → is) ↦ k.k_arg ih is
    | r_arg_error (d → ih) ↦ k.k_arg_error ih
    | r_later_error v (d → ih) (d' → is) ↦ k.k_later_error v ih is
  ]
