-- A derivation's outcome is unique. Assumes nothing of program and traces.
--   given_injective, given_not_failed    a value as an outcome
--   derives_unique                       an outcome of an expression
--   derives_all_unique                   what arguments give
use Prim.Native.Nat.{ℕ, zero}
use native.Mathlib.Omega.{arith}
use mathlib.Core.Path.{◌≡◌, refl, sym, ap, subst}
use mathlib.Core.Bool.{Bool, true, false}
use mathlib.Core.List.{List, [], ◌∷◌}
use mathlib.Core.Option.{some}
use lib.ListN.{get_elem?}
use Rattle.semantics.specs.declared.Contact.{Contact}
use Rattle.semantics.specs.declared.Error.{Error}
use Rattle.semantics.specs.declared.Outcome.{Outcome}
use Rattle.semantics.specs.declared.Outcome.TheVariants.{Truth, Suffix, Failed}
use Rattle.semantics.specs.Language.{Op, Expr, constant, empty, param, op, ifte, call, Args, no_args, arg, Function, Program, Traces, Value, bit, suffix, given}
use Rattle.semantics.specs.Rules.{applied, Arguments, values, failed, Derives, r_constant, r_empty, r_param, r_op, r_op_error, r_then, r_else, r_if_error, r_call, r_call_error, DerivesAll, r_none, r_arg, r_arg_error, r_later_error}
use Rattle.semantics.proofs.Induction.{Kept, derived}

pub given_injective : (v w : Value) → given v ≡ given w → v ≡ w
given_injective (bit a) (bit b) e = cc
given_injective (bit a) (suffix c k) e = cc
given_injective (suffix c k) (bit b) e = cc
given_injective (suffix c k) (suffix c' j) e = cc

pub given_not_failed : (v : Value) {x : Error} {B : Type 0} → given v ≡ Failed x → B
given_not_failed (bit b) e = let z : ◌≡◌ {A = ℕ} 0 1 = cc in absurd (omega arith)
given_not_failed (suffix c k) e = let z : ◌≡◌ {A = ℕ} 0 1 = cc in absurd (omega arith)

-- arguments that have values do not fail
not_both : {vs : List Value} {x : Error} {B : Type 0} → values vs ≡ failed x → B
not_both e = let z : ◌≡◌ {A = ℕ} 0 1 = cc in absurd (omega arith)

not_flipped : {B : Type 0} → Truth true ≡ Truth false → B
not_flipped e = let z : ◌≡◌ {A = ℕ} 0 1 = cc in absurd (omega arith)

module _ (P : Program) (t : Traces) where
  -- no other outcome is derived
  abbrev Only : List Value → Expr → Outcome → Type 0
  Only env e o = (o' : Outcome) → Derives P t env e o' → o ≡ o'

  abbrev OnlyAll : List Value → Args → Arguments → Type 0
  OnlyAll env xs r = (r' : Arguments) → DerivesAll P t env xs r' → r ≡ r'

  only-constant : {env : List Value} {b : Bool} → Only env (constant b) (Truth b)
  only-constant o r_constant = refl

  only-empty : {env : List Value} {c : Contact} → Only env (empty c) (Suffix c zero)
  only-empty o r_empty = refl

  only-param : {env : List Value} {i : ℕ} {v : Value} → get_elem? env i ≡ some v → Only env (param i) (given v)
  only-param {v = v} h o (r_param {v = w} h') = let e : v ≡ w = cc in ap given e

  only-op : {env : List Value} {p : Op} {e : Expr} {c : Contact} {k : ℕ} → Only env e (Suffix c k) → Only env (op p e) (applied t p c k)
  only-op u o (r_op d) = let s = u _ d in cc
  only-op {c = c} {k = k} u o (r_op_error d) = given_not_failed (suffix c k) (u _ d)

  only_op_error : {env : List Value} {p : Op} {e : Expr} {x : Error} → Only env e (Failed x) → Only env (op p e) (Failed x)
  only_op_error u o (r_op {c = c} {k = k} d) = given_not_failed (suffix c k) (sym (u _ d))
  only_op_error u o (r_op_error d) = u _ d

  only_then : {env : List Value} {c a b : Expr} {o : Outcome} → Only env c (Truth true) → Only env a o → Only env (ifte c a b) o
  only_then u w o (r_then d a) = w _ a
  only_then u w o (r_else d a) = not_flipped (u _ d)
  only_then u w o (r_if_error d) = given_not_failed (bit true) (u _ d)

  only_else : {env : List Value} {c a b : Expr} {o : Outcome} → Only env c (Truth false) → Only env b o → Only env (ifte c a b) o
  only_else u w o (r_then d a) = not_flipped (sym (u _ d))
  only_else u w o (r_else d a) = w _ a
  only_else u w o (r_if_error d) = given_not_failed (bit false) (u _ d)

  only_if_error : {env : List Value} {c a b : Expr} {x : Error} → Only env c (Failed x) → Only env (ifte c a b) (Failed x)
  only_if_error u o (r_then d a) = given_not_failed (bit true) (sym (u _ d))
  only_if_error u o (r_else d a) = given_not_failed (bit false) (sym (u _ d))
  only_if_error u o (r_if_error d) = u _ d

  only-call : {env : List Value} {g : ℕ} {xs : Args} {vs : List Value} {f : Function} {o : Outcome}
      → OnlyAll env xs (values vs) → get_elem? P g ≡ some f → Only vs f.body o → Only env (call g xs) o
  only-call {vs = vs} {f = f} u h w o (r_call {vs = ws} {f = f'} d h' b) =
      let s = u _ d in
      let e : ws ≡ vs = cc in
      let e' : f' ≡ f = cc in
      w o (subst (λ (k : Function). Derives P t vs k.body o) e' (subst (λ (us : List Value). Derives P t us f'.body o) e b))
  only-call u h w o (r_call_error d) = not_both (u _ d)

  only_call_error : {env : List Value} {g : ℕ} {xs : Args} {x : Error} → OnlyAll env xs (failed x) → Only env (call g xs) (Failed x)
  only_call_error u o (r_call d h b) = not_both (sym (u _ d))
  only_call_error u o (r_call_error d) = let s = u _ d in cc

  only_none : {env : List Value} → OnlyAll env no_args (values [])
  only_none r r_none = refl

  only-arg : {env : List Value} {e : Expr} {xs : Args} {v : Value} {vs : List Value}
      → Only env e (given v) → OnlyAll env xs (values vs) → OnlyAll env (arg e xs) (values (v ∷ vs))
  only-arg {v = v} u w r (r_arg {v = v'} d s) = let e = given_injective v v' (u _ d) in let e' = w _ s in cc
  only-arg {v = v} u w r (r_arg_error d) = given_not_failed v (u _ d)
  only-arg u w r (r_later_error v' d s) = not_both (w _ s)

  only_arg_error : {env : List Value} {e : Expr} {xs : Args} {x : Error} → Only env e (Failed x) → OnlyAll env (arg e xs) (failed x)
  only_arg_error u r (r_arg {v = v'} d s) = given_not_failed v' (sym (u _ d))
  only_arg_error u r (r_arg_error d) = let s = u _ d in cc
  only_arg_error u r (r_later_error v' d s) = given_not_failed v' (sym (u _ d))

  only_later_error : {env : List Value} {e : Expr} {xs : Args} (v : Value) {x : Error} → Only env e (given v) → OnlyAll env xs (failed x)
      → OnlyAll env (arg e xs) (failed x)
  only_later_error v u w r (r_arg d s) = not_both (sym (w _ s))
  only_later_error v u w r (r_arg_error d) = given_not_failed v (u _ d)
  only_later_error v u w r (r_later_error v' d s) = w _ s

  only : Kept P t Only OnlyAll
  only = record {
    k_constant = only-constant;
    k_empty = only-empty;
    k_param = only-param;
    k_op = only-op;
    k_op_error = only_op_error;
    k_then = only_then;
    k_else = only_else;
    k_if_error = only_if_error;
    k_call = only-call;
    k_call_error = only_call_error;
    k_none = only_none;
    k_arg = only-arg;
    k_arg_error = only_arg_error;
    k_later_error = only_later_error;
  }

  pub derives_unique : {env : List Value} {e : Expr} {o o' : Outcome} → Derives P t env e o → Derives P t env e o' → o ≡ o'
  derives_unique {o' = o'} d d' = derived only d o' d'

  pub derives_all_unique : {env : List Value} (xs : Args) {r r' : Arguments} → DerivesAll P t env xs r → DerivesAll P t env xs r' → r ≡ r'
  derives_all_unique no_args r_none d' = only_none _ d'
  derives_all_unique (arg e xs) (r_arg d s) d' = only-arg (λ o q. derives_unique d q) (λ r q. derives_all_unique xs s q) _ d'
  derives_all_unique (arg e xs) (r_arg_error d) d' = only_arg_error (λ o q. derives_unique d q) _ d'
  derives_all_unique (arg e xs) (r_later_error v d s) d' =
      only_later_error v (λ o q. derives_unique d q) (λ r q. derives_all_unique xs s q) _ d'
