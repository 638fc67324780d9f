-- Taking a body that only loops, against the rules:
--   comes_unique            an expression comes to one call at most
--   comes-gives             what the callee's body gives, the expression gives
--   Turned, turned          on values of their kinds a body ends with its only outcome and comes to no call, or comes to a call
use Prim.Native.Nat.{ℕ}
use native.Mathlib.Omega.{arith}
use mathlib.Core.Path.{◌≡◌, refl}
use mathlib.Core.Bool.{true, false}
use mathlib.Core.List.{List}
use mathlib.Core.Option.{Option, some}
use lib.ListN.{get_elem?}
use lib.Dec.{T}
use Rattle.semantics.specs.declared.Error.{Error}
use Rattle.semantics.specs.declared.Outcome.{Outcome}
use Rattle.semantics.specs.declared.Outcome.TheVariants.{Truth, Suffix, Failed}
use Rattle.semantics.specs.declared.Kind.{Kind}
use Rattle.semantics.specs.declared.Kind.TheVariants.{Truth as truth}
use Rattle.semantics.specs.declared.Demand.{Demand}
use Rattle.semantics.specs.declared.Demand.TheVariants.{Only as only}
use Rattle.semantics.specs.Language.{Expr, constant, empty, param, op, ifte, call, Args, Function, Program, Traces, Value, InKinds, Meets}
use Rattle.semantics.specs.Rules.{Arguments, values, failed, Derives, r_then, r_else, r_if_error, r_call, r_call_error, DerivesAll}
use Rattle.semantics.specs.Bodies.{with_value, with_values, body_outcome}
use Rattle.semantics.proofs.Demands.{of_demand}
use Rattle.semantics.proofs.Bodies.{OfKinds}
use Rattle.semantics.proofs.Unique.{derives_unique, derives_all_unique}
use Rattle.chains.specs.Loops.{no_call, loops_in}
use Rattle.chains.specs.Following.{Turn, ends, calls, no_table, ends_with, chosen_turn, turn_of}
use Rattle.chains.specs.Chain.{Comes, in_call, in_then, in_else}
use Rattle.chains.proofs.Outcomes.{both_three, of_demand_lem, outcome, outcome_all, derived, derived_all, kinds-all}

-- nothing but a call and an if comes to a call
abbrev pub Spine : Expr → Type 0
Spine (constant b) = ⊥
Spine (empty c) = ⊥
Spine (param i) = ⊥
Spine (op p e) = ⊥
Spine (ifte c a b) = Unit {0}
Spine (call g xs) = Unit {0}

module _ (P : Program) (t : Traces) (env : List Value) where
  pub comes_spine : {e : Expr} {g : ℕ} {vs : List Value} → Comes P t env e g vs → Spine e
  comes_spine (in_call d) = tt
  comes_spine (in_then d k) = tt
  comes_spine (in_else d k) = tt

  -- a condition is not both
  not_both : {c : Expr} {B : Type 0} → Derives P t env c (Truth true) → Derives P t env c (Truth false) → B
  not_both d d' = let s = derives_unique P t d d' in let z : ◌≡◌ {A = ℕ} 0 1 = cc in absurd (omega arith)

  no_error : {c : Expr} {b : _} {x : Error} {B : Type 0} → Derives P t env c (Truth b) → Derives P t env c (Failed x) → B
  no_error d d' = let s = derives_unique P t d d' in let z : ◌≡◌ {A = ℕ} 0 1 = cc in absurd (omega arith)

  no_failure : (xs : Args) {vs : List Value} {x : Error} {B : Type 0} → DerivesAll P t env xs (values vs) → DerivesAll P t env xs (failed x) → B
  no_failure xs d d' = let s = derives_all_unique P t xs d d' in let z : ◌≡◌ {A = ℕ} 0 1 = cc in absurd (omega arith)

  pub comes_unique : (e : Expr) {g g' : ℕ} {vs vs' : List Value} → Comes P t env e g vs → Comes P t env e g' vs' → (g ≡ g') × (vs ≡ vs')
  comes_unique (constant _) x _ = elim x [ ]
  comes_unique (empty _) x _ = elim x [ ]
  comes_unique (param _) x _ = elim x [ ]
  comes_unique (op _ _) x _ = elim x [ ]
  comes_unique (call g xs) (in_call d) (in_call d') = let s = derives_all_unique P t xs d d' in (refl, cc)
  comes_unique (ifte c a b) (in_then d k) (in_then d' k') = comes_unique a k k'
  comes_unique (ifte c a b) (in_then d k) (in_else d' k') = not_both d d'
  comes_unique (ifte c a b) (in_else d k) (in_then d' k') = not_both d' d
  comes_unique (ifte c a b) (in_else d k) (in_else d' k') = comes_unique b k k'

  pub comes-gives : (e : Expr) {g : ℕ} {vs : List Value} {f : Function} {o : Outcome} → Comes P t env e g vs → get_elem? P g ≡ some f
      → Derives P t vs f.body o → Derives P t env e o
  comes-gives (constant _) x q b = elim x [ ]
  comes-gives (empty _) x q b = elim x [ ]
  comes-gives (param _) x q b = elim x [ ]
  comes-gives (op _ _) x q b = elim x [ ]
  comes-gives (call g xs) (in_call d) q b = r_call d q b
  comes-gives (ifte c a b) (in_then d k) q o = r_then d (comes-gives a k q o)
  comes-gives (ifte c a b) (in_else d k) q o = r_else d (comes-gives b k q o)

-- how taking an expression went
pub data Turned (P : Program) (t : Traces) (env : List Value) (e : Expr) (u : Option Turn) : Type 0 where
  ended : (o : Outcome) → u ≡ some (ends o) → Derives P t env e o → ((g : ℕ) (vs : List Value) → ¬ Comes P t env e g vs) → Turned P t env e u
  called : (g : ℕ) (vs : List Value) (f : Function) → u ≡ some (calls g vs) → Comes P t env e g vs → get_elem? P g ≡ some f
      → InKinds t f.params vs → Turned P t env e u

module _ (P : Program) (t : Traces) (env : List Value) where
  -- an if comes to the call that its branch comes to
  pub only_then : {c a b : Expr} {g : ℕ} {vs : List Value} → Derives P t env c (Truth true) → ¬ Comes P t env a g vs → ¬ Comes P t env (ifte c a b) g vs
  only_then d never (in_then d' k) = never k
  only_then d never (in_else d' k) = not_both P t env d d'

  pub only_else : {c a b : Expr} {g : ℕ} {vs : List Value} → Derives P t env c (Truth false) → ¬ Comes P t env b g vs → ¬ Comes P t env (ifte c a b) g vs
  only_else d never (in_then d' k) = not_both P t env d' d
  only_else d never (in_else d' k) = never k

  -- and to none where its condition fails; nor does a call where an argument does
  pub not_if : {c a b : Expr} {x : Error} {g : ℕ} {vs : List Value} → Derives P t env c (Failed x) → ¬ Comes P t env (ifte c a b) g vs
  not_if d (in_then d' k) = no_error P t env d' d
  not_if d (in_else d' k) = no_error P t env d' d

  pub not_call : (h : ℕ) (xs : Args) {x : Error} {g : ℕ} {vs : List Value} → DerivesAll P t env xs (failed x) → ¬ Comes P t env (call h xs) g vs
  not_call h xs d (in_call d') = no_failure P t env xs d' d

  then_turned : {c a b : Expr} {u : Option Turn} → Derives P t env c (Truth true) → Turned P t env a u → Turned P t env (ifte c a b) u
  then_turned d (ended o q r never) = ended o q (r_then d r) (λ g vs. only_then d (never g vs))
  then_turned d (called g vs f q k e i) = called g vs f q (in_then d k) e i

  else_turned : {c a b : Expr} {u : Option Turn} → Derives P t env c (Truth false) → Turned P t env b u → Turned P t env (ifte c a b) u
  else_turned d (ended o q r never) = ended o q (r_else d r) (λ g vs. only_else d (never g vs))
  else_turned d (called g vs f q k e i) = called g vs f q (in_else d k) e i

  if_turned : {c a b : Expr} (o : Outcome) → Derives P t env c o → T (of_demand t (only truth) o) → (u w : Option Turn) → Turned P t env a u → Turned P t env b w
      → Turned P t env (ifte c a b) (with_value (λ x. ends (Failed x)) (some o) (chosen_turn u w))
  if_turned (Truth true) d h u w a b = then_turned d a
  if_turned (Truth false) d h u w a b = else_turned d b
  if_turned (Suffix c k) d h u w a b = absurd h
  if_turned (Failed x) d h u w a b = ended (Failed x) refl (r_if_error d) (λ g vs. not_if d)

  call_turned : (g : ℕ) (xs : Args) (f : Function) → get_elem? P g ≡ some f → (r : Arguments) → DerivesAll P t env xs r → OfKinds t f.params r
      → Turned P t env (call g xs) (with_values (λ x. ends (Failed x)) (some r) (λ vs. some (calls g vs)))
  call_turned g xs f e (values vs) d i = called g vs f refl (in_call d) e i
  call_turned g xs f e (failed x) d i = ended (Failed x) refl (r_call_error d) (λ h vs. not_call g xs d)

module _ (P : Program) (t : Traces) (Γ : List Kind) (env : List Value) (hs : InKinds t Γ env) where
  -- an expression with no call in it that comes to none
  plain : (e : Expr) (δ : Demand) → T (no_call e) → Meets P Γ δ e → ¬ Spine e
      → Turned P t env e (ends_with (body_outcome t no_table env e))
  plain e δ n m never =
      let o = outcome P t Γ env hs e δ n m in
      ended o.0 (rw o.1) (derived P t Γ env hs e δ o.0 m o.1) (λ g vs k. never (comes_spine P t env k))

  pub turned : (e : Expr) (δ : Demand) → T (loops_in e) → Meets P Γ δ e → Turned P t env e (turn_of t env e)
  unfolding turn_of loops_in no_call
  turned (constant b) δ n m = plain (constant b) δ tt m (λ x. x)
  turned (empty c) δ n m = plain (empty c) δ tt m (λ x. x)
  turned (param i) δ n m = plain (param i) δ tt m (λ x. x)
  turned (op p e) δ n m = plain (op p e) δ n m (λ x. x)
  turned (ifte c a b) δ n m =
      let free = both_three (no_call c) (loops_in a) (loops_in b) n in
      let o = outcome P t Γ env hs c (only truth) free.0 m.0 in
      rw o.1
      (if_turned P t env o.0 (derived P t Γ env hs c (only truth) o.0 m.0 o.1) (of_demand_lem P t Γ env hs c (only truth) o.0 m.0 o.1)
      (turn_of t env a) (turn_of t env b) (turned a δ free.1.0 m.1) (turned b δ free.1.1 m.2))
  turned (call g xs) δ n m =
      let κs = m.0.params in
      let r = outcome_all P t Γ env hs xs κs n m.3 in
      rw r.1
      (call_turned P t env g xs m.0 m.1 r.0 (derived_all P t Γ env hs xs κs r.0 m.3 r.1) (kinds-all P t Γ env hs xs κs r.0 m.3 r.1))
