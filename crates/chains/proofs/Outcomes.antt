-- Expressions with no call, on values of their kinds:
--   no_kinds, no_sound       where nothing is looked up, nothing is wrong
--   both, both_three         parts of a conjunction
--   Has                      something is there
--   outcome, outcome_all     every one has an outcome, and so have arguments
--   derived, derived_all     which has a derivation
--   kinds-all                and values of their kinds
use Prim.Native.Nat.{ℕ}
use native.Mathlib.Omega.{arith}
use mathlib.Core.Path.{◌≡◌, refl}
use mathlib.Core.Bool.{Bool, true, false, ◌&&◌}
use mathlib.Core.List.{List, [], ◌∷◌}
use mathlib.Core.Option.{Option, some}
use lib.Dec.{T}
use Rattle.semantics.specs.declared.Outcome.{Outcome}
use Rattle.semantics.specs.declared.Outcome.TheVariants.{Truth, Suffix, Failed}
use Rattle.semantics.specs.declared.Kind.{Kind}
use Rattle.semantics.specs.declared.Kind.TheVariants.{Truth as truth, List as list}
use Rattle.semantics.specs.declared.Demand.{Demand}
use Rattle.semantics.specs.declared.Demand.TheVariants.{Only as only, AnyList as any_list}
use Rattle.semantics.specs.Language.{Op, hd, tl, null, Expr, constant, empty, param, op, ifte, call, Args, no_args, arg, Program, Traces, Value, bit, suffix, given, InKinds, op_allowed, operand_demand, Meets, MeetAll}
use Rattle.semantics.specs.Rules.{applied, Arguments, values, failed, Derives, DerivesAll}
use Rattle.semantics.specs.Bodies.{with_value, with_values, operated, chosen, body_outcome, args_outcome}
use Rattle.semantics.proofs.Demands.{of_demand}
use Rattle.semantics.proofs.Bodies.{value_there, KindCalls, OfKinds, kinded, kinded_all, SoundCalls, sound, sound-all}
use Rattle.chains.specs.Loops.{no_call, no_call_among}
use Rattle.chains.specs.Following.{no_table}

pub no_kinds : (P : Program) (t : Traces) → KindCalls P t no_table
no_kinds P t g vs f o e h = let z : ◌≡◌ {A = ℕ} 0 1 = cc in absurd (omega arith)

pub no_sound : (P : Program) (t : Traces) → SoundCalls P t no_table
no_sound P t g vs f o e k h = let z : ◌≡◌ {A = ℕ} 0 1 = cc in absurd (omega arith)

pub both : (a b : Bool) → T (a && b) → T a × T b
both true b h = (tt, h)
both false b h = absurd h

pub both_three : (a b c : Bool) → T (a && (b && c)) → T a × (T b × T c)
both_three a b c h = let p = both a (b && c) h in (p.0, both b c p.1)

-- something is there
abbrev pub Has : {A : Type 0} → Option A → Type 0
Has {A} r = (a : A) × (r ≡ some a)

-- ---- By the outcomes of the parts

-- hd, tl and null of what meets their demand
op_has : (t : Traces) (p : Op) (δ : Demand) → T (op_allowed p δ) → (o : Outcome) → T (of_demand t (operand_demand p δ) o) → Has (with_value Failed (some o) (operated t p))
op_has t p δ a (Suffix c k) h = (applied t p c k, refl)
op_has t p δ a (Failed x) h = (Failed x, refl)
op_has t hd δ a (Truth b) h = absurd h
op_has t null δ a (Truth b) h = absurd h
op_has t tl (only truth) a (Truth b) h = absurd a
op_has t tl (only (list c)) a (Truth b) h = absurd h
op_has t tl any_list a (Truth b) h = absurd h

-- an if by its condition, which meets its demand
if_has : (t : Traces) (o : Outcome) → T (of_demand t (only truth) o) → (a b : Option Outcome) → Has a → Has b → Has (with_value Failed (some o) (chosen a b))
if_has t (Truth true) h a b p q = p
if_has t (Truth false) h a b p q = q
if_has t (Suffix c n) h a b p q = absurd h
if_has t (Failed x) h a b p q = (Failed x, refl)

args_has : (o : Outcome) (rs : Option Arguments) → Has rs → Has (with_value failed (some o) (λ v. with_values failed rs (λ vs. some (values (v ∷ vs)))))
args_has (Truth b) rs (values vs, q) = (values (bit b ∷ vs), rw q)
args_has (Truth b) rs (failed x, q) = (failed x, rw q)
args_has (Suffix c k) rs (values vs, q) = (values (suffix c k ∷ vs), rw q)
args_has (Suffix c k) rs (failed x, q) = (failed x, rw q)
args_has (Failed x) rs h = (failed x, refl)

module _ (P : Program) (t : Traces) (Γ : List Kind) (env : List Value) (hs : InKinds t Γ env) where
  pub of_demand_lem : (e : Expr) (δ : Demand) (o : Outcome) → Meets P Γ δ e → body_outcome t no_table env e ≡ some o → T (of_demand t δ o)
  of_demand_lem e δ o m q = kinded P t no_table (no_kinds P t) Γ env hs e δ o m q

  mutual
    unfolding body_outcome no_call

    pub outcome : (e : Expr) (δ : Demand) → T (no_call e) → Meets P Γ δ e → Has (body_outcome t no_table env e)
    outcome (constant b) δ n m = (Truth b, refl)
    outcome (empty c) δ n m = (Suffix c 0, refl)
    outcome (param i) δ n m = let v = value_there t Γ env hs i m.0 m.1 in (given v.0, rw v.1)
    outcome (op p e) δ n m =
        let o = outcome e (operand_demand p δ) n m.1 in
        rw o.1 (op_has t p δ m.0 o.0 (of_demand_lem e (operand_demand p δ) o.0 m.1 o.1))
    outcome (ifte c a b) δ n m =
        let free = both_three (no_call c) (no_call a) (no_call b) n in
        let o = outcome c (only truth) free.0 m.0 in
        rw o.1 (if_has t o.0 (of_demand_lem c (only truth) o.0 m.0 o.1) (body_outcome t no_table env a) (body_outcome t no_table env b) (outcome a δ free.1.0 m.1) (outcome b δ free.1.1 m.2))
    outcome (call g xs) δ n m = absurd n

    pub outcome_all : (xs : Args) (κs : List Kind) → T (no_call_among xs) → MeetAll P Γ κs xs → Has (args_outcome t no_table env xs)
    outcome_all no_args κs n m = (values [], refl)
    outcome_all (arg e xs) κs n m =
        let free = both (no_call e) (no_call_among xs) n in
        let o = outcome e (only m.0) free.0 m.3 in
        rw o.1 (args_has o.0 (args_outcome t no_table env xs) (outcome_all xs m.1 free.1 m.4))

  pub derived : (e : Expr) (δ : Demand) (o : Outcome) → Meets P Γ δ e → body_outcome t no_table env e ≡ some o → Derives P t env e o
  derived e δ o m q = sound P t no_table (no_kinds P t) (no_sound P t) Γ env hs e δ o m q

  pub derived_all : (xs : Args) (κs : List Kind) (r : Arguments) → MeetAll P Γ κs xs → args_outcome t no_table env xs ≡ some r → DerivesAll P t env xs r
  derived_all xs κs r m q = sound-all P t no_table (no_kinds P t) (no_sound P t) Γ env hs xs κs r m q

  pub kinds-all : (xs : Args) (κs : List Kind) (r : Arguments) → MeetAll P Γ κs xs → args_outcome t no_table env xs ≡ some r → OfKinds t κs r
  kinds-all xs κs r m q = kinded_all P t no_table (no_kinds P t) Γ env hs xs κs r m q
