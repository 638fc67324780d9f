-- A body with calls looked up, against derivations, over any calls and on values of their kinds:
--   value_there                            each parameter has a value
--   KindCalls, kinded, kinded_all          calls of their functions' kinds give outcomes that meet what is demanded
--   SoundCalls, sound, sound-all           calls that have derivations give outcomes that have derivations
--   ClosedCalls, complete                  calls closed under evaluation give every outcome that has a derivation
--   SameCalls, same_body, same_args        calls that agree give the same
use Prim.Native.Nat.{ℕ, zero, suc}
use native.Mathlib.Omega.{arith}
use mathlib.Core.Path.{◌≡◌, refl, ◌∙◌}
use mathlib.Core.Bool.{true, false}
use mathlib.Core.List.{List, [], ◌∷◌}
use mathlib.Core.Option.{Option, none, some}
use lib.ListN.{get_elem?}
use lib.Dec.{T}
use Rattle.semantics.specs.declared.Contact.{Contact}
use Rattle.semantics.specs.declared.Error.{Error}
use Rattle.semantics.specs.declared.Error.TheVariants.{Head, Tail}
use Rattle.semantics.specs.declared.Outcome.{Outcome}
use Rattle.semantics.specs.declared.Outcome.TheVariants.{Truth, Suffix, Failed}
use Rattle.semantics.specs.declared.Kind.{Kind}
use Rattle.semantics.specs.declared.Kind.TheVariants.{Truth as truth, List as list}
use Rattle.semantics.specs.declared.Demand.{Demand}
use Rattle.semantics.specs.declared.Demand.TheVariants.{Only as only, AnyList as any_list}
use Rattle.semantics.specs.Language.{Op, hd, tl, null, Expr, constant, empty, param, op, ifte, call, Args, no_args, arg, Function, Program, Traces, Value, bit, suffix, given, in_kind, InKinds, op_allowed, operand_demand, Meets, MeetAll, WellKinded}
use Rattle.semantics.specs.Rules.{applied, Arguments, values, failed, Derives, r_constant, r_empty, r_param, r_op, r_op_error, r_then, r_else, r_if_error, r_call, r_call_error, DerivesAll, r_none, r_arg, r_arg_error, r_later_error}
use Rattle.semantics.specs.Cells.{of_kind}
use Rattle.semantics.specs.Bodies.{Calls, with_value, with_values, operated, chosen, param_value, body_outcome, args_outcome}
use Rattle.semantics.proofs.Induction.{Kept, derived}
use Rattle.semantics.proofs.Demands.{in_suffix, shorter_in, of_demand, demand_error, demand_kind}

-- ---- How going on came to a result

pub data Went {A : Type 0} (e : Error → A) (r : Option Outcome) (k : Value → Option A) (a : A) : Type 0 where
  on : (v : Value) → r ≡ some (given v) → k v ≡ some a → Went e r k a
  off : (x : Error) → r ≡ some (Failed x) → a ≡ e x → Went e r k a

pub went : {A : Type 0} (e : Error → A) (r : Option Outcome) (k : Value → Option A) (a : A) → with_value e r k ≡ some a → Went e r k a
went e none k a h = let z : ◌≡◌ {A = ℕ} 0 1 = cc in absurd (omega arith)
went e (some (Truth b)) k a h = on (bit b) refl h
went e (some (Suffix c n)) k a h = on (suffix c n) refl h
went e (some (Failed x)) k a h = off x refl (cc)

pub data WentAll {A : Type 0} (e : Error → A) (r : Option Arguments) (k : List Value → Option A) (a : A) : Type 0 where
  on_all : (vs : List Value) → r ≡ some (values vs) → k vs ≡ some a → WentAll e r k a
  off_all : (x : Error) → r ≡ some (failed x) → a ≡ e x → WentAll e r k a

pub went_all : {A : Type 0} (e : Error → A) (r : Option Arguments) (k : List Value → Option A) (a : A) → with_values e r k ≡ some a → WentAll e r k a
went_all e none k a h = let z : ◌≡◌ {A = ℕ} 0 1 = cc in absurd (omega arith)
went_all e (some (values vs)) k a h = on_all vs refl h
went_all e (some (failed x)) k a h = off_all x refl (cc)

pub with_given : {A : Type 0} (e : Error → A) (v : Value) (k : Value → Option A) → with_value e (some (given v)) k ≡ k v
with_given e (bit b) k = refl
with_given e (suffix c n) k = refl

-- ---- Kinds

abbrev pub KindCalls : Program → Traces → Calls → Type 0
KindCalls P t calls =
    (g : ℕ) (vs : List Value) (f : Function) (o : Outcome) → get_elem? P g ≡ some f → calls g vs ≡ some o → T (of_kind t f.result o)

-- arguments are of kinds if they are values of them; an error is of all kinds
abbrev pub OfKinds : Traces → List Kind → Arguments → Type 0
OfKinds t κs (values vs) = InKinds t κs vs
OfKinds t κs (failed x) = Unit {0}

module _ (P : Program) (t : Traces) (calls : Calls) (Γ : List Kind) (env : List Value) where
  abbrev Kinded : Expr → Type 0
  Kinded e = (d : Demand) (o : Outcome) → Meets P Γ d e → body_outcome t calls env e ≡ some o → T (of_demand t d o)

  abbrev KindedAll : Args → Type 0
  KindedAll xs = (κs : List Kind) (r : Arguments) → MeetAll P Γ κs xs → args_outcome t calls env xs ≡ some r → OfKinds t κs r

-- ---- Soundness

abbrev pub SoundCalls : Program → Traces → Calls → Type 0
SoundCalls P t calls = (g : ℕ) (vs : List Value) (f : Function) (o : Outcome) → get_elem? P g ≡ some f → InKinds t f.params vs
    → calls g vs ≡ some o → Derives P t vs f.body o

module _ (P : Program) (t : Traces) (calls : Calls) (Γ : List Kind) (env : List Value) where
  abbrev Sound : Expr → Type 0
  Sound e = (d : Demand) (o : Outcome) → Meets P Γ d e → body_outcome t calls env e ≡ some o → Derives P t env e o

  abbrev SoundAll : Args → Type 0
  SoundAll xs = (κs : List Kind) (r : Arguments) → MeetAll P Γ κs xs → args_outcome t calls env xs ≡ some r → DerivesAll P t env xs r

  sound-param : (i : ℕ) (m : Option Value) → get_elem? env i ≡ m → (o : Outcome) → param_value m ≡ some o → Derives P t env (param i) o
  sound-param i none q o h = let z : ◌≡◌ {A = ℕ} 0 1 = cc in absurd (omega arith)
  sound-param i (some v) q o h = let e : o ≡ given v = cc in rw e (r_param q)

  sound-op : (p : Op) (e : Expr) → Sound e → (d : Demand) (o : Outcome) → Meets P Γ d (op p e)
      → Went Failed (body_outcome t calls env e) (operated t p) o → Derives P t env (op p e) o
  sound-op p e ih d o m (on (bit b) q r) = let z : ◌≡◌ {A = ℕ} 0 1 = cc in absurd (omega arith)
  sound-op p e ih d o m (on (suffix c k) q r) =
      let s : o ≡ applied t p c k = cc in rw s (r_op (ih (operand_demand p d) (Suffix c k) m.1 q))
  sound-op p e ih d o m (off x q r) = rw r (r_op_error (ih (operand_demand p d) (Failed x) m.1 q))

  sound_if : (c a b : Expr) → Sound c → Sound a → Sound b → (d : Demand) (o : Outcome) → Meets P Γ d (ifte c a b)
      → Went Failed (body_outcome t calls env c) (chosen (body_outcome t calls env a) (body_outcome t calls env b)) o → Derives P t env (ifte c a b) o
  sound_if c a b hc ha hb d o m (on (bit true) q r) = r_then (hc (only truth) _ m.0 q) (ha d o m.1 r)
  sound_if c a b hc ha hb d o m (on (bit false) q r) = r_else (hc (only truth) _ m.0 q) (hb d o m.2 r)
  sound_if c a b hc ha hb d o m (on (suffix w k) q r) = let z : ◌≡◌ {A = ℕ} 0 1 = cc in absurd (omega arith)
  sound_if c a b hc ha hb d o m (off x q r) = rw r (r_if_error (hc (only truth) (Failed x) m.0 q))

  sound-call : SoundCalls P t calls → (g : ℕ) (xs : Args) → KindedAll P t calls Γ env xs → SoundAll xs → (d : Demand) (o : Outcome)
      → Meets P Γ d (call g xs)
      → WentAll Failed (args_outcome t calls env xs) (calls g) o → Derives P t env (call g xs) o
  sound-call ok g xs ks ih d o m (on_all vs q r) =
      let of-kinds = ks m.0.params (values vs) m.3 q in
      r_call (ih m.0.params (values vs) m.3 q) m.1 (ok g vs m.0 o m.1 of-kinds r)
  sound-call ok g xs ks ih d o m (off_all x q r) = rw r (r_call_error (ih m.0.params (failed x) m.3 q))

  sound_rest : (e : Expr) (xs : Args) (v : Value) → Derives P t env e (given v) → SoundAll xs → (κs : List Kind) (r : Arguments) → MeetAll P Γ κs xs
      → WentAll failed (args_outcome t calls env xs) (λ vs. some (values (v ∷ vs))) r → DerivesAll P t env (arg e xs) r
  sound_rest e xs v d ih κs r m (on_all vs q h) = let s : r ≡ values (v ∷ vs) = cc in rw s (r_arg d (ih κs (values vs) m q))
  sound_rest e xs v d ih κs r m (off_all x q h) = rw h (r_later_error v d (ih κs (failed x) m q))

  sound-arg : (e : Expr) (xs : Args) → Sound e → SoundAll xs → (κs : List Kind) (r : Arguments) → MeetAll P Γ κs (arg e xs)
      → Went failed (body_outcome t calls env e) (λ v. with_values failed (args_outcome t calls env xs) (λ vs. some (values (v ∷ vs)))) r
      → DerivesAll P t env (arg e xs) r
  sound-arg e xs he ih κs r m (on v q h) = sound_rest e xs v (he (only m.0) (given v) m.3 q) ih m.1 r m.4 (went_all _ _ _ r h)
  sound-arg e xs he ih κs r m (off x q h) = rw h (r_arg_error (he (only m.0) (Failed x) m.3 q))

-- where arguments are of their kinds
module _ (P : Program) (t : Traces) (calls : Calls) (ok : SoundCalls P t calls) (Γ : List Kind) (env : List Value)
    (ks : (xs : Args) → KindedAll P t calls Γ env xs) where
  mutual
    unfolding body_outcome

    derives : (e : Expr) (d : Demand) (o : Outcome) → Meets P Γ d e → body_outcome t calls env e ≡ some o → Derives P t env e o
    derives (constant b) d o m h = let e : o ≡ Truth b = cc in rw e r_constant
    derives (empty c) d o m h = let e : o ≡ Suffix c zero = cc in rw e r_empty
    derives (param i) d o m h = sound-param P t calls Γ env i (get_elem? env i) refl o h
    derives (op p e) d o m h = sound-op P t calls Γ env p e (λ d' r n q. derives e d' r n q) d o m (went _ _ _ o h)
    derives (ifte c a b) d o m h =
        sound_if P t calls Γ env c a b (λ d' r n q. derives c d' r n q) (λ d' r n q. derives a d' r n q)
        (λ d' r n q. derives b d' r n q) d o m (went _ _ _ o h)
    derives (call g xs) d o m h = sound-call P t calls Γ env ok g xs (ks xs) (λ κ' r n q. derives_all xs κ' r n q) d o m (went_all _ _ _ o h)

    derives_all : (xs : Args) (κs : List Kind) (r : Arguments) → MeetAll P Γ κs xs → args_outcome t calls env xs ≡ some r → DerivesAll P t env xs r
    derives_all no_args κs r m h = let e : r ≡ values [] = cc in rw e r_none
    derives_all (arg e xs) κs r m h =
        sound-arg P t calls Γ env e xs (λ d' r' n q. derives e d' r' n q) (λ κ' r' n q. derives_all xs κ' r' n q) κs r m (went _ _ _ r h)

-- ---- Outcomes meet what is demanded

pub of_given : (t : Traces) (κ : Kind) (v : Value) → of_kind t κ (given v) ≡ in_kind t κ v
of_given t κ (bit b) = refl
of_given t κ (suffix c k) = refl

-- each parameter has a value
pub value_there : (t : Traces) (Γ : List Kind) (vs : List Value) → InKinds t Γ vs → (i : ℕ) (κ : Kind) → get_elem? Γ i ≡ some κ
    → (v : Value) × (get_elem? vs i ≡ some v)
value_there t [] vs hs i κ e = let z : ◌≡◌ {A = ℕ} 0 1 = cc in absurd (omega arith)
value_there t (k ∷ Γ) [] hs i κ e = absurd hs
value_there t (k ∷ Γ) (v ∷ vs) hs zero κ e = (v, refl)
value_there t (k ∷ Γ) (v ∷ vs) hs (suc i) κ e = value_there t Γ vs hs.1 i κ e

kind_param : (t : Traces) (Γ : List Kind) (env : List Value) → InKinds t Γ env → (i : ℕ) (κ : Kind) → get_elem? Γ i ≡ some κ → (o : Outcome)
    → param_value (get_elem? env i) ≡ some o → T (of_kind t κ o)
kind_param t [] env hs i κ p o q = let z : ◌≡◌ {A = ℕ} 0 1 = cc in absurd (omega arith)
kind_param t (k ∷ Γ) [] hs i κ p o q = absurd hs
kind_param t (k ∷ Γ) (v ∷ env) hs zero κ p o q = let e : o ≡ given v = cc in let e' : κ ≡ k = cc in rw (e, e', of_given t k v) hs.0
kind_param t (k ∷ Γ) (v ∷ env) hs (suc i) κ p o q = kind_param t Γ env hs.1 i κ p o q

shorter : (t : Traces) (d : Demand) (c : Contact) (k : ℕ) → T (of_demand t d (Suffix c (suc k))) → T (of_demand t d (Suffix c k))
shorter t (only κ) c k h = shorter_in t κ c k h
shorter t any_list c k h = shorter_in t (list c) c k h

kind_op : (t : Traces) (p : Op) (d : Demand) (c : Contact) (k : ℕ) → T (op_allowed p d) → T (of_demand t (operand_demand p d) (Suffix c k))
    → T (of_demand t d (applied t p c k))
kind_op t hd d c zero a h = demand_error t d Head
kind_op t hd d c (suc k) a h = demand_kind t d truth (applied t hd c (suc k)) a tt
kind_op t tl d c zero a h = demand_error t d Tail
kind_op t tl d c (suc k) a h = shorter t d c k h
kind_op t null d c zero a h = demand_kind t d truth (Truth true) a tt
kind_op t null d c (suc k) a h = demand_kind t d truth (Truth false) a tt

module _ (P : Program) (t : Traces) (calls : Calls) (Γ : List Kind) (env : List Value) where
  kinded_op : (p : Op) (e : Expr) → Kinded P t calls Γ env e → (d : Demand) (o : Outcome) → Meets P Γ d (op p e)
      → Went Failed (body_outcome t calls env e) (operated t p) o → T (of_demand t d o)
  kinded_op p e ih d o m (on (bit b) q r) = let z : ◌≡◌ {A = ℕ} 0 1 = cc in absurd (omega arith)
  kinded_op p e ih d o m (on (suffix c k) q r) =
      let s : o ≡ applied t p c k = cc in rw s (kind_op t p d c k m.0 (ih (operand_demand p d) (Suffix c k) m.1 q))
  kinded_op p e ih d o m (off x q r) = rw r (demand_error t d x)

  kinded_if : (c a b : Expr) → Kinded P t calls Γ env a → Kinded P t calls Γ env b → (d : Demand) (o : Outcome) → Meets P Γ d (ifte c a b)
      → Went Failed (body_outcome t calls env c) (chosen (body_outcome t calls env a) (body_outcome t calls env b)) o → T (of_demand t d o)
  kinded_if c a b ha hb d o m (on (bit true) q r) = ha d o m.1 r
  kinded_if c a b ha hb d o m (on (bit false) q r) = hb d o m.2 r
  kinded_if c a b ha hb d o m (on (suffix w k) q r) = let z : ◌≡◌ {A = ℕ} 0 1 = cc in absurd (omega arith)
  kinded_if c a b ha hb d o m (off x q r) = rw r (demand_error t d x)

  kinded_call : KindCalls P t calls → (g : ℕ) (xs : Args) (d : Demand) (o : Outcome) → Meets P Γ d (call g xs)
      → WentAll Failed (args_outcome t calls env xs) (calls g) o → T (of_demand t d o)
  kinded_call ok g xs d o m (on_all vs q r) = demand_kind t d m.0.result o m.2 (ok g vs m.0 o m.1 r)
  kinded_call ok g xs d o m (off_all x q r) = rw r (demand_error t d x)

  kinded_rest : (e : Expr) (xs : Args) (v : Value) → KindedAll P t calls Γ env xs → (κs : List Kind) (r : Arguments) (m : MeetAll P Γ κs (arg e xs))
      → T (in_kind t m.0 v)
      → WentAll failed (args_outcome t calls env xs) (λ vs. some (values (v ∷ vs))) r → OfKinds t κs r
  kinded_rest e xs v ih κs r m hv (on_all vs q h) = let s : r ≡ values (v ∷ vs) = cc in rw (s, m.2) (hv, ih m.1 (values vs) m.4 q)
  kinded_rest e xs v ih κs r m hv (off_all x q h) = rw h tt

  kinded_arg : (e : Expr) (xs : Args) → Kinded P t calls Γ env e → KindedAll P t calls Γ env xs → (κs : List Kind) (r : Arguments)
      → MeetAll P Γ κs (arg e xs)
      → Went failed (body_outcome t calls env e) (λ v. with_values failed (args_outcome t calls env xs) (λ vs. some (values (v ∷ vs)))) r
      → OfKinds t κs r
  kinded_arg e xs he ih κs r m (on v q h) =
      kinded_rest e xs v ih κs r m (rw (of_given t m.0 v) at (he (only m.0) (given v) m.3 q)) (went_all _ _ _ r h)
  kinded_arg e xs he ih κs r m (off x q h) = rw h tt

module _ (P : Program) (t : Traces) (calls : Calls) (ok : KindCalls P t calls) (Γ : List Kind) (env : List Value) (hs : InKinds t Γ env) where
  mutual
    unfolding body_outcome

    pub kinded : (e : Expr) (d : Demand) (o : Outcome) → Meets P Γ d e → body_outcome t calls env e ≡ some o → T (of_demand t d o)
    kinded (constant b) d o m h = let e : o ≡ Truth b = cc in rw e (demand_kind t d truth (Truth b) m tt)
    kinded (empty c) d o m h =
        let e : o ≡ Suffix c zero = cc in rw e (demand_kind t d (list c) (Suffix c zero) m (in_suffix t c zero (omega arith)))
    kinded (param i) d o m h = demand_kind t d m.0 o m.2 (kind_param t Γ env hs i m.0 m.1 o h)
    kinded (op p e) d o m h = kinded_op P t calls Γ env p e (λ d' r n q. kinded e d' r n q) d o m (went _ _ _ o h)
    kinded (ifte c a b) d o m h =
        kinded_if P t calls Γ env c a b (λ d' r n q. kinded a d' r n q) (λ d' r n q. kinded b d' r n q) d o m (went _ _ _ o h)
    kinded (call g xs) d o m h = kinded_call P t calls Γ env ok g xs d o m (went_all _ _ _ o h)

    pub kinded_all : (xs : Args) (κs : List Kind) (r : Arguments) → MeetAll P Γ κs xs → args_outcome t calls env xs ≡ some r → OfKinds t κs r
    kinded_all no_args κs r m h = let e : r ≡ values [] = cc in rw (e, m) tt
    kinded_all (arg e xs) κs r m h =
        kinded_arg P t calls Γ env e xs (λ d' r' n q. kinded e d' r' n q) (λ κ' r' n q. kinded_all xs κ' r' n q) κs r m (went _ _ _ r h)

module _ (P : Program) (t : Traces) (calls : Calls) (kc : KindCalls P t calls) (ok : SoundCalls P t calls)
    (Γ : List Kind) (env : List Value) (hs : InKinds t Γ env) where
  pub sound : (e : Expr) (d : Demand) (o : Outcome) → Meets P Γ d e → body_outcome t calls env e ≡ some o → Derives P t env e o
  sound e d o m h = derives P t calls ok Γ env (λ xs κs r. kinded_all P t calls kc Γ env hs xs κs r) e d o m h

  pub sound-all : (xs : Args) (κs : List Kind) (r : Arguments) → MeetAll P Γ κs xs → args_outcome t calls env xs ≡ some r → DerivesAll P t env xs r
  sound-all xs κs r m h = derives_all P t calls ok Γ env (λ ys κs' r'. kinded_all P t calls kc Γ env hs ys κs' r') xs κs r m h

-- ---- Completeness

abbrev pub ClosedCalls : Program → Traces → Calls → Type 0
ClosedCalls P t calls = (g : ℕ) (vs : List Value) (f : Function) (o : Outcome) → get_elem? P g ≡ some f → InKinds t f.params vs
    → body_outcome t calls vs f.body ≡ some o → calls g vs ≡ some o

module _ (P : Program) (t : Traces) (wk : WellKinded P) (calls : Calls) (ok : KindCalls P t calls) (closed : ClosedCalls P t calls) where
  abbrev Found : List Value → Expr → Outcome → Type 0
  Found env e o = (Γ : List Kind) (d : Demand) → InKinds t Γ env → Meets P Γ d e → body_outcome t calls env e ≡ some o

  abbrev FoundAll : List Value → Args → Arguments → Type 0
  FoundAll env xs r = (Γ κs : List Kind) → InKinds t Γ env → MeetAll P Γ κs xs → args_outcome t calls env xs ≡ some r

  found-call : (env : List Value) (g : ℕ) (xs : Args) (vs : List Value) (f : Function) (o : Outcome)
      → FoundAll env xs (values vs) → get_elem? P g ≡ some f → Found vs f.body o → Found env (call g xs) o
  unfolding body_outcome
  found-call env g xs vs f o u h b Γ d hs m =
      let a = u Γ m.0.params hs m.3 in
      let e : m.0 ≡ f = cc in
      let ks : InKinds t f.params vs = rw e at (kinded_all P t calls ok Γ env hs xs m.0.params (values vs) m.3 a) in
      rw a (closed g vs f o h ks (b f.params (only f.result) ks (wk g f h)))

  found : Kept P t Found FoundAll
  unfolding body_outcome
  found = record {
    k_constant = λ Γ d hs m. refl;
    k_empty = λ Γ d hs m. refl;
    k_param = λ h Γ d hs m. rw h;
    k_op = λ {p = p} u Γ d hs m. rw (u Γ (operand_demand p d) hs m.1);
    k_op_error = λ {p = p} u Γ d hs m. rw (u Γ (operand_demand p d) hs m.1);
    k_then = λ u w Γ d hs m. rw (u Γ (only truth) hs m.0) (w Γ d hs m.1);
    k_else = λ u w Γ d hs m. rw (u Γ (only truth) hs m.0) (w Γ d hs m.2);
    k_if_error = λ u Γ d hs m. rw (u Γ (only truth) hs m.0);
    k_call = λ {env} {g} {xs} {vs} {f} {o} u h b. found-call env g xs vs f o u h b;
    k_call_error = λ u Γ d hs m. rw (u Γ m.0.params hs m.3);
    k_none = λ Γ κs hs m. refl;
    k_arg = λ {v = v} u w Γ κs hs m. rw (u Γ (only m.0) hs m.3, with_given failed v, w Γ m.1 hs m.4);
    k_arg_error = λ u Γ κs hs m. rw (u Γ (only m.0) hs m.3);
    k_later_error = λ v u w Γ κs hs m. rw (u Γ (only m.0) hs m.3, with_given failed v, w Γ m.1 hs m.4);
  }

  pub complete : {env : List Value} {e : Expr} {o : Outcome} → Derives P t env e o → (Γ : List Kind) (d : Demand) → InKinds t Γ env → Meets P Γ d e
      → body_outcome t calls env e ≡ some o
  complete d = derived found d

-- ---- Calls that agree

-- on values of their kinds two ways to look calls up give the same
abbrev pub SameCalls : Program → Traces → Calls → Calls → Type 0
SameCalls P t calls calls' = (g : ℕ) (vs : List Value) (f : Function) → get_elem? P g ≡ some f → InKinds t f.params vs → calls g vs ≡ calls' g vs

module _ (P : Program) (t : Traces) (calls calls' : Calls) (ok : KindCalls P t calls) (same : SameCalls P t calls calls')
    (Γ : List Kind) (env : List Value) (hs : InKinds t Γ env) where
  same_call : (g : ℕ) (xs : Args) (d : Demand) → Meets P Γ d (call g xs) → (r : Option Arguments) → args_outcome t calls env xs ≡ r
      → with_values Failed r (calls g) ≡ with_values Failed r (calls' g)
  same_call g xs d m none q = refl
  same_call g xs d m (some (values vs)) q = same g vs m.0 m.1 (kinded_all P t calls ok Γ env hs xs m.0.params (values vs) m.3 q)
  same_call g xs d m (some (failed x)) q = refl

  mutual
    unfolding body_outcome

    pub same_body : (e : Expr) (d : Demand) → Meets P Γ d e → body_outcome t calls env e ≡ body_outcome t calls' env e
    same_body (constant b) d m = refl
    same_body (empty c) d m = refl
    same_body (param i) d m = refl
    same_body (op p e) d m = rw (same_body e (operand_demand p d) m.1)
    same_body (ifte c a b) d m = rw (same_body c (only truth) m.0, same_body a d m.1, same_body b d m.2)
    same_body (call g xs) d m = same_call g xs d m _ refl ∙ rw (same_args xs m.0.params m.3)

    pub same_args : (xs : Args) (κs : List Kind) → MeetAll P Γ κs xs → args_outcome t calls env xs ≡ args_outcome t calls' env xs
    same_args no_args κs m = refl
    same_args (arg e xs) κs m = rw (same_body e (only m.0) m.3, same_args xs m.1 m.4)
