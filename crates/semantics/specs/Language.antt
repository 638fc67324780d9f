-- The language: kinds, expressions, functions, programs; values and outcomes; well-kinded programs.
use Rattle.std.specs.Prelude.{ℕ, ◌≡◌, Bool, true, false, not, ◌&&◌, List, [], ◌∷◌, length, T, leb}
use Rattle.std.proofs.Math.Option.{some}
use Rattle.std.proofs.Math.ListN.{get_elem?}
use Rattle.semantics.specs.declared.Contact.{Contact}
use Rattle.semantics.specs.declared.Contact.TheVariants.{Ram, Guard}
use Rattle.semantics.specs.declared.Sort.{Sort}
use Rattle.semantics.specs.declared.Sort.TheVariants.{One, Two}
-- the kind of a parameter or a result: Bool, or a list of a contact's trace
use Rattle.semantics.specs.declared.Kind.{Kind}
use Rattle.semantics.specs.declared.Kind.TheVariants.{Truth as truth, List as list}
-- what a place demands: one kind, or a list of either contact
use Rattle.semantics.specs.declared.Demand.{Demand}
use Rattle.semantics.specs.declared.Demand.TheVariants.{Only as only, AnyList as any_list}
use Rattle.semantics.specs.declared.Outcome.{Outcome}
use Rattle.semantics.specs.declared.Outcome.TheVariants.{Truth, Suffix}

-- ---- Programs

abbrev pub is_list : Kind → Bool
is_list truth = false
is_list (list c) = true

abbrev pub is_guard : Kind → Bool
is_guard truth = false
is_guard (list Ram) = false
is_guard (list Guard) = true

-- the operations on one list
pub data Op : Type 0 where
  hd tl null : Op

-- expressions, and the arguments of a call in order
mutual
  pub data Expr : Type 0 where
    constant : Bool → Expr
    empty : Contact → Expr
    param : ℕ → Expr
    op : Op → Expr → Expr
    ifte : Expr → Expr → Expr → Expr
    call : ℕ → Args → Expr

  pub data Args : Type 0 where
    no_args : Args
    arg : Expr → Args → Args

pub record Function : Type 0 where
  pub params : List Kind
  pub result : Kind
  pub body : Expr

-- the functions in order; function 0 is main
abbrev pub Program : Type 0
Program = List Function

-- the parameters of main: 'one list parameter'; of two contacts, 'a ram list, then a guard list'
abbrev pub main_params : Sort → List Kind
main_params One = list Ram ∷ []
main_params Two = list Ram ∷ list Guard ∷ []

-- 'Function 0 is main', with a Bool result
pub record IsMain (s : Sort) (f : Function) : Type 0 where
  pub params : f.params ≡ main_params s
  pub result : f.result ≡ truth

-- ---- Values and outcomes

-- the samples of a contact, oldest first
abbrev pub Trace : Type 0
Trace = List Bool

-- the traces of both contacts; a program of one contact has no list of the guard's
pub record Traces : Type 0 where
  pub of_ram : Trace
  pub of_guard : Trace

-- no sample of either
abbrev pub no_traces : Traces
no_traces = record { of_ram = []; of_guard = [] }

-- the trace that a list is of
abbrev pub trace_of : Traces → Contact → Trace
trace_of t Ram = t.of_ram
trace_of t Guard = t.of_guard

-- 'a list value is a suffix of the trace, known by its length'; it says of which
pub data Value : Type 0 where
  bit : Bool → Value
  suffix : Contact → ℕ → Value

-- a value as an outcome; the other outcomes are errors
abbrev pub given : Value → Outcome
given (bit b) = Truth b
given (suffix c k) = Suffix c k

abbrev pub same_contact : Contact → Contact → Bool
same_contact Ram Ram = true
same_contact Ram Guard = false
same_contact Guard Ram = false
same_contact Guard Guard = true

-- the values of a kind: both Bools; the suffixes of its trace, of length 0 to the trace's
abbrev pub in_kind : Traces → Kind → Value → Bool
in_kind t truth (bit b) = true
in_kind t truth (suffix c k) = false
in_kind t (list c) (bit b) = false
in_kind t (list c) (suffix c' k) = same_contact c c' && leb k (length (trace_of t c))

-- a value for each parameter, each of its kind
abbrev pub InKinds : Traces → List Kind → List Value → Type 0
InKinds t [] [] = Unit {0}
InKinds t [] (v ∷ vs) = ⊥
InKinds t (κ ∷ κs) [] = ⊥
InKinds t (κ ∷ κs) (v ∷ vs) = T (in_kind t κ v) × InKinds t κs vs

-- the values of main's parameters: the whole trace or traces
abbrev pub whole_traces : Sort → Traces → List Value
whole_traces One t = suffix Ram (length t.of_ram) ∷ []
whole_traces Two t = suffix Ram (length t.of_ram) ∷ suffix Guard (length t.of_guard) ∷ []

-- ---- Well-kinded programs

-- whether an expression of a kind may stand there
abbrev pub allows : Demand → Kind → Bool
allows (only truth) truth = true
allows (only truth) (list c) = false
allows (only (list c)) truth = false
allows (only (list c)) (list c') = same_contact c c'
allows any_list truth = false
allows any_list (list c) = true

-- whether hd, tl or null may: hd and null give a Bool, tl a list of the contact that is demanded
abbrev pub op_allowed : Op → Demand → Bool
op_allowed hd d = allows d truth
op_allowed tl d = not (allows d truth)
op_allowed null d = allows d truth

-- what it demands of its operand: 'hd and null .. take either; tl hands its demand on'
abbrev pub operand_demand : Op → Demand → Demand
operand_demand hd d = any_list
operand_demand tl d = d
operand_demand null d = any_list

-- an expression meets what its place demands: 'an if hands its own demand to both branches, and
-- every operand and argument has its stated kind'; Γ are the kinds of the parameters
abbrev mutual
  pub Meets : Program → List Kind → Demand → Expr → Type 0
  Meets P Γ d (constant b) = T (allows d truth)
  Meets P Γ d (empty c) = T (allows d (list c))
  Meets P Γ d (param i) = (κ : Kind) × (get_elem? Γ i ≡ some κ) × T (allows d κ)
  Meets P Γ d (op p e) = T (op_allowed p d) × Meets P Γ (operand_demand p d) e
  Meets P Γ d (ifte c a b) = Meets P Γ (only truth) c × Meets P Γ d a × Meets P Γ d b
  Meets P Γ d (call g xs) = (f : Function) × (get_elem? P g ≡ some f) × T (allows d f.result) × MeetAll P Γ f.params xs

  pub MeetAll : Program → List Kind → List Kind → Args → Type 0
  MeetAll P Γ κs no_args = κs ≡ []
  MeetAll P Γ κs (arg e xs) = (κ : Kind) × (κs' : List Kind) × (κs ≡ κ ∷ κs') × Meets P Γ (only κ) e × MeetAll P Γ κs' xs

-- 'the body's place demands the result kind'
abbrev pub WellKinded : Program → Type 0
WellKinded P = (g : ℕ) (f : Function) → get_elem? P g ≡ some f → Meets P f.params (only f.result) f.body
