-- 'Rules that need no table' of document 02: 'the calls made are reported and are those of the rules'. The chain of calls is one of
-- derivations alone: no table, no pass and no count is in it.
use Rattle.std.specs.Prelude.{ℕ, suc, ◌≡◌, true, false, List}
use Rattle.std.proofs.Math.Option.{some}
use Rattle.std.proofs.Math.ListN.{get_elem?}
use Rattle.semantics.specs.declared.Outcome.{Outcome}
use Rattle.semantics.specs.declared.Outcome.TheVariants.{Truth}
use Rattle.semantics.specs.Language.{Expr, ifte, call, Args, Program, Traces, Value}
use Rattle.semantics.specs.Rules.{values, Derives, DerivesAll}
use Rattle.semantics.specs.Numbering.{Config}
use Rattle.semantics.specs.Demand.{Gives}

-- `Comes P t env e g vs`: the expression e, on the parameter values env, comes to a call of function g whose arguments have the values vs. A
-- condition that is derived says which branch is taken
pub data Comes (P : Program) (t : Traces) (env : List Value) : Expr → ℕ → List Value → Type 0 where
  in_call : {g : ℕ} {xs : Args} {vs : List Value} → DerivesAll P t env xs (values vs) → Comes P t env (call g xs) g vs
  in_then : {c a b : Expr} {g : ℕ} {vs : List Value} → Derives P t env c (Truth true) → Comes P t env a g vs → Comes P t env (ifte c a b) g vs
  in_else : {c a b : Expr} {g : ℕ} {vs : List Value} → Derives P t env c (Truth false) → Comes P t env b g vs → Comes P t env (ifte c a b) g vs

-- a step, from a configuration to the next: its body comes to a call, whose function and values those of the next are
pub record Step (P : Program) (t : Traces) (k k' : Config) : Type 0 where
  pub callee : ℕ
  pub is_fun : get_elem? P callee ≡ some k'.fun
  pub comes : Comes P t k.args k.fun.body callee k'.args

-- a chain of n calls, from a configuration to another
pub data Chain (P : Program) (t : Traces) : Config → ℕ → Config → Type 0 where
  start : {k : Config} → Chain P t k 0 k
  more : {k k' k'' : Config} {n : ℕ} → Step P t k k' → Chain P t k' n k'' → Chain P t k (suc n) k''

-- the chain from a configuration ends after n calls with an outcome: no step leads on from the last configuration, whose body gives it
pub record EndsAfter (P : Program) (t : Traces) (k : Config) (n : ℕ) (o : Outcome) : Type 0 where
  pub last : Config
  pub chain : Chain P t k n last
  pub no_more : (k' : Config) → ¬ Step P t last k'
  pub gives : Gives P t last.fun last.args o

-- it never ends: there are calls however many are asked for
abbrev pub Endless : Program → Traces → Config → Type 0
Endless P t k = (n : ℕ) → (k' : Config) × Chain P t k n k'
