-- What following owes, as demand 3 does of evaluating: of the decision that it reports and the calls made.
use Rattle.std.specs.Prelude.{ℕ, ◌≡◌, ◌↔◌}
use Rattle.std.proofs.Math.Option.{Option}
use Rattle.semantics.specs.declared.Sort.{Sort}
use Rattle.semantics.specs.declared.Outcome.{Outcome}
use Rattle.semantics.specs.declared.Decision.TheVariants.{Forever, Decided}
use Rattle.semantics.specs.Language.{Function, Program, Traces, whole_traces}
use Rattle.semantics.specs.Numbering.{cells, Config}
use Rattle.semantics.specs.Demand.{Right}
use Rattle.semantics.specs.Verdicts.{decision_of}
use Rattle.chains.specs.declared.Followed.{Followed}
use Rattle.chains.specs.Chain.{EndsAfter, Endless}

-- main on the whole trace or traces; f is main
abbrev pub main_on : Function → Sort → Traces → Config
main_on f s t = record { fun = f; args = whole_traces s t }

pub record Follows (P : Program) (s : Sort) (t : Traces) (f : Function) (r : Followed) : Type 0 where
  -- demands 2 and 3, of main: 'forever' exactly when no finite derivation, of any height, exists, otherwise the only outcome that has one
  pub main : (said : Option Outcome) × (r.decision ≡ decision_of said) × Right P t f (whole_traces s t) said
  -- an outcome exactly when the chain of calls from main ends with it; the calls are then the chain's length
  pub ends : (o : Outcome) → (r.decision ≡ Decided o) ↔ ((n : ℕ) × EndsAfter P t (main_on f s t) n o)
  pub length : (o : Outcome) (n : ℕ) → EndsAfter P t (main_on f s t) n o → r.calls ≡ n
  -- 'forever' exactly when it never ends; the calls are then as many as there are configurations
  pub forever : (r.decision ≡ Forever) ↔ Endless P t (main_on f s t)
  pub all : r.decision ≡ Forever → r.calls ≡ cells t P
