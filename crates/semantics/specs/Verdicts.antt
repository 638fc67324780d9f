-- The verdict, of document 01: what main's cell decides when the passes end.
use Rattle.std.specs.Prelude.{ℕ, ◌-◌, [], List, ◌∷◌, get_or}
use Rattle.std.proofs.Math.Option.{Option, none, some}
use Rattle.semantics.specs.declared.Outcome.{Outcome}
use Rattle.semantics.specs.declared.Decision.{Decision}
use Rattle.semantics.specs.declared.Decision.TheVariants.{Forever, Decided}
use Rattle.semantics.specs.declared.Verdict.{Verdict}
use Rattle.semantics.specs.declared.Kind.TheVariants.{Truth as truth}
use Rattle.semantics.specs.Language.{Program, Traces, no_traces}
use Rattle.semantics.specs.Numbering.{size}
use Rattle.semantics.specs.Cells.{code_of, outcome_in}
use Rattle.semantics.specs.Passes.{pass_count, final_table}

abbrev pub decision_of : Option Outcome → Decision
decision_of none = Forever
decision_of (some o) = Decided o

-- '0 forever, 1 no (False), 2 yes (True), 3 head, 4 tail': the content of main's cell
abbrev pub verdict_number : Decision → ℕ
verdict_number Forever = 0
verdict_number (Decided o) = code_of o

-- a verdict in numbers: its own, and its pass count
abbrev pub verdict_values : Verdict → List ℕ
verdict_values v = verdict_number v.decision ∷ v.passes ∷ []

-- what main's cell decides: main gives a Bool, whose number says nothing of traces
unfoldable pub main_decision : ℕ → Decision
main_decision cell = decision_of (outcome_in no_traces truth cell)

-- 'main's cell on the whole trace is cell n'; 'on both whole traces [it] is the last of main's cells'
abbrev pub main_cell : Traces → Program → ℕ
main_cell t [] = 0
main_cell t (f ∷ fs) = size t f.params - 1

unfoldable pub verdict_of : Program → Traces → Verdict
verdict_of P t = record { decision = main_decision (get_or (final_table P t) (main_cell t P) 0); passes = pass_count P t }
