-- Demand 3: what evaluating owes, of the verdict that it reports and the cells that it leaves.
use Rattle.std.specs.Prelude.{ℕ, suc, ◌≤◌, ◌<◌, ◌≡◌, ◌↔◌, ◌≢◌, List, length, get_or}
use Rattle.std.proofs.Math.Option.{Option, none, some}
use Rattle.std.proofs.Math.ListN.{get_elem?}
use Rattle.semantics.specs.declared.Sort.{Sort}
use Rattle.semantics.specs.declared.Outcome.{Outcome}
use Rattle.semantics.specs.declared.Verdict.{Verdict}
use Rattle.semantics.specs.Language.{Function, Program, IsMain, Traces, Value, InKinds, whole_traces}
use Rattle.semantics.specs.Rules.{Derives}
use Rattle.semantics.specs.Numbering.{cells, cell_of}
use Rattle.semantics.specs.Cells.{content_of}
use Rattle.semantics.specs.Visits.{Table, pass_stores}
use Rattle.semantics.specs.Passes.{table_after}
use Rattle.semantics.specs.Verdicts.{decision_of}

-- 'a derivation .. with a function's body on given values of its parameters at the root'
abbrev pub Gives : Program → Traces → Function → List Value → Outcome → Type 0
Gives P t f vs o = Derives P t vs f.body o

-- what is said of a configuration is right: nothing exactly when no finite derivation, of any height, exists for
-- it; otherwise the only outcome that has one
pub record Right (P : Program) (t : Traces) (f : Function) (vs : List Value) (said : Option Outcome) : Type 0 where
  pub undecided : (said ≡ none) ↔ ((o : Outcome) → ¬ Gives P t f vs o)
  pub decided : (o : Outcome) → said ≡ some o → Gives P t f vs o
  pub only : (o o' : Outcome) → Gives P t f vs o → Gives P t f vs o' → o ≡ o'

-- `passes` is the number, counted from 1, of the first pass that changes nothing
pub record FirstStill (P : Program) (t : Traces) (passes : ℕ) : Type 0 where
  pub before : ℕ
  pub counted : passes ≡ suc before
  pub still : pass_stores P t (table_after P t before) ≡ 0
  pub first : (k : ℕ) → k < before → pass_stores P t (table_after P t k) ≢ 0

-- all of demand 3 together
pub record Decides (P : Program) (t : Traces) (verdict : Verdict) (table : Table) : Type 0 where
  -- the verdict, of main on the whole trace or traces
  pub main : (s : Sort) (f : Function) → get_elem? P 0 ≡ some f → IsMain s f
      → (said : Option Outcome) × (verdict.decision ≡ decision_of said) × Right P t f (whole_traces s t) said
  -- each configuration's cell, which lies in the table
  pub within : (g : ℕ) (f : Function) (vs : List Value) → get_elem? P g ≡ some f → InKinds t f.params vs → cell_of t P g vs < length table
  pub cell : (g : ℕ) (f : Function) (vs : List Value) → get_elem? P g ≡ some f → InKinds t f.params vs
      → (said : Option Outcome) × (get_or table (cell_of t P g vs) 0 ≡ content_of said) × Right P t f vs said
  -- the passes
  pub passes : FirstStill P t verdict.passes
  pub in_time : verdict.passes ≤ suc (cells t P)
