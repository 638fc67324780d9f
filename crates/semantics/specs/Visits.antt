-- 'Table and passes' of document 01: a pass, on a table with any content.
use Rattle.std.specs.Prelude.{ℕ, zero, suc, ◌+◌, List, get_or, set}
use Rattle.std.proofs.Math.Option.{Option, none, some}
use Rattle.std.proofs.Math.ListN.{get_elem?}
use Rattle.semantics.specs.declared.Outcome.{Outcome}
use Rattle.semantics.specs.Language.{Function, Program, Traces}
use Rattle.semantics.specs.Numbering.{cells, cell_of, Config, config_at}
use Rattle.semantics.specs.Cells.{code_of, outcome_in}
use Rattle.semantics.specs.Bodies.{Calls, body_outcome}

abbrev pub Table : Type 0
Table = List ℕ

abbrev pub held_by : Traces → Option Function → ℕ → Option Outcome
held_by t none cell = none
held_by t (some f) cell = outcome_in t f.result cell

-- calls looked up in a table
unfoldable pub lookup : Program → Traces → Table → Calls
lookup P t T g vs = held_by t (get_elem? P g) (get_or T (cell_of t P g vs) 0)

abbrev pub held_in : Traces → Option Config → ℕ → Option Outcome
held_in t none cell = none
held_in t (some k) cell = outcome_in t k.fun.result cell

-- what cell c holds
unfoldable pub held_at : Program → Traces → Table → ℕ → Option Outcome
held_at P t T c = held_in t (config_at t P c) (get_or T c 0)

-- a configuration's body, 'with calls looked up in the table as it then is'
abbrev pub body_of : Program → Traces → Table → Option Config → Option Outcome
body_of P t T none = none
body_of P t T (some k) = body_outcome t (lookup P t T) k.args k.fun.body

abbrev pub if_undecided : Option Outcome → Option Outcome → Option Outcome
if_undecided none new = new
if_undecided (some old) new = none

-- what the visit of cell c stores: of an undecided cell what its body gives, else nothing
unfoldable pub stored : Program → Traces → Table → ℕ → Option Outcome
stored P t T c = if_undecided (held_at P t T c) (body_of P t T (config_at t P c))

abbrev pub stored_in : Table → ℕ → Option Outcome → Table
stored_in T c none = T
stored_in T c (some o) = set T c (code_of o)

abbrev pub one_if : {A : Type 0} → Option A → ℕ
one_if none = 0
one_if (some a) = 1

unfoldable pub visit : Program → Traces → ℕ → Table → Table
visit P t c T = stored_in T c (stored P t T c)

-- the visits of cells 0, 1, .., c - 1 'in rising order', and how many outcomes they store
unfoldable pub visits : Program → Traces → ℕ → Table → Table
visits P t zero T = T
visits P t (suc c) T = visit P t c (visits P t c T)

unfoldable pub stores : Program → Traces → ℕ → Table → ℕ
stores P t zero T = 0
stores P t (suc c) T = stores P t c T + one_if (stored P t (visits P t c T) c)

-- a pass visits every cell that is needed; it 'changes nothing when it stores no outcome'
unfoldable pub pass : Program → Traces → Table → Table
pass P t T = visits P t (cells t P) T

unfoldable pub pass_stores : Program → Traces → Table → ℕ
pass_stores P t T = stores P t (cells t P) T
