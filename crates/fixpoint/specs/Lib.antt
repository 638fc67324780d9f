-- A mirror of the code: passes until one stores nothing. No reader need believe it: proofs/ shows that it comes to what the rules
-- say.
use Rattle.std.specs.Prelude.{ℕ, zero, suc, ◌+◌, cond, List, eqb}
use Rattle.semantics.specs.Numbering.{most_cells}
use Rattle.codes.specs.declared.Lengths.{Lengths}
use Rattle.passes.specs.Mirror.{Setup, pass_visits, pass_counts}

-- the most passes that a run makes: one more than the most cells
abbrev pub most_passes : ℕ
most_passes = suc most_cells

-- at most so many passes, until one stores nothing, that one included: the table after them, and how many they are
unfoldable pub table_from : Setup → Lengths → List ℕ → ℕ → ℕ → List ℕ → List ℕ
table_from S n starts count zero table = table
table_from S n starts count (suc fuel) table =
    cond (eqb (pass_counts S n starts count table) 0) (pass_visits S n starts count table)
    (table_from S n starts count fuel (pass_visits S n starts count table))

unfoldable pub passes_run : Setup → Lengths → List ℕ → ℕ → ℕ → List ℕ → ℕ
passes_run S n starts count zero table = 0
passes_run S n starts count (suc fuel) table =
    cond (eqb (pass_counts S n starts count table) 0) 1 (1 + passes_run S n starts count fuel (pass_visits S n starts count table))
