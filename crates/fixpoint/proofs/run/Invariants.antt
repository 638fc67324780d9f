-- `run` meets its contract. Before turn `done` the passes made, one fewer, have all stored.
use Rattle.std.proofs.Common.{◌-◌}
use Rattle.passes.specs.Mirror.{setup}
use Rattle.fixpoint.specs.{most_passes}
use Rattle.fixpoint.proofs.Running.{Running}
use Rattle.fixpoint.proofs.run.Given as goal

abbrev pub invariant-loop-done : goal.invariant-loop-done
invariant-loop-done l = Running (setup l.words l.functions l.traces) l.n l.starts l.count most_passes l.initial.table l.table (l.done - 1)
