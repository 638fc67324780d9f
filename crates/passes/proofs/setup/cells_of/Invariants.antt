-- `cells_of` meets its contract. Before turn g the array and the total are those of the functions before g.
use Rattle.passes.specs.Mirror.{heads}
use Rattle.passes.proofs.SetupLoops.{Listed}
use Rattle.passes.proofs.setup.cells_of.Given as goal

abbrev pub invariant-loop-g : goal.invariant-loop-g
invariant-loop-g l = Listed (heads l.kinds l.guards l.params) l.lengths l.functions l.total l.g
