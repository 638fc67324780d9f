-- `pass_function` meets its contract. Before each turn the cells below index have been visited, and the values are those of the cell at index.
use Prim.Native.Nat.{◌-◌}
use Rattle.passes.specs.Mirror.{setup}
use Rattle.passes.proofs.CellLoop.{Stepping}
use Rattle.passes.proofs.pass_function.Given as goal

abbrev pub invariant-loop-index : goal.invariant-loop-index
invariant-loop-index l = Stepping (setup l.given.words.now l.given.functions.now l.given.traces.now) l.given.n l.g l.body l.initial.table l.table l.env l.stored l.index

abbrev pub decreases-loop-index : goal.decreases-loop-index
decreases-loop-index l = l.size - l.index
