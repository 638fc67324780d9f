-- `pass` meets its contract. Before each turn the functions below g have been visited, or passed over.
use Rattle.passes.specs.Mirror.{setup}
use Rattle.passes.proofs.PassWays.{Covering}
use Rattle.passes.proofs.pass.Given as goal

abbrev pub invariant-loop-g : goal.invariant-loop-g
invariant-loop-g l = Covering (setup l.words l.functions l.traces) l.n l.starts l.initial.table l.table l.stored l.g
