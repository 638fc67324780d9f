-- `run` meets its contract. Before each turn the calls made have led to a body on some values.
use Rattle.follow.proofs.Ways.{Following}
use Rattle.follow.proofs.run.run.Given as goal

abbrev pub invariant-loop-calls : goal.invariant-loop-calls
invariant-loop-calls l = Following l.words l.traces l.none l.bodies l.most l.initial.env l.initial.body l.env l.body l.calls
