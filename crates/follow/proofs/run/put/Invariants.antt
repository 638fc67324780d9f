-- `put` meets its contract. Before turn i the arguments before it have values, which are in the array.
use Rattle.decoding.specs.Words.{places_of}
use Rattle.evaluator.specs.{eval_at}
use Rattle.syntax.specs.Limits.{most_depth}
use Rattle.follow.proofs.Ways.{Put}
use Rattle.follow.proofs.run.put.Given as goal

abbrev pub invariant-loop-i : goal.invariant-loop-i
invariant-loop-i g l = Put (eval_at l.words l.traces l.none.now l.env most_depth) l.count g.row.PLACES (places_of l.node) l.env l.i l.places l.next
