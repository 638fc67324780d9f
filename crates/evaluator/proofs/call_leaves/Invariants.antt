-- `call_leaves` meets its contract. Before each turn the call has gone past i of its arguments.
use Rattle.std.proofs.Common.{◌≡◌, ◌+◌, ◌*◌}
use Rattle.decoding.specs.Words.{callee_of, places_of}
use Rattle.evaluator.specs.{leaf_at}
use Rattle.evaluator.proofs.EvalWays.{Along}
use Rattle.evaluator.proofs.call_leaves.Given as goal

abbrev pub invariant-loop-i : goal.invariant-loop-i
invariant-loop-i l = (l.place ≡ 4096 + 8 * callee_of l.node)
    × Along l.words l.table.now (leaf_at l.words l.traces l.env) (callee_of l.node) l.count (places_of l.node) l.index l.places l.i
