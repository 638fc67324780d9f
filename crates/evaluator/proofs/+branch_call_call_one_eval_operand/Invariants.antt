-- `eval` and the functions that it calls meet their contracts. A node takes 4 of the measure, which is the depth left.
use Rattle.std.proofs.Common.{◌≡◌, ◌+◌, ◌*◌}
use Rattle.decoding.specs.Words.{callee_of, places_of}
use Rattle.evaluator.specs.{eval_at}
use Rattle.evaluator.proofs.EvalWays.{Along}
use Rattle.evaluator.proofs.+branch_call_call_one_eval_operand.Given as goal

abbrev pub decreases-branch : goal.decreases-branch
decreases-branch l = l.depth * 4 + 1

abbrev pub decreases-call : goal.decreases-call
decreases-call l = l.depth * 4 + 2

abbrev pub decreases-call_one : goal.decreases-call_one
decreases-call_one l = l.depth * 4 + 2

abbrev pub decreases-eval : goal.decreases-eval
decreases-eval l = l.depth * 4

abbrev pub decreases-operand : goal.decreases-operand
decreases-operand l = l.depth * 4 + 1

abbrev pub invariant-call-loop-i : goal.invariant-call-loop-i
invariant-call-loop-i l =
    (l.place ≡ 4096 + 8 * callee_of l.node)
    × Along l.words l.table.now (eval_at l.words l.traces l.table.now l.env l.depth) (callee_of l.node) l.count (places_of l.node) l.index l.rest l.i
