-- `check`, `operand` and `call` meet their contracts. A node takes 2 of the measure, which is the depth left.
use Prim.Native.Nat.{◌+◌, ◌-◌, ◌*◌}
use Rattle.rule.specs.Walk.{frame_of, check_at}
use Rattle.rule.proofs.Walking.{Down, Along}
use Rattle.rule.proofs.expression.+call_check_operand.Given as goal

abbrev pub decreases-call : goal.decreases-call
decreases-call l = l.depth * 2 + 1

abbrev pub decreases-check : goal.decreases-check
decreases-check l = l.depth * 2

abbrev pub decreases-operand : goal.decreases-operand
decreases-operand l = l.depth * 2 + 1

abbrev pub invariant-check-loop-at : goal.invariant-check-loop-at
invariant-check-loop-at l = Down (frame_of l.frame) l.fn.depth l.fn.place l.fn.at l.depth l.place l.at

abbrev pub decreases-check-loop-at : goal.decreases-check-loop-at
decreases-check-loop-at l = l.depth

abbrev pub invariant-call-loop-i : goal.invariant-call-loop-i
invariant-call-loop-i l = Along (check_at (frame_of l.frame) l.depth) l.kinds l.guard l.i-end l.at l.i l.next

abbrev pub decreases-call-loop-i : goal.decreases-call-loop-i
decreases-call-loop-i l = l.i-end - l.i
