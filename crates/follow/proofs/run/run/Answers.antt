-- The goals that are left.
use native.Mathlib.Omega.{arith}
use Rattle.follow.proofs.Ways.{following-start, following-plain, following-stop, following-more, following_end}
use Rattle.follow.proofs.run.run.Goals as goal

pub loop-calls-init : goal.loop-calls-init
loop-calls-init c = following-start _ _ _ _ _ _ _

pub returns-then-sort-lt-CALL : goal.returns-then-sort-lt-CALL
returns-then-sort-lt-CALL c = following-plain _ _ _ _ _ _ _ c.loop-calls.invariant c.loop-calls-test.true c.spine-node.ensures c.sort.ensures c.if-sort-lt-CALL.true c.eval-outcome.ensures

pub returns-in-Err : goal.returns-in-Err
returns-in-Err c = following-stop _ _ _ _ _ _ _ c.loop-calls.invariant c.loop-calls-test.true c.spine-node.ensures c.sort.ensures c.if-sort-lt-CALL.false
    c.in-Err.ensures.stop

pub offset_bounds-bodies-callee : goal.offset_bounds-bodies-callee
offset_bounds-bodies-callee c = omega (arith, c.callee.ensures)

pub bounds-bodies-callee : goal.bounds-bodies-callee
bounds-bodies-callee c = omega (arith, c.callee.ensures)

pub loop-calls-preserved : goal.loop-calls-preserved
loop-calls-preserved c = following-more _ _ _ _ _ _ _ c.loop-calls.invariant c.loop-calls-test.true c.spine-node.ensures c.sort.ensures c.if-sort-lt-CALL.false
    c.in_default.ensures.stop c.arguments.ensures.env (rw c.callee.ensures)

pub returns : goal.returns
returns c = following_end _ _ _ _ _ _ _ c.loop-calls.invariant c.loop-calls-test.false
