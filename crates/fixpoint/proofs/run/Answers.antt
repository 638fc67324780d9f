-- The goals that are left.
use Rattle.std.proofs.Common.{◌≡◌, ◌+◌, ◌-◌, arith}
use Rattle.fixpoint.specs.{most_passes}
use Rattle.fixpoint.proofs.Running.{running_start, running_stop, running_more, running_end}
use Rattle.fixpoint.proofs.run.Goals as goal

pub loop-done-init : goal.loop-done-init
loop-done-init c = running_start _ _ _ _ most_passes _

pub returns-then-stored-eq0-clause-cells : goal.returns-then-stored-eq0-clause-cells
returns-then-stored-eq0-clause-cells c = (running_stop c.loop-done.invariant (omega arith) c.pass-stored.ensures.cells c.pass-stored.ensures.stored c.if-stored-eq0.true).0

pub returns-then-stored-eq0-clause-passes : goal.returns-then-stored-eq0-clause-passes
returns-then-stored-eq0-clause-passes c = let made : c.loop-done.done - 1 + 1 ≡ c.loop-done.done = omega arith in
    rw made at (running_stop c.loop-done.invariant (omega arith) c.pass-stored.ensures.cells c.pass-stored.ensures.stored c.if-stored-eq0.true).1

pub loop-done-preserved : goal.loop-done-preserved
loop-done-preserved c = let made : c.loop-done.done - 1 + 1 ≡ c.loop-done.done + 1 - 1 = omega arith in
    rw made at (running_more c.loop-done.invariant (omega arith) c.pass-stored.ensures.cells c.pass-stored.ensures.stored c.if-stored-eq0.false)

pub shape_of-table : goal.shape_of-table
shape_of-table c = c.loop-done.invariant.same

pub returns-clause-cells : goal.returns-clause-cells
returns-clause-cells c = (running_end c.loop-done.invariant (omega arith)).0

pub returns-clause-passes : goal.returns-clause-passes
returns-clause-passes c = let all : c.loop-done.done - 1 ≡ most_passes = omega arith in
    rw all at (running_end c.loop-done.invariant (omega arith)).1
