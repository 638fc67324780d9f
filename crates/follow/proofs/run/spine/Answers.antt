-- The goals that are left.
use native.Mathlib.Omega.{arith}
use mathlib.Core.Path.{◌∙◌}
use Rattle.follow.proofs.Ways.{spine_end, spine_here, spine_on}
use Rattle.follow.proofs.run.spine.Goals as goal

pub returns-then-not-is_if : goal.returns-then-not-is_if
returns-then-not-is_if c = spine_here _ _ _ _ _ _ c.loop.invariant (omega arith) (rw c.sort.ensures at c.is_if.ensures) c.if-not-is_if.true

pub loop-preserved : goal.loop-preserved
loop-preserved c = spine_on _ _ _ _ _ _ _ c.loop.invariant (omega arith) (rw c.sort.ensures at c.is_if.ensures) c.if-not-is_if.false
    c.condition.ensures c.branch-node.ensures

pub returns : goal.returns
returns c = c.constant.ensures ∙ spine_end _ _ _ _ _ _ c.loop.invariant (omega arith)
