-- The goals that are left.
use Rattle.std.proofs.Common.{refl}
use Rattle.decoding.proofs.Loops.{swept_start, swept_more}
use Rattle.decoding.proofs.program.put_nodes.Goals as goal

pub loop-at-init : goal.loop-at-init
loop-at-init c = swept_start _ _ _ _ _

pub loop-at-preserved : goal.loop-at-preserved
loop-at-preserved c = swept_more _ _ _ _ _ _ c.loop-at.invariant c.loop-at-test.true c.node_of-node.ensures refl c.decoded.ensures
    c.operands.ensures c.end_after.ensures
