-- The goals that are left.
use Rattle.encoding.proofs.Putting.{begins-start, begins-more}
use Rattle.encoding.proofs.copy.Goals as goal

pub loop-i-init : goal.loop-i-init
loop-i-init c = begins-start _

pub loop-i-preserved : goal.loop-i-preserved
loop-i-preserved c = rw c.loop-i.invariant (begins-more _ _ _ c.loop-i-test.true c.requires)
