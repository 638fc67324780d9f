-- The goal that is left.
use Rattle.decoding.proofs.Loops.{after_more}
use Rattle.decoding.proofs.program.end_after.Goals as goal

pub loop-preserved : goal.loop-preserved
loop-preserved c = after_more _ _ _ _ c.loop.invariant c.loop-test.true c.end_at-place.ensures
