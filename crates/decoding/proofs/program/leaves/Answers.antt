-- The goal that is left.
use Rattle.std.proofs.Common.{rules}
use Rattle.decoding.proofs.Loops.{leaves_more}
use Rattle.decoding.proofs.program.leaves.Goals as goal

pub loop-preserved : goal.loop-preserved
loop-preserved c = leaves_more _ _ _ _ c.loop.invariant c.loop-test.true (search rules)
