-- The goals that are left.
use mathlib.Core.Path.{refl}
use native.Mathlib.Omega.{arith}
use lib.ListN.{replicate}
use Rattle.encoding.proofs.Decimal.{figures_start, figures_more, figures_end}
use Rattle.encoding.proofs.figures_of.Goals as goal

pub loop-rest-init : goal.loop-rest-init
loop-rest-init c = figures_start _ (replicate 10 0) refl (omega arith) c.figure.ensures

pub loop-rest-preserved : goal.loop-rest-preserved
loop-rest-preserved c = figures_more c.loop-rest.invariant c.loop-rest-test.true c.figure-in-loop-rest.ensures

pub returns : goal.returns
returns c = figures_end c.loop-rest.invariant c.loop-rest-test.false
