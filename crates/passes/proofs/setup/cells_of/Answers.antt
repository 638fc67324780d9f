-- The goals that are left.
use Rattle.std.proofs.Common.{◌∙◌}
use Rattle.passes.proofs.SetupLoops.{listed_start, listed_more, cells_listed}
use Rattle.passes.proofs.setup.cells_of.Goals as goal

pub loop-g-init : goal.loop-g-init
loop-g-init c = listed_start _ _

pub loop-g-preserved : goal.loop-g-preserved
loop-g-preserved c = listed_more _ _ _ c.loop-g.invariant c.signature-signature.ensures c.from.ensures c.at_most_four.ensures.0 c.size-total.ensures

pub returns-clause-functions : goal.returns-clause-functions
returns-clause-functions c = (cells_listed _ c.args.n c.args.count _ c.shortened_lengths-lengths.ensures (c.from-g-end.ensures ∙ c.min.ensures) c.loop-g.invariant c.loop-g.auto.g-end c.loop-g-test.false).0

pub returns-clause-total : goal.returns-clause-total
returns-clause-total c = (cells_listed _ c.args.n c.args.count _ c.shortened_lengths-lengths.ensures (c.from-g-end.ensures ∙ c.min.ensures) c.loop-g.invariant c.loop-g.auto.g-end c.loop-g-test.false).1
