-- `main_cell` meets its contract: main has at least one configuration.
use Rattle.passes.specs.Mirror.{main_cell_of}
use Rattle.passes.proofs.SetupLoops.{size_nonzero}
use Rattle.passes.proofs.main_cell.Goals as goal

pub overflow_sub-result : goal.overflow_sub-result
overflow_sub-result c = rw c.size.ensures.0 (size_nonzero _ _ _ _)

pub returns : goal.returns
unfolding main_cell_of
returns c = rw (c.size.ensures.0, c.shortened_lengths.ensures, c.count-count.ensures.0)
