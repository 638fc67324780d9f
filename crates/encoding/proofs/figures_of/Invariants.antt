-- `figures_of` meets its contract: each turn writes one more figure, and ten are enough for a number of 32 bits.
use Rattle.encoding.proofs.Decimal.{Writing}
use Rattle.encoding.proofs.figures_of.Given as goal

abbrev pub invariant-loop-rest : goal.invariant-loop-rest
invariant-loop-rest l = Writing l.n l.figures l.rest l.first

abbrev pub decreases-loop-rest : goal.decreases-loop-rest
decreases-loop-rest l = l.first
