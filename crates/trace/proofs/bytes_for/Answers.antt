-- `bytes_for` meets its contract: rounding up by the remainder is adding 7 first. Assumes nothing.
use native.Mathlib.Omega.{arith}
use Rattle.trace.specs.{bytes_for}
use Rattle.trace.proofs.bytes_for.Goals as goal

pub returns-then-n-eq0 : goal.returns-then-n-eq0
unfolding bytes_for
returns-then-n-eq0 c = omega arith

pub returns-else-n-eq0 : goal.returns-else-n-eq0
unfolding bytes_for
returns-else-n-eq0 c = omega arith
