-- `sample` meets its contract: a shift to the right by k divides by 2 ^ k.
use mathlib.Core.Path.{refl}
use Rattle.trace.specs.{bit_of, sample_at}
use Rattle.trace.proofs.Packing.{sample_past}
use Rattle.trace.proofs.sample.Goals as goal

pub returns-then-bytes-place : goal.returns-then-bytes-place
returns-then-bytes-place c = sample_past _ _ c.if-bytes-place.true

pub returns : goal.returns
unfolding sample_at bit_of
returns c = refl
