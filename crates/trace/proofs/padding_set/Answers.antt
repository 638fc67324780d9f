-- `padding_set` meets its contract: a shift to the right by k leaves the bits from the k-th on.
use mathlib.Core.Path.{sym}
use Rattle.trace.proofs.Padding.{padding_whole, padding_told, padding_past}
use Rattle.trace.proofs.padding_set.Goals as goal

pub returns-then-above-eq0 : goal.returns-then-above-eq0
returns-then-above-eq0 c = sym (padding_whole _ _ c.if-above-eq0.true)

pub returns-then-bytes-at : goal.returns-then-bytes-at
returns-then-bytes-at c = sym (padding_past _ _ c.if-above-eq0.false c.if-bytes-at.true)

pub returns : goal.returns
returns c = sym (padding_told _ _ c.if-above-eq0.false)
