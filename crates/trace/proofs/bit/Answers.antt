-- `bit` meets its contract: a shift to the right by i divides by 2 ^ i, and a number of 64 bits has none past them.
use mathlib.Core.Path.{refl, sym}
use native.Mathlib.Omega.{arith}
use Rattle.trace.specs.{bit_of}
use Rattle.trace.proofs.Bits.{bit_past}
use Rattle.trace.proofs.bit.Goals as goal

pub returns-then-i-lt64 : goal.returns-then-i-lt64
unfolding bit_of
returns-then-i-lt64 c = refl

pub returns-else-i-lt64 : goal.returns-else-i-lt64
returns-else-i-lt64 c = sym (bit_past 64 c.args.i c.args.number (omega (arith, c.ranges.number)) c.if-i-lt64.false)
