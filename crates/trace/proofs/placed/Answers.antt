-- `placed` meets its contract: 1 << k is 2 ^ k, at most 128, so the sum stays a byte.
use Prim.Native.Nat.{◌^◌, ◌≤◌}
use native.Mathlib.Nat.{mod-lt}
use native.Mathlib.Omega.{arith}
use lib.Pow.{pow_pos, pow_mono}
use Rattle.trace.specs.{with_bit}
use Rattle.trace.proofs.Bits.{weight_exact}
use Rattle.trace.proofs.placed.Goals as goal

pub nonzero_rem-below : goal.nonzero_rem-below
nonzero_rem-below c = rw (weight_exact c.requires) (pow_pos c.args.k)

pub overflow_add-result : goal.overflow_add-result
overflow_add-result c = let k = c.args.k in
    let few : 2 ^ k ≤ 128 = pow_mono {j = 7} (omega arith) in
    rw (weight_exact c.requires) (omega (arith, mod-lt c.args.byte (pow_pos k)))

pub returns-then-sample : goal.returns-then-sample
unfolding with_bit
returns-then-sample c = rw (weight_exact c.requires, c.if-sample.true) (omega arith)

pub returns-else-sample : goal.returns-else-sample
unfolding with_bit
returns-else-sample c = rw (weight_exact c.requires, c.if-sample.false) (omega arith)
