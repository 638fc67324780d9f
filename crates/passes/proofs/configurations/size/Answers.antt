-- The goals that are left.
use native.Mathlib.Omega.{arith}
use Rattle.passes.proofs.SetupLoops.{size-start, size-more, size_fits, size-whole}
use Rattle.passes.proofs.configurations.size.Goals as goal

pub loop-i-init : goal.loop-i-init
loop-i-init c = size-start _ _ _

pub loop-i-preserved : goal.loop-i-preserved
loop-i-preserved c = size-more _ _ _ _ c.loop-i.invariant c.loop-i-test.true
    c.requires.1 c.kind_at.ensures c.radix-product.ensures

pub overflow_mul-product : goal.overflow_mul-product
overflow_mul-product c = omega (arith, size_fits _ _ _ _ (loop-i-preserved c) c.requires.0)

pub returns : goal.returns
returns c = (size-whole _ _ _ _ c.loop-i.invariant c.loop-i-test.false, size_fits _ _ _ _ c.loop-i.invariant c.requires.0)
