-- `kind_at` meets its contract: a number of 64 bits has no bit past them.
use mathlib.Core.Path.{◌≡◌, sym, ◌∙◌}
use Prim.Native.Nat.{◌+◌}
use native.Mathlib.Omega.{arith}
use borrow.Author.Tests.{le-ltb}
use Rattle.trace.specs.{bit_of}
use Rattle.trace.proofs.Bits.{bit_past}
use Rattle.syntax.specs.Kinds.{kind_in}
use Rattle.syntax.proofs.kinds.kind_at.Goals as goal
use Rattle.syntax.proofs.kinds.kind_at.Goals.{then-i-lt56, else-i-lt56}

pub returns : goal.returns
unfolding kind_in
returns c =
    let a = c.args in
    let guard : c.if-i-lt56.guard ≡ bit_of (8 + a.i) a.signature =
    elim c.if-i-lt56.branch [
      | then-i-lt56 w ↦ w.guard-is ∙ w.bit-guard.ensures
      | else-i-lt56 w ↦ w.guard-is ∙ le-ltb _ _ w.if-i-lt56.false ∙ sym (bit_past 64 (8 + a.i) a.signature (omega (arith, c.ranges.signature)) (omega (arith, w.if-i-lt56.false)))
    ] in
    rw (← c.bit.ensures, ← guard) c.kind_by.ensures
