-- `write_held` meets its contract. After some turns, the output holds as many of the samples, packed.
use Rattle.std.proofs.Common.{◌≡◌, length, take}
use Rattle.trace.specs.{packed_into}
use Rattle.ring.specs.{held}
use Rattle.ring.proofs.write_held.Given as goal

abbrev pub invariant-loop-i : goal.invariant-loop-i
invariant-loop-i l = l.out ≡ packed_into l.initial.out (take (length l.yielded) (held l.slots l.fn.ring))
