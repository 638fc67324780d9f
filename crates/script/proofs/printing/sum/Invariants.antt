-- `sum` does not overflow: it stays below the modulus.
use Rattle.std.proofs.Common.{◌<◌}
use Rattle.script.proofs.printing.sum.Given as goal

abbrev pub invariant-loop-word : goal.invariant-loop-word
invariant-loop-word g l = l.sum < 65521
