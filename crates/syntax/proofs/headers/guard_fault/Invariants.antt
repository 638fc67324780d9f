-- `guard_fault` meets its contract. The loop's invariant: below i, no bit is set where no list is.
use mathlib.Core.Path.{◌≡◌}
use mathlib.Core.Bool.{false}
use Rattle.syntax.specs.Bytes.{no_list_below}
use Rattle.syntax.proofs.headers.guard_fault.Given as goal

abbrev pub invariant-loop-i : goal.invariant-loop-i
invariant-loop-i l = no_list_below l.i l.kinds l.guard ≡ false
