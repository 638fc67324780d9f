-- `copy` meets its contract. Before turn i the output begins with the first i bytes of the text.
use mathlib.Core.Path.{◌≡◌}
use lib.ListN.{take}
use Rattle.encoding.specs.{begins}
use Rattle.encoding.proofs.copy.Given as goal

abbrev pub invariant-loop-i : goal.invariant-loop-i
invariant-loop-i l = l.out ≡ begins (take l.i l.text) l.initial.out
