-- `step` meets its contract. Before each turn what is left to step are the parameters below i.
use mathlib.Core.Path.{◌≡◌}
use Prim.Native.Nat.{◌≤◌}
use Rattle.passes.specs.Mirror.{stepped}
use Rattle.passes.proofs.configurations.step.Given as goal

abbrev pub invariant-loop-i : goal.invariant-loop-i
invariant-loop-i l = (l.i ≤ l.slot) × (stepped l.firsts l.lasts l.slot l.initial.env ≡ stepped l.firsts l.lasts l.i l.env)
