-- `check_bodies` meets its contract. Before turn i the bodies before it have passed.
use Rattle.rule.specs.Walk.{frame_at}
use Rattle.rule.proofs.BodyWays.{Going}
use Rattle.rule.proofs.functions.check_bodies.Given as goal

abbrev pub invariant-loop-own : goal.invariant-loop-own
invariant-loop-own l =
    Going (frame_at l.program l.sort l.outline) l.outline.functions l.own
