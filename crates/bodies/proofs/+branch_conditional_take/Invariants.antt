-- `take` and the functions that it calls in turn meet their contracts. A node takes 3 of the measure, which is the depth left.
use Prim.Native.Nat.{◌+◌, ◌*◌}
use Rattle.bodies.proofs.+branch_conditional_take.Given as goal

abbrev pub decreases-branch : goal.decreases-branch
decreases-branch l = l.depth * 3 + 1

abbrev pub decreases-conditional : goal.decreases-conditional
decreases-conditional l = l.depth * 3 + 2

abbrev pub decreases-take : goal.decreases-take
decreases-take l = l.depth * 3
