-- `guard_empty` meets its contract, by the two sorts.
use Rattle.rule.specs.Walk.{guard_empty_walked}
use Rattle.rule.proofs.expression.guard_empty.Goals as goal

pub returns-in-One : goal.returns-in-One
unfolding guard_empty_walked
returns-in-One c = rw c.in-One.is

pub returns-in-Two : goal.returns-in-Two
unfolding guard_empty_walked
returns-in-Two c = rw c.in-Two.is c.leaf.ensures
