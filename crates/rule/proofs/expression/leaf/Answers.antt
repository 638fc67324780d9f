-- `leaf` meets its contract, by its two cases.
use mathlib.Core.Path.{sym, ◌∙◌}
use Rattle.rule.specs.Walk.{leaf_walked}
use Rattle.rule.proofs.expression.leaf.Goals as goal

pub returns-then-allows : goal.returns-then-allows
unfolding leaf_walked
returns-then-allows c = simp (sym c.allows.ensures ∙ c.if-allows.true)

pub returns-else-allows : goal.returns-else-allows
unfolding leaf_walked
returns-else-allows c = simp (sym c.allows.ensures ∙ c.if-allows.false, c.apart.ensures)
