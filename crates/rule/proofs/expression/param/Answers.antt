-- `param` meets its contract, by its two cases.
use mathlib.Core.Path.{◌∙◌}
use borrow.Author.Tests.{lt-ltb, le-ltb}
use Rattle.rule.specs.Walk.{param_walked}
use Rattle.rule.proofs.expression.param.Goals as goal

pub returns-then-i-outline : goal.returns-then-i-outline
unfolding param_walked
returns-then-i-outline c = c.leaf.ensures ∙ simp (lt-ltb _ _ c.if-i-outline.true, c.kind.ensures)

pub returns-else-i-outline : goal.returns-else-i-outline
unfolding param_walked
returns-else-i-outline c = simp (le-ltb _ _ c.if-i-outline.false)
