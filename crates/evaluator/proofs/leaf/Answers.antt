-- `leaf` meets its contract: what names no parameter is a constant, or no leaf.
use Rattle.std.proofs.Common.{sym, ◌∙◌}
use Rattle.evaluator.proofs.NodeMeaning.{constant_leaf_found}
use Rattle.evaluator.proofs.leaf.Goals as goal

pub returns-in-None : goal.returns-in-None
returns-in-None c = c.constant_leaf.ensures ∙ constant_leaf_found _ _ _ (sym c.param_leaf.ensures ∙ c.in-None.is)
