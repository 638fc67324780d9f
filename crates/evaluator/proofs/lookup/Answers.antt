-- `lookup` meets its contract, by its two cases.
use Rattle.std.proofs.Common.{sym, ◌∙◌, ltb-true, ltb-false}
use Rattle.std.proofs.lemmas.Grind.{get_or_default_zero}
use Rattle.evaluator.specs.{lookup_by}
use Rattle.evaluator.proofs.EvalWays.{lookup_past}
use Rattle.evaluator.proofs.lookup.Goals as goal

pub returns-in-Some : goal.returns-in-Some
unfolding lookup_by
returns-in-Some c = let there = c.in-Some.ensures.lookup in
    let is = there.1 ∙ get_or_default_zero _ _ _ (ltb-true _ _ (sym there.0)) in
    rw (is, c.first_cell.ensures) at c.held.ensures

pub returns-in-None : goal.returns-in-None
returns-in-None c = sym (lookup_past _ _ _ c.first_cell.ensures (ltb-false _ _ (sym c.in-None.ensures.lookup.0)))
