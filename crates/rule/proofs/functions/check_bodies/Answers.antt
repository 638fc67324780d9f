-- The goals that are left.
use mathlib.Core.Path.{sym, ◌∙◌}
use Rattle.refusal.proofs.Checks.{handed_on}
use Rattle.rule.proofs.BodyWays.{going_stop, going_more, going_end}
use Rattle.rule.proofs.functions.check_bodies.Goals as goal

pub returns-in_err-check_body : goal.returns-in_err-check_body
returns-in_err-check_body c =
    handed_on _ c.from_residual.ensures.1
    ∙ going_stop c.loop-own.invariant c.loop-own-test.true (sym c.check_body.ensures ∙ c.in_err-check_body.was)

pub loop-own-preserved : goal.loop-own-preserved
loop-own-preserved c = going_more c.loop-own.invariant c.loop-own-test.true (sym c.check_body.ensures ∙ c.in_ok-check_body.was)

pub returns : goal.returns
returns c = going_end c.loop-own.invariant c.loop-own-test.false
