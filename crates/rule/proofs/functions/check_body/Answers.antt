-- `check_body` meets its contract: the expression, then nothing after it.
use mathlib.Core.Path.{◌∙◌}
use Rattle.refusal.proofs.Checks.{handed_on}
use Rattle.rule.proofs.BodyWays.{body_passed, body_after, body-stopped}
use Rattle.rule.proofs.functions.check_body.Goals as goal

pub returns-in_err-end : goal.returns-in_err-end
returns-in_err-end c = handed_on _ c.from_residual.ensures.1 ∙ body-stopped _ c.kind.ensures c.check.ensures c.in_err-end.was

pub returns-then-end-frame : goal.returns-then-end-frame
returns-then-end-frame c = body_passed _ c.kind.ensures c.check.ensures c.in_ok-end.was c.if-end-frame.true

pub returns-else-end-frame : goal.returns-else-end-frame
returns-else-end-frame c = body_after _ c.kind.ensures c.check.ensures c.in_ok-end.was c.if-end-frame.false
