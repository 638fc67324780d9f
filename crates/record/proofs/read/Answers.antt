-- `read` meets its contract: the trailer, then the program.
use mathlib.Core.Path.{refl, ◌∙◌}
use Rattle.refusal.proofs.Checks.{handed_on}
use Rattle.record.proofs.Answers.{located-refused, judged_read, read_numbers}
use Rattle.record.proofs.read.Goals as goal

pub returns-in_err-parts-clause-answer : goal.returns-in_err-parts-clause-answer
returns-in_err-parts-clause-answer c = handed_on _ c.from_residual.ensures.1 ∙ located-refused _ c.in_err-parts.ensures refl

pub returns-in_err-parts-clause-numbers : goal.returns-in_err-parts-clause-numbers
returns-in_err-parts-clause-numbers c = read_numbers _ (handed_on _ c.from_residual.ensures.1 ∙ located-refused _ c.in_err-parts.ensures refl)

pub returns-clause-answer : goal.returns-clause-answer
returns-clause-answer c = c.judged.ensures ∙ judged_read _ c.in_ok-parts.ensures refl

pub returns-clause-numbers : goal.returns-clause-numbers
returns-clause-numbers c = read_numbers _ (c.judged.ensures ∙ judged_read _ c.in_ok-parts.ensures refl)
