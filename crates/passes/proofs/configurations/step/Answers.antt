-- The goals that are left.
use mathlib.Core.Path.{sym, ◌∙◌}
use native.Mathlib.Omega.{arith}
use Rattle.passes.proofs.Digits.{step_stops, step_goes, step_whole, row_over}
use Rattle.passes.proofs.configurations.step.Goals as goal

pub returns-then-env-i-clause-digits : goal.returns-then-env-i-clause-digits
returns-then-env-i-clause-digits c = let loop = c.loop-i in
    let stops = step_stops _ _ loop.i loop.env c.loop-i-test.true c.if-env-i.true in
    let all = stops ∙ sym loop.invariant.1 in all

pub returns-then-env-i-clause-next : goal.returns-then-env-i-clause-next
returns-then-env-i-clause-next c = let loop = c.loop-i in
    let stops = step_stops _ _ loop.i loop.env c.loop-i-test.true c.if-env-i.true in
    let all = stops ∙ sym loop.invariant.1 in row_over all

pub loop-i-preserved : goal.loop-i-preserved
loop-i-preserved c = let loop = c.loop-i in
    (omega arith, loop.invariant.1 ∙ step_goes _ _ loop.i loop.env c.loop-i-test.true c.if-env-i.false)

pub returns-clause-digits : goal.returns-clause-digits
returns-clause-digits c = let loop = c.loop-i in
    let all = step_whole _ _ loop.i loop.env c.loop-i-test.false ∙ sym loop.invariant.1 in all

pub returns-clause-next : goal.returns-clause-next
returns-clause-next c = let loop = c.loop-i in
    let all = step_whole _ _ loop.i loop.env c.loop-i-test.false ∙ sym loop.invariant.1 in row_over all
