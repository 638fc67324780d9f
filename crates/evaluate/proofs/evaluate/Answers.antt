-- `evaluate` meets its contract: a refusal, or the verdict of a settled evaluation, with demand 3.
use Rattle.std.proofs.lemmas.Result.{err_from_is_err_and}
use Rattle.prepare.specs.Checks.{handed_in}
use Rattle.prepare.proofs.Preparing.{IsSettled-placed}
use Rattle.evaluate.proofs.Evaluating.{evaluate_refused, evaluate_prepared}
use Rattle.evaluate.proofs.evaluate.Goals as goal

pub returns-in_err-ready : goal.returns-in_err-ready
returns-in_err-ready c =
    let a = c.args in
    let p = err_from_is_err_and c.from_residual.result c.from_residual.ensures.1 in
    let owed = evaluate_refused a.program.now (handed_in a.handed) a.table.now c.in_err-ready.ensures.check in
    record { answer = rw (p.1, p.2) owed.answer; numbers = rw (p.1, p.2) owed.numbers; cells = owed.cells; decides = rw (p.1, p.2) owed.decides }

pub decide-requires : goal.decide-requires
decide-requires c = IsSettled-placed c.in_ok-ready.ensures.placed c.in_ok-ready.ensures.settled

pub returns : goal.returns
returns c =
    let a = c.args in
    let ready = c.in_ok-ready.ensures in
    let done = c.decide.ensures in
    let owed =
    evaluate_prepared a.program.now (handed_in a.handed) a.table.now ready.check ready.placed done.verdict done.cells in
    record { answer = owed.answer; numbers = owed.numbers; cells = owed.cells; decides = owed.decides }
