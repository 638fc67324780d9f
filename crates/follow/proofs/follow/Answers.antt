-- `follow` meets its contract: a refusal, or what following a settled program that only loops comes to, with what is owed of it.
use Rattle.std.proofs.Common.{arith}
use Rattle.std.proofs.lemmas.Result.{err_from_is_err_and}
use Rattle.prepare.specs.Checks.{handed_in}
use Rattle.prepare.proofs.Preparing.{own}
use Rattle.follow.proofs.Answers.{program_refused, elsewhere_refused, places_agree, settled_here, follow_refused, follow_prepared}
use Rattle.follow.proofs.follow.Goals as goal

pub returns-in_err-outline : goal.returns-in_err-outline
returns-in_err-outline c =
    let a = c.args in
    let h = handed_in a.handed in
    let p = err_from_is_err_and c.from_residual.result c.from_residual.ensures.1 in
    let owed = follow_refused a.program.now h (program_refused a.program.now h c.in_err-outline.ensures.check) in
    record { answer = rw (p.1, p.2) owed.answer; numbers = rw (p.1, p.2) owed.numbers; owed = rw (p.1, p.2) owed.owed; table = rw (p.1, p.2) owed.table }

pub returns-then-not-only_loops : goal.returns-then-not-only_loops
returns-then-not-only_loops c =
    let a = c.args in
    let h = handed_in a.handed in
    let judged = c.in_ok-outline.ensures in
    let o = own a.program.now a.handed.sort (λ i. omega (arith, c.type_inv.program i)) judged.check judged.outline in
    let owed = follow_refused a.program.now h (elsewhere_refused h o c.only_loops.ensures c.if-not-only_loops.true) in
    record { answer = owed.answer; numbers = owed.numbers; owed = owed.owed; table = owed.table }

pub returns-in_err-ready : goal.returns-in_err-ready
returns-in_err-ready c =
    let a = c.args in
    let h = handed_in a.handed in
    let judged = c.in_ok-outline.ensures in
    let o = own a.program.now a.handed.sort (λ i. omega (arith, c.type_inv.program i)) judged.check judged.outline in
    let p = err_from_is_err_and c.from_residual-in_err-ready.result c.from_residual-in_err-ready.ensures.1 in
    let owed =
    follow_refused a.program.now h
    (places_agree h o c.only_loops.ensures c.if-not-only_loops.false c.in_err-ready.ensures.check) in
    record { answer = rw (p.1, p.2) owed.answer; numbers = rw (p.1, p.2) owed.numbers; owed = rw (p.1, p.2) owed.owed; table = rw (p.1, p.2) owed.table }

pub decide-requires : goal.decide-requires
decide-requires c =
    let a = c.args in
    let h = handed_in a.handed in
    let judged = c.in_ok-outline.ensures in
    let o = own a.program.now a.handed.sort (λ i. omega (arith, c.type_inv.program i)) judged.check judged.outline in
    let left = c.in_ok-ready.ensures in
    settled_here h o c.only_loops.ensures c.if-not-only_loops.false left.check left.cells

pub returns : goal.returns
returns c =
    let a = c.args in
    let h = handed_in a.handed in
    let judged = c.in_ok-outline.ensures in
    let o = own a.program.now a.handed.sort (λ i. omega (arith, c.type_inv.program i)) judged.check judged.outline in
    let left = c.in_ok-ready.ensures in
    let owed = follow_prepared a.program.now h (places_agree h o c.only_loops.ensures c.if-not-only_loops.false left.check) left.cells c.decide.ensures in
    record { answer = owed.answer; numbers = owed.numbers; owed = owed.owed; table = owed.table }
