-- `prepare` meets its contract: the program is refused, or the checks that are left are those of its outline.
use Rattle.std.proofs.Common.{arith, ◌∙◌}
use Rattle.prepare.specs.Checks.{handed_in}
use Rattle.prepare.proofs.Preparing.{program-refused, own, checks_agree, settled_own, outline_judged, outline_refused}
use Rattle.prepare.proofs.prepare.Goals as goal

pub returns-in-Ok-clause-check : goal.returns-in-Ok-clause-check
returns-in-Ok-clause-check c =
    let a = c.args in
    let o = own a.program.now a.handed.sort (λ i. omega (arith, c.type_inv.program i)) c.in-Ok.ensures.check c.in-Ok.ensures.outline in
    c.placed.ensures.check ∙ checks_agree (handed_in a.handed) o a.lent

pub returns-in-Ok-clause-settled : goal.returns-in-Ok-clause-settled
returns-in-Ok-clause-settled c =
    let a = c.args in
    let judged = c.in-Ok.ensures in
    let o = own a.program.now a.handed.sort (λ i. omega (arith, c.type_inv.program i)) judged.check judged.outline in
    settled_own (handed_in a.handed) o a.lent c.placed.result c.placed.ensures.check c.placed.ensures.placed

pub returns-in-Ok-clause-outline : goal.returns-in-Ok-clause-outline
returns-in-Ok-clause-outline c =
    c.placed.ensures.outline ∙ outline_judged c.args.program.now c.args.handed.sort c.in-Ok.ensures.outline

pub returns-in-Err-clause-check : goal.returns-in-Err-clause-check
returns-in-Err-clause-check c =
    let a = c.args in
    rw c.without_cells.ensures.0 (program-refused a.program.now (handed_in a.handed) a.lent c.in-Err.ensures.check)

pub returns-in-Err-clause-outline : goal.returns-in-Err-clause-outline
returns-in-Err-clause-outline c =
    c.without_cells.ensures.1 ∙ c.no_functions.ensures ∙ outline_refused c.args.program.now c.args.handed.sort c.in-Err.ensures.outline
