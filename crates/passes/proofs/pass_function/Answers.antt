-- The goals that are left.
use Rattle.std.proofs.Common.{refl, arith}
use Rattle.decoding.specs.Decoding.{signature_in}
use Rattle.passes.specs.Mirror.{setup, count_of, size_of}
use Rattle.passes.proofs.Digits.{size_most}
use Rattle.passes.proofs.PassWays.{stores_le}
use Rattle.passes.proofs.CellLoop.{count_few, worked, row_ready, stepping_start, stepping_ready, stepping_few, stepping_more, stepping_end}
use Rattle.passes.proofs.pass_function.Goals as goal

pub loop-index-init : goal.loop-index-init
loop-index-init c = stepping_start _ _ _ _ _ (rw c.count-count.ensures.0 at c.firsts-firsts.ensures) c.first_values-env.ensures

pub row-stored-requires-clause-start_value : goal.row-stored-requires-clause-start_value
row-stored-requires-clause-start_value c = (refl, stepping_few _ _ _ _ _ c.loop-index.invariant)

pub loop-index-preserved : goal.loop-index-preserved
loop-index-preserved c =
    let w = worked c.args.given.now.functions.now c.args.given.now.n c.args.g c.count-count.ensures.0 c.last-slot.ensures c.size-size.ensures.0 c.firsts-firsts.ensures c.lasts-lasts.ensures c.row_width-width.ensures in
    let row = row_ready w c.args.given.now.words.now (stepping_ready _ _ _ _ _ c.loop-index.invariant c.requires) in
    stepping_more _ _ _ _ _ c.loop-index.invariant row (rw w.cells at c.loop-index-test.true) _ c.row-stored.ensures.cells c.row-stored.ensures.env
    c.row-stored.ensures.stored w.first w.last c.step.ensures.next

pub returns-clause-stored : goal.returns-clause-stored
returns-clause-stored c =
    let w = worked c.args.given.now.functions.now c.args.given.now.n c.args.g c.count-count.ensures.0 c.last-slot.ensures c.size-size.ensures.0 c.firsts-firsts.ensures c.lasts-lasts.ensures c.row_width-width.ensures in
    let F = c.args.given.now.functions.now in
    let n = c.args.given.now.n in
    let g = c.args.g in
    let S = setup c.args.given.now.words.now F c.args.given.now.traces.now in
    let v = stepping_end _ _ _ _ _ c.loop-index.invariant (rw w.cells at c.loop-index-test.false) in
    let most = size_most (signature_in F g) n c.requires.samples (count_of F g) (count_few F g) in
    (v.1, omega (arith, v.1, most, stores_le S n g c.args.body 0 c.args.table.now (size_of F n g)))
