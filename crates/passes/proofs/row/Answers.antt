-- The goals that are left.
use mathlib.Core.Path.{refl, ◌∙◌}
use Prim.Native.Nat.{◌+◌}
use native.Mathlib.Omega.{arith}
use Rattle.decoding.specs.Decoding.{signature_in}
use Rattle.passes.specs.Digits.{AtCell}
use Rattle.passes.specs.Mirror.{count_of}
use Rattle.passes.proofs.Digits.{at_others}
use Rattle.passes.proofs.PassWays.{visited_start, visited_length, visited_few, visited_more}
use Rattle.passes.proofs.CellLoop.{cell-few, digit-fits, row_at, row_inside}
use Rattle.passes.proofs.row.Goals as goal

pub loop-d-init : goal.loop-d-init
loop-d-init c = (visited_start _ _ _ _ _ _ _, λ v. refl)

pub overflow_add-index : goal.overflow_add-index
overflow_add-index c =
    let a = c.args in
    let u = c.requires.row_ready in
    let inside = row_inside u c.requires.at_cell in
    let size = visited_length c.loop-d.invariant.0 in
    omega (arith, c.requires.start_value.0, inside, u.ready.within, size, c.loop-d-test.true)

pub overflow_cast-d : goal.overflow_cast-d
overflow_cast-d c =
    let small = digit-fits c.requires.row_ready c.loop-d.d c.loop-d-test.true in
    omega (arith, small)

pub overflow_add-function : goal.overflow_add-function
overflow_add-function c =
    let small = digit-fits c.requires.row_ready c.loop-d.d c.loop-d-test.true in
    omega (arith, small)

pub visit-stored-requires-clause-at_cell : goal.visit-stored-requires-clause-at_cell
visit-stored-requires-clause-at_cell c =
    let u = c.requires.row_ready in
    at_others (row_at u c.requires.at_cell c.loop-d.d c.loop-d-test.true) c.loop-d.invariant.1

pub visit-stored-requires-clause-ready : goal.visit-stored-requires-clause-ready
visit-stored-requires-clause-ready c =
    let a = c.args in
    let u = c.requires.row_ready in
    let v = c.loop-d.invariant.0 in
    let values : AtCell (signature_in a.given.now.functions.now a.function.now.g) (count_of a.given.now.functions.now a.function.now.g) a.given.now.n (a.index + c.loop-d.d) c.loop-d.env (a.function.now.low + c.loop-d.d) =
    at_others (row_at u c.requires.at_cell c.loop-d.d c.loop-d-test.true) c.loop-d.invariant.1 in (
      record { below = u.ready.below; samples = u.ready.samples; within = omega (arith, u.ready.within, visited_length v) },
      omega (arith, visited_few v, c.requires.start_value.1, cell-few a.given.now.functions.now a.function.now.g values u.ready.samples),
    )

pub loop-d-preserved : goal.loop-d-preserved
loop-d-preserved c =
    let inv = c.loop-d.invariant in
    let e = c.visit-stored.ensures in
    (visited_more inv.0 e.cells e.stored, λ v. e.env v ∙ inv.1 v)
