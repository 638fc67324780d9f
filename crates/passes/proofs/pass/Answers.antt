-- The goals that are left.
use mathlib.Core.Path.{sym, ◌∙◌}
use native.Mathlib.Omega.{arith}
use Rattle.passes.proofs.PassWays.{fits-ready, covering_start, covering_more, covering_over}
use Rattle.passes.proofs.pass.Goals as goal
use Rattle.passes.proofs.pass.Goals.{then-lies_within, else-lies_within}

pub loop-g-init : goal.loop-g-init
loop-g-init c = covering_start _ _ _ _

pub bounds-starts-g : goal.bounds-starts-g
bounds-starts-g c = omega (arith, (fits-ready (sym c.lies_within.ensures ∙ c.if-lies_within.true)).below)

pub pass_function-stored-requires : goal.pass_function-stored-requires
pass_function-stored-requires c = let ready = fits-ready (sym c.lies_within.ensures ∙ c.if-lies_within.true) in
    let same = c.loop-g.invariant.same in
    record { below = ready.below; samples = ready.samples; within = rw same ready.within }

pub loop-g-preserved : goal.loop-g-preserved
loop-g-preserved c =
    let inv = c.loop-g.invariant in
    let test = sym c.lies_within.ensures in
    elim c.if-lies_within.branch [
      | then-lies_within w ↦
          rw (w.table-is, w.stored-is)
          (covering_more inv (test ∙ w.if-lies_within.true) (rw w.body_of-body.ensures at w.pass_function-stored.ensures.cells)
          (rw w.body_of-body.ensures at w.pass_function-stored.ensures.stored))
      | else-lies_within w ↦ rw (w.table-is, w.stored-is) (covering_over inv (test ∙ w.if-lies_within.false))
    ]
