-- The goals that are left.
use Rattle.loops.proofs.Passing.{read-start, read_outer, read-call, read_inner, read_whole}
use Rattle.loops.proofs.bytes_loop.Goals as goal
use Rattle.loops.proofs.bytes_loop.Goals.{then-due-eq0, else-due-eq0+else-shape}

pub loop-byte-init : goal.loop-byte-init
loop-byte-init c = read-start _ _

pub returns-then-shape : goal.returns-then-shape
returns-then-shape c = read-call _ _ c.loop-byte-test.true c.node_of.ensures c.shape_of-shape.ensures _ c.loop-byte.invariant
    c.if-due-eq0.false c.if-shape.true

pub returns : goal.returns
returns c = read_whole _ _ _ _ c.loop-byte.invariant c.loop-byte-test.false

pub loop-byte-preserved : goal.loop-byte-preserved
loop-byte-preserved c =
    let h = c.loop-byte-test.true in
    let u = c.loop-byte.invariant in
    elim c.if-due-eq0.branch [
      | then-due-eq0 w ↦
          rw w.due-is (read_outer _ _ h c.node_of.ensures c.shape_of-shape.ensures _ u w.if-due-eq0.true)
      | else-due-eq0+else-shape w ↦
          rw w.due-is (read_inner _ _ h c.node_of.ensures c.shape_of-shape.ensures _ u w.if-due-eq0.false w.if-shape.false)
    ]
