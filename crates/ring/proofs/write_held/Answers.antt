-- The goals that are left.
use Rattle.std.proofs.lemmas.List.{length_push}
use Rattle.std.proofs.lemmas.Iterator.Consumers.{YieldsList-turn, YieldsList-end}
use Rattle.trace.proofs.Packing.{into_start}
use Rattle.ring.proofs.Written.{going_round, written_more, written_end}
use Rattle.ring.proofs.write_held.Goals as goal

pub loop-i-init : goal.loop-i-init
loop-i-init c = into_start c.args.out.now

pub loop-i-preserved : goal.loop-i-preserved
loop-i-preserved c =
    let over = going_round c.args.slots.now c.args.ring c.into_iter-i-iterator.result (cc) (cc) (cc) (cc) (cc) in
    let at = YieldsList-turn over c.loop-i.yielded _ c.loop-i.yielded_by _ _ (c.in-Some.i, c.in-Some.byte) c.in-Some.is c.next.ensures.steps in
    rw (length_push c.loop-i.yielded (c.in-Some.i, c.in-Some.byte))
    (written_more c.args.slots.now c.args.ring c.args.out.now c.requires c.loop-i.invariant at c.write.ensures)

pub returns : goal.returns
returns c =
    let over = going_round c.args.slots.now c.args.ring c.into_iter-i-iterator.result (cc) (cc) (cc) (cc) (cc) in
    let end = YieldsList-end over c.loop-i.yielded _ c.loop-i.yielded_by _ _ c.in-None.is c.next.ensures.steps in
    written_end c.args.slots.now c.args.ring c.args.out.now c.requires end.1 c.loop-i.invariant
