-- The goals that are left.
use Rattle.std.proofs.lemmas.Result.{err_from_is_err_and}
use Rattle.follow.proofs.Ways.{put_start, put_fails, put_more, put_end}
use Rattle.follow.proofs.run.put.Goals as goal

pub loop-i-init : goal.loop-i-init
loop-i-init g c = rw c.places-places.ensures (put_start _ _ _ _ _)

pub returns-in_err-next-clause-stop : goal.returns-in_err-next-clause-stop
returns-in_err-next-clause-stop g c =
    let p = err_from_is_err_and c.from_residual.result c.from_residual.ensures.1 in
    rw (p.1, p.2) (put_fails _ _ _ _ _ c.loop-i.invariant c.loop-i-test.true c.argument.ensures c.in_err-next.ensures).0

pub returns-in_err-next-clause-env : goal.returns-in_err-next-clause-env
returns-in_err-next-clause-env g c =
    (put_fails _ _ _ _ _ c.loop-i.invariant c.loop-i-test.true c.argument.ensures c.in_err-next.ensures).1

pub loop-i-preserved : goal.loop-i-preserved
loop-i-preserved g c = put_more _ _ _ _ _ c.loop-i.invariant c.loop-i-test.true c.argument.ensures c.in_ok-next.ensures

pub returns-clause-stop : goal.returns-clause-stop
returns-clause-stop g c = (put_end _ _ _ _ _ c.loop-i.invariant c.loop-i-test.false).0

pub returns-clause-env : goal.returns-clause-env
returns-clause-env g c = (put_end _ _ _ _ _ c.loop-i.invariant c.loop-i-test.false).1
