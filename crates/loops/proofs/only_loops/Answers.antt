-- `only_loops` meets its contract: a body at which it stops has a call where none may stand.
use Rattle.std.proofs.Common.{◌≡◌, ℕ, true, false, rules, arith}
use Rattle.std.proofs.lemmas.Iterator.{cases_from_all, YieldsList-from_range}
use Rattle.loops.specs.{body_by, loops_by}
use Rattle.loops.proofs.Passing.{bodies_mean}
use Rattle.loops.proofs.only_loops.Goals as goal

pub returns : goal.returns
unfolding loops_by
returns c =
    let o = c.args.outline.now in
    let count = c.min-count.result in
    let loops = λ (i : ℕ). body_by c.args.program.now o.params o.starts o.ends i in
    rw (← c.min-count.ensures) (bodies_mean loops count c.all.result
    (cases_from_all _ _ c.all.result (λ i. loops i ≡ true) (λ i. loops i ≡ false) c.all.ensures.ran (YieldsList-from_range 0 count count (cc) (omega arith))
    (λ x q k. search rules) (λ x q k. search rules)))
