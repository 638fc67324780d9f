-- `sik_evaluate_two` decides: of the verdict that evaluating owes, `told` leaves the values.
use Rattle.std.proofs.Common.{subst, length, rules, ◌≡◌, Ok}
use Rattle.refusal.specs.{values_left}
use Rattle.semantics.specs.Verdicts.{verdict_values}
use Rattle.semantics.specs.Handed.{Handed}
use Rattle.evaluate.specs.Evaluate.{Demand3}
use Rattle.gateway.proofs.sik_evaluate_two.Goals as goal

pub returns-clause-decides : goal.returns-clause-decides
unfolding values_left
returns-clause-decides c = λ P a f t.
    let d = subst (λ (h : Handed). Demand3 c.args.program.now h (length c.args.table.now) (λ v. c.evaluate-evaluated.result ≡ Ok v) c.evaluate-evaluated.new.table)
    c.two-handed.ensures c.evaluate-evaluated.ensures.decides P a f t in
    let cases = rw d.1 at c.map.ensures.cases in
    let same : c.map.result ≡ Ok (verdict_values d.0) = search rules in
    (d.0, (rw same at c.told.ensures.number, rw same at c.told.ensures.left), d.2)
