-- `sik_follow_two` tells what following owes, and the decision of the table.
use Rattle.std.proofs.Common.{subst, rules, ◌≡◌, ap, Ok, [], ◌∷◌, get_or}
use Rattle.refusal.specs.{values_left}
use Rattle.semantics.specs.Verdicts.{verdict_number}
use Rattle.chains.specs.Following.{followed_values}
use Rattle.semantics.specs.Handed.{Handed}
use Rattle.follow.specs.Follow.{FollowDemand, AsTable, ToldDecision}
use Rattle.gateway.proofs.sik_follow_two.Goals as goal

pub returns-clause-owed : goal.returns-clause-owed
unfolding values_left
returns-clause-owed c = λ P a loops f t.
    let d = subst (λ (h : Handed). FollowDemand c.args.program.now h (λ q. c.follow-followed.result ≡ Ok q)) c.two.ensures c.follow-followed.ensures.owed P a loops f t in
    let cases = rw d.1 at c.map.ensures.cases in
    let same : c.map.result ≡ Ok (followed_values d.0) = search rules in
    (d.0, (rw same at c.told.ensures.number, rw same at c.told.ensures.left), d.2)

pub returns-clause-table : goal.returns-clause-table
unfolding values_left
returns-clause-table c = λ P a loops lent v e.
    let d = subst (λ (h : Handed). AsTable c.args.program.now h (ToldDecision c.follow-followed.result)) c.two.ensures c.follow-followed.ensures.table P a loops lent v e in
    let cases = rw d.1 at c.map.ensures.cases in
    let same : c.map.result ≡ Ok (verdict_number v.decision ∷ d.0 ∷ []) = search rules in
    (rw same at c.told.ensures.number, ap (λ x. get_or x 0 0) (rw same at c.told.ensures.left))
