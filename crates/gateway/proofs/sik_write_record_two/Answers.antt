-- `sik_write_record_two` decides: of the verdict that recording owes, `told` leaves the values.
use Rattle.std.proofs.Common.{subst, length, rules, ◌≡◌, ◌∷◌, Ok}
use Rattle.refusal.specs.{values_left}
use Rattle.semantics.specs.Verdicts.{verdict_values}
use Rattle.semantics.specs.Handed.{Handed}
use Rattle.record.specs.Recording.{record_of, written, RecordDemand3}
use Rattle.gateway.proofs.sik_write_record_two.Goals as goal

pub returns-clause-decides : goal.returns-clause-decides
unfolding values_left
returns-clause-decides c = λ enough P a f t.
    let d = subst
    (λ (h : Handed). RecordDemand3 c.args.program.now h (length c.args.table.now) (length c.args.out.now) (λ v. c.write-written.result ≡ written (length (record_of c.args.program.now h)) v) c.write-written.new.table)
    c.two-handed.ensures c.write-written.ensures.decides enough P a f t in
    let cases = rw d.1 at c.map.ensures.cases in
    let same : c.map.result ≡ Ok (_ ∷ verdict_values d.0) = search rules in
    (d.0, (rw same at c.told.ensures.number, rw same at c.told.ensures.left), d.2)
