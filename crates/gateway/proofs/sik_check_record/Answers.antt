-- `sik_check_record` decides: of the verdict that checking compares, `told` leaves whether the record agrees.
use Rattle.std.proofs.Common.{rules, ◌≡◌, Bool, true, false, Ok, [], ◌∷◌, refl, take, ◌∙◌}
use Rattle.refusal.specs.{values_left}
use Rattle.trace.specs.{digit}
use Rattle.semantics.specs.declared.Verdict.{Verdict}
use Rattle.record.specs.Checking.{checked_answer, compared, agrees}
use Rattle.layout.specs.Trailer.{contents_in}
use Rattle.gateway.proofs.sik_check_record.Goals as goal

alone : (b : Bool) (v : Verdict) → take 1 (checked_answer (Ok (compared b v))).values ≡ digit b ∷ []
alone true v = refl
alone false v = refl

pub returns-clause-decides : goal.returns-clause-decides
unfolding values_left
returns-clause-decides c = λ P s f t.
    let d = c.check-checked.ensures.decides P s f t in
    let cases = rw d.1 at c.map.ensures.cases in
    let same : c.map.result ≡ Ok (take 1 (checked_answer (Ok (compared (agrees (contents_in c.args.bytes.now).verdict (contents_in c.args.bytes.now).passes d.0) d.0))).values) = search rules in
    (d.0, (rw same at c.told.ensures.number, (rw same at c.told.ensures.left) ∙ alone _ d.0), d.2)
