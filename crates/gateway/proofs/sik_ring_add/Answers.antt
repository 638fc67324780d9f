-- `sik_ring_add` leaves the state that the ring has: it goes in and comes back as two numbers.
use Rattle.std.proofs.Common.{rules, ◌≡◌, [], Result, Ok, Err, sym, ◌∙◌}
use Rattle.refusal.specs.{values_left}
use Rattle.refusal.proofs.Numbers.{refused-left}
use Rattle.ring.specs.declared.Ring.{Ring}
use Rattle.ring.specs.declared.NotAdded.{NotAdded}
use Rattle.ring.specs.{ring_values, added_answer}
use Rattle.gateway.proofs.sik_ring_add.Goals as goal

state : (c : goal.After-told) (r : Result Ring NotAdded) → c.add-added.result ≡ r → c.told.new.left ≡ values_left (added_answer r) c.args.state.now
state c (Ok ring) e =
    let cases = rw e at c.map.ensures.cases in
    let same : c.map.result ≡ Ok (ring_values ring) = search rules in
    let told : c.map_err.result ≡ Ok (ring_values ring) = rw same at c.map_err.ensures.cases in
    rw told at c.told.ensures.left
state c (Err kept) e =
    let same : c.map.result ≡ Err kept = rw e at c.map.ensures.cases in
    let cases = rw same at c.map_err.ensures.cases in
    let told : c.map_err.result ≡ Err kept.refusal = search rules in
    (rw told at c.told.ensures.left) ∙ refused-left kept.refusal [] _ ∙ sym (refused-left kept.refusal (ring_values kept.ring) _)

pub returns-clause-state : goal.returns-clause-state
returns-clause-state c = state c _ (rw c.ring_of.ensures at c.add-added.ensures.answer)
