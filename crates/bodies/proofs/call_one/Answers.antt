-- `call_one` meets its contract: a leaf's number is the outcome of the argument.
use Rattle.std.proofs.Common.{◌≡◌, ◌-◌, sym, ◌∙◌, arith}
use Rattle.evaluator.specs.{eval_at, call_one_at}
use Rattle.evaluator.proofs.EvalWays.{call_with_lem}
use Rattle.evaluator.proofs.NodeMeaning.{leaf_taken}
use Rattle.decoding.specs.Words.{first_place}
use Rattle.bodies.proofs.SpineWays.{call_one_at_lem}
use Rattle.bodies.proofs.call_one.Goals as goal

pub returns-in-Some : goal.returns-in-Some
unfolding call_one_at
returns-in-Some c = let a = c.args in
    let value : c.in-Some.value ≡ eval_at a.words.now a.traces.now a.table.now.now a.env.now (a.depth - 1) (first_place a.node) =
    sym (rw c.first.ensures at (leaf_taken a.words.now a.traces.now a.table.now.now a.env.now (a.depth - 1) c.first.result (λ z. omega (arith, c.requires.0))
    (sym c.leaf.ensures ∙ c.in-Some.is))) in
    c.call_with.ensures ∙ call_with_lem _ _ _ _ value ∙ sym (call_one_at_lem _ _ _ _ a.depth a.node (omega (arith, c.requires.0)) c.requires.1)
