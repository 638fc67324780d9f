-- `call_with` meets its contract, whether the value has a digit or not.
use Rattle.std.proofs.Common.{◌≡◌, ◌+◌, ◌*◌, sym, ◌∙◌, arith}
use Rattle.decoding.specs.Words.{callee_of}
use Rattle.evaluator.specs.{call_with_at}
use Rattle.evaluator.proofs.EvalWays.{function_at_lem, first_param_at, one-stop, one_found, lookup_is}
use Rattle.evaluator.proofs.call_with.Goals as goal

pub returns-then-values-digit : goal.returns-then-values-digit
unfolding call_with_at
returns-then-values-digit c = let W = c.args.words.now in
    let place : 4096 + 8 * c.callee.result ≡ 4096 + 8 * callee_of c.args.node = omega (arith, c.callee.ensures) in
    sym (one-stop _ _ _ _ _ (first_param_at W _ place) c.digit-digit.ensures c.values.ensures c.if-values-digit.true)

pub returns : goal.returns
unfolding call_with_at
returns c = let W = c.args.words.now in
    let place : 4096 + 8 * c.callee.result ≡ 4096 + 8 * callee_of c.args.node = omega (arith, c.callee.ensures) in
    lookup_is _ _ _ (omega (arith, c.if-values-digit.false, c.values.ensures)) c.lookup.ensures
    ∙ sym (one_found _ _ _ _ _ (first_param_at W _ place) c.digit-digit.ensures c.values.ensures c.if-values-digit.false (function_at_lem W _ place))
