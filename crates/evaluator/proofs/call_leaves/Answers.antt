-- The goals that are left.
use Rattle.std.proofs.Common.{◌≡◌, ◌%◌, sym, ap, ◌∙◌, arith}
use Rattle.evaluator.specs.{leaf_by, leaf_at, call_leaves_at}
use Rattle.evaluator.proofs.EvalWays.{along_start, along_end, along_stop, along_more, function_at_lem, param_at_lem, args_count, lookup_is}
use Rattle.evaluator.proofs.NodeMeaning.{leaf_or}
use Rattle.evaluator.proofs.call_leaves.Goals as goal

pub loop-i-init : goal.loop-i-init
loop-i-init c = (rw c.callee.ensures, rw c.places-places.ensures (along_start _ _ _ _ _ _ (omega (arith, c.count-count.ensures))))

pub returns-in_default : goal.returns-in_default
unfolding call_leaves_at
returns-in_default c = let W = c.args.words.now in
    let value : c.unwrap_or-value.result ≡ leaf_at W c.args.traces.now c.args.env.now (c.loop-i.places % 4096) =
    (rw (c.leaf.ensures, c.constant.ensures) at c.unwrap_or-value.ensures) ∙ leaf_or _ _ _ ∙ ap (leaf_by _ _) c.at-argument.ensures in
    sym (along_stop c.loop-i.invariant.1 c.loop-i-test.true (param_at_lem W _ c.loop-i.invariant.0 c.loop-i.i) value
    (sym c.passed.ensures ∙ c.in_default.is))
    ∙ args_count _ _ _ _ _ c.count-count.ensures

pub loop-i-preserved : goal.loop-i-preserved
loop-i-preserved c = let W = c.args.words.now in
    let value : c.unwrap_or-value.result ≡ leaf_at W c.args.traces.now c.args.env.now (c.loop-i.places % 4096) =
    (rw (c.leaf.ensures, c.constant.ensures) at c.unwrap_or-value.ensures) ∙ leaf_or _ _ _ ∙ ap (leaf_by _ _) c.at-argument.ensures in (
      c.loop-i.invariant.0,
      along_more c.loop-i.invariant.1 c.loop-i-test.true (param_at_lem W _ c.loop-i.invariant.0 c.loop-i.i) value
          (sym c.passed.ensures ∙ c.in-Some.is),
    )

pub returns : goal.returns
unfolding call_leaves_at
returns c = let W = c.args.words.now in
    lookup_is _ _ _ c.loop-i.invariant.1.small c.lookup.ensures
    ∙ sym (along_end c.loop-i.invariant.1 c.loop-i-test.false (function_at_lem W _ c.loop-i.invariant.0))
    ∙ args_count _ _ _ _ _ c.count-count.ensures
