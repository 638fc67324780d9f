use Rattle.std.proofs.Common.{◌≡◌, ℕ, sym, ap, ◌∙◌, inl, inr, ⊎_elim, arith}
use Rattle.codes.specs.{shifted_code}
use Rattle.evaluator.specs.{eval_word, branch_at, call_at, call_one_at, call_leaves_at}
use Rattle.evaluator.proofs.EvalWays.{apart_above, eval_deep, eval_sort, eval_other, branch_taken, branch_kept, along_start, along_end, along_stop, along_more, function_at_lem, param_at_lem, args_count, call_with_lem, working_plain, working_guard, lookup_is}
use Rattle.evaluator.proofs.NodeMeaning.{leaf_taken, param_leaf_found}
use Rattle.evaluator.proofs.+branch_call_call_one_eval_operand.Goals as goal

pub eval-returns-then-depth-eq0 : goal.eval-returns-then-depth-eq0
eval-returns-then-depth-eq0 t c = sym (eval_deep _ _ _ _ _ _ c.if-depth-eq0.true)

pub eval-returns-in-0 : goal.eval-returns-in-0
eval-returns-in-0 t c = c.constant.ensures ∙ sym (eval_sort _ _ _ _ _ _ c.if-depth-eq0.false 0 c.sort-sort.ensures c.in-0.is)

pub eval-returns-in-1 : goal.eval-returns-in-1
eval-returns-in-1 t c = c.param.ensures ∙ sym (eval_sort _ _ _ _ _ _ c.if-depth-eq0.false 1 c.sort-sort.ensures c.in-1.is)

pub eval-returns-in-2 : goal.eval-returns-in-2
eval-returns-in-2 t c = (rw (c.operand.ensures, c.first.ensures) at c.head.ensures) ∙ sym (eval_sort _ _ _ _ _ _ c.if-depth-eq0.false 2 c.sort-sort.ensures c.in-2.is)

pub eval-returns-in-3 : goal.eval-returns-in-3
eval-returns-in-3 t c = (rw (c.operand-in-3.ensures, c.first-in-3.ensures) at c.tail.ensures) ∙ sym (eval_sort _ _ _ _ _ _ c.if-depth-eq0.false 3 c.sort-sort.ensures c.in-3.is)

pub eval-returns-in-4 : goal.eval-returns-in-4
eval-returns-in-4 t c = (rw (c.operand-in-4.ensures, c.first-in-4.ensures) at c.null.ensures) ∙ sym (eval_sort _ _ _ _ _ _ c.if-depth-eq0.false 4 c.sort-sort.ensures c.in-4.is)

pub eval-returns-in-5 : goal.eval-returns-in-5
eval-returns-in-5 t c = (rw c.param-in-5.ensures at c.head-in-5.ensures) ∙ sym (eval_sort _ _ _ _ _ _ c.if-depth-eq0.false 5 c.sort-sort.ensures c.in-5.is)

pub eval-returns-in-6 : goal.eval-returns-in-6
eval-returns-in-6 t c = (rw c.param-in-6.ensures at c.tail-in-6.ensures) ∙ sym (eval_sort _ _ _ _ _ _ c.if-depth-eq0.false 6 c.sort-sort.ensures c.in-6.is)

pub eval-returns-in-7 : goal.eval-returns-in-7
eval-returns-in-7 t c = (rw c.param-in-7.ensures at c.null-in-7.ensures) ∙ sym (eval_sort _ _ _ _ _ _ c.if-depth-eq0.false 7 c.sort-sort.ensures c.in-7.is)

pub eval-returns-in-8 : goal.eval-returns-in-8
unfolding branch_at
eval-returns-in-8 t c = (rw (c.eval.ensures, c.first-in-8.ensures) at c.branch-words.ensures) ∙ sym (eval_sort _ _ _ _ _ _ c.if-depth-eq0.false 8 c.sort-sort.ensures c.in-8.is)

pub eval-returns-in-9 : goal.eval-returns-in-9
unfolding branch_at
eval-returns-in-9 t c = (rw c.param-in-9.ensures at c.branch-words-in-9.ensures) ∙ sym (eval_sort _ _ _ _ _ _ c.if-depth-eq0.false 9 c.sort-sort.ensures c.in-9.is)

pub eval-returns-in-10 : goal.eval-returns-in-10
unfolding branch_at
eval-returns-in-10 t c = (rw (c.null-in-10.ensures, c.param-in-10.ensures) at c.branch-words-in-10.ensures) ∙ sym (eval_sort _ _ _ _ _ _ c.if-depth-eq0.false 10 c.sort-sort.ensures c.in-10.is)

pub eval-returns-in-11 : goal.eval-returns-in-11
unfolding branch_at
eval-returns-in-11 t c = (rw (c.head-in-11.ensures, c.param-in-11.ensures) at c.branch-words-in-11.ensures) ∙ sym (eval_sort _ _ _ _ _ _ c.if-depth-eq0.false 11 c.sort-sort.ensures c.in-11.is)

pub eval-returns-in-12 : goal.eval-returns-in-12
unfolding call_at
eval-returns-in-12 t c = let number = c.call.result in
    ⊎_elim
    (λ e. working_plain number e c.working.ensures ∙ c.call.ensures ∙ sym (eval_sort _ _ _ _ _ _ c.if-depth-eq0.false 12 c.sort-sort.ensures e))
    (λ e. working_guard number e c.working.ensures ∙ ap (λ (x : ℕ). shifted_code x) c.call.ensures ∙ sym (eval_sort _ _ _ _ _ _ c.if-depth-eq0.false 14 c.sort-sort.ensures e))
    c.in-12.is

pub eval-returns-in-13 : goal.eval-returns-in-13
unfolding call_one_at
eval-returns-in-13 t c = c.call_one.ensures ∙ sym (eval_sort _ _ _ _ _ _ c.if-depth-eq0.false 13 c.sort-sort.ensures c.in-13.is)

pub eval-returns-in-15 : goal.eval-returns-in-15
unfolding call_leaves_at
eval-returns-in-15 t c = c.call_leaves.ensures ∙ sym (eval_sort _ _ _ _ _ _ c.if-depth-eq0.false 15 c.sort-sort.ensures c.in-15.is)

pub eval-returns-in_default : goal.eval-returns-in_default
eval-returns-in_default t c = let rest = c.in_default.in_default-own.rest in
    let others = apart_above 12 _ rest.0.0.0 in
    let call : c.sort-sort.result ≡ 12 → ⊥ = λ e. rest.0.0.1 (inl e) in
    let guard : c.sort-sort.result ≡ 14 → ⊥ = λ e. rest.0.0.1 (inr e) in
    let one = rest.0.1 in
    let leaves = rest.1 in
    sym (eval_other _ _ _ _ _ _ c.if-depth-eq0.false c.sort-sort.ensures (omega arith))

pub branch-returns-in-Some : goal.branch-returns-in-Some
branch-returns-in-Some t c = c.eval.ensures ∙ sym (branch_taken _ _ _ _ _ _ c.args.chosen (sym c.branch_of.ensures ∙ c.in-Some.is))

pub branch-returns-in-None : goal.branch-returns-in-None
branch-returns-in-None t c = sym (branch_kept _ _ _ _ _ _ c.args.chosen (sym c.branch_of.ensures ∙ c.in-None.is))

pub operand-returns-in-Some : goal.operand-returns-in-Some
operand-returns-in-Some t c = sym (leaf_taken _ _ _ _ _ _ c.if-depth-eq0.false (param_leaf_found _ _ _ (sym c.param_leaf.ensures ∙ c.in-Some.is)))

pub call_one-returns : goal.call_one-returns
unfolding call_one_at
call_one-returns t c = c.call_with.ensures ∙ call_with_lem _ _ _ _ (c.operand-value.ensures ∙ ap (eval_word _ _ _ _ _) c.first.ensures)

pub call-loop-i-init : goal.call-loop-i-init
call-loop-i-init t c = (rw c.callee.ensures, rw c.places-rest.ensures (along_start _ _ _ _ _ _ (omega (arith, c.count-count.ensures))))

pub call-returns-in_default : goal.call-returns-in_default
unfolding call_at
call-returns-in_default t c = let W = c.args.words.now in
    sym (along_stop c.loop-i.invariant.1 c.loop-i-test.true (param_at_lem W _ c.loop-i.invariant.0 c.loop-i.i)
    (c.operand-value.ensures ∙ ap (eval_word _ _ _ _ _) c.at.ensures) (sym c.passed.ensures ∙ c.in_default.is))
    ∙ args_count _ _ _ _ _ c.count-count.ensures

pub call-loop-i-preserved : goal.call-loop-i-preserved
call-loop-i-preserved t c = let W = c.args.words.now in (
  c.loop-i.invariant.0,
  along_more c.loop-i.invariant.1 c.loop-i-test.true (param_at_lem W _ c.loop-i.invariant.0 c.loop-i.i)
      (c.operand-value.ensures ∙ ap (eval_word _ _ _ _ _) c.at.ensures) (sym c.passed.ensures ∙ c.in-Some.is),
)

pub call-returns : goal.call-returns
unfolding call_at
call-returns t c = let W = c.args.words.now in
    lookup_is _ _ _ c.loop-i.invariant.1.small c.lookup.ensures
    ∙ sym (along_end c.loop-i.invariant.1 c.loop-i-test.false (function_at_lem W _ c.loop-i.invariant.0))
    ∙ args_count _ _ _ _ _ c.count-count.ensures

pub operand-returns-then-depth-eq0 : goal.operand-returns-then-depth-eq0
operand-returns-then-depth-eq0 t c = sym (eval_deep _ _ _ _ _ _ c.if-depth-eq0.true)
