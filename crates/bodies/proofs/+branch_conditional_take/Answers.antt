use Prim.Native.Nat.{ℕ}
use mathlib.Core.Path.{◌≡◌, refl, sym, ◌∙◌}
use native.Mathlib.Omega.{arith}
use Rattle.codes.specs.{head_of, null_of}
use Rattle.evaluator.proofs.EvalWays.{branch_taken, branch_kept}
use Rattle.bodies.proofs.SpineWays.{sort_at_lem, fused_at, branch_long, call_leaves_at_lem}
use Rattle.bodies.proofs.+branch_conditional_take.Goals as goal

pub branch-returns-in-Some : goal.branch-returns-in-Some
branch-returns-in-Some t c = c.take.ensures ∙ sym (branch_taken _ _ _ _ _ _ c.args.chosen (sym c.branch_of.ensures ∙ c.in-Some.is))

pub branch-returns-in-None : goal.branch-returns-in-None
branch-returns-in-None t c = sym (branch_kept _ _ _ _ _ _ c.args.chosen (sym c.branch_of.ensures ∙ c.in-None.is))

pub conditional-returns-then-has_samples : goal.conditional-returns-then-has_samples
conditional-returns-then-has_samples t c = c.take.ensures
    ∙ sym (fused_at _ _ _ _ _ _ 10 (λ (v : ℕ). null_of v) (λ eval. refl) c.if-sort-eq-IF_NULL.true c.param-value.ensures
    ∙ branch_long _ _ _ _ _ _ c.param-value.result (sym c.has_samples.ensures ∙ c.if-has_samples.true) c.third.ensures)

pub conditional-returns-then-sort-eq-IF_NULL : goal.conditional-returns-then-sort-eq-IF_NULL
conditional-returns-then-sort-eq-IF_NULL t c = (rw c.null.ensures at c.branch-words.ensures)
    ∙ sym (fused_at _ _ _ _ _ _ 10 (λ (v : ℕ). null_of v) (λ eval. refl) c.if-sort-eq-IF_NULL.true c.param-value.ensures)

pub conditional-returns-then-sort-eq-IF_HEAD : goal.conditional-returns-then-sort-eq-IF_HEAD
conditional-returns-then-sort-eq-IF_HEAD t c = let a = c.args in
    (rw c.head.ensures at c.branch-words-then-sort-eq-IF_HEAD.ensures)
    ∙ sym (fused_at _ _ _ _ _ _ 11 (λ (v : ℕ). head_of a.traces.now a.env.now v) (λ eval. refl) c.if-sort-eq-IF_HEAD.true c.param-value.ensures)

pub conditional-returns : goal.conditional-returns
conditional-returns t c = let sort : c.args.sort ≡ 9 = omega (arith, c.requires, c.if-sort-eq-IF_HEAD.false, c.if-sort-eq-IF_NULL.false) in
    c.branch-words-2.ensures ∙ sym (fused_at _ _ _ _ _ _ 9 (λ (v : ℕ). v) (λ eval. refl) sort c.param-value.ensures)

pub take-returns-then-sort-lt-CALL : goal.take-returns-then-sort-lt-CALL
take-returns-then-sort-lt-CALL t c = c.conditional.ensures ∙ sym (sort_at_lem _ _ _ _ _ _ (omega (arith, c.if-left-eq0.false)) c.sort-sort.ensures)

pub take-returns-then-sort-eq-CALL_LEAVES : goal.take-returns-then-sort-eq-CALL_LEAVES
take-returns-then-sort-eq-CALL_LEAVES t c = c.call_leaves.ensures ∙ sym (call_leaves_at_lem _ _ _ _ _ _ (omega (arith, c.if-left-eq0.false)) c.sort-sort.ensures c.if-sort-eq-CALL_LEAVES.true)
