use mathlib.Core.Path.{refl, sym, ap, ◌∙◌}
use mathlib.Core.Logic.{inl, inr}
use Rattle.refusal.proofs.Checks.{handed_on}
use Rattle.semantics.specs.declared.Kind.TheVariants.{List as list}
use Rattle.semantics.specs.declared.Demand.TheVariants.{Only as only}
use Rattle.rule.specs.Walk.{call_walked_at}
use Rattle.rule.proofs.Walking.{check_node, down_end, down_deep, down_node, down_on, call_none, call-not, call-args, along_end, along_stop, along_more}
use Rattle.rule.proofs.expression.+call_check_operand.Goals as goal

pub call-returns-then-outline-callee : goal.call-returns-then-outline-callee
call-returns-then-outline-callee t c = call_none _ _ _ _ _ c.if-outline-callee.true

pub call-returns-then-not-allows : goal.call-returns-then-not-allows
call-returns-then-not-allows t c =
    call-not _ _ _ _ _ c.if-outline-callee.false c.kind.ensures c.allows.ensures c.if-not-allows.true c.apart.ensures

pub call-returns-in_err-next : goal.call-returns-in_err-next
call-returns-in_err-next t c =
    handed_on _ c.from_residual.ensures.1
    ∙ sym
    (call-args _ _ _ _ _ c.if-outline-callee.false c.kind.ensures c.allows.ensures c.if-not-allows.false c.at_most_four-i-end.ensures.0
    ∙ along_stop c.loop-i.invariant c.loop-i-test.true c.kind-in-loop-i.ensures c.check.ensures c.in_err-next.was)

pub call-loop-i-preserved : goal.call-loop-i-preserved
call-loop-i-preserved t c = along_more c.loop-i.invariant c.loop-i-test.true c.kind-in-loop-i.ensures c.check.ensures c.in_ok-next.was

pub call-returns : goal.call-returns
call-returns t c =
    sym
    (call-args _ _ _ _ _ c.if-outline-callee.false c.kind.ensures c.allows.ensures c.if-not-allows.false c.at_most_four-i-end.ensures.0
    ∙ along_end c.loop-i.invariant c.loop-i-test.false)

pub check-returns-then-frame-at : goal.check-returns-then-frame-at
check-returns-then-frame-at t c = down_end c.loop-at.invariant c.if-frame-at.true

pub check-returns-then-depth-eq0 : goal.check-returns-then-depth-eq0
check-returns-then-depth-eq0 t c = down_deep c.loop-at.invariant c.if-frame-at.false c.if-depth-eq0.true

pub check-returns-in-False : goal.check-returns-in-False
check-returns-in-False t c = elim c.in-False.is [
  | inl e ↦ down_node c.loop-at.invariant c.if-frame-at.false c.if-depth-eq0.false c.node_of.ensures e c.leaf.ensures
  | inr e ↦ down_node c.loop-at.invariant c.if-frame-at.false c.if-depth-eq0.false c.node_of.ensures e c.leaf.ensures
]

pub check-returns-in-Empty : goal.check-returns-in-Empty
check-returns-in-Empty t c = down_node c.loop-at.invariant c.if-frame-at.false c.if-depth-eq0.false c.node_of.ensures c.in-Empty.is c.leaf-in-Empty.ensures

pub check-returns-in-EmptyGuard : goal.check-returns-in-EmptyGuard
check-returns-in-EmptyGuard t c = down_node c.loop-at.invariant c.if-frame-at.false c.if-depth-eq0.false c.node_of.ensures c.in-EmptyGuard.is c.guard_empty.ensures

pub check-returns-in-Param : goal.check-returns-in-Param
check-returns-in-Param t c = down_node c.loop-at.invariant c.if-frame-at.false c.if-depth-eq0.false c.node_of.ensures c.in-Param.is c.param.ensures

pub check-returns-then-not-allows : goal.check-returns-then-not-allows
check-returns-then-not-allows t c = elim c.in-Head.is [
  | inl e ↦ down_node c.loop-at.invariant c.if-frame-at.false c.if-depth-eq0.false c.node_of.ensures e (simp (sym c.allows.ensures ∙ c.if-not-allows.true, c.apart.ensures))
  | inr e ↦ down_node c.loop-at.invariant c.if-frame-at.false c.if-depth-eq0.false c.node_of.ensures e (simp (sym c.allows.ensures ∙ c.if-not-allows.true, c.apart.ensures))
]

pub check-loop-at-preserved-in-Head : goal.check-loop-at-preserved-in-Head
check-loop-at-preserved-in-Head t c = elim c.in-Head.is [
  | inl e ↦ down_on c.loop-at.invariant c.if-frame-at.false c.if-depth-eq0.false c.node_of.ensures e (simp (sym c.allows.ensures ∙ c.if-not-allows.false))
  | inr e ↦ down_on c.loop-at.invariant c.if-frame-at.false c.if-depth-eq0.false c.node_of.ensures e (simp (sym c.allows.ensures ∙ c.if-not-allows.false))
]

pub check-returns-in-Only-Truth : goal.check-returns-in-Only-Truth
check-returns-in-Only-Truth t c = down_node c.loop-at.invariant c.if-frame-at.false c.if-depth-eq0.false c.node_of.ensures c.in-Tail.is
    (simp (c.in-Only-Truth.is ∙ ap only (rw c.in-Only-Truth.is at c.in-Only-Truth.field-0-is), c.apart-in-Only-Truth.ensures))

pub check-loop-at-preserved-in-Only-List-Ram : goal.check-loop-at-preserved-in-Only-List-Ram
check-loop-at-preserved-in-Only-List-Ram t c = down_on c.loop-at.invariant c.if-frame-at.false c.if-depth-eq0.false c.node_of.ensures c.in-Tail.is
    (simp (c.in-Only-List-Ram.is ∙ ap only (rw c.in-Only-List-Ram.is at c.in-Only-List-Ram.field-0-is ∙ ap list (rw (c.in-Only-List-Ram.is, rw c.in-Only-List-Ram.is at c.in-Only-List-Ram.field-0-is) at c.in-Only-List-Ram.field-0-0-is))))

pub check-loop-at-preserved-in-Only-List-Guard : goal.check-loop-at-preserved-in-Only-List-Guard
check-loop-at-preserved-in-Only-List-Guard t c = down_on c.loop-at.invariant c.if-frame-at.false c.if-depth-eq0.false c.node_of.ensures c.in-Tail.is
    (simp (c.in-Only-List-Guard.is ∙ ap only (rw c.in-Only-List-Guard.is at c.in-Only-List-Guard.field-0-is ∙ ap list (rw (c.in-Only-List-Guard.is, rw c.in-Only-List-Guard.is at c.in-Only-List-Guard.field-0-is) at c.in-Only-List-Guard.field-0-0-is))))

pub check-loop-at-preserved-in-AnyList : goal.check-loop-at-preserved-in-AnyList
check-loop-at-preserved-in-AnyList t c = down_on c.loop-at.invariant c.if-frame-at.false c.if-depth-eq0.false c.node_of.ensures c.in-Tail.is (simp c.in-AnyList.is)

pub check-returns-in_err-second-in-If : goal.check-returns-in_err-second-in-If
check-returns-in_err-second-in-If t c =
    handed_on _ c.from_residual.ensures.1 ∙ down_node c.loop-at.invariant c.if-frame-at.false c.if-depth-eq0.false c.node_of.ensures c.in-If.is (sym (rw (sym c.operand.ensures ∙ c.in_err-second-in-If.was)))

pub check-returns-in_err-at-in-If : goal.check-returns-in_err-at-in-If
check-returns-in_err-at-in-If t c =
    handed_on _ c.from_residual-in_err-at-in-If.ensures.1 ∙ down_node c.loop-at.invariant c.if-frame-at.false c.if-depth-eq0.false c.node_of.ensures c.in-If.is
    (sym (rw (sym c.operand.ensures ∙ c.in_ok-second-in-If.was, sym c.operand-in-If.ensures ∙ c.in_err-at-in-If.was)))

pub check-loop-at-preserved : goal.check-loop-at-preserved
check-loop-at-preserved t c = down_on c.loop-at.invariant c.if-frame-at.false c.if-depth-eq0.false c.node_of.ensures c.in-If.is
    (rw (sym c.operand.ensures ∙ c.in_ok-second-in-If.was, sym c.operand-in-If.ensures ∙ c.in_ok-at-in-If.was))

pub check-returns-in-Cons : goal.check-returns-in-Cons
check-returns-in-Cons t c = down_node c.loop-at.invariant c.if-frame-at.false c.if-depth-eq0.false c.node_of.ensures c.in-Cons.is refl

pub check-returns-in-Call : goal.check-returns-in-Call
unfolding call_walked_at
check-returns-in-Call t c = down_node c.loop-at.invariant c.if-frame-at.false c.if-depth-eq0.false c.node_of.ensures c.in-Call.is c.call.ensures

pub check-returns-in-Unknown : goal.check-returns-in-Unknown
check-returns-in-Unknown t c = down_node c.loop-at.invariant c.if-frame-at.false c.if-depth-eq0.false c.node_of.ensures c.in-Unknown.is refl

pub operand-returns-in-False : goal.operand-returns-in-False
operand-returns-in-False t c = elim c.in-False.is [
  | inl e ↦ check_node _ _ _ _ c.if-at-frame.true c.if-depth-ne0.true c.node_of.ensures e c.leaf.ensures
  | inr e ↦ check_node _ _ _ _ c.if-at-frame.true c.if-depth-ne0.true c.node_of.ensures e c.leaf.ensures
]

pub operand-returns-in-Empty : goal.operand-returns-in-Empty
operand-returns-in-Empty t c = check_node _ _ _ _ c.if-at-frame.true c.if-depth-ne0.true c.node_of.ensures c.in-Empty.is c.leaf-in-Empty.ensures

pub operand-returns-in-Param : goal.operand-returns-in-Param
operand-returns-in-Param t c = check_node _ _ _ _ c.if-at-frame.true c.if-depth-ne0.true c.node_of.ensures c.in-Param.is c.param.ensures
