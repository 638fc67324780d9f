-- The goals that are left.
use mathlib.Core.Path.{◌≡◌, refl, sym, ◌∙◌}
use mathlib.Core.Bool.{Bool, true, false, not}
use Prim.Native.Nat.{ℕ, zero, suc, ◌+◌, ◌-◌}
use native.Mathlib.Omega.{arith}
use native.Mathlib.Numerals.{unary_clauses}
use borrow.Author.Tests.{lt-leb}
use Rattle.trace.specs.{bit_of}
use Rattle.syntax.specs.Bytes.{no_list_below}
use Rattle.syntax.proofs.headers.guard_fault.Goals as goal
use Rattle.syntax.proofs.headers.guard_fault.Goals.{else-bit-via-then-bit+else-not-bit, else-bit-via-else-bit}

-- a bit that is set below i, where no list is, is so below every greater number
found_below : (i more kinds guard : ℕ) → no_list_below i kinds guard ≡ true → no_list_below (i + more) kinds guard ≡ true
unfolding no_list_below
found_below i zero kinds guard e = simp unary_clauses e
found_below i (suc more) kinds guard e = simp unary_clauses (rw (found_below i more kinds guard e) refl)

-- one bit more, where none was before it
module _ (i kinds guard : ℕ) (so_far : no_list_below i kinds guard ≡ false) where
  with_bit : {b k x : Bool} → b ≡ bit_of i guard → b ≡ true → k ≡ bit_of i kinds → k ≡ x → no_list_below (i + 1) kinds guard ≡ not x
  unfolding no_list_below
  with_bit p t q u = simp unary_clauses (rw (so_far, sym p ∙ t, sym q ∙ u) refl)

  without : {b : Bool} → b ≡ bit_of i guard → b ≡ false → no_list_below (i + 1) kinds guard ≡ false
  unfolding no_list_below
  without p t = simp unary_clauses (rw (so_far, sym p ∙ t) refl)

pub loop-i-init : goal.loop-i-init
unfolding no_list_below
loop-i-init c = refl

pub returns-then-not-bit : goal.returns-then-not-bit
returns-then-not-bit c =
    let a = c.args in
    let i = c.loop-i.i in
    let here = with_bit i a.kinds a.guard c.loop-i.invariant c.bit.ensures c.if-bit.true c.bit-then-bit.ensures c.if-not-bit.true in
    let whole : i + 1 + (4 - i) ≡ 5 = omega arith in
    let found : no_list_below 5 a.kinds a.guard ≡ true = rw whole at (found_below (i + 1) (4 - i) a.kinds a.guard here) in
    simp (lt-leb _ _ c.if-guard-ge32.false, found)

pub loop-i-preserved : goal.loop-i-preserved
loop-i-preserved c =
    let a = c.args in
    elim c.else-bit.branch [
      | else-bit-via-then-bit+else-not-bit w ↦ with_bit c.loop-i.i a.kinds a.guard c.loop-i.invariant c.bit.ensures w.if-bit.true w.bit-then-bit.ensures w.if-not-bit.false
      | else-bit-via-else-bit w ↦ without c.loop-i.i a.kinds a.guard c.loop-i.invariant c.bit.ensures w.if-bit.false
    ]

pub returns : goal.returns
returns c =
    let a = c.args in
    let end : c.loop-i.i ≡ 5 = omega arith in
    let none : no_list_below 5 a.kinds a.guard ≡ false = rw end at c.loop-i.invariant in
    simp (lt-leb _ _ c.if-guard-ge32.false, none)
