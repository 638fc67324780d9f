-- `fill` meets its contract: four tests, then the pieces are put one after the other, and there is room for each that is left.
use mathlib.Core.Path.{◌≡◌, sym, ◌∙◌}
use mathlib.Core.Bool.{true}
use Prim.Native.Nat.{ℕ, ◌+◌, ◌<◌, ◌≤◌}
use native.Mathlib.Omega.{arith}
use lib.ListN.{length}
use Rattle.semantics.specs.declared.Sort.{Sort}
use Rattle.semantics.specs.declared.Sort.TheVariants.{One, Two}
use mathlib.Core.List.{List}
use Rattle.layout.specs.Form.{trailer_bytes}
use Rattle.layout.specs.Steps.{format_filled, kept}
use Rattle.layout.specs.Filling.{is_packing}
use Rattle.layout.proofs.Filling.{packing_few, no_packing, too_high, no_room_for, written}
use Rattle.layout.proofs.fill.Goals.{then-not-is_packing-via-then-not-is_packing, then-not-is_packing-via-else-not-is_packing+then-not-is_packing-2}
use Rattle.layout.proofs.fill.Goals as goal

pub returns-then-not-is_packing : goal.returns-then-not-is_packing
returns-then-not-is_packing c =
    elim c.then-not-is_packing.branch [
      | then-not-is_packing-via-then-not-is_packing w ↦ no_packing _ _ _ _ (rw (sym c.is_packing.ensures ∙ w.if-not-is_packing.true))
      | then-not-is_packing-via-else-not-is_packing+then-not-is_packing-2 w ↦
          no_packing _ _ _ _
          (rw (sym c.is_packing.ensures ∙ w.if-not-is_packing.false, sym w.is_packing-else-not-is_packing.ensures ∙ w.if-not-is_packing-2.true))
    ]

pub returns-then-number : goal.returns-then-number
returns-then-number c =
    too_high _ _ _ _ _ _ _ _ (sym c.is_packing.ensures ∙ c.if-not-is_packing.false) (sym c.is_packing-else-not-is_packing.ensures ∙ c.if-not-is_packing-2.false)
    c.verdict_number-number.ensures (omega arith)

-- the sums fit, as the bytes of both traces are few
few : (sort : Sort) (guard : List ℕ) {now : List ℕ} → now ≡ kept sort guard → length now ≤ length guard
few One guard e = rw e (omega arith)
few Two guard e = rw e (omega arith)

trailer-few : (sort : Sort) {size : ℕ} → size ≡ trailer_bytes (format_filled sort) → size ≤ 10
unfolding trailer_bytes
trailer-few One e = omega arith
trailer-few Two e = omega arith

short : (ram : List ℕ) (n : ℕ) (guard : List ℕ) (m : ℕ) (sort : Sort) {now : List ℕ} → is_packing ram n ≡ true → is_packing guard m ≡ true
    → n < 65536 → m < 65536 → now ≡ kept sort guard → length ram + length now ≤ 16384
short ram n guard m sort p q h l e = omega (arith, packing_few ram n p h, packing_few guard m q l, few sort guard e)

pub overflow_add-second-2 : goal.overflow_add-second-2
overflow_add-second-2 c =
    omega (
      arith,
      short _ c.args.n _ c.args.m c.args.sort (sym c.is_packing.ensures ∙ c.if-not-is_packing.false)
          (sym c.is_packing-else-not-is_packing.ensures ∙ c.if-not-is_packing-2.false)
          (omega arith)
          (omega arith)
          c.guard_kept-guard.ensures,
    )

pub overflow_add-first : goal.overflow_add-first
overflow_add-first c =
    omega (
      arith,
      (short _ c.args.n _ c.args.m c.args.sort (sym c.is_packing.ensures ∙ c.if-not-is_packing.false)
          (sym c.is_packing-else-not-is_packing.ensures ∙ c.if-not-is_packing-2.false) (omega arith) (omega arith) c.guard_kept-guard.ensures),
      c.well_formed.0.1,
    )

pub overflow_add-first-2 : goal.overflow_add-first-2
overflow_add-first-2 c =
    omega (
      arith,
      (short _ c.args.n _ c.args.m c.args.sort (sym c.is_packing.ensures ∙ c.if-not-is_packing.false)
          (sym c.is_packing-else-not-is_packing.ensures ∙ c.if-not-is_packing-2.false) (omega arith) (omega arith) c.guard_kept-guard.ensures),
      c.well_formed.0.1,
      trailer-few c.args.sort c.trailer_size.ensures,
    )

pub returns-then-out-first : goal.returns-then-out-first
returns-then-out-first c =
    no_room_for _ _ _ _ _ _ _ _ (sym c.is_packing.ensures ∙ c.if-not-is_packing.false) (sym c.is_packing-else-not-is_packing.ensures ∙ c.if-not-is_packing-2.false)
    c.guard_kept-guard.ensures c.trailer_size.ensures c.if-out-first.true

pub returns : goal.returns
returns c =
    written _ _ _ _ _ _ _ _ (sym c.is_packing.ensures ∙ c.if-not-is_packing.false) (sym c.is_packing-else-not-is_packing.ensures ∙ c.if-not-is_packing-2.false)
    c.guard_kept-guard.ensures c.trailer_size.ensures c.verdict_number-number.ensures (omega arith)
    (λ i. omega (arith, c.type_inv.ram i)) (λ i. omega (arith, c.type_inv.guard i)) c.if-out-first.false
    (c.put-after_program.ensures.place, c.put-after_program.ensures.output) (c.put-after_ram.ensures.place, c.put-after_ram.ensures.output)
    (c.put-after_guard.ensures.place, c.put-after_guard.ensures.output)
    c.verdict_bytes-result.ensures (c.put-after_result.ensures.place, c.put-after_result.ensures.output)
    c.trailer_start-start.ensures (c.put-after_start.ensures.place, c.put-after_start.ensures.output)
    (c.put_trailer_end.ensures.place, c.put_trailer_end.ensures.output)
