-- The goals that are left.
use mathlib.Core.Path.{refl, sym, ◌∙◌}
use native.Mathlib.Omega.{arith}
use Rattle.refusal.proofs.Checks.{handed_on}
use Rattle.rule.proofs.Scanning.{scanned_start, scanned_stop, scanned_more, next_fits, scan_stopped, scan_passed}
use Rattle.rule.proofs.functions.scan_headers.Goals as goal

pub loop-i-init : goal.loop-i-init
loop-i-init c = (refl, scanned_start _ _ _ c.requires.some)

pub returns-in_err-header : goal.returns-in_err-header
returns-in_err-header c =
    handed_on _ c.from_residual.ensures.1
    ∙ scan_stopped _ _ (scanned_stop c.loop-i.invariant.1 c.loop-i-test.true (sym c.header_at.ensures ∙ c.in_err-header.was))

pub overflow_cast-outline-in-loop-i : goal.overflow_cast-outline-in-loop-i
overflow_cast-outline-in-loop-i c = omega (arith, next_fits c.loop-i.invariant.1 (sym c.header_at.ensures ∙ c.in_ok-header.was), c.header_bytes-size.ensures.0)

pub loop-i-preserved : goal.loop-i-preserved
loop-i-preserved c = (
  c.loop-i.invariant.0,
  rw c.header_bytes-size.ensures.0
      (scanned_more c.loop-i.invariant.1 c.requires.few c.loop-i-test.true (sym c.header_at.ensures ∙ c.in_ok-header.was)),
)

pub returns : goal.returns
returns c = scan_passed c.loop-i.invariant.0 c.loop-i.invariant.1 c.loop-i-test.false
