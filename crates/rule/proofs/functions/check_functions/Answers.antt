-- `check_functions` meets its contract: the headers, 10, 11, then the bodies.
use Rattle.std.proofs.Common.{sym, ◌∙◌}
use Rattle.refusal.proofs.Checks.{handed_on}
use Rattle.rule.proofs.FunctionWays.{scan_stopped, scan_read, bytes_after, main_bits_lem, wrong_main, bodies_placed, bodies_refused, all_passed}
use Rattle.rule.proofs.functions.check_functions.Goals as goal

pub returns-in_err-scan : goal.returns-in_err-scan
returns-in_err-scan c =
    let a = c.args in
    handed_on _ c.from_residual.ensures.1 ∙ sym (scan_stopped a.sort a.program.now a.count _ c.scan_headers.ensures c.in_err-scan.was)

pub returns-then-scan-program : goal.returns-then-scan-program
returns-then-scan-program c =
    let read = scan_read _ _ _ _ c.scan_headers.ensures c.requires c.in_ok-scan.was in
    sym (bytes_after read c.if-scan-program.true)

pub returns-then-not-is_main : goal.returns-then-not-is_main
returns-then-not-is_main c =
    let read = scan_read _ _ _ _ c.scan_headers.ensures c.requires c.in_ok-scan.was in
    let main = main_bits_lem read c.if-scan-program.false c.is_main.ensures in
    sym (wrong_main read c.if-scan-program.false (sym main ∙ c.if-not-is_main.true))

pub check_bodies-requires : goal.check_bodies-requires
check_bodies-requires c =
    let read = scan_read _ _ _ _ c.scan_headers.ensures c.requires c.in_ok-scan.was in
    bodies_placed read c.if-scan-program.false

pub returns-in_err-check_bodies : goal.returns-in_err-check_bodies
returns-in_err-check_bodies c =
    let read = scan_read _ _ _ _ c.scan_headers.ensures c.requires c.in_ok-scan.was in
    let main = main_bits_lem read c.if-scan-program.false c.is_main.ensures in
    handed_on _ c.from_residual-in_err-check_bodies.ensures.1
    ∙ sym (bodies_refused read c.if-scan-program.false (sym main ∙ c.if-not-is_main.false) c.check_bodies.ensures c.in_err-check_bodies.was)

pub returns : goal.returns
returns c =
    let read = scan_read _ _ _ _ c.scan_headers.ensures c.requires c.in_ok-scan.was in
    let main = main_bits_lem read c.if-scan-program.false c.is_main.ensures in
    all_passed read c.if-scan-program.false (sym main ∙ c.if-not-is_main.false) c.check_bodies.ensures c.in_ok-check_bodies.was
