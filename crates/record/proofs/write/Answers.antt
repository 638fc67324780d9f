-- `write` meets its contract: 5 to 21 are judged first, then 22, and only then is anything stored.
use Rattle.std.proofs.Common.{◌≡◌, ℕ, ◌^◌, ◌<◌, ◌≤◌, length, refl, sym, ◌∙◌, arith}
use Rattle.trace.specs.{bytes_for}
use Rattle.semantics.specs.declared.Sort.{Sort}
use Rattle.semantics.specs.declared.Sort.TheVariants.{One, Two}
use Rattle.prepare.specs.Checks.{handed_in}
use Rattle.rule.specs.Form.{AreBytes}
use Rattle.record.specs.Recording.{record_of}
use Rattle.record.specs.Steps.{beside_bytes}
use Rattle.refusal.proofs.Checks.{handed_on}
use Rattle.record.proofs.Answers.{evaluation-refused, evaluation_passed}
use Rattle.record.proofs.Writing.{size_told, evaluation-first, room-last, room_enough, refused_written, refused-table, passed_written, written_owed, few_samples, filled_written}
use Rattle.record.proofs.write.Goals as goal

-- n / 8 rounded up, for any n of 64 bits, and the same of m with the trailer
few : (n k : ℕ) → n < 2 ^ 64 → k ≡ bytes_for n → k ≤ 2305843009213693952
unfolding bytes_for
few n k h e = omega arith

beside-few : (s : Sort) (m k : ℕ) → m < 2 ^ 64 → k ≡ beside_bytes s m → k ≤ 2305843009213693962
unfolding bytes_for
beside-few One m k h e = omega arith
beside-few Two m k h e = omega arith

pub overflow_add-size : goal.overflow_add-size
overflow_add-size c = omega (arith, few c.args.handed.n c.bytes_for.result (omega (arith, c.ranges.handed)) c.bytes_for.ensures, c.type_inv.program)

pub overflow_add-size-2 : goal.overflow_add-size-2
overflow_add-size-2 c =
    omega (
      arith,
      few c.args.handed.n c.bytes_for.result (omega (arith, c.ranges.handed)) c.bytes_for.ensures,
      beside-few c.args.handed.sort c.args.handed.m c.beside.result (omega (arith, c.ranges.handed)) c.beside.ensures,
    )

pub overflow_add-size-3 : goal.overflow_add-size-3
overflow_add-size-3 c =
    omega (
      arith,
      few c.args.handed.n c.bytes_for.result (omega (arith, c.ranges.handed)) c.bytes_for.ensures,
      beside-few c.args.handed.sort c.args.handed.m c.beside.result (omega (arith, c.ranges.handed)) c.beside.ensures,
    )

pub returns-in_err-check : goal.returns-in_err-check
returns-in_err-check c =
    let a = c.args in
    let h = handed_in a.handed in
    let first = evaluation-first a.program.now h a.table.now a.out.now (sym c.in_err-check.ensures) in
    let r = refused_written a.program.now h a.table.now a.out.now first in
    let owed = written_owed a.program.now h a.table.now a.out.now (handed_on _ c.from_residual.ensures.1 ∙ r.0, r.1) in
    record { answer = owed.0; numbers = owed.1.0; output = owed.1.1.0; cells = owed.1.1.1.0; decides = owed.1.1.1.1 }

pub returns-then-out-size : goal.returns-then-out-size
returns-then-out-size c =
    let a = c.args in
    let h = handed_in a.handed in
    let sized = size_told a.program.now h c.bytes_for.ensures c.beside.ensures in
    let last = room-last a.program.now h a.table.now a.out.now (sym c.in_ok-check.ensures) sized c.if-out-size.true in
    let owed = written_owed a.program.now h a.table.now a.out.now (refused_written a.program.now h a.table.now a.out.now last) in
    record { answer = owed.0; numbers = owed.1.0; output = owed.1.1.0; cells = owed.1.1.1.0; decides = owed.1.1.1.1 }

pub returns-in_err-verdict : goal.returns-in_err-verdict
returns-in_err-verdict c =
    let a = c.args in
    let h = handed_in a.handed in
    let told = c.in_err-verdict.ensures in
    let refused = evaluation-refused a.program.now h (length a.table.now) told.answer refl in
    let r = refused_written a.program.now h a.table.now a.out.now (evaluation-first a.program.now h a.table.now a.out.now refused) in
    let same = refused-table a.program.now h a.table.now a.out.now refused told.cells in
    let owed = written_owed a.program.now h a.table.now a.out.now (handed_on _ c.from_residual-in_err-verdict.ensures.1 ∙ r.0, (r.1.0, same ∙ r.1.1)) in
    record { answer = owed.0; numbers = owed.1.0; output = owed.1.1.0; cells = owed.1.1.1.0; decides = owed.1.1.1.1 }

pub overflow_cast-handed : goal.overflow_cast-handed
overflow_cast-handed c =
    let a = c.args in
    let h = handed_in a.handed in
    let sized = size_told a.program.now h c.bytes_for.ensures c.beside.ensures in
    let worked = evaluation_passed a.program.now h (length a.table.now) c.in_ok-verdict.ensures.answer refl in
    let passes = room_enough a.program.now h a.table.now a.out.now worked.0 sized c.if-out-size.false in
    omega (arith, few_samples a.program.now h a.table.now a.out.now (λ i. omega (arith, c.type_inv.program i)) passes)

pub overflow_cast-handed-2 : goal.overflow_cast-handed-2
overflow_cast-handed-2 c =
    let a = c.args in
    let h = handed_in a.handed in
    let sized = size_told a.program.now h c.bytes_for.ensures c.beside.ensures in
    let worked = evaluation_passed a.program.now h (length a.table.now) c.in_ok-verdict.ensures.answer refl in
    let passes = room_enough a.program.now h a.table.now a.out.now worked.0 sized c.if-out-size.false in
    omega (arith, few_samples a.program.now h a.table.now a.out.now (λ i. omega (arith, c.type_inv.program i)) passes)

pub returns : goal.returns
returns c =
    let a = c.args in
    let h = handed_in a.handed in
    let sized = size_told a.program.now h c.bytes_for.ensures c.beside.ensures in
    let told = c.in_ok-verdict.ensures in
    let worked = evaluation_passed a.program.now h (length a.table.now) told.answer refl in
    let passes = room_enough a.program.now h a.table.now a.out.now worked.0 sized c.if-out-size.false in
    let bytes : AreBytes a.program.now = λ i. omega (arith, c.type_inv.program i) in
    let room : length (record_of a.program.now h) ≤ length a.out.now = omega (arith, sized, c.if-out-size.false) in
    let whole = filled_written a.program.now h a.table.now a.out.now bytes passes worked.1 room c.fill.ensures in
    let owed = written_owed a.program.now h a.table.now a.out.now (passed_written a.program.now h a.table.now a.out.now passes sized worked.1 whole told.cells) in
    record { answer = owed.0; numbers = owed.1.0; output = owed.1.1.0; cells = owed.1.1.1.0; decides = owed.1.1.1.1 }
