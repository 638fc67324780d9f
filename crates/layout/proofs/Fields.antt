-- Refusals 1 to 4 and 23, of the trailer and of what stands before it:
--   Fields                             what they leave
--   Sound, fields_sound                what 3 leaves
--   passed_fields, fields_passed       the check passes exactly where that holds
--   unknown_refused                    a format that is not known is refused by 2
use mathlib.Core.Path.{◌≡◌, sym}
use mathlib.Core.Bool.{true, false, not, ◌&&◌, ◌||◌}
use mathlib.Core.List.{List}
use Prim.Native.Nat.{ℕ, ◌+◌, ◌<◌, ◌≤◌}
use native.Mathlib.Omega.{arith}
use lib.Dec.{eqb, leb, ltb}
use lib.ListN.{length}
use borrow.Author.Tests.{ltb-false, leb-false, eqb-true, eqb-false, not-false, le-ltb, lt-leb, eq-eqb, ne_eqb}
use Rattle.refusal.specs.declared.Refusal.TheVariants.{MarkOrFormat}
use Rattle.std.specs.Prelude.{Err}
use Rattle.refusal.specs.{passed}
use Rattle.refusal.proofs.Checks.{then_passed, refuse_passed, either_passed}
use Rattle.rule.proofs.Tests.{neither}
use Rattle.trace.specs.{most_samples, bytes_for, padding_set}
use Rattle.layout.specs.declared.Format.{Format}
use Rattle.layout.specs.Form.{knows, mark, least_trailer, trailer_bytes, after_trace, most_verdict}
use Rattle.layout.specs.Trailer.{part_of, trace_span, guard_span, trailer_at, program_distance_in, trace_distance_in, samples_in, guard_samples_in, format_in, format_held, mark_in, verdict_in, passes_in, fields_fault, trailer_check_with}
use Rattle.layout.proofs.FormatLaws.{Reads, number_kept, least_trailer_lem, unknown_trailer}

-- what 1 to 3, 23 and 4 leave of bytes that end in a record of a format
pub record Fields (F : Format) (bytes : List ℕ) : Type 0 where
  pub room : trailer_bytes F ≤ length bytes
  pub marked : mark_in bytes ≡ mark
  pub formatted : format_in bytes ≡ F.number
  pub few : samples_in F bytes ≤ most_samples
  pub few_guard : guard_samples_in F bytes ≤ most_samples
  pub second : trace_distance_in F bytes ≡ bytes_for (samples_in F bytes) + (bytes_for (guard_samples_in F bytes) + after_trace F)
  pub larger : trace_distance_in F bytes < program_distance_in F bytes
  pub before : program_distance_in F bytes ≤ trailer_at F bytes
  pub clean : padding_set (part_of bytes (trace_span F bytes)) (samples_in F bytes) ≡ false
  pub clean_guard : padding_set (part_of bytes (guard_span F bytes)) (guard_samples_in F bytes) ≡ false
  pub verdict : verdict_in F bytes ≤ most_verdict
  pub counted : 1 ≤ passes_in F bytes

pub fields_passed : (known : List Format) (F : Format) (bytes : List ℕ) → Reads known F → Fields F bytes → trailer_check_with known bytes ≡ passed
unfolding trailer_check_with
fields_passed known F bytes r f =
    let none : passes_in F bytes ≡ 0 → ⊥ = λ e. omega arith in
    let n = samples_in F bytes in
    let m = guard_samples_in F bytes in
    rw (
      le-ltb (length bytes) least_trailer (omega (arith, least_trailer_lem F, f.room)),
      eq-eqb (mark_in bytes) mark f.marked,
      f.formatted,
      r.listed,
      r.found,
      le-ltb (length bytes) (trailer_bytes F) f.room,
      le-ltb most_samples n f.few,
      le-ltb most_samples m f.few_guard,
      eq-eqb (trace_distance_in F bytes) (bytes_for n + (bytes_for m + after_trace F)) f.second,
      lt-leb (program_distance_in F bytes) (trace_distance_in F bytes) f.larger,
      le-ltb (trailer_at F bytes) (program_distance_in F bytes) f.before,
      f.clean,
      f.clean_guard,
      le-ltb most_verdict (verdict_in F bytes) f.verdict,
      ne_eqb (passes_in F bytes) 0 none,
    )

-- a format that is not known, whatever its number
pub unknown_refused : (known : List Format) (bytes : List ℕ) → least_trailer ≤ length bytes → mark_in bytes ≡ mark
    → knows known (format_in bytes) ≡ false → trailer_check_with known bytes ≡ Err MarkOrFormat
unfolding trailer_check_with
unknown_refused known bytes long m k =
    rw (
      unknown_trailer known (format_in bytes) k,
      le-ltb (length bytes) least_trailer long,
      eq-eqb (mark_in bytes) mark m,
      k,
    )

-- what 3 leaves of the distances, n and m
pub record Sound (F : Format) (before first second n m : ℕ) : Type 0 where
  pub few : n ≤ most_samples
  pub few_guard : m ≤ most_samples
  pub exact : second ≡ bytes_for n + (bytes_for m + after_trace F)
  pub larger : second < first
  pub within : first ≤ before

pub fields_sound : (F : Format) (before first second n m : ℕ) → fields_fault F before first second n m ≡ false → Sound F before first second n m
fields_sound F before first second n m e =
    let a = neither (ltb most_samples n || ltb most_samples m) _ e in
    let few = neither (ltb most_samples n) (ltb most_samples m) a.0 in
    let b = neither (not (eqb second (bytes_for n + (bytes_for m + after_trace F)))) _ a.1 in
    let c = neither (leb first second) _ b.1 in
    record {
      few = ltb-false _ _ few.0;
      few_guard = ltb-false _ _ few.1;
      exact = eqb-true _ _ (not-false _ b.0);
      larger = leb-false _ _ c.0;
      within = ltb-false _ _ c.1;
    }

-- bytes that pass end in a record of a format known, and in what is left of that
pub passed_fields : (known : List Format) (bytes : List ℕ) → trailer_check_with known bytes ≡ passed
    → (knows known (format_in bytes) ≡ true) × Fields (format_held known bytes) bytes
unfolding trailer_check_with
passed_fields known bytes e =
    let F = format_held known bytes in
    let c1 = then_passed _ _ e in
    let c2 = then_passed _ _ c1.1 in
    let c3 = then_passed _ _ c2.1 in
    let f1 = either_passed (ltb (length bytes) least_trailer) (eqb (mark_in bytes) mark && ltb (length bytes) (trailer_bytes F)) _ c1.0 in
    let f2 = either_passed _ _ _ c2.0 in
    let f3 = fields_sound F _ _ _ _ _ (refuse_passed _ _ c3.0) in
    let c4 = then_passed _ _ c3.1 in
    let f23 = either_passed _ _ _ c4.0 in
    let f4 = either_passed _ _ _ c4.1 in
    let none = eqb-false (passes_in F bytes) 0 f4.1 in
    let marked : eqb (mark_in bytes) mark ≡ true = not-false _ f2.0 in
    let long : ltb (length bytes) (trailer_bytes F) ≡ false = rw marked at f1.1 in
    let listed = not-false _ f2.1 in (
      listed,
      record {
        room = ltb-false _ _ long;
        marked = eqb-true _ _ marked;
        formatted = sym (number_kept known (format_in bytes) listed);
        few = f3.few;
        few_guard = f3.few_guard;
        second = f3.exact;
        larger = f3.larger;
        before = f3.within;
        clean = f23.0;
        clean_guard = f23.1;
        verdict = ltb-false _ _ f4.0;
        counted = omega arith;
      },
    )
