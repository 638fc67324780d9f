-- What recording answers and leaves, one law for each way through the code:
--   size_is, size_told              how long the record is
--   evaluation-first, room-last,
--   room_enough                     5 to 21 go before 22
--   refused_written, refused-table  a refusal
--   passed_written                  a record
--   written_owed                    all that is promised of either, with demand 3
--   few_samples                     the traces that it is written with have few samples
--   stated                          what is recorded is what a record can hold
--   filled_written                  so it is written whole
use mathlib.Core.Path.{◌≡◌, ap, ◌∙◌, refl}
use mathlib.Core.List.{List, ◌∷◌}
use Prim.Native.Nat.{ℕ, ◌+◌, ◌<◌, ◌≤◌}
use native.Mathlib.Omega.{arith}
use lib.ListN.{length}
use borrow.Author.Tests.{lt-ltb, le-ltb}
use Rattle.refusal.specs.declared.Refusal.{Refusal}
use Rattle.refusal.specs.declared.Refusal.TheVariants.{OutputShort}
use Rattle.std.specs.Prelude.{Result, Ok, Err}
use Rattle.refusal.specs.{Check, passed, answer_if}
use Rattle.trace.specs.{most_samples, bytes_for}
use Rattle.semantics.specs.declared.Sort.{Sort}
use Rattle.semantics.specs.declared.Sort.TheVariants.{One, Two}
use Rattle.semantics.specs.declared.Verdict.{Verdict}
use Rattle.semantics.specs.Handed.{Handed, handed}
use Rattle.semantics.specs.Verdicts.{verdict_values}
use Rattle.rule.specs.Form.{AreBytes}
use Rattle.prepare.specs.Checks.{evaluate_check}
use Rattle.evaluate.specs.Evaluate.{table_evaluated}
use Rattle.encoding.specs.{begins}
use Rattle.evaluate.proofs.Evaluating.{evaluation_decides}
use Rattle.layout.specs.Form.{result_bytes, trailer_bytes, layout, Stated}
use Rattle.layout.specs.Filling.{recorded, filled}
use Rattle.layout.proofs.Filling.{size-recorded, part-one, part-two, filled-begins}
use Rattle.record.specs.declared.Written.{Written}
use Rattle.record.specs.Recording.{worked_out, record_of, write_check, writing, output_written, table_written, written, written_answer, written_by, RecordDemand3}
use Rattle.record.specs.Steps.{beside_bytes}
use Rattle.record.proofs.Answers.{evaluation_passed}
use Rattle.record.proofs.Recorded.{lengths_fit, recorded-stated, trace_packing}

-- ---- How long a record is

pub size_is : (program : List ℕ) (h : Handed) → length program + bytes_for h.n + beside_bytes h.sort h.m + result_bytes ≡ length (record_of program h)
unfolding record_of trailer_bytes
size_is program h = go h.sort (worked_out program h)
  where
    go : (s : Sort) (v : Verdict) → length program + bytes_for h.n + beside_bytes s h.m + result_bytes
        ≡ length (layout (recorded program (handed s h.ram h.n h.guard h.m) v))
    go One v =
        omega (arith, size-recorded program h.ram h.n h.guard h.m v One refl refl, part-one program h.ram h.n h.guard h.m v)
    go Two v =
        omega (arith, size-recorded program h.ram h.n h.guard h.m v Two refl refl, part-two program h.ram h.n h.guard h.m v)

-- by what was asked of the parts
pub size_told : (program : List ℕ) (h : Handed) {k j : ℕ} → k ≡ bytes_for h.n → j ≡ beside_bytes h.sort h.m
    → length program + k + j + result_bytes ≡ length (record_of program h)
size_told program h e d = rw (e, d) (size_is program h)

module _ (program : List ℕ) (h : Handed) (T out : List ℕ) where
  -- ---- The check

  pub evaluation-first : {f : Refusal} → evaluate_check program h (length T) ≡ Err f
      → write_check program h (length T) (length out) ≡ Err f
  unfolding write_check
  evaluation-first e = rw e

  module _ (e : evaluate_check program h (length T) ≡ passed) {size : ℕ} (s : size ≡ length (record_of program h)) where
    pub room-last : length out < size → write_check program h (length T) (length out) ≡ Err OutputShort
    unfolding write_check
    room-last l = rw (e, ← s, lt-ltb (length out) size l)

    pub room_enough : size ≤ length out → write_check program h (length T) (length out) ≡ passed
    unfolding write_check
    room_enough l = rw (e, ← s, le-ltb (length out) size l)

  -- ---- Answers

  pub refused_written : {f : Refusal} → write_check program h (length T) (length out) ≡ Err f
      → (Err f ≡ writing program h (length T) (length out))
      × ((out ≡ output_written program h (length T) out) × (T ≡ table_written program h T (length out)))
  unfolding writing output_written table_written
  refused_written e = (rw e, (rw e, rw e))

  pub refused-table : {f : Refusal} {T' : List ℕ} → evaluate_check program h (length T) ≡ Err f
      → T' ≡ table_evaluated program h T → T' ≡ T
  unfolding table_evaluated
  refused-table e t = t ∙ rw e

  pub passed_written : {size : ℕ} {v : Verdict} {T' out' : List ℕ} → write_check program h (length T) (length out) ≡ passed
      → size ≡ length (record_of program h)
      → worked_out program h ≡ v → out' ≡ begins (layout (recorded program h v)) out → T' ≡ table_evaluated program h T
      → (written size v ≡ writing program h (length T) (length out))
      × ((out' ≡ output_written program h (length T) out) × (T' ≡ table_written program h T (length out)))
  unfolding writing output_written table_written record_of
  passed_written e s w o t = (rw (e, s, w), (rw (e, w) o, rw e t))

  -- ---- All that is promised of an answer

  writing_numbers : written_answer (writing program h (length T) (length out))
      ≡ answer_if (write_check program h (length T) (length out))
      (length (record_of program h) ∷ verdict_values (worked_out program h))
  unfolding writing
  writing_numbers = go (write_check program h (length T) (length out))
    where
      go : (k : Check) → written_answer (written_by k (length (record_of program h)) (worked_out program h))
          ≡ answer_if k (length (record_of program h) ∷ verdict_values (worked_out program h))
      go (Ok tt) = refl
      go (Err f) = refl

  -- demand 3, by that of evaluating
  writing_decides : {r : Result Written Refusal} {T' : List ℕ} → r ≡ writing program h (length T) (length out)
      → T' ≡ table_written program h T (length out)
      → RecordDemand3 program h (length T) (length out) (λ v. r ≡ written (length (record_of program h)) v) T'
  unfolding write_check writing table_written
  writing_decides told left enough P a fits room =
      let d = evaluation_decides program h T (table_evaluated program h T) refl refl P a fits room in
      let w = evaluation_passed program h (length T) refl d.1 in
      (d.0, rw (w.0, enough, w.1) at told, rw (rw (w.0, enough) at left) d.2)

  abbrev WriteOwed : Result Written Refusal → List ℕ → List ℕ → Type 0
  WriteOwed r out' T' =
      (r ≡ writing program h (length T) (length out))
      × ((written_answer r ≡ answer_if (write_check program h (length T) (length out))
      (length (record_of program h) ∷ verdict_values (worked_out program h)))
      × ((out' ≡ output_written program h (length T) out)
      × ((T' ≡ table_written program h T (length out))
      × RecordDemand3 program h (length T) (length out) (λ v. r ≡ written (length (record_of program h)) v) T')))

  pub written_owed : {r : Result Written Refusal} {out' T' : List ℕ}
      → (r ≡ writing program h (length T) (length out))
      × ((out' ≡ output_written program h (length T) out) × (T' ≡ table_written program h T (length out)))
      → WriteOwed r out' T'
  written_owed w = (w.0, (ap written_answer w.0 ∙ writing_numbers, (w.1.0, (w.1.1, writing_decides w.0 w.1.1))))

  -- ---- The record

  pub few_samples : AreBytes program → write_check program h (length T) (length out) ≡ passed → (h.n ≤ most_samples) × (h.m ≤ most_samples)
  few_samples are e = (lengths_fit program h (length T) (length out) are e).few

  module _ {v : Verdict} (are : AreBytes program)
      (e : write_check program h (length T) (length out) ≡ passed) (w : worked_out program h ≡ v) where
    pub stated : Stated (recorded program h v)
    stated = rw (← w) (recorded-stated program h (length T) (length out) are e)

    pub filled_written : {out' : List ℕ} → length (record_of program h) ≤ length out
        → out' ≡ filled program h v out → out' ≡ begins (layout (recorded program h v)) out
    unfolding record_of
    filled_written l o =
        o ∙ filled-begins program h v out (trace_packing program h (length T) (length out) are e) stated.verdict (rw (← w) l)
