-- What recording writes is read and checked as it was worked out:
--   lengths_fit            its traces have the samples and bytes that traces can have
--   recorded-stated        what is recorded is what a record can hold
--   trace_packing          its traces' very bytes are written
--   written_reads_back     so it is read back, in format 2, or with two traces in format 3
--   written_agrees         and checking it answers agrees
use mathlib.Core.Path.{◌≡◌, refl, ap, ◌∙◌}
use mathlib.Core.Bool.{true, false}
use mathlib.Core.List.{List, ◌++◌}
use mathlib.Core.Option.{Option, none, some}
use Prim.Native.Nat.{ℕ, suc, ◌^◌, ◌<◌, ◌≤◌}
use native.Mathlib.Omega.{arith}
use lib.ListN.{length}
use borrow.Author.Tests.{eq-eqb}
use Rattle.std.specs.Prelude.{Ok, Some, None}
use Rattle.refusal.specs.{passed, ◌then◌}
use Rattle.refusal.proofs.Checks.{then_passed}
use Rattle.trace.specs.{most_samples, samples, padding_set}
use Rattle.trace.proofs.Packing.{length-samples}
use Rattle.semantics.specs.declared.Sort.{Sort}
use Rattle.semantics.specs.declared.Sort.TheVariants.{One, Two}
use Rattle.semantics.specs.declared.Outcome.{Outcome}
use Rattle.semantics.specs.declared.Verdict.{Verdict}
use Rattle.semantics.specs.declared.Kind.TheVariants.{Truth as truth}
use Rattle.semantics.specs.Language.{Program, Traces, no_traces}
use Rattle.semantics.specs.Handed.{Handed, samples_of}
use Rattle.semantics.specs.Numbering.{cells}
use Rattle.semantics.specs.Cells.{outcome_in}
use Rattle.semantics.specs.Verdicts.{decision_of, main_decision, verdict_number, verdict_of}
use Rattle.semantics.proofs.Cells.{code_held, code_truth}
use Rattle.semantics.proofs.Passes.{first-still, count_in_time}
use Rattle.rule.specs.Form.{AreBytes, Accepted}
use Rattle.rule.specs.Reading.{Parsed, got, check_from, program_sort, program_for, program_check, program_in, program_of}
use Rattle.rule.specs.Reading as reading
use Rattle.rule.proofs.Programs.{passed_accepted, read-encoded, takes-only}
use Rattle.prepare.specs.Checks.{trace_check, table_check, check_read, evaluate_check}
use Rattle.prepare.proofs.Preparing.{LengthsFit, read-own, trace_passed, table_passed_lem}
use Rattle.layout.specs.declared.Format.{Format}
use Rattle.layout.specs.Form.{format_sort, Contents, format_for, format_of, guard_samples, traces_held, most_verdict, layout, LabelFits, Stated}
use Rattle.layout.specs.Trailer.{contents_in}
use Rattle.layout.specs.Filling.{guard_recorded, recorded, are_packings}
use Rattle.layout.proofs.Filling.{is_packing_lem}
use Rattle.layout.proofs.Inverse.{contents_in_lem}
use Rattle.record.specs.declared.Checked.TheVariants as checked
use Rattle.record.specs.Reading.{read_check}
use Rattle.record.specs.Recording.{format_written, OneOrTwo, one, two, worked_out, record_of, write_check}
use Rattle.record.specs.Checking.{record_check, checked_by, checking, program_held}
use Rattle.record.specs.Inverse.{ReadsBack}
use Rattle.record.proofs.Inverse.{layout_passed, read_back}

-- ---- The verdict

-- it is read off a cell of a Bool
verdict-small : (cell : ℕ) → verdict_number (main_decision cell) ≤ most_verdict
unfolding main_decision
verdict-small cell = go (outcome_in no_traces truth cell) refl
  where
    go : (said : Option Outcome) → outcome_in no_traces truth cell ≡ said → verdict_number (decision_of said) ≤ most_verdict
    go none e = omega arith
    go (some o) e = (code_truth no_traces o (code_held no_traces truth cell o e).1).1

-- ---- What is recorded, by the sort

module _ (h : Handed) where
  written_format : (s : Sort) → format_for (guard_recorded h s) none ≡ format_written s
  written_format One = refl
  written_format Two = refl

  written_sort : (s : Sort) → format_sort (format_for (guard_recorded h s) none) ≡ s
  written_sort One = refl
  written_sort Two = refl

  guard-few : (s : Sort) → h.m ≤ most_samples → length (guard_samples (guard_recorded h s)) ≤ most_samples
  guard-few One few = omega arith
  guard-few Two few = rw (length-samples h.guard h.m) few

  no_label : (s : Sort) → LabelFits (guard_recorded h s) none
  no_label One = tt
  no_label Two = tt

-- ---- The check

-- what a check of an evaluation that passed has seen
record Seen (program : List ℕ) (h : Handed) (lent : ℕ) : Type 0 where
  P : Program
  accepted : Accepted program h.sort P
  fit : LengthsFit h
  clean : (padding_set h.ram h.n ≡ false) × (padding_set h.guard h.m ≡ false)
  table : table_check (cells (samples_of h) P) lent ≡ passed
  fits : suc (cells (samples_of h) P) < 256 ^ 4

seen_program : (p : Parsed Program) (h : Handed) (lent : ℕ) → check_read p h lent ≡ passed → check_from p ≡ passed
seen_program (got P rest) h lent e = refl
seen_program (reading.refused f) h lent e = e

seen : (program : List ℕ) (h : Handed) (lent : ℕ) → AreBytes program → evaluate_check program h lent ≡ passed → Seen program h lent
unfolding evaluate_check program_check
seen program h lent are e =
    let w = passed_accepted (Some h.sort) program are (seen_program (program_for (Some h.sort) program) h lent e) in
    let P = w.0 in
    let a : Accepted program h.sort P = rw (takes-only h.sort (program_sort program) w.2) at w.1 in
    let both : (trace_check h then table_check (cells (samples_of h) P) lent) ≡ passed = rw (read-own program h.sort P a) at e in
    let c = then_passed _ _ both in
    let t = trace_passed h c.0 in
    record {
      P = P;
      accepted = a;
      fit = t.0;
      clean = t.1;
      table = c.1;
      fits = omega (arith, (table_passed_lem (cells (samples_of h) P) lent refl c.1).1);
    }

module _ (program : List ℕ) (h : Handed) (lent room : ℕ) (are : AreBytes program) (e : write_check program h lent room ≡ passed) where
  evaluated : Seen program h lent
  unfolding write_check
  evaluated = seen program h lent are (then_passed _ _ e).0

  pub lengths_fit : LengthsFit h
  lengths_fit = evaluated.fit

  abbrev v : Verdict
  v = worked_out program h

  program_is : program_of program ≡ evaluated.P
  program_is = ap program_in (read-encoded program h.sort evaluated.P evaluated.accepted None refl)

  -- the pass count fits its field
  counted : (1 ≤ v.passes) × (v.passes < 256 ^ 4)
  unfolding verdict_of
  counted =
      let P = evaluated.P in
      let t = samples_of h in
      rw program_is (omega (arith, (first-still P t evaluated.accepted.kinds).counted), omega (arith, count_in_time P t, evaluated.fits))

  pub recorded-stated : Stated (recorded program h v)
  unfolding recorded verdict_of
  recorded-stated =
      record {
        program = (evaluated.P, rw (written_sort h h.sort) evaluated.accepted);
        few = rw (length-samples h.ram h.n) evaluated.fit.few.0;
        few_guard = guard-few h h.sort evaluated.fit.few.1;
        label = no_label h h.sort;
        verdict = verdict-small _;
        counted = counted.0;
        fits = counted.1;
      }

  -- the traces' bytes are those of their samples
  pub trace_packing : are_packings h ≡ true
  trace_packing =
      rw (
        is_packing_lem h.ram h.n evaluated.fit.packed.0 evaluated.clean.0,
        is_packing_lem h.guard h.m evaluated.fit.packed.1 evaluated.clean.1,
      )

  -- the table's check, of what is recorded
  table_fits : table_check (cells (samples_of h) (program_of program)) lent ≡ passed
  table_fits = rw program_is evaluated.table

-- ---- Reading and checking

recorded-format : (program : List ℕ) (h : Handed) (v : Verdict) → format_of (recorded program h v) ≡ format_written h.sort
unfolding recorded
recorded-format program h v = written_format h h.sort

pub written_reads_back : (before program : List ℕ) (h : Handed) (lent room : ℕ) → AreBytes program → write_check program h lent room ≡ passed
    → (r : ReadsBack before (recorded program h (worked_out program h))) × (r.parts.format ≡ (format_written h.sort).number)
written_reads_back before program h lent room are e =
    let v = worked_out program h in
    let r = read_back before (recorded program h v) (recorded-stated program h lent room are e) in
    (r, r.format ∙ ap (λ (F : Format). F.number) (recorded-format program h v))

-- bytes that hold c, and whose verdict and pass count are the ones worked out
agreed : (bytes : List ℕ) (lent : ℕ) (c : Contents) (t : Traces) (v : Verdict) → read_check bytes ≡ passed → contents_in bytes ≡ c
    → traces_held c ≡ t → table_check (cells t (program_held c)) lent ≡ passed → verdict_of (program_held c) t ≡ v
    → c.verdict ≡ verdict_number v.decision → c.passes ≡ v.passes → checking bytes lent ≡ Ok (checked.Agrees v)
unfolding checking record_check
agreed bytes lent c t v r e same f w d p =
    ap (λ (x : Contents). checked_by (read_check bytes then table_check (cells (traces_held x) (program_held x)) lent) x
    (verdict_of (program_held x) (traces_held x))) e
    ∙ rw (same, r, f, w, eq-eqb c.verdict (verdict_number v.decision) d, eq-eqb c.passes v.passes p)

-- they are the traces that are recorded
traces-recorded : (program : List ℕ) {h : Handed} (v : Verdict) → OneOrTwo h → traces_held (recorded program h v) ≡ samples_of h
unfolding recorded samples
traces-recorded program v (one trace n) = refl
traces-recorded program v (two ram n guard m) = refl

pub written_agrees : (before program : List ℕ) (h : Handed) (lent room : ℕ) → AreBytes program → OneOrTwo h → write_check program h lent room ≡ passed
    → checking (before ++ record_of program h) lent ≡ Ok (checked.Agrees (worked_out program h))
unfolding record_of recorded
written_agrees before program h lent room are l e =
    let v = worked_out program h in
    let c = recorded program h v in
    let s = recorded-stated program h lent room are e in
    agreed (before ++ layout c) lent c (samples_of h) v (layout_passed before c s) (contents_in_lem before c s) (traces-recorded program v l)
    (table_fits program h lent room are e) refl refl refl
