-- Reading and checking a record in one, by evaluating what it holds:
--   handed_in_lem                  the traces of a record, as evaluating is handed them
--   check_is, table_is         checking refuses and leaves what evaluating does
--   refused_both               a record whose trailer is refused
--   verdict-told, refused-told     what an answer of evaluating comes to
--   checking_decides               demand 3, of what checking answers and leaves
--   checking_numbers               its answer in numbers
--   trailer-refused, verdict_promised,
--   refused_promised               all that is promised
use mathlib.Core.Path.{◌≡◌, refl, sym, ap, ◌∙◌}
use mathlib.Core.Bool.{Bool, true, false, cond}
use mathlib.Core.List.{List, ◌∷◌}
use mathlib.Core.Option.{Option, none, some}
use Prim.Native.Nat.{ℕ, ◌≤◌}
use native.Mathlib.Omega.{arith}
use lib.ListN.{length}
use Rattle.refusal.specs.declared.Refusal.{Refusal}
use Rattle.std.specs.Prelude.{Result, Ok, Err, Some, None}
use Rattle.std.specs.Prelude as std
use Rattle.refusal.specs.{Check, passed, ◌then◌, answer_if}
use Rattle.trace.specs.{most_samples, bytes_for, samples, padding_set, digit}
use Rattle.semantics.specs.declared.Sort.{Sort}
use Rattle.semantics.specs.declared.Verdict.{Verdict}
use Rattle.semantics.specs.Language.{Program}
use Rattle.semantics.specs.Handed.{Handed, handed, samples_of}
use Rattle.semantics.specs.Numbering.{cells}
use Rattle.semantics.specs.Verdicts.{verdict_of, verdict_values}
use Rattle.rule.specs.Reading.{Parsed, got, program_for, program_check, program_of, check_from}
use Rattle.rule.specs.Reading as reading
use Rattle.rule.proofs.Programs.{read_both}
use Rattle.prepare.specs.Checks.{trace_check, table_check, check_read, evaluate_check}
use Rattle.prepare.proofs.Preparing.{trace-passes}
use Rattle.evaluate.specs.Evaluate.{evaluation, table_evaluated}
use Rattle.evaluate.proofs.Evaluating.{evaluation_decides}
use Rattle.layout.specs.declared.Parts.{Parts}
use Rattle.layout.specs.declared.Format.{Format}
use Rattle.layout.specs.declared.GuardTrace.{GuardTrace}
use Rattle.layout.specs.Form.{formats, format_sort, Contents, format_for, guard_samples, traces_held}
use Rattle.layout.specs.Trailer.{part_of, format_held, guard_span, guard_samples_in, guard_place, guard_at, contents_in, trailer_check, parts_for, parts_in, read_by, located}
use Rattle.layout.proofs.Answers.{located-refusal, located_passed, parts_are}
use Rattle.layout.proofs.Fields.{Fields, passed_fields}
use Rattle.layout.proofs.Places.{length_part}
use Rattle.record.specs.declared.Checked.{Checked}
use Rattle.record.specs.declared.Examined.{Examined}
use Rattle.record.specs.Reading.{read_check_with, read_check, reading_with}
use Rattle.record.specs.Reading.{reading as reading_of}
use Rattle.record.specs.Checking.{record_check, agrees, compared, checked_by, checking, table_checked, examining, CheckDemand3, compared_in, checked_answer, program_held, check_numbers}
use Rattle.record.specs.Steps.{sort_held, guard_bytes, guard_held, handed_in}
use Rattle.record.proofs.Answers.{evaluation-refused, evaluation_passed, sort-held}
use Rattle.refusal.proofs.Checks.{then_passed}

-- ---- The checks

-- evaluating judges the program, then the traces, then the cells
judged : (program : List ℕ) (h : Handed) (lent : ℕ) → trace_check h ≡ passed
    → (program_check (Some h.sort) program then table_check (cells (samples_of h) (program_of program)) lent) ≡ evaluate_check program h lent
unfolding evaluate_check program_check
judged program h lent t = go (program_for (Some h.sort) program) refl
  where
    go : (p : Parsed Program) → program_for (Some h.sort) program ≡ p
        → (check_from p then table_check (cells (samples_of h) (program_of program)) lent) ≡ check_read p h lent
    go (got P rest) e = rw (read_both (Some h.sort) program P rest e, t)
    go (reading.refused f) e = refl

pub handed_in_lem : (bytes : List ℕ) (p : Parts) {s : Sort} {ram guard : List ℕ} {m : ℕ} → s ≡ sort_held p.guard → ram ≡ part_of bytes p.trace
    → guard ≡ guard_bytes bytes p.guard → m ≡ guard_held p.guard → handed s ram p.n guard m ≡ handed_in bytes p
handed_in_lem bytes p sort ram guard m = rw (sort, ram, guard, m)

-- the traces that a record holds, as evaluating is handed them
abbrev traces_in : List ℕ → Handed
traces_in bytes = handed_in bytes (parts_in bytes)

-- their sort is that of the format of what is held
sort_means : (bytes : List ℕ) (g : std.Option GuardTrace) (label : Option (List ℕ)) → format_sort (format_for (guard_at bytes g) label) ≡ sort_held g
sort_means bytes None (some label) = refl
sort_means bytes None none = refl
sort_means bytes (Some g) label = refl

-- the guard's are what the record says of them
guard_means : (bytes : List ℕ) (g : std.Option GuardTrace) → samples (guard_bytes bytes g) (guard_held g) ≡ guard_samples (guard_at bytes g)
unfolding samples
guard_means bytes None = refl
guard_means bytes (Some g) = refl

traces_mean : (bytes : List ℕ) → samples_of (traces_in bytes) ≡ traces_held (contents_in bytes)
traces_mean bytes = rw (guard_means bytes (parts_in bytes).guard)

-- a guard trace that is there, or none, is not refused
record GuardFits (bytes : List ℕ) (g : std.Option GuardTrace) : Type 0 where
  few : guard_held g ≤ most_samples
  size : length (guard_bytes bytes g) ≡ bytes_for (guard_held g)
  clean : padding_set (guard_bytes bytes g) (guard_held g) ≡ false

guard-fits : (F : Format) (bytes : List ℕ) → Fields F bytes → GuardFits bytes (parts_for F bytes).guard
unfolding parts_for guard_place bytes_for padding_set
guard-fits F bytes f = go F.guarded
  where
    go : (b : Bool) → GuardFits bytes (cond b (Some (record { span = guard_span F bytes; samples = guard_samples_in F bytes })) None)
    go true = record { few = f.few_guard; size = length_part bytes _ _ (omega (arith, f.room, f.second, f.larger, f.before)); clean = f.clean_guard }
    go false = record { few = omega arith; size = refl; clean = refl }

module _ (bytes : List ℕ) (good : trailer_check bytes ≡ passed) where
  abbrev c : Contents
  c = contents_in bytes

  traces_fit : trace_check (traces_in bytes) ≡ passed
  unfolding parts_for
  traces_fit =
      let F = format_held formats bytes in
      let f = (passed_fields formats bytes good).1 in
      let g = guard-fits F bytes f in
      trace-passes (traces_in bytes)
      (record { few = (f.few, g.few); packed = (length_part bytes _ _ (omega (arith, f.room, f.second, f.larger, f.before)), g.size) })
      (f.clean, g.clean)

  -- what reading judges the program by
  read_by_lem : read_check bytes ≡ program_check (Some (traces_in bytes).sort) c.program
  unfolding read_check_with
  read_by_lem = rw (good, sort-held (format_held formats bytes) bytes)

  pub check_is : (lent : ℕ) → record_check bytes lent ≡ evaluate_check c.program (traces_in bytes) lent
  unfolding record_check
  check_is lent = rw (read_by_lem, ← traces_mean bytes) (judged c.program (traces_in bytes) lent traces_fit)

  pub table_is : (T : List ℕ) {T' : List ℕ} → T' ≡ table_evaluated c.program (traces_in bytes) T → T' ≡ table_checked bytes T
  unfolding table_evaluated table_checked
  table_is T e = e ∙ rw (check_is (length T), traces_mean bytes)

-- ---- Answers

-- a trailer that is refused
pub refused_both : (bytes : List ℕ) (T : List ℕ) {f : Refusal} → trailer_check bytes ≡ Err f
    → (record { reading = Err f; checked = Err f } ≡ examining bytes (length T)) × (T ≡ table_checked bytes T)
unfolding examining reading_with checking table_checked record_check read_check_with
refused_both bytes T e = (rw e, rw e)

-- an answer in its two parts
examined : (bytes : List ℕ) (lent : ℕ) {a : Result Parts Refusal} {b : Result Checked Refusal} → a ≡ reading_of bytes → b ≡ checking bytes lent
    → record { reading = a; checked = b } ≡ examining bytes lent
unfolding examining
examined bytes lent p q = rw (p, q)

-- what reading and checking answer by their checks
read_is : (bytes : List ℕ) {k : Check} → read_check bytes ≡ k → read_by k (parts_in bytes) ≡ reading_of bytes
unfolding reading_with
read_is bytes e = rw e

checked_is : (bytes : List ℕ) (lent : ℕ) {k : Check} → record_check bytes lent ≡ k
    → checked_by k (contents_in bytes) (verdict_of (program_held (contents_in bytes)) (traces_held (contents_in bytes))) ≡ checking bytes lent
unfolding checking
checked_is bytes lent e = rw e

-- a record that checking does not refuse is read
read_first : (bytes : List ℕ) (lent : ℕ) → record_check bytes lent ≡ passed → read_check bytes ≡ passed
unfolding record_check
read_first bytes lent e = (then_passed (read_check bytes) _ e).0

module _ (bytes T : List ℕ) (good : trailer_check bytes ≡ passed) {r : Result Verdict Refusal}
    (e : r ≡ evaluation (contents_in bytes).program (traces_in bytes) (length T)) where
  abbrev contents : Contents
  contents = contents_in bytes

  pub verdict-told : {w : Verdict} → r ≡ Ok w
      → record { reading = Ok (parts_in bytes); checked = Ok (compared (agrees contents.verdict contents.passes w) w) }
      ≡ examining bytes (length T)
  verdict-told {w} q =
      let t = evaluation_passed contents.program (traces_in bytes) (length T) e q in
      let all : record_check bytes (length T) ≡ passed = check_is bytes good (length T) ∙ t.0 in
      examined bytes (length T) (read_is bytes (read_first bytes (length T) all)) (rw (← t.1, traces_mean bytes) (checked_is bytes (length T) all))

  -- the program's check decides whether a record that evaluating refuses is read
  pub refused-told : {f : Refusal} → r ≡ Err f
      → record { reading = read_by (program_check (Some (traces_in bytes).sort) contents.program) (parts_in bytes); checked = Err f }
      ≡ examining bytes (length T)
  refused-told q =
      let all = check_is bytes good (length T) ∙ evaluation-refused contents.program (traces_in bytes) (length T) e q in
      examined bytes (length T) (read_is bytes (read_by_lem bytes good)) (checked_is bytes (length T) all)

-- ---- Demand 3

-- what checking tells of the verdict that evaluating the record's contents decides
pub checking_decides : (bytes T T' : List ℕ) {r : Result Checked Refusal} → r ≡ checking bytes (length T) → T' ≡ table_checked bytes T
    → CheckDemand3 bytes (length T) (λ v. r ≡ compared_in bytes v) T'
checking_decides bytes T T' told left P good a room =
    let c = contents_in bytes in
    let h = traces_in bytes in
    let all = table_evaluated c.program h T in
    let sort = sort_means bytes (parts_in bytes).guard c.label in
    let d = evaluation_decides c.program h T all refl refl P (rw sort at a) (traces_fit bytes good) (rw (traces_mean bytes) room) in
    let w = evaluation_passed c.program h (length T) refl d.1 in
    let checks : record_check bytes (length T) ≡ passed = check_is bytes good (length T) ∙ w.0 in (
      d.0,
      told ∙ rw (← w.1, traces_mean bytes) (sym (checked_is bytes (length T) checks)),
      rw (left ∙ sym (table_is bytes good T refl), ← traces_mean bytes) d.2,
    )

-- ---- Numbers

pub checking_numbers : (bytes : List ℕ) (lent : ℕ) → checked_answer (checking bytes lent) ≡ check_numbers bytes lent
unfolding checking
checking_numbers bytes lent = go (record_check bytes lent) (agrees (contents_in bytes).verdict (contents_in bytes).passes v) refl
  where
    v : Verdict
    v = verdict_of (program_held (contents_in bytes)) (traces_held (contents_in bytes))

    go : (k : Check) (b : Bool) → agrees (contents_in bytes).verdict (contents_in bytes).passes v ≡ b
        → checked_answer (checked_by k (contents_in bytes) v) ≡ answer_if k (digit b ∷ verdict_values v)
    go (Ok tt) true e = rw e
    go (Ok tt) false e = rw e
    go (Err f) b e = refl

-- ---- All that is promised of an answer

-- the answer, the table, and demand 3 of the verdict worked out
abbrev Promised : List ℕ → List ℕ → List ℕ → Examined → Type 0
Promised bytes T T' r =
    (r ≡ examining bytes (length T)) × ((T' ≡ table_checked bytes T) × CheckDemand3 bytes (length T) (λ v. r.checked ≡ compared_in bytes v) T')

promised : (bytes T T' : List ℕ) (r : Examined) → r ≡ examining bytes (length T) → T' ≡ table_checked bytes T → Promised bytes T T' r
unfolding examining
promised bytes T T' r told left = (told, (left, checking_decides bytes T T' (ap (λ (x : Examined). x.checked) told) left))

pub trailer-refused : (bytes T : List ℕ) {l : Result Parts Refusal} {f : Refusal} → l ≡ located bytes → l ≡ Err f
    → Promised bytes T T (record { reading = Err f; checked = Err f })
trailer-refused bytes T q e = let w = refused_both bytes T (located-refusal bytes q e) in promised bytes T T _ w.0 w.1

module _ (bytes T T' : List ℕ) {l : Result Parts Refusal} (q : l ≡ located bytes) {p : Parts} (e : l ≡ Ok p) {program : List ℕ} {h : Handed}
    (pp : program ≡ part_of bytes p.program) (ph : h ≡ handed_in bytes p) {a : Result Verdict Refusal}
    (told : a ≡ evaluation program h (length T)) (left : T' ≡ table_evaluated program h T) where
  are : p ≡ parts_in bytes
  are = sym (parts_are bytes q e)

  good : trailer_check bytes ≡ passed
  good = located_passed bytes q e

  told_in : a ≡ evaluation (contents_in bytes).program (traces_in bytes) (length T)
  told_in = rw (pp, ph, are) at told

  left_in : T' ≡ table_checked bytes T
  left_in = table_is bytes good T (rw (pp, ph, are) at left)

  pub verdict_promised : {w : Verdict} {k : Checked} → a ≡ Ok w → k ≡ compared (agrees p.verdict p.passes w) w
      → Promised bytes T T' (record { reading = Ok p; checked = Ok k })
  verdict_promised {w} {k} v c =
      promised bytes T T' (record { reading = Ok p; checked = Ok k }) (rw (c, are) (verdict-told bytes T good told_in v)) left_in

  pub refused_promised : {f : Refusal} {j : Result Parts Refusal} → a ≡ Err f
      → j ≡ read_by (program_check (Some (sort_held p.guard)) (part_of bytes p.program)) p
      → Promised bytes T T' (record { reading = j; checked = Err f })
  refused_promised {f} {j} v c =
      promised bytes T T' (record { reading = j; checked = Err f }) (rw (c, are) (refused-told bytes T good told_in v)) left_in
