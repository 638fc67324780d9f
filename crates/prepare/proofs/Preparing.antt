-- The check of an evaluation, one law for each way through it:
--   read-own                            what accepted bytes are read as where their sort alone is taken
--   program-refused                     the program is refused
--   lengths_passed, table_passed_lem        lengths, and a number of cells, that are not refused
--   Own, own                            the program passes, and the outline is its own
--   checks_agree                        the checks that are left once the program is checked
--   settled, settled_own, cells_left    what they leave if they pass
--   outline_judged, outline_refused     the outline that is told
--   traces_placed, IsSettled-placed     what is prepared then
--   trace_passed, trace-passes          traces that are not refused
--   packed-passes                       packed samples are such traces
use Prim.Native.Nat.{ℕ, ◌≤◌}
use mathlib.Core.Path.{◌≡◌, refl, sym, ap, subst, ◌∙◌}
use mathlib.Core.Bool.{Bool, false, not, ◌||◌}
use mathlib.Core.List.{List, []}
use lib.Dec.{eqb, ltb}
use lib.ListN.{length}
use borrow.Author.Tests.{ltb-false, eqb-true, not-false, le-ltb, eq-eqb}
use Rattle.refusal.specs.declared.Refusal.{Refusal}
use Rattle.refusal.specs.{Check, passed, ◌then◌}
use Rattle.std.specs.Prelude.{Result, Ok, Err, Some, IfOk}
use Rattle.refusal.proofs.Numbers.{refused, value_same}
use Rattle.refusal.proofs.Checks.{then_passed, either_passed}
use Rattle.trace.specs.{most_samples, bytes_for, pack, padding_set}
use Rattle.trace.proofs.Packing.{length-pack}
use Rattle.trace.proofs.Padding.{packed_clean}
use Rattle.semantics.specs.declared.Sort.{Sort}
use Rattle.semantics.specs.Language.{Program}
use Rattle.semantics.specs.Handed.{Handed, handed, samples_of}
use Rattle.semantics.specs.Numbering.{cells, most_cells}
use Rattle.rule.specs.declared.Outline.{Outline}
use Rattle.syntax.specs.Limits.{most_functions}
use Rattle.rule.specs.Form.{AreBytes, Accepted, padded}
use Rattle.rule.specs.Outline.{starts_from, ends_from, outline_of, outline_from, judged, judged_from}
use Rattle.rule.specs.Reading.{Parsed, got, check_from, program_sort, program_for, program_check}
use Rattle.rule.specs.Reading as reading
use Rattle.rule.proofs.Programs.{read-encoded, accepted-sort, takes-own, takes-only, passed_accepted}
use Rattle.prepare.specs.declared.Prepared.{Prepared}
use Rattle.prepare.specs.declared.NotPrepared.{NotPrepared}
use Rattle.prepare.specs.Checks.{handed_in, length_check, lengths_check, padding_check, trace_check, table_check, check_read, evaluate_check, told_by}
use Rattle.passes.specs.declared.setup.Cells.{Cells}
use Rattle.passes.specs.Mirror.{heads_of, functions_of, total_of}
use Rattle.prepare.specs.Settled.{Settled, IsSettled, lengths_of, places_check, PlacedBy}
use Rattle.passes.proofs.SetupLoops.{functions_of_lem, total_of_lem}
use Rattle.passes.proofs.FunctionsMeaning.{total_means}
use Rattle.passes.proofs.SetupMeaning.{lengths_are}

-- what accepted bytes are read as where their sort alone is taken
pub read-own : (bytes : List ℕ) (s : Sort) (P : Program) → Accepted bytes s P → program_for (Some s) bytes ≡ got P []
read-own bytes s P a = read-encoded bytes s P a (Some s) (takes-own s)

pub program-refused : (bytes : List ℕ) (h : Handed) (lent : ℕ) {f : Refusal} → Err f ≡ program_check (Some h.sort) bytes → Err f ≡ evaluate_check bytes h lent
unfolding evaluate_check program_check
program-refused bytes h lent {f} e = go (program_for (Some h.sort) bytes) e
  where
    go : (p : Parsed Program) → Err f ≡ check_from p → Err f ≡ check_read p h lent
    go (got P rest) k = absurd (refused k)
    go (reading.refused g) k = k

length_passed : (n size : ℕ) → length_check n size ≡ passed → (n ≤ most_samples) × (size ≡ bytes_for n)
length_passed n size e =
    let h = either_passed (ltb most_samples n) (not (eqb size (bytes_for n))) _ e in
    (ltb-false most_samples n h.0, eqb-true size (bytes_for n) (not-false (eqb size (bytes_for n)) h.1))

-- both traces have at most 4,095 samples, and the bytes that these take
pub record LengthsFit (h : Handed) : Type 0 where
  pub few : (h.n ≤ most_samples) × (h.m ≤ most_samples)
  pub packed : (length h.ram ≡ bytes_for h.n) × (length h.guard ≡ bytes_for h.m)

pub lengths_passed : (h : Handed) {c : Check} → c ≡ lengths_check h → c ≡ passed → LengthsFit h
lengths_passed h e q =
    let both = then_passed (length_check h.n (length h.ram)) _ (sym e ∙ q) in
    let ram = length_passed h.n (length h.ram) both.0 in
    let guard = length_passed h.m (length h.guard) both.1 in
    record { few = (ram.0, guard.0); packed = (ram.1, guard.1) }

pub table_passed_lem : (needed lent : ℕ) {c : Check} → c ≡ table_check needed lent → c ≡ passed → (needed ≤ lent) × (needed ≤ most_cells)
table_passed_lem needed lent e q =
    let h = either_passed (ltb lent needed) (ltb most_cells needed) _ (sym e ∙ q) in
    (ltb-false lent needed h.0, ltb-false most_cells needed h.1)

-- bytes whose check passes are accepted, of the sort that is taken, and the outline that is answered is that of their program
pub record Own (bytes : List ℕ) (s : Sort) (outline : Outline) : Type 0 where
  pub program : Program
  pub accepted : Accepted bytes s program
  pub laid : outline ≡ outline_of s program

pub own : (bytes : List ℕ) (s : Sort) {outline : Outline} → AreBytes bytes → passed ≡ program_check (Some s) bytes → Ok outline ≡ judged (Some s) bytes → Own bytes s outline
unfolding judged
own bytes s are e o =
    let a = passed_accepted (Some s) bytes are (sym e) in
    let accepted : Accepted bytes s a.0 = rw (takes-only s (program_sort bytes) a.2) at a.1 in
    record { program = a.0; accepted = accepted; laid = value_same (o ∙ rw (read-own bytes s a.0 accepted, accepted-sort bytes s a.0 accepted)) }

module _ {bytes : List ℕ} (h : Handed) {P : Program} (a : Accepted bytes h.sort P) {outline : Outline} (l : outline ≡ outline_of h.sort P) where
  functions-few : outline.functions ≤ most_functions
  unfolding outline_of
  functions-few = rw l a.few

  total_is : LengthsFit h → total_of (heads_of outline) (lengths_of h) outline.functions ≡ cells (samples_of h) P
  unfolding outline_of
  total_is fit =
      total_of_lem (heads_of outline) (lengths_of h) outline.functions fit.few functions-few
      ∙ rw l (total_means a (samples_of h) (lengths_of h) (lengths_are h.ram h.guard (lengths_of h)))

  agree : (lent : ℕ) → places_check outline h lent ≡ evaluate_check bytes h lent
  unfolding evaluate_check
  agree lent = rw (read-own bytes h.sort P a) (go (lengths_check h) refl)
    where
      go : (c : Check) → lengths_check h ≡ c
          → ((c then padding_check (padding_set h.ram h.n || padding_set h.guard h.m)) then table_check (total_of (heads_of outline) (lengths_of h) outline.functions) lent)
          ≡ ((c then padding_check (padding_set h.ram h.n || padding_set h.guard h.m)) then table_check (cells (samples_of h) P) lent)
      go (Ok u) q = rw (total_is (lengths_passed h refl q))
      go (Err f) q = refl

-- what the checks leave if they pass, of places that are those of the functions
module _ {bytes : List ℕ} (h : Handed) {P : Program} (a : Accepted bytes h.sort P) {outline : Outline}
    (l : outline ≡ outline_from (program_sort bytes) (program_for (Some h.sort) bytes)) (fit : LengthsFit h) {places : Cells}
    (f : places.functions ≡ functions_of (heads_of outline) (lengths_of h) outline.functions)
    (s : places.total ≡ total_of (heads_of outline) (lengths_of h) outline.functions) where
  outline_is : outline ≡ outline_of h.sort P
  outline_is = l ∙ rw (read-own bytes h.sort P a, accepted-sort bytes h.sort P a)

  pub settled : (lent : ℕ) (set : Bool) {d : Check} → d ≡ (padding_check set then table_check places.total lent) → d ≡ passed
      → Settled bytes h outline places lent
  unfolding outline_of
  settled lent set dc dp =
      let r = table_passed_lem places.total lent refl (then_passed (padding_check set) _ (sym dc ∙ dp)).1 in
      let all = s ∙ total_is h a outline_is fit in
      record {
        program = P;
        accepted = a;
        few = fit.few;
        packed = fit.packed;
        laid = outline_is;
        first = f ∙ functions_of_lem (heads_of outline) (lengths_of h) outline.functions fit.few (functions-few h a outline_is) ∙ rw outline_is;
        total = all;
        fits = rw all at r.1;
        room = rw all at r.0;
      }

-- the outline that is told is that of what the bytes are read as
pub outline_judged : (bytes : List ℕ) (s : Sort) {outline : Outline} → Ok outline ≡ judged (Some s) bytes
    → outline ≡ outline_from (program_sort bytes) (program_for (Some s) bytes)
unfolding judged
outline_judged bytes s {outline} e = go (program_for (Some s) bytes) e
  where
    go : (q : Parsed Program) → Ok outline ≡ judged_from (program_sort bytes) q → outline ≡ outline_from (program_sort bytes) q
    go (got P rest) k = value_same k
    go (reading.refused f) k = absurd (refused (sym k))

-- the outline of no functions is the same for both sorts
no_outline : (s : Sort) → outline_of Sort.One [] ≡ outline_of s []
unfolding outline_of padded starts_from ends_from
no_outline s = refl

pub outline_refused : (bytes : List ℕ) (s : Sort) {f : Refusal} → Err f ≡ judged (Some s) bytes
    → outline_of Sort.One [] ≡ outline_from (program_sort bytes) (program_for (Some s) bytes)
unfolding judged
outline_refused bytes s {f} e = go (program_for (Some s) bytes) e
  where
    go : (q : Parsed Program) → Err f ≡ judged_from (program_sort bytes) q → outline_of Sort.One [] ≡ outline_from (program_sort bytes) q
    go (got P rest) k = absurd (refused k)
    go (reading.refused g) k = no_outline (program_sort bytes)

module _ {bytes : List ℕ} (h : Handed) {outline : Outline} (o : Own bytes h.sort outline) (lent : ℕ) where
  pub checks_agree : places_check outline h lent ≡ evaluate_check bytes h lent
  checks_agree = agree h o.accepted o.laid lent

  -- what was prepared of an accepted program is settled
  pub settled_own : (r : Result Prepared NotPrepared) → told_by r ≡ places_check outline h lent → IfOk r (λ p. PlacedBy bytes outline h p)
      → IfOk r (λ p. Settled bytes h p.outline p.cells lent)
  settled_own (Ok p) e u =
      let both = then_passed (trace_check h) _ (sym e) in
      let parts = then_passed (lengths_check h) _ both.0 in
      let set = padding_set h.ram h.n || padding_set h.guard h.m in
      let read : outline ≡ outline_from (program_sort bytes) (program_for (Some h.sort) bytes) =
      rw (read-own bytes h.sort o.program o.accepted, accepted-sort bytes h.sort o.program o.accepted) o.laid in
      let table : table_check p.cells.total lent ≡ passed = rw u.total both.1 in
      rw u.outline (settled h o.accepted read (lengths_passed h refl parts.0) (u.functions) (u.total) lent set {d = passed}
      (sym (rw parts.1 table)) refl)
  settled_own (Err kept) e u = tt

-- the cells, by the outline that is told
module _ (bytes : List ℕ) (h : Handed) (outline : Outline) where
  pub cells_left : (r : Result Prepared Refusal) → IfOk r (λ p. PlacedBy bytes outline h p) → IfOk r (λ p. PlacedBy bytes p.outline h p)
  cells_left (Ok p) u = record { program = u.program; sort = u.sort; ram = u.ram; guard = u.guard; outline = refl; lengths = u.lengths; functions = rw u.outline u.functions; total = rw u.outline u.total }
  cells_left (Err f) u = tt

-- what is prepared has the bytes and traces that it was prepared from, and is as settled as they are
module _ {bytes : List ℕ} {h : Handed} {p : Prepared} (u : PlacedBy bytes p.outline h p) where
  pub traces_placed : handed_in p.handed ≡ h
  traces_placed = rw (u.sort, u.ram.0, u.ram.1, u.guard.0, u.guard.1)

  pub IsSettled-placed : {lent : ℕ} → Settled bytes h p.outline p.cells lent → IsSettled p lent
  IsSettled-placed {lent} s =
      record {
        lengths = u.lengths ∙ ap lengths_of (sym traces_placed);
        settled = rw u.program (subst (λ (x : Handed). Settled bytes x p.outline p.cells lent) (sym traces_placed) s);
      }

-- ---- Traces

-- none has a bit above its last sample set
abbrev Clean : Handed → Type 0
Clean h = (padding_set h.ram h.n ≡ false) × (padding_set h.guard h.m ≡ false)

pub trace_passed : (h : Handed) → trace_check h ≡ passed → LengthsFit h × Clean h
trace_passed h e =
    let both = then_passed (lengths_check h) _ e in
    let clean = either_passed (padding_set h.ram h.n) (padding_set h.guard h.m) _ both.1 in
    (lengths_passed h refl both.0, clean)

pub trace-passes : (h : Handed) → LengthsFit h → Clean h → trace_check h ≡ passed
trace-passes h fit clean =
    rw (
      le-ltb most_samples h.n fit.few.0,
      eq-eqb (length h.ram) (bytes_for h.n) fit.packed.0,
      le-ltb most_samples h.m fit.few.1,
      eq-eqb (length h.guard) (bytes_for h.m) fit.packed.1,
      clean.0,
      clean.1,
    )

pub packed-passes : (s : Sort) (ram guard : List Bool) → length ram ≤ most_samples → length guard ≤ most_samples
    → trace_check (handed s (pack ram) (length ram) (pack guard) (length guard)) ≡ passed
packed-passes s ram guard few few' =
    trace-passes (handed s (pack ram) (length ram) (pack guard) (length guard))
    (record { few = (few, few'); packed = (length-pack ram, length-pack guard) })
    (packed_clean ram, packed_clean guard)
