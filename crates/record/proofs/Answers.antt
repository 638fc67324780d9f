-- What reading and checking answer, one law for each way through the code:
--   evaluation-refused, evaluation_passed     the check behind an answer of evaluating
--   sort-held                                the sort of a record's program
--   located-refused, judged_read             reading
--   read_numbers                             its answer in numbers
--   record_read                              bytes that are read have passed the checks, and the parts are theirs; in any release
--   parts_within                             the parts lie within the bytes
use mathlib.Core.Path.{◌≡◌, refl, sym, ap, ◌∙◌}
use mathlib.Core.Bool.{Bool, true, false, cond}
use mathlib.Core.List.{List}
use Prim.Native.Nat.{ℕ}
use Rattle.refusal.specs.declared.Refusal.{Refusal}
use Rattle.std.specs.Prelude.{Result, Ok, Err, Some, None}
use Rattle.refusal.specs.{Check, passed, told, answer_if}
use Rattle.refusal.proofs.Checks.{then_passed}
use Rattle.semantics.specs.declared.Verdict.{Verdict}
use Rattle.semantics.specs.declared.Sort.TheVariants.{One, Two}
use Rattle.semantics.specs.Handed.{Handed}
use Rattle.rule.specs.Reading.{program_check}
use Rattle.prepare.specs.Checks.{evaluate_check}
use Rattle.evaluate.specs.Evaluate.{answer_by, evaluation}
use Rattle.layout.specs.declared.Parts.{Parts}
use Rattle.layout.specs.declared.Span.{Span}
use Rattle.layout.specs.declared.Format.{Format}
use Rattle.layout.specs.Form.{formats, knows, format_sort}
use Rattle.layout.specs.Trailer.{part_of, guard_span, guard_samples_in, guard_place, format_in, format_held, trailer_check_with, parts_for, parts_with, parts_in, read_by, located}
use Rattle.layout.proofs.Answers.{read_passed, located-refusal, located_passed, parts_are}
use Rattle.layout.proofs.Fields.{Fields, passed_fields}
use Rattle.layout.proofs.Places.{Within, within}
use Rattle.record.specs.Reading.{read_check_with, read_check, reading_with, reading, read_answer, parts_values}
use Rattle.record.specs.Recording.{worked_out}
use Rattle.record.specs.Steps.{sort_held}

-- ---- Answers of evaluating

abbrev verdict_or : Verdict → Result Verdict Refusal → Verdict
verdict_or w (Ok v) = v
verdict_or w (Err f) = w

told_by : (c : Check) (v : Verdict) → told (answer_by c v) ≡ c
told_by (Ok tt) v = refl
told_by (Err f) v = refl

module _ (program : List ℕ) (h : Handed) (lent : ℕ) {r : Result Verdict Refusal} (e : r ≡ evaluation program h lent) where
  pub evaluation-refused : {f : Refusal} → r ≡ Err f → evaluate_check program h lent ≡ Err f
  unfolding evaluation
  evaluation-refused q = sym (told_by _ (worked_out program h)) ∙ ap told (sym e ∙ q)

  pub evaluation_passed : {w : Verdict} → r ≡ Ok w → (evaluate_check program h lent ≡ passed) × (worked_out program h ≡ w)
  unfolding evaluation
  evaluation_passed {w} q =
      let all : evaluate_check program h lent ≡ passed = sym (told_by _ (worked_out program h)) ∙ ap told (sym e ∙ q) in
      let both : answer_by passed (worked_out program h) ≡ Ok w = rw all at (sym e ∙ q) in
      (all, ap (verdict_or w) both)

-- ---- Reading

-- a record's guard trace says the sort of its program, as its format does
pub sort-held : (F : Format) (bytes : List ℕ) → sort_held (parts_for F bytes).guard ≡ format_sort F
unfolding parts_for guard_place
sort-held F bytes = go F.guarded (guard_span F bytes) (guard_samples_in F bytes)
  where
    go : (b : Bool) (s : Span) (m : ℕ) → sort_held (cond b (Some (record { span = s; samples = m })) None) ≡ cond b Two One
    go true s m = refl
    go false s m = refl

module _ (bytes : List ℕ) {r : Result Parts Refusal} (l : r ≡ located bytes) where
  pub located-refused : {f : Refusal} → r ≡ Err f → Err f ≡ reading bytes
  unfolding reading_with read_check_with
  located-refused e = rw (located-refusal bytes l e)

  -- the program's check is left
  pub judged_read : {p : Parts} → r ≡ Ok p → read_by (program_check (Some (sort_held p.guard)) (part_of bytes p.program)) p ≡ reading bytes
  unfolding reading_with read_check_with
  judged_read e = rw (located_passed bytes l e, ← sort-held (format_held formats bytes) bytes, ← parts_are bytes l e)

-- the answer in numbers
pub read_numbers : (bytes : List ℕ) {r : Result Parts Refusal} → r ≡ reading bytes
    → read_answer r ≡ answer_if (read_check bytes) (parts_values (parts_in bytes))
unfolding reading_with
read_numbers bytes e = ap read_answer e ∙ go (read_check bytes)
  where
    go : (k : Check) → read_answer (read_by k (parts_in bytes)) ≡ answer_if k (parts_values (parts_in bytes))
    go (Ok tt) = refl
    go (Err f) = refl

-- ---- Bytes that are read

-- what bytes that are read as a record have passed, in a release that knows these formats
pub record Read (known : List Format) (bytes : List ℕ) (p : Parts) : Type 0 where
  pub listed : knows known (format_in bytes) ≡ true
  pub fields : Fields (format_held known bytes) bytes
  pub program : program_check (Some (format_sort (format_held known bytes))) (part_of bytes (parts_with known bytes).program) ≡ passed
  pub parts : parts_with known bytes ≡ p

pub record_read : (known : List Format) (bytes : List ℕ) (p : Parts) → reading_with known bytes ≡ Ok p → Read known bytes p
unfolding reading_with read_check_with
record_read known bytes p e =
    let r = read_passed (read_check_with known bytes) (parts_with known bytes) p e in
    let c = then_passed (trailer_check_with known bytes) _ r.0 in
    let f = passed_fields known bytes c.0 in
    record { listed = f.0; fields = f.1; program = c.1; parts = r.1 }

pub parts_within : (bytes : List ℕ) (p : Parts) → reading bytes ≡ Ok p → Within bytes p
parts_within bytes p e = let r = record_read formats bytes p e in rw r.parts at (within (format_held formats bytes) bytes r.fields)
