-- Reading beside that of older releases:
--   refused_unknown        a release refuses a record of a format that it does not know by 2, whatever stands before it
--   refused_by_old         so formats 2 and 3 are refused by the release of format 1, and format 3 by that of formats 1 and 2
--   same_reading           two releases that know the format of some bytes, as the same, read them alike
--   same_newer             so a release that knows one format more answers bytes of another as before, refused ones too
--   same_format_1          bytes with the format byte 1 are answered as by the release of format 1
--   same_formats_2         bytes with another format byte than 3 as by that of formats 1 and 2
--   read_for_good          and what either accepted is read as before
use mathlib.Core.Path.{◌≡◌, refl, sym, ◌∙◌}
use mathlib.Core.Logic.{◌≢◌}
use mathlib.Core.Bool.{true, false, or-false, false≢true}
use mathlib.Core.List.{List, ◌∷◌, ◌++◌}
use mathlib.Core.Option.{Option, none, some}
use Prim.Native.Nat.{ℕ}
use native.Mathlib.Omega.{arith}
use lib.Dec.{eqb}
use borrow.Author.Tests.{ne_eqb, eqb-true}
use Rattle.semantics.specs.Language.{Trace}
use Rattle.layout.specs.declared.Format.{Format}
use Rattle.layout.specs.Form.{format1, format2, format3, formats_of1, formats_of2, knows, numbered, format_for, Contents, format_of, layout}
use Rattle.layout.specs.Trailer.{format_in, trailer_check_with}
use Rattle.layout.proofs.FormatLaws.{least_trailer_lem}
use Rattle.layout.proofs.Fields.{unknown_refused}
use Rattle.layout.proofs.Inverse.{layout_fields}
use Rattle.record.specs.Reading.{read_check_with, reading_with, reading}
use Rattle.record.specs.Releases.{RefusedWith, RefusedByOld, ReadForGood}
use Rattle.record.proofs.Answers.{record_read}

-- ---- A format that a release does not know

pub refused_unknown : (known : List Format) (before : List ℕ) (c : Contents) → RefusedWith known before c
unfolding reading_with read_check_with
refused_unknown known before c s u =
    let f = layout_fields before c s in
    rw (unknown_refused known (before ++ layout c) (omega (arith, f.room, least_trailer_lem (format_of c))) f.marked (rw f.formatted u))

-- the numbers that the releases do not know
unknown_to_1 : (guard : Option Trace) (label : Option (List ℕ)) → format_for guard label ≢ format1 → knows formats_of1 (format_for guard label).number ≡ false
unfolding knows
unknown_to_1 (some guard) label other = refl
unknown_to_1 none (some label) other = absurd (other refl)
unknown_to_1 none none other = refl

unknown_to_2 : {F : Format} → F ≡ format3 → knows formats_of2 F.number ≡ false
unfolding knows
unknown_to_2 three = rw three refl

pub refused_by_old : (before : List ℕ) (c : Contents) → RefusedByOld before c
refused_by_old before c =
    record {
      of1 = λ s other. refused_unknown formats_of1 before c s (unknown_to_1 c.guard c.label other);
      of2 = λ s three. refused_unknown formats_of2 before c s (unknown_to_2 three);
    }

-- ---- A format that both know

pub same_reading : (known known' : List Format) (bytes : List ℕ) → knows known (format_in bytes) ≡ knows known' (format_in bytes)
    → numbered known (format_in bytes) ≡ numbered known' (format_in bytes) → reading_with known bytes ≡ reading_with known' bytes
unfolding reading_with read_check_with trailer_check_with
same_reading known known' bytes listed same = rw (listed, same)

-- one format more
pub same_newer : (F : Format) (known : List Format) (bytes : List ℕ) → format_in bytes ≢ F.number
    → reading_with (F ∷ known) bytes ≡ reading_with known bytes
unfolding knows numbered
same_newer F known bytes other =
    let differs : eqb (format_in bytes) F.number ≡ false = ne_eqb (format_in bytes) F.number other in
    same_reading (F ∷ known) known bytes (rw differs) (rw differs)

pub same_formats_2 : (bytes : List ℕ) → format_in bytes ≢ format3.number → reading bytes ≡ reading_with formats_of2 bytes
same_formats_2 bytes = same_newer format3 formats_of2 bytes

pub same_format_1 : (bytes : List ℕ) → format_in bytes ≡ format1.number → reading bytes ≡ reading_with formats_of1 bytes
same_format_1 bytes one = same_formats_2 bytes (λ e. omega arith) ∙ same_newer format2 formats_of1 bytes (λ e. omega arith)

-- the number that the release of format 1 knows, and one that that of formats 1 and 2 does not
known_to_1 : (k : ℕ) → knows formats_of1 k ≡ true → k ≡ format1.number
unfolding knows
known_to_1 k h = eqb-true k 1 (sym (or-false (eqb k 1)) ∙ h)

known_to_2 : (k : ℕ) → knows formats_of2 k ≡ true → k ≢ format3.number
unfolding knows
known_to_2 k h e = false≢true (rw e at h)

pub read_for_good : (bytes : List ℕ) → ReadForGood bytes
read_for_good bytes =
    record {
      of1 = λ p e. same_format_1 bytes (known_to_1 (format_in bytes) (record_read formats_of1 bytes p e).listed) ∙ e;
      of2 = λ p e. same_formats_2 bytes (known_to_2 (format_in bytes) (record_read formats_of2 bytes p e).listed) ∙ e;
    }
