-- Releases and formats, of document 02: reading beside that of older releases, of which one knows format 1 alone, one formats 1 and 2.
use Rattle.std.specs.Prelude.{ℕ, ◌≡◌, ◌≢◌, false, List, ◌++◌, Ok, Err}
use Rattle.refusal.specs.declared.Refusal.TheVariants.{MarkOrFormat}
use Rattle.layout.specs.declared.Parts.{Parts}
use Rattle.layout.specs.declared.Format.{Format}
use Rattle.layout.specs.Form.{format1, format3, formats_of1, formats_of2, knows, Contents, format_of, layout, Stated}
use Rattle.record.specs.Reading.{reading_with, reading}

-- a release that knows these formats 'refuses' a record of another 'by number 2 and yields no part of it', whatever stands before the
-- record
abbrev pub RefusedWith : List Format → List ℕ → Contents → Type 0
RefusedWith known before c =
    Stated c → knows known (format_of c).number ≡ false → reading_with known (before ++ layout c) ≡ Err MarkOrFormat

-- the older releases: 1 refuses formats 2 and 3, 2 refuses format 3
pub record RefusedByOld (before : List ℕ) (c : Contents) : Type 0 where
  pub of1 : Stated c → format_of c ≢ format1 → reading_with formats_of1 (before ++ layout c) ≡ Err MarkOrFormat
  pub of2 : Stated c → format_of c ≡ format3 → reading_with formats_of2 (before ++ layout c) ≡ Err MarkOrFormat

-- 'format 1 is read for good', and so is format 2: what an older release accepted is read, with the same parts
pub record ReadForGood (bytes : List ℕ) : Type 0 where
  pub of1 : (p : Parts) → reading_with formats_of1 bytes ≡ Ok p → reading bytes ≡ Ok p
  pub of2 : (p : Parts) → reading_with formats_of2 bytes ≡ Ok p → reading bytes ≡ Ok p
