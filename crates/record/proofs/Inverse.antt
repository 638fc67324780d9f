-- Reading the layout of contents:
--   layout_passed          bytes that end in it pass the checks
--   read_back              so they are read as the contents, and the bytes before are left
use mathlib.Core.Path.{◌≡◌, ap, ◌∙◌}
use mathlib.Core.List.{List, ◌++◌}
use Prim.Native.Nat.{ℕ}
use Rattle.std.specs.Prelude.{Some}
use Rattle.refusal.specs.{passed}
use Rattle.rule.specs.Reading.{program_check}
use Rattle.rule.proofs.Programs.{accepted_passed, takes-own}
use Rattle.layout.specs.declared.Format.{Format}
use Rattle.layout.specs.Form.{formats, format_sort, Contents, format_of, layout, Stated}
use Rattle.layout.specs.Trailer.{format_held, parts_for, parts_in}
use Rattle.layout.proofs.FormatLaws.{held_reads}
use Rattle.layout.proofs.Fields.{fields_passed}
use Rattle.layout.proofs.Inverse.{format-held, contents_in_lem, layout_fields, layout-left}
use Rattle.record.specs.Reading.{read_check_with, read_check, reading_with}
use Rattle.record.specs.Inverse.{ReadsBack}

module _ (before : List ℕ) (c : Contents) (s : Stated c) where
  abbrev Bytes : List ℕ
  Bytes = before ++ layout c

  pub layout_passed : read_check Bytes ≡ passed
  unfolding read_check_with
  layout_passed =
      let sort = format_sort (format_of c) in
      rw (fields_passed formats (format_of c) Bytes (held_reads c.guard c.label) (layout_fields before c s))
      (ap (λ (x : Contents). program_check (Some (format_sort (format_held formats Bytes))) x.program) (contents_in_lem before c s)
      ∙ rw (format-held before c s) (accepted_passed c.program sort s.program.0 s.program.1 (Some sort) (takes-own sort)))

  format-told : (parts_in Bytes).format ≡ (format_of c).number
  unfolding parts_for
  format-told = ap (λ (F : Format). F.number) (format-held before c s)

  pub read_back : ReadsBack before c
  unfolding reading_with
  read_back =
      record {
        parts = parts_in Bytes;
        accepted = rw layout_passed;
        contents = contents_in_lem before c s;
        format = format-told;
        left = layout-left before c s;
      }
