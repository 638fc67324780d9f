-- Bytes that are read as a record end in the layout of what they hold:
--   ends_in                it is stated, of the format told, and the bytes are those before the record and its layout
--   record_least           so it has at least 19 bytes, with a guard trace at least 21
--   accepts_exactly        reading accepts exactly the bytes that end in a record, in each format
--   own-layout             a record's own bytes are the layout of what it holds
--   same_exactly           so two records that are read hold the same exactly when their own bytes are the same
use mathlib.Core.Path.{◌≡◌, refl, sym, ap, ◌∙◌}
use mathlib.Core.List.{List}
use mathlib.Core.Option.{Option, none, some}
use Prim.Native.Nat.{ℕ, ◌+◌, ◌≤◌}
use native.Mathlib.Omega.{arith}
use lib.ListN.{length, take, length-append}
use lib.Seq.{length-take-le}
use Rattle.rule.specs.Form.{AreBytes}
use Rattle.layout.specs.declared.Parts.{Parts}
use Rattle.std.specs.Prelude.{Ok, Some, None}
use Rattle.std.specs.Prelude as std
use Rattle.layout.specs.declared.Format.{Format}
use Rattle.layout.specs.declared.GuardTrace.{GuardTrace}
use Rattle.layout.specs.Trailer.{format_in, format_held, parts_for, parts_in, guard_at, contents_at}
use Rattle.layout.specs.Form.{formats, format_for, format_of, trailer_bytes, layout}
use Rattle.layout.proofs.FormatLaws.{ByParts, numbered_by_parts}
use Rattle.layout.proofs.Fields.{Fields}
use Rattle.layout.proofs.Filling.{length-layout}
use Rattle.layout.proofs.Ends.{contents-stated, format_back, from_program, ends-whole}
use Rattle.rule.proofs.Places.{program_bytes}
use Rattle.layout.proofs.Inverse.{same_layout}
use Rattle.record.specs.Reading.{reading}
use Rattle.record.specs.Inverse.{EndsIn, EndInRecord, AcceptsExactly, own_bytes, SameExactly}
use Rattle.record.proofs.Answers.{record_read, parts_within}
use Rattle.record.proofs.Inverse.{read_back}

-- the number told is that of the format of what the bytes hold
format-told : (bytes : List ℕ) → AreBytes bytes → (F : Format) → ByParts F → Fields F bytes
    → (parts_for F bytes).format ≡ (format_of (contents_at bytes (parts_for F bytes))).number
unfolding parts_for
format-told bytes are F by f = ap (λ (G : Format). G.number) (sym (format_back F bytes are f by))

pub ends_in : (bytes : List ℕ) (p : Parts) → AreBytes bytes → reading bytes ≡ Ok p → EndsIn bytes p
ends_in bytes p are e =
    let r = record_read formats bytes p e in
    let F = format_held formats bytes in
    let by = numbered_by_parts (format_in bytes) r.listed in
    let found : EndsIn bytes (parts_in bytes) =
    record {
      stated = contents-stated F bytes are r.fields by r.program;
      format = format-told bytes are F by r.fields;
      whole = ends-whole F bytes are r.fields by;
    } in
    rw r.parts at found

-- six of program, five of verdict and pass count, and the trailer
abbrev pub least_bytes : std.Option GuardTrace → ℕ
least_bytes None = 19
least_bytes (Some g) = 21

least : (bytes : List ℕ) (g : std.Option GuardTrace) (label : Option (List ℕ)) → least_bytes g ≡ 11 + trailer_bytes (format_for (guard_at bytes g) label)
unfolding trailer_bytes
least bytes None (some label) = refl
least bytes None none = refl
least bytes (Some g) label = refl

pub record_least : (bytes : List ℕ) (p : Parts) → AreBytes bytes → reading bytes ≡ Ok p
    → p.program.start + least_bytes p.guard ≤ length bytes
record_least bytes p are e =
    let w = ends_in bytes p are e in
    let c = contents_at bytes p in
    let start = p.program.start in
    let within = parts_within bytes p e in
    omega (
      arith,
      ap length w.whole,
      length-append (take start bytes) (layout c),
      length-take-le start bytes (omega (arith, within.some)),
      length-layout c,
      least bytes p.guard c.label,
      program_bytes c.program _ w.stated.program.0 w.stated.program.1,
    )

pub accepts_exactly : (bytes : List ℕ) → AreBytes bytes → AcceptsExactly bytes
accepts_exactly bytes are k = (ended, found)
  where
    ended : (p : Parts) × (reading bytes ≡ Ok p) × (p.format ≡ k) → EndInRecord k bytes
    ended (p, e, f) =
        let w = ends_in bytes p are e in
        (take p.program.start bytes, contents_at bytes p, w.stated, sym w.format ∙ f, w.whole)

    found : EndInRecord k bytes → (p : Parts) × (reading bytes ≡ Ok p) × (p.format ≡ k)
    found (before, c, s, f, e) = let r = read_back before c s in (r.parts, rw e r.accepted, r.format ∙ f)

pub own-layout : (bytes : List ℕ) (p : Parts) → AreBytes bytes → reading bytes ≡ Ok p → own_bytes bytes p ≡ layout (contents_at bytes p)
own-layout bytes p are e =
    let r = record_read formats bytes p e in
    rw r.parts at (from_program (format_held formats bytes) bytes are r.fields (numbered_by_parts (format_in bytes) r.listed))

pub same_exactly : (bytes bytes' : List ℕ) → AreBytes bytes → AreBytes bytes' → SameExactly bytes bytes'
same_exactly bytes bytes' are are' p p' e e' =
    let own = own-layout bytes p are e in
    let own' = own-layout bytes' p' are' e' in (
      λ same. own ∙ ap layout same ∙ sym own',
      λ same.
          same_layout (contents_at bytes p) (contents_at bytes' p') (ends_in bytes p are e).stated (ends_in bytes' p' are' e').stated
          (sym own ∙ same ∙ own'),
    )
