-- Laws of formats:
--   Reads                        a release knows a format, and finds it by its number
--   number_kept                  the format found by a number known has that number
--   held_reads                   this release knows the formats of contents
--   told_by_number               a number stands for a format with a label exactly if it is 1, with a guard trace exactly if it is 3
--   ByParts, numbered_by_parts   of the formats that it knows, a guard trace or none and a label or none tell which
--   least_trailer_lem, trailer-size,
--   unknown_trailer              how long a trailer is; with a number that is not known, eight bytes
--   label-few, label-size        how long a label is
--   parts-format, label-fits     the guard trace and the label that are read in a format
use mathlib.Core.Path.{◌≡◌, refl, sym, ap, ◌∙◌}
use mathlib.Core.Bool.{Bool, true, false, cond, ◌||◌, false≢true}
use mathlib.Core.List.{List, [], ◌∷◌}
use mathlib.Core.Option.{Option, none, some}
use Prim.Native.Nat.{ℕ, ◌+◌, ◌≤◌}
use native.Mathlib.Omega.{arith}
use lib.Dec.{eqb}
use lib.ListN.{length}
use borrow.Author.Tests.{eqb-true}
use Rattle.semantics.specs.Language.{Trace}
use Rattle.encoding.proofs.Low.{length_low}
use Rattle.layout.specs.declared.Format.{Format}
use Rattle.layout.specs.declared.Span.{Span}
use Rattle.std.specs.Prelude.{Some, None}
use Rattle.layout.specs.Form.{format1, format2, format3, formats, knows, numbered, format_for, label_bytes, least_trailer, trailer_bytes, label_size, guard_count, label_part, LabelFits}
use Rattle.layout.specs.Trailer.{part_of, span, label_place, guard_place, label_at, guard_at}

-- ---- Formats known

-- a release that knows these formats reads this one
pub record Reads (known : List Format) (F : Format) : Type 0 where
  pub listed : knows known F.number ≡ true
  pub found : numbered known F.number ≡ F

pub number_kept : (known : List Format) (k : ℕ) → knows known k ≡ true → (numbered known k).number ≡ k
unfolding knows numbered
number_kept [] k h = absurd (false≢true h)
number_kept (F ∷ Fs) k h = go (eqb k F.number) refl h (number_kept Fs k)
  where
    go : (b : Bool) → eqb k F.number ≡ b → (b || knows Fs k) ≡ true → (knows Fs k ≡ true → (numbered Fs k).number ≡ k)
        → (cond b F (numbered Fs k)).number ≡ k
    go true e t later = sym (eqb-true k F.number e)
    go false e t later = later t

-- ---- The formats of this release

pub held_reads : (guard : Option Trace) (label : Option (List ℕ)) → Reads formats (format_for guard label)
unfolding knows numbered
held_reads (some guard) label = record { listed = refl; found = refl }
held_reads none (some label) = record { listed = refl; found = refl }
held_reads none none = record { listed = refl; found = refl }

-- of any number, known or not
pub told_by_number : (k : ℕ)
    → record { number = k; labelled = eqb k format1.number; guarded = eqb k format3.number } ≡ numbered formats k
unfolding numbered
told_by_number k = go (eqb k 3) (eqb k 2) (eqb k 1) refl refl refl
  where
    go : (three two one : Bool) → eqb k 3 ≡ three → eqb k 2 ≡ two → eqb k 1 ≡ one
        → record { number = k; labelled = one; guarded = three }
        ≡ cond three format3 (cond two format2 (cond one format1 (record { number = k; labelled = false; guarded = false })))
    go true two one h t o = let same : k ≡ 3 = eqb-true k 3 h in rw (← o, same) refl
    go false true one h t o = let same : k ≡ 2 = eqb-true k 2 t in rw (← o, same) refl
    go false false true h t o = rw (eqb-true k 1 o) refl
    go false false false h t o = refl

-- the format that its having a guard trace and a label tells
abbrev pub ByParts : Format → Type 0
ByParts F = cond F.guarded format3 (cond F.labelled format1 format2) ≡ F

pub numbered_by_parts : (k : ℕ) → knows formats k ≡ true → ByParts (numbered formats k)
unfolding knows numbered
numbered_by_parts k h = go (eqb k 3) (eqb k 2) (eqb k 1) h
  where
    go : (three two one : Bool) → (three || (two || (one || false))) ≡ true
        → ByParts (cond three format3 (cond two format2 (cond one format1 (record { number = k; labelled = false; guarded = false }))))
    go true two one e = refl
    go false true one e = refl
    go false false true e = refl
    go false false false e = absurd (false≢true e)

-- ---- The trailer

pub least_trailer_lem : (F : Format) → least_trailer ≤ trailer_bytes F
unfolding trailer_bytes
least_trailer_lem F = go F.guarded
  where
    go : (b : Bool) → least_trailer ≤ cond b 10 least_trailer
    go true = omega arith
    go false = omega arith

pub trailer-size : (guard : Option Trace) (label : Option (List ℕ))
    → least_trailer + length (guard_count guard) ≡ trailer_bytes (format_for guard label)
unfolding trailer_bytes
trailer-size (some guard) label = ap (λ (k : ℕ). least_trailer + k) (length_low 2 (length guard))
trailer-size none (some label) = refl
trailer-size none none = refl

pub unknown_trailer : (known : List Format) (k : ℕ) → knows known k ≡ false → trailer_bytes (numbered known k) ≡ least_trailer
unfolding knows numbered trailer_bytes
unknown_trailer [] k h = refl
unknown_trailer (F ∷ Fs) k h = go (eqb k F.number) h (unknown_trailer Fs k)
  where
    go : (b : Bool) → (b || knows Fs k) ≡ false → (knows Fs k ≡ false → trailer_bytes (numbered Fs k) ≡ least_trailer)
        → trailer_bytes (cond b F (numbered Fs k)) ≡ least_trailer
    go true t later = absurd (false≢true (sym t))
    go false t later = later t

-- ---- The label

pub label-few : (F : Format) → label_size F ≤ label_bytes
unfolding label_size
label-few F = go F.labelled
  where
    go : (b : Bool) → cond b label_bytes 0 ≤ label_bytes
    go true = omega arith
    go false = omega arith

pub label-size : (guard : Option Trace) (label : Option (List ℕ)) → LabelFits guard label
    → length (label_part label) ≡ label_size (format_for guard label)
unfolding label_size
label-size (some guard) (some label) e = absurd e
label-size (some guard) none e = refl
label-size none (some label) e = e
label-size none none e = refl

-- ---- What is read at the places for a guard trace and a label

module _ (bytes : List ℕ) (F : Format) (s : Span) (m at : ℕ) where
  abbrev Guard : Bool → Option Trace
  Guard g = guard_at bytes (cond g (Some (record { span = s; samples = m })) None)

  abbrev LabelHere : Bool → Option (List ℕ)
  LabelHere b = label_at bytes (cond b (Some (span at label_bytes)) None)

  read-format : (g b : Bool) → format_for (Guard g) (LabelHere b) ≡ cond g format3 (cond b format1 format2)
  read-format true b = refl
  read-format false true = refl
  read-format false false = refl

  module _ (by : ByParts F) where
    pub parts-format : format_for (guard_at bytes (guard_place F s m)) (label_at bytes (label_place F at)) ≡ F
    unfolding label_place guard_place
    parts-format = read-format F.guarded F.labelled ∙ by

    pub label-fits : length (part_of bytes (span at label_bytes)) ≡ label_bytes
        → LabelFits (guard_at bytes (guard_place F s m)) (label_at bytes (label_place F at))
    unfolding label_place guard_place
    label-fits e = go F.guarded F.labelled (ap (λ (G : Format). G.labelled) by)
      where
        go : (g b : Bool) → (cond g format3 (cond b format1 format2)).labelled ≡ b → LabelFits (Guard g) (LabelHere b)
        go true true h = absurd (false≢true h)
        go true false h = tt
        go false true h = e
        go false false h = tt
