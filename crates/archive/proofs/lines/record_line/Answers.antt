-- `record_line` meets its contract: its pieces are put one after the other, and there is room for each that is left.
use Rattle.std.proofs.Common.{◌≡◌, ℕ, ◌+◌, ◌≤◌, List, ◌++◌, length, append_assoc}
use Rattle.std.specs.Prelude.{Result}
use Rattle.refusal.specs.declared.Refusal.{Refusal}
use Rattle.encoding.specs.{decimal, put, place_after}
use Rattle.encoding.proofs.Putting.{Left, left-start, left-room, left-more, left-put, left_end}
use Rattle.layout.specs.declared.Parts.{Parts}
use Rattle.record.specs.declared.Checked.{Checked}
use Rattle.archive.specs.Listing.{newline, space, guard_field, verdict_word, check_word, field, counts, record_line}
use Rattle.archive.proofs.lines.record_line.Goals as goal

module _ (out : List ℕ) (at ordinal size : ℕ) (p : Parts) (k : Result Checked Refusal) (room : at + length (record_line ordinal size p k) ≤ length out) where
  -- what is left of the line, to put at a place of the output
  abbrev Rest : List ℕ → ℕ → List ℕ → Type 0
  Rest out' at' rest = Left out at (record_line ordinal size p k) out' at' rest

  -- from the check word on, from the verdict word, from the counts, from the record's length
  abbrev from-check : List ℕ
  from-check = check_word k ++ newline

  abbrev from-verdict : List ℕ
  from-verdict = verdict_word p.verdict ++ (space ++ from-check)

  abbrev from-counts : List ℕ
  from-counts = counts p.n p.guard ++ from-verdict

  abbrev from-size : List ℕ
  from-size = field (decimal size) ++ from-counts

  begun : Rest out at (field (decimal ordinal) ++ from-size)
  unfolding record_line
  begun =
      rw (append_assoc (field (decimal p.n)) (guard_field p.guard) from-verdict, ← append_assoc (verdict_word p.verdict) space from-check)
      (left-start out at (record_line ordinal size p k) room)

  module _ {at₁ : ℕ} {out₁ : List ℕ} (w₁ : (at₁ ≡ at + length (field (decimal ordinal))) × (out₁ ≡ put at (field (decimal ordinal)) out)) where
    to-size : Rest out₁ at₁ from-size
    to-size = left-more (field (decimal ordinal)) begun w₁

    module _ {at₂ : ℕ} {out₂ : List ℕ} (w₂ : (at₂ ≡ at₁ + length (field (decimal size))) × (out₂ ≡ put at₁ (field (decimal size)) out₁)) where
      to-counts : Rest out₂ at₂ from-counts
      to-counts = left-more (field (decimal size)) to-size w₂

      to-check : {at₃ at₄ at₅ : ℕ} {out₃ out₄ out₅ word : List ℕ}
          → (at₃ ≡ at₂ + length (counts p.n p.guard)) × (out₃ ≡ put at₂ (counts p.n p.guard) out₂)
          → word ≡ verdict_word p.verdict → (at₄ ≡ place_after at₃ word out₃) × (out₄ ≡ put at₃ word out₃)
          → (at₅ ≡ place_after at₄ space out₄) × (out₅ ≡ put at₄ space out₄) → Rest out₅ at₅ from-check
      to-check w₃ e w₄ w₅ =
          left-put space (left-put (verdict_word p.verdict) (left-more (counts p.n p.guard) to-counts w₃) (rw e at w₄)) w₅

pub field-after_ordinal-requires : goal.field-after_ordinal-requires
field-after_ordinal-requires c =
    let a = c.args in
    left-room (field (decimal a.ordinal)) _ (begun a.out.now a.at a.ordinal a.size a.parts a.checked c.requires)

pub field-after_size-requires : goal.field-after_size-requires
field-after_size-requires c =
    let a = c.args in
    left-room (field (decimal a.size)) _
    (to-size a.out.now a.at a.ordinal a.size a.parts a.checked c.requires (c.field-after_ordinal.ensures.place, c.field-after_ordinal.ensures.output))

pub counts-after_counts-requires : goal.counts-after_counts-requires
counts-after_counts-requires c =
    let a = c.args in
    left-room (counts a.parts.n a.parts.guard) _
    (to-counts a.out.now a.at a.ordinal a.size a.parts a.checked c.requires (c.field-after_ordinal.ensures.place, c.field-after_ordinal.ensures.output)
    (c.field-after_size.ensures.place, c.field-after_size.ensures.output))

pub check_word-after_check-requires : goal.check_word-after_check-requires
check_word-after_check-requires c =
    let a = c.args in
    left-room (check_word a.checked) newline
    (to-check a.out.now a.at a.ordinal a.size a.parts a.checked c.requires (c.field-after_ordinal.ensures.place, c.field-after_ordinal.ensures.output)
    (c.field-after_size.ensures.place, c.field-after_size.ensures.output) (c.counts-after_counts.ensures.place, c.counts-after_counts.ensures.output)
    c.verdict_word.ensures (c.put-after_verdict.ensures.place, c.put-after_verdict.ensures.output)
    (c.put-after_space.ensures.place, c.put-after_space.ensures.output))

pub returns : goal.returns
returns c =
    let a = c.args in
    let check =
    to-check a.out.now a.at a.ordinal a.size a.parts a.checked c.requires (c.field-after_ordinal.ensures.place, c.field-after_ordinal.ensures.output)
    (c.field-after_size.ensures.place, c.field-after_size.ensures.output) (c.counts-after_counts.ensures.place, c.counts-after_counts.ensures.output)
    c.verdict_word.ensures (c.put-after_verdict.ensures.place, c.put-after_verdict.ensures.output)
    (c.put-after_space.ensures.place, c.put-after_space.ensures.output) in
    let last = left-more (check_word a.checked) check (c.check_word-after_check.ensures.place, c.check_word-after_check.ensures.output) in
    let whole = left_end last (c.put.ensures.place, c.put.ensures.output) in
    record { place = whole.0; output = whole.1 }
