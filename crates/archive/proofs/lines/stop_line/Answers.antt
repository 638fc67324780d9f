-- `stop_line` meets its contract: its pieces are put one after the other, and there is room for each that is left.
use Rattle.std.proofs.Common.{◌≡◌, ℕ, ◌+◌, ◌≤◌, List, ◌++◌, length}
use Rattle.refusal.specs.declared.Refusal.{Refusal}
use Rattle.refusal.specs.{number_of}
use Rattle.encoding.specs.{decimal, put, place_after}
use Rattle.encoding.proofs.Putting.{Left, left-start, left-room, left-more, left-put, left_end}
use Rattle.archive.specs.Listing.{newline, stop_word, field, stop_line}
use Rattle.archive.proofs.lines.stop_line.Goals as goal

-- after the word, the ordinal is left, the number and the end of the line
named : {out out' : List ℕ} {at at' : ℕ} (ordinal : ℕ) (f : Refusal) → at + length (stop_line ordinal f) ≤ length out
    → (at' ≡ place_after at (field stop_word) out) × (out' ≡ put at (field stop_word) out)
    → Left out at (stop_line ordinal f) out' at' (field (decimal ordinal) ++ (decimal (number_of f) ++ newline))
unfolding stop_line
named {out} {at = at} ordinal f room w = left-put (field stop_word) (left-start out at (stop_line ordinal f) room) w

pub field-after_ordinal-requires : goal.field-after_ordinal-requires
field-after_ordinal-requires c =
    let a = c.args in
    let first = named a.ordinal a.refusal c.requires (c.put-after_word.ensures.place, c.put-after_word.ensures.output) in
    left-room (field (decimal a.ordinal)) (decimal (number_of a.refusal) ++ newline) first

pub returns : goal.returns
returns c =
    let a = c.args in
    let first = named a.ordinal a.refusal c.requires (c.put-after_word.ensures.place, c.put-after_word.ensures.output) in
    let number = left-more (field (decimal a.ordinal)) first (c.field-after_ordinal.ensures.place, c.field-after_ordinal.ensures.output) in
    let put = c.put_decimal-after_number.ensures in
    let last = left-put (decimal (number_of a.refusal)) number (rw c.from.ensures at put.place, rw c.from.ensures at put.output) in
    let whole = left_end last (c.put.ensures.place, c.put.ensures.output) in
    record { place = whole.0; output = whole.1 }
