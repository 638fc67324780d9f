-- `locate` meets its contract: 1 and 2, then 3 of the trailer's fields, then what stands before it.
use mathlib.Core.Path.{sym, ap, ◌∙◌}
use Prim.Native.Nat.{ℕ, ◌-◌}
use lib.ListN.{length}
use Rattle.layout.specs.Trailer.{mark_in, format_in}
use Rattle.layout.proofs.Locating.{missing, wrong_mark, unknown, cut, faulty, sound}
use Rattle.layout.proofs.locate.Goals as goal

pub returns-then-len-lt-TRAILER : goal.returns-then-len-lt-TRAILER
returns-then-len-lt-TRAILER c = missing _ c.if-len-lt-TRAILER.true

pub returns-then-bytes-len-ne-MARK : goal.returns-then-bytes-len-ne-MARK
unfolding mark_in
returns-then-bytes-len-ne-MARK c = wrong_mark _ c.if-len-lt-TRAILER.false (λ e. c.if-bytes-len-ne-MARK.true e)

pub returns-then-not-knows : goal.returns-then-not-knows
unfolding mark_in format_in
returns-then-not-knows c =
    unknown _ c.if-len-lt-TRAILER.false c.if-bytes-len-ne-MARK.false (sym c.knows.ensures ∙ c.if-not-knows.true)

pub returns-then-len-size : goal.returns-then-len-size
unfolding mark_in format_in
returns-then-len-size c =
    cut _ c.if-len-lt-TRAILER.false c.if-bytes-len-ne-MARK.false c.numbered-format.ensures
    (rw (← c.trailer_bytes-size.ensures) c.if-len-size.true)

pub returns-then-are_faulty : goal.returns-then-are_faulty
unfolding mark_in format_in
returns-then-are_faulty c =
    faulty _ c.if-len-lt-TRAILER.false c.if-bytes-len-ne-MARK.false c.numbered-format.ensures (sym c.knows.ensures ∙ c.if-not-knows.false)
    (rw (← c.trailer_bytes-size.ensures) c.if-len-size.false)
    (ap (λ (k : ℕ). length c.args.bytes.now - k) c.trailer_bytes-size.ensures)
    c.read-fields.ensures c.are_faulty.ensures c.if-are_faulty.true

pub returns : goal.returns
unfolding mark_in format_in
returns c =
    c.parts.ensures
    ∙ sound _ c.if-len-lt-TRAILER.false c.if-bytes-len-ne-MARK.false c.numbered-format.ensures (sym c.knows.ensures ∙ c.if-not-knows.false)
    (rw (← c.trailer_bytes-size.ensures) c.if-len-size.false)
    (ap (λ (k : ℕ). length c.args.bytes.now - k) c.trailer_bytes-size.ensures)
    c.read-fields.ensures c.are_faulty.ensures c.if-are_faulty.false
