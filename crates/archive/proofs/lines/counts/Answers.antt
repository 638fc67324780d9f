-- `counts` meets its contract: there is room for the second number where there is room for both.
use mathlib.Core.Path.{◌∙◌}
use Rattle.encoding.specs.{decimal}
use Rattle.encoding.proofs.Putting.{left-start, left-more}
use Rattle.archive.specs.Listing.{field, counts}
use Rattle.archive.proofs.lines.counts.Goals as goal

pub returns : goal.returns
returns c =
    let a = c.args in
    let all = left-start a.out.now a.at (counts a.n a.guard) c.requires in
    let last = left-more (field (decimal a.n)) all (c.field-after_ram.ensures.place, c.field-after_ram.ensures.output) in
    record { place = c.guard_field.ensures.place ∙ last.place; output = c.guard_field.ensures.output ∙ last.content }
