-- `field` meets its contract: the number is put, and then the space that is left.
use Rattle.encoding.specs.{decimal}
use Rattle.archive.specs.Listing.{field}
use Rattle.encoding.proofs.Putting.{left-start, left-put, left_end}
use Rattle.archive.proofs.lines.field.Goals as goal

pub returns : goal.returns
returns c =
    let all = left-start c.args.out.now c.args.at (field (decimal c.args.n)) c.requires in
    let last = left-put (decimal c.args.n) all (c.put_decimal-after_number.ensures.place, c.put_decimal-after_number.ensures.output) in
    let whole = left_end last (c.put.ensures.place, c.put.ensures.output) in
    record { place = whole.0; output = whole.1 }
