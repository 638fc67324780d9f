-- `end_line` meets its contract: its pieces are put one after the other.
use Rattle.encoding.specs.{decimal}
use Rattle.encoding.proofs.Putting.{left-start, left-put, left_end}
use Rattle.archive.specs.Listing.{end_word, field, end_line}
use Rattle.archive.proofs.lines.end_line.Goals as goal

pub returns : goal.returns
unfolding end_line
returns c =
    let all = left-start c.args.out.now c.args.at (end_line c.args.listed) c.requires in
    let number = left-put (field end_word) all (c.put-after_word.ensures.place, c.put-after_word.ensures.output) in
    let last = left-put (decimal c.args.listed) number (c.put_decimal-after_count.ensures.place, c.put_decimal-after_count.ensures.output) in
    let whole = left_end last (c.put.ensures.place, c.put.ensures.output) in
    record { place = whole.0; output = whole.1 }
