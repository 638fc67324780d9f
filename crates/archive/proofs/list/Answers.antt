-- `list` meets its contract: the lines of the archive, or two words where it is too long.
use Rattle.std.proofs.Common.{◌∙◌, ◌++◌, arith}
use Rattle.encoding.proofs.Putting.{room-place, front_put}
use Rattle.archive.specs.Listing.{newline, too_long_words}
use Rattle.archive.proofs.Listing.{too_long, listed_whole}
use Rattle.archive.proofs.list.Goals as goal

pub returns-then-archive-gt-MOST_ARCHIVE-clause-size : goal.returns-then-archive-gt-MOST_ARCHIVE-clause-size
returns-then-archive-gt-MOST_ARCHIVE-clause-size c =
    rw (too_long c.args.archive.now c.if-archive-gt-MOST_ARCHIVE.true)
    (c.put.ensures.place ∙ room-place 0 (too_long_words ++ newline) c.args.out.now (omega (arith, c.told-out)))

pub returns-then-archive-gt-MOST_ARCHIVE-clause-output : goal.returns-then-archive-gt-MOST_ARCHIVE-clause-output
returns-then-archive-gt-MOST_ARCHIVE-clause-output c =
    rw (too_long c.args.archive.now c.if-archive-gt-MOST_ARCHIVE.true)
    (c.put.ensures.output ∙ front_put (too_long_words ++ newline) c.args.out.now (omega (arith, c.told-out)))

pub returns-clause-size : goal.returns-clause-size
returns-clause-size c =
    rw (listed_whole c.args.archive.now c.if-archive-gt-MOST_ARCHIVE.false) c.lines.ensures.place

pub returns-clause-output : goal.returns-clause-output
returns-clause-output c =
    rw (listed_whole c.args.archive.now c.if-archive-gt-MOST_ARCHIVE.false) c.lines.ensures.output
