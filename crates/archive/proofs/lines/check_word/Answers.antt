-- `check_word` meets its contract: the word or the number is put.
use mathlib.Core.Path.{sym, ap, ◌∙◌}
use Rattle.encoding.specs.{decimal}
use Rattle.encoding.proofs.Putting.{put_known}
use Rattle.archive.specs.Listing.{check_word}
use Rattle.archive.proofs.lines.check_word.Goals as goal

pub returns-in-Ok : goal.returns-in-Ok
unfolding check_word
returns-in-Ok c =
    let w = put_known c.args.at c.args.out.now (ap check_word c.in-Ok.is ∙ sym c.answer_word.ensures) c.requires
    (c.put.ensures.place, c.put.ensures.output) in
    record { place = w.0; output = w.1 }

pub returns-in-Err : goal.returns-in-Err
unfolding check_word
returns-in-Err c =
    let w = put_known c.args.at c.args.out.now (ap check_word c.in-Err.is ∙ ap decimal (sym c.from.ensures)) c.requires
    (c.put_decimal.ensures.place, c.put_decimal.ensures.output) in
    record { place = w.0; output = w.1 }
