-- `examine` meets its contract: the trailer, then what evaluating the record's program on its traces answers.
use Rattle.record.proofs.Examining.{handed_in_lem, trailer-refused, verdict_promised, refused_promised}
use Rattle.record.proofs.examine.Goals as goal

pub returns-in-Err : goal.returns-in-Err
returns-in-Err c =
    let told = trailer-refused c.args.bytes.now c.args.table.now c.locate.ensures c.in-Err.is in
    record { answer = told.0; cells = told.1.0; decides = told.1.1 }

pub returns-in-Ok-evaluate : goal.returns-in-Ok-evaluate
returns-in-Ok-evaluate c =
    let same = handed_in_lem c.args.bytes.now c.in-Ok.parts c.sort_of.ensures c.part.ensures c.guard_part.ensures c.guard_samples.ensures in
    let told = verdict_promised c.args.bytes.now c.args.table.now c.evaluate.new.table c.locate.ensures c.in-Ok.is c.part-2.ensures same
    c.evaluate.ensures.answer c.evaluate.ensures.cells c.in-Ok-evaluate.is c.compare.ensures in
    record { answer = told.0; cells = told.1.0; decides = told.1.1 }

pub returns-in-Err-evaluate : goal.returns-in-Err-evaluate
returns-in-Err-evaluate c =
    let same = handed_in_lem c.args.bytes.now c.in-Ok.parts c.sort_of.ensures c.part.ensures c.guard_part.ensures c.guard_samples.ensures in
    let told = refused_promised c.args.bytes.now c.args.table.now c.evaluate.new.table c.locate.ensures c.in-Ok.is c.part-2.ensures same
    c.evaluate.ensures.answer c.evaluate.ensures.cells c.in-Err-evaluate.is c.judged.ensures in
    record { answer = told.0; cells = told.1.0; decides = told.1.1 }
