-- `lines` meets its contract: before each turn the text of the bytes that are left is left to put.
use Rattle.std.proofs.Common.{◌≡◌, length, ◌∙◌, arith, rules}
use Rattle.encoding.proofs.Putting.{front_end}
use Rattle.rule.specs.Form.{AreBytes}
use Rattle.archive.proofs.Listing.{turn_start, lines_short, reading-told, checked_told, turn_stop, turn_end, start-below, turn_room, turn_next}
use Rattle.archive.proofs.lines.lines.Goals as goal

pub loop-left-init : goal.loop-left-init
loop-left-init c =
    let a = c.args in
    let bytes : AreBytes a.archive.now = λ i. omega (arith, c.type_inv.archive i) in
    turn_start a.archive.now a.out.now a.table.now bytes c.requires.0 c.requires.2 c.requires.1

pub stop_line-requires : goal.stop_line-requires
stop_line-requires c =
    let turn = c.loop-left.invariant in
    (turn_stop turn c.loop-left-test.true (reading-told turn c.examine-examined.ensures.answer ∙ c.in-Err.is)).room

pub returns-in-Err : goal.returns-in-Err
returns-in-Err c =
    let a = c.args in
    let bytes : AreBytes a.archive.now = λ i. omega (arith, c.type_inv.archive i) in
    let fits = lines_short a.archive.now a.out.now bytes c.requires.0 c.requires.2 in
    let turn = c.loop-left.invariant in
    let stopped = turn_stop turn c.loop-left-test.true (reading-told turn c.examine-examined.ensures.answer ∙ c.in-Err.is) in
    let whole = front_end stopped fits (c.stop_line.ensures.place, c.stop_line.ensures.output) in
    record { place = whole.0; output = whole.1 }

pub overflow_sub-size : goal.overflow_sub-size
overflow_sub-size c =
    let turn = c.loop-left.invariant in
    omega (arith, start-below turn (reading-told turn c.examine-examined.ensures.answer ∙ c.in-Ok.is))

pub record_line-at-requires : goal.record_line-at-requires
record_line-at-requires c =
    let turn = c.loop-left.invariant in
    let told = c.examine-examined.ensures.answer in
    turn_room turn (reading-told turn told ∙ c.in-Ok.is) (checked_told turn told)

pub loop-left-smaller : goal.loop-left-smaller
loop-left-smaller c =
    let turn = c.loop-left.invariant in
    omega (arith, start-below turn (reading-told turn c.examine-examined.ensures.answer ∙ c.in-Ok.is))

pub loop-left-preserved : goal.loop-left-preserved
loop-left-preserved c =
    let turn = c.loop-left.invariant in
    let told = c.examine-examined.ensures.answer in
    let kept : length c.examine-examined.new.table ≡ length c.loop-left.table = search rules in
    turn_next turn (reading-told turn told ∙ c.in-Ok.is) (checked_told turn told) (kept ∙ turn.cells)
    (c.record_line-at.ensures.place, c.record_line-at.ensures.output)

pub end_line-requires : goal.end_line-requires
end_line-requires c = (turn_end c.loop-left.invariant c.loop-left-test.false).room

pub returns : goal.returns
returns c =
    let a = c.args in
    let bytes : AreBytes a.archive.now = λ i. omega (arith, c.type_inv.archive i) in
    let fits = lines_short a.archive.now a.out.now bytes c.requires.0 c.requires.2 in
    let whole = front_end (turn_end c.loop-left.invariant c.loop-left-test.false) fits (c.end_line.ensures.place, c.end_line.ensures.output) in
    record { place = whole.0; output = whole.1 }
