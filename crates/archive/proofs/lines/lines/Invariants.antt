-- `lines` meets its contract: before each turn the text of the bytes that are left is left to put.
use Rattle.archive.proofs.Listing.{Turn}
use Rattle.archive.proofs.lines.lines.Given as goal

abbrev pub invariant-loop-left : goal.invariant-loop-left
invariant-loop-left l = Turn l.archive l.initial.out l.out l.table l.left l.listed l.at

abbrev pub decreases-loop-left : goal.decreases-loop-left
decreases-loop-left l = l.left
