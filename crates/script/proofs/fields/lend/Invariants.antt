-- `lend` ends, since each turn reads a part of the text that is left; no place that it notes lies beyond the words that it put.
use Rattle.std.proofs.Common.{◌≤◌, IfSome, length}
use Rattle.script.proofs.fields.lend.Given as goal

abbrev pub invariant-loop-first : goal.invariant-loop-first
invariant-loop-first g l = record {
  room : l.size ≤ length l.room;
  from : l.from ≤ l.size;
  end : IfSome l.end (λ end. end ≤ l.size);
}

abbrev pub decreases-loop-first : goal.decreases-loop-first
decreases-loop-first g l = length l.text
