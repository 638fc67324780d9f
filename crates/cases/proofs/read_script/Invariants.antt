-- A read puts no more bytes than there is room for, so what was read lies within the buffer. The measure is the room left.
use Rattle.std.proofs.Common.{◌-◌, ◌≡◌, ◌≤◌, length}
use Rattle.cases.proofs.read_script.Given as goal

abbrev pub invariant-loop-size : goal.invariant-loop-size
invariant-loop-size g l = (length l.buffer ≡ length l.initial.buffer) × (l.size ≤ length l.buffer)

abbrev pub decreases-loop-size : goal.decreases-loop-size
decreases-loop-size g l = length l.buffer - l.size
