-- `bytes_loop` meets its contract. Before each turn the bytes before it are read, and what is due is known.
use Rattle.loops.proofs.Passing.{Read}
use Rattle.loops.proofs.bytes_loop.Given as goal

abbrev pub invariant-loop-byte : goal.invariant-loop-byte
invariant-loop-byte l = Read l.params l.body l.due l.byte-index
