-- `put_functions` meets its contract. Before each turn the first k words are written.
use Rattle.std.proofs.Common.{◌≡◌}
use Rattle.decoding.specs.Decoding.{entries_upto}
use Rattle.decoding.proofs.program.put_functions.Given as goal

abbrev pub invariant-loop-k : goal.invariant-loop-k
invariant-loop-k l = l.words ≡ entries_upto l.functions l.n l.k l.initial.words
