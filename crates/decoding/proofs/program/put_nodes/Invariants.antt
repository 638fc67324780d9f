-- `put_nodes` meets its contract. Before each turn the places from `at` on have their words and ends.
use Rattle.decoding.proofs.Loops.{Swept}
use Rattle.decoding.proofs.program.put_nodes.Given as goal

abbrev pub invariant-loop-at : goal.invariant-loop-at
invariant-loop-at l = Swept l.program l.params l.functions l.initial.words l.len l.ends l.words l.at
