-- `size` meets its contract. Before each turn the product is that of the parameters from i on.
use Rattle.passes.proofs.SetupLoops.{Product}
use Rattle.passes.proofs.configurations.size.Given as goal

abbrev pub invariant-loop-i : goal.invariant-loop-i
invariant-loop-i l = Product l.signature l.n l.count l.product l.i
