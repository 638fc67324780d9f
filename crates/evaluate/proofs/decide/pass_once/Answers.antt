-- `pass_once` meets its contract, as `decide` does, with one pass.
use native.Mathlib.Omega.{arith}
use Rattle.evaluate.proofs.Settling.{settled_pass}
use Rattle.evaluate.proofs.decide.pass_once.Goals as goal

pub returns : goal.returns
returns c =
    let made = settled_pass c.requires.settled c.requires.lengths c.fill.ensures c.traces.ensures _ (omega arith) (c.pass.ensures.cells, c.pass.ensures.stored) in
    record { stored = made.0; cells = made.1 }
