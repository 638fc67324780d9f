-- `decide` meets its contract: the arrays are those of the program and the traces, so the passes leave what the rules say.
use native.Mathlib.Omega.{arith}
use Rattle.evaluate.proofs.Settling.{main-small, settled_within, settled_verdict}
use Rattle.evaluate.proofs.decide.decide.Goals as goal

pub offset_bounds-table-main_cell : goal.offset_bounds-table-main_cell
offset_bounds-table-main_cell c = omega (arith, c.main_cell.ensures, main-small c.requires.settled c.requires.lengths)

pub bounds-table-main_cell : goal.bounds-table-main_cell
bounds-table-main_cell c = omega (
  arith,
  c.main_cell.ensures,
  settled_within c.requires.settled c.requires.lengths c.fill.ensures c.traces.ensures _ (omega arith) c.clear.ensures (c.run-passes.ensures.cells, c.run-passes.ensures.passes),
)

pub returns : goal.returns
returns c =
    let passes = c.run-passes.ensures in
    let decided =
    settled_verdict c.requires.settled c.requires.lengths c.fill.ensures c.traces.ensures _ (omega arith) c.clear.ensures (passes.cells, passes.passes) c.main_cell.ensures
    c.main_decision.ensures in
    record { verdict = decided.0; cells = decided.1 }
