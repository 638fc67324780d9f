-- `decide` meets its contract: the arrays are those of the program and the traces, so following over words comes to what the rules say.
use native.Mathlib.Omega.{arith}
use Rattle.follow.proofs.RunMeaning.{settled_calls, settled_followed}
use Rattle.follow.proofs.decide.decide.Goals as goal

pub overflow_cast-result : goal.overflow_cast-result
overflow_cast-result c = omega (arith, settled_calls c.requires.0.settled c.requires.0.lengths c.fill.ensures c.traces.ensures c.bodies_of-bodies.ensures c.whole_values.ensures c.run-ran.ensures)

pub returns : goal.returns
returns c = settled_followed c.requires.0.settled c.requires.0.lengths c.fill.ensures c.traces.ensures c.bodies_of-bodies.ensures c.whole_values.ensures c.run-ran.ensures c.requires.1 c.main_decision.ensures
