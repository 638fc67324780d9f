-- `row` meets its contract. Before each turn the cells of the row below d have been visited, and the values of the other parameters are as
-- they were.
use Rattle.passes.specs.Mirror.{setup, last_of, SameOthers}
use Rattle.passes.proofs.PassWays.{Visited}
use Rattle.passes.proofs.row.Given as goal

abbrev pub invariant-loop-d : goal.invariant-loop-d
invariant-loop-d l = Visited (setup l.given.words.now l.given.functions.now l.given.traces.now) l.given.n l.function.g l.function.body l.index l.initial.table l.table l.before l.stored l.d
    × SameOthers (last_of l.given.functions.now l.function.g) l.initial.env l.env
