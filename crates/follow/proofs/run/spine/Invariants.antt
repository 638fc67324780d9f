-- `spine` meets its contract. Before each turn the node that is left comes to what the body comes to, by the depth that is left.
use Rattle.std.proofs.Common.{◌≡◌, ◌-◌}
use Rattle.syntax.specs.Limits.{most_depth}
use Rattle.follow.specs.Mirror.{spine_of}
use Rattle.follow.proofs.run.spine.Given as goal

abbrev pub invariant-loop : goal.invariant-loop
invariant-loop l = spine_of l.words l.traces l.none.now l.env (most_depth - l.counter) l.node ≡ spine_of l.words l.traces l.none.now l.env most_depth l.body
