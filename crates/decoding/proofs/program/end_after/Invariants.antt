-- `end_after` meets its contract. Before each turn the expressions that are left end where all of them end.
use Rattle.std.proofs.Common.{◌≡◌, ◌-◌}
use Rattle.decoding.specs.Decoding.{ends_after}
use Rattle.decoding.proofs.program.end_after.Given as goal

abbrev pub invariant-loop : goal.invariant-loop
invariant-loop l = ends_after l.ends (l.count - l.counter) l.place ≡ ends_after l.ends l.count l.first
