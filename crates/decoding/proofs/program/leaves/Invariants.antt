-- `leaves` meets its contract. Before each turn those that are left tell whether all are leaves.
use Rattle.std.proofs.Common.{◌≡◌, ◌-◌}
use Rattle.decoding.specs.Decoding.{leaves_in}
use Rattle.decoding.proofs.program.leaves.Given as goal

abbrev pub invariant-loop : goal.invariant-loop
invariant-loop l = leaves_in l.words (l.count - l.counter) l.rest ≡ leaves_in l.words l.count l.places
