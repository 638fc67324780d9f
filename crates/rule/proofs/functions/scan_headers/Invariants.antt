-- `scan_headers` meets its contract. Before turn i the outline has the functions before it.
use mathlib.Core.Path.{◌≡◌}
use Rattle.rule.proofs.Scanning.{Scanned}
use Rattle.rule.proofs.functions.scan_headers.Given as goal

abbrev pub invariant-loop-i : goal.invariant-loop-i
invariant-loop-i l =
    (l.outline.functions ≡ l.count)
    × Scanned l.sort l.program l.count l.outline.params l.outline.kinds l.outline.guards l.outline.starts l.outline.ends l.at l.i
