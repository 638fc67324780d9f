-- `guard_byte` meets its contract: of two contacts it is byte 2 from the place on.
use mathlib.Core.Path.{sym}
use lib.Seq.{get_or-drop}
use Rattle.syntax.proofs.headers.guard_byte.Goals as goal

pub returns-in-Two : goal.returns-in-Two
returns-in-Two c = let a = c.args in rw c.in-Two.is (sym (get_or-drop a.at a.program.now 2 0))
