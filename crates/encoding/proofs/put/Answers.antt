-- `put` meets its contract: the two tests are whether there is room.
use native.Mathlib.Omega.{arith}
use Rattle.encoding.proofs.Putting.{no_room, put_part}
use Rattle.encoding.proofs.put.Goals as goal

pub returns-then-len-at-clause-place : goal.returns-then-len-at-clause-place
returns-then-len-at-clause-place c = (no_room _ _ _ (omega arith)).0

pub returns-then-len-at-clause-output : goal.returns-then-len-at-clause-output
returns-then-len-at-clause-output c = (no_room _ _ _ (omega arith)).1

pub returns-clause-place : goal.returns-clause-place
returns-clause-place c = (put_part _ _ _ (omega arith) (omega arith) c.copy.ensures).0

pub returns-clause-output : goal.returns-clause-output
returns-clause-output c = (put_part _ _ _ (omega arith) (omega arith) c.copy.ensures).1
