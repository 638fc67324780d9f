-- `told` leaves what it is to leave, by the two cases of an answer.
use Rattle.std.proofs.Common.{[], refl, sym}
use Rattle.refusal.specs.{values_left}
use Rattle.refusal.proofs.Numbers.{refused-left}
use Rattle.gateway.proofs.told.Goals as goal

pub returns-in-Ok-clause-left : goal.returns-in-Ok-clause-left
unfolding values_left
returns-in-Ok-clause-left g c = rw c.in-Ok.is refl

pub returns-in-Err-clause-left : goal.returns-in-Err-clause-left
returns-in-Err-clause-left g c = rw c.in-Err.is (sym (refused-left c.in-Err.refusal [] c.args.left.now))
