-- `write` meets its contract: past the bytes a store changes nothing.
use Rattle.trace.proofs.Packing.{write_past, write_stored}
use Rattle.trace.proofs.write.Goals as goal

pub returns-then-bytes-at : goal.returns-then-bytes-at
returns-then-bytes-at c = write_past _ _ _ c.if-bytes-at.true

pub returns : goal.returns
returns c = write_stored _ _ _ c.placed.ensures
