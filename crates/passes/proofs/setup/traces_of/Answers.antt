-- `traces_of` meets its contract: the bytes of each trace are copied into zeros.
use Rattle.passes.proofs.SetupLoops.{traces-whole}
use Rattle.passes.proofs.setup.traces_of.Goals as goal

pub returns : goal.returns
returns c = traces-whole _ _ c.copy.ensures c.copy-2.ensures
