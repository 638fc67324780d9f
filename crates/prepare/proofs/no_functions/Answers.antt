-- `no_functions` meets its contract: the arrays are padding alone.
use mathlib.Core.Path.{refl}
use Rattle.rule.specs.Form.{padded}
use Rattle.rule.specs.Outline.{starts_from, ends_from, outline_of}
use Rattle.prepare.proofs.no_functions.Goals as goal

pub returns : goal.returns
unfolding outline_of padded starts_from ends_from
returns c = refl
