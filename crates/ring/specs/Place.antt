-- A notion of the code's own: a ring that nothing refuses.
use Rattle.std.specs.Prelude.{ℕ, ◌<◌, ◌≤◌}
use Rattle.trace.specs.{most_samples}
use Rattle.ring.specs.declared.Ring.{Ring}

-- what 18 and 19 ask
pub record Sound (len : ℕ) (ring : Ring) : Type 0 where
  pub few : len ≤ most_samples
  pub within : ring.next < len
  pub fits : ring.count ≤ len
