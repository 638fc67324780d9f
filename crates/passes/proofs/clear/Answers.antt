-- The goal that is left.
use Rattle.std.proofs.Common.{◌≡◌, ℕ, length, take, replicate, ap, ◌∙◌, arith, length-take}
use Rattle.passes.proofs.PassWays.{cleared-whole}
use Rattle.passes.proofs.clear.Goals as goal

pub returns : goal.returns
returns c = let few : length (take c.min-last.result c.args.table.now) ≡ c.min-last.result =
    omega (arith, length-take c.min-last.result c.args.table.now, c.min-last.ensures) in
    cleared-whole _ _ _ c.min-last.ensures (c.fill.ensures.after (λ y e. e) ∙ ap (λ (k : ℕ). replicate k 0) few)
