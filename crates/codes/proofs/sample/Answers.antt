-- `sample` meets its contract: a shift to the right by k divides by 2 ^ k, and a bit is 0 or 1.
use Rattle.std.proofs.Common.{◌≡◌, ℕ, zero, suc, ◌+◌, ◌/◌, ◌%◌, ◌^◌, ◌<◌, refl, ap, ◌∙◌, cond, get_or, arith}
use lib.Dec.{eqb}
use Rattle.trace.specs.{bit_of}
use Rattle.codes.proofs.sample.Goals as goal

-- a digit as the number of a Bool
digit-code : (y : ℕ) → y < 2 → y + 1 ≡ cond (eqb y 1) 2 1
digit-code zero h = refl
digit-code (suc zero) h = refl
digit-code (suc (suc y)) h = absurd (omega arith)

pub returns : goal.returns
unfolding bit_of
returns c = let a = c.args in
    let byte : ℕ = get_or a.traces.now (a.i / 8 % 1024) 0 in
    let is : c.from-byte.result ≡ byte = cc in
    ap (λ (b : ℕ). b / 2 ^ (a.i % 8) % 2 + 1) is ∙ digit-code (byte / 2 ^ (a.i % 8) % 2) (omega arith)
