-- How a script has a number.
use Rattle.std.specs.Prelude.{ℕ, List, Ok}
use Rattle.std.specs.Str.Parse.{ParsesUnsigned}

-- some bytes are a number in decimal
abbrev pub IsDecimal : List ℕ → ℕ → Type 0
IsDecimal bytes n = ParsesUnsigned {E = Unit {0}} 64 10 bytes (Ok n)
