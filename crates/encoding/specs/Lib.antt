-- How numbers and texts are written: numbers low byte first and in decimal, and texts one after the other in a
-- lent output.
use Rattle.std.specs.Prelude.{ℕ, zero, suc, ◌+◌, ◌*◌, ◌/◌, ◌%◌, Bool, cond, List, [], ◌∷◌, ◌++◌, ltb, leb, length, take, drop}

-- ---- Numbers, 'low byte first'

-- a number in so many bytes
unfoldable pub low_first : ℕ → ℕ → List ℕ
low_first zero x = []
low_first (suc k) x = (x % 256) ∷ low_first k (x / 256)

-- the number that bytes are
unfoldable pub from_low : List ℕ → ℕ
from_low [] = 0
from_low (b ∷ bs) = b + 256 * from_low bs

-- ---- Numbers in decimal

-- the character of a digit
abbrev pub figure : ℕ → ℕ
figure d = 48 + d

-- a number's digits, at most so many, with no zeros in front
unfoldable pub decimal_in : ℕ → ℕ → List ℕ
decimal_in zero n = []
decimal_in (suc k) n = cond (ltb n 10) (figure n ∷ []) (decimal_in k (n / 10) ++ (figure (n % 10) ∷ []))

-- a number in decimal; it has at most as many digits as one more than itself
unfoldable pub decimal : ℕ → List ℕ
decimal n = decimal_in (suc n) n

-- ---- A lent output

-- an output that begins with a text; past it, it keeps its content
unfoldable pub begins : List ℕ → List ℕ → List ℕ
begins text out = text ++ drop (length text) out

-- whether there is room for a text at a place
abbrev pub room : ℕ → List ℕ → List ℕ → Bool
room at text out = leb (at + length text) (length out)

-- a text put into an output at a place; where there is no room for it, nothing is
unfoldable pub put : ℕ → List ℕ → List ℕ → List ℕ
put at text out = cond (room at text out) (take at out ++ (text ++ drop (at + length text) out)) out

-- the place after it
unfoldable pub place_after : ℕ → List ℕ → List ℕ → ℕ
place_after at text out = cond (room at text out) (at + length text) at
