-- Traces of document 01, 'Ring and trace': what packed samples mean, and how samples are packed; and padding bits, the
-- 'dead bits' of document 02.
use Rattle.std.specs.Prelude.{ℕ, zero, suc, ◌+◌, ◌*◌, ◌/◌, ◌%◌, ◌^◌, Bool, true, false, not, ◌&&◌, List, [], ◌∷◌, ◌++◌, eqb, length, get_or, take, drop, set}

-- the most samples that a trace or a ring has
abbrev pub most_samples : ℕ
most_samples = 4095

-- ---- Reading

-- bit k of a byte, counted from the lowest
unfoldable pub bit_of : ℕ → ℕ → Bool
bit_of k byte = eqb (byte / 2 ^ k % 2) 1

-- 'sample i (from 0) is bit i mod 8, counted from the lowest, of byte i / 8'; past the bytes it is 0
unfoldable pub sample_at : List ℕ → ℕ → Bool
sample_at bytes i = bit_of (i % 8) (get_or bytes (i / 8) 0)

-- what n packed samples mean: the samples, oldest first; bits above the last are passed over
unfoldable pub samples : List ℕ → ℕ → List Bool
samples bytes zero = []
samples bytes (suc n) = samples bytes n ++ (sample_at bytes n ∷ [])

-- ---- Packing

-- a Bool as a number, as a sample is
abbrev pub digit : Bool → ℕ
digit false = 0
digit true = 1

-- the number with these binary digits, the lowest first
unfoldable pub binary : List Bool → ℕ
binary [] = 0
binary (b ∷ bs) = digit b + 2 * binary bs

-- the bytes that n samples take: 'n / 8 rounded up'
unfoldable pub bytes_for : ℕ → ℕ
bytes_for n = (n + 7) / 8

-- so many bytes, with eight samples in each
unfoldable pub packed : ℕ → List Bool → List ℕ
packed zero bits = []
packed (suc k) bits = binary (take 8 bits) ∷ packed k (drop 8 bits)

-- the bytes of a trace, 'packed oldest first'; bits above the last sample are 0
unfoldable pub pack : List Bool → List ℕ
pack bits = packed (bytes_for (length bits)) bits

-- ---- Padding

-- 23: 'a bit above the last sample is set'. The last n mod 8 of n samples stand in the lowest bits of a byte, and what stands above
-- them in it is not 0; where n is a multiple of 8, 0 too, there are no such bits
unfoldable pub padding_set : List ℕ → ℕ → Bool
padding_set bytes n = not (eqb (n % 8) 0) && not (eqb (get_or bytes (n / 8) 0 / 2 ^ (n % 8)) 0)

-- ---- Writing into a lent output

-- an output with samples packed into its front; past what is written it keeps its content
unfoldable pub packed_into : List ℕ → List Bool → List ℕ
packed_into out bits = pack bits ++ drop (bytes_for (length bits)) out

-- bit k of a byte written: the lower bits stay, the bits above become 0
unfoldable pub with_bit : ℕ → ℕ → Bool → ℕ
with_bit k byte b = byte % 2 ^ k + digit b * 2 ^ k

-- sample i written, where it stands within the bytes
unfoldable pub with_sample : List ℕ → ℕ → Bool → List ℕ
with_sample bytes i b = set bytes (i / 8) (with_bit (i % 8) (get_or bytes (i / 8) 0) b)
