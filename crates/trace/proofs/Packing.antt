-- Laws of packed samples:
--   next_byte, first_byte           where a sample stands: eight further on, the same bit of the next byte
--   length-samples, samples_at      n packed samples are n, and the i-th is sample i
--   sample_past                     a sample past the bytes is 0
--   bytes_few                       a trace has at most 512 bytes
--   length-pack, pack_byte          the bytes of a trace, and one of them
--   pack-few, pack_chunk            up to eight samples are one byte, and the first eight are the first
--   samples-pack, samples-packed    reading packed samples gives them back, whatever follows them
--   write_past, write_stored        writing a sample past the bytes, and within them
--   write_next                      writing the next sample into an output that holds the ones before it
--   into_start, into_more           an output that samples are written into in order
--   length_into                     it keeps its length
use mathlib.Core.Path.{◌≡◌, refl, sym, ap, ◌∙◌}
use mathlib.Core.Logic.{⊎_elim}
use mathlib.Core.Bool.{Bool, false}
use mathlib.Core.List.{List, [], ◌∷◌, ◌++◌, append-nil}
use Prim.Native.Nat.{ℕ, zero, suc, ◌+◌, ◌*◌, ◌-◌, ◌/◌, ◌%◌, ◌^◌, ◌<◌, ◌≤◌}
use native.Mathlib.Nat.{eq-or-lt_of_le, zero-div}
use native.Mathlib.Numerals.{add-one}
use native.Mathlib.Omega.{arith}
use lib.ListN.{length, get_or, take, drop, set, length-append, length-drop, get_or-append, get_or-eq_default}
use lib.Seq.{length-take-le, take-suc, take_all, take-append-le, drop-append-le, drop-drop, get_or-take, get_or-drop, get_or_at, set_out}
use Rattle.trace.specs.{most_samples, bit_of, sample_at, samples, digit, binary, bytes_for, packed, pack, packed_into, with_bit, with_sample}
use Rattle.trace.proofs.Bits.{bit-binary, with_bit_lem}

-- ---- Places

pub next_byte : (n m : ℕ) → n ≡ m + 8 → (n / 8 ≡ suc (m / 8)) × (n % 8 ≡ m % 8)
next_byte n m h = (omega arith, omega arith)

pub first_byte : (n : ℕ) → n < 8 → (n / 8 ≡ 0) × (n % 8 ≡ n)
first_byte n h = (omega arith, omega arith)

-- ---- Samples

pub length-samples : (bytes : List ℕ) (n : ℕ) → length (samples bytes n) ≡ n
unfolding samples
length-samples bytes zero = refl
length-samples bytes (suc n) = omega (arith, length-append (samples bytes n) (sample_at bytes n ∷ []), length-samples bytes n)

pub samples_at : (bytes : List ℕ) (n i : ℕ) → i < n → get_or (samples bytes n) i false ≡ sample_at bytes i
unfolding samples
samples_at bytes zero i h = absurd (omega arith)
samples_at bytes (suc n) i h = ⊎_elim last (earlier (samples_at bytes n i)) (eq-or-lt_of_le (omega arith))
  where
    last : i ≡ n → get_or (samples bytes n ++ (sample_at bytes n ∷ [])) i false ≡ sample_at bytes i
    last e = get_or_at (samples bytes n) (sample_at bytes n) [] false i (length-samples bytes n ∙ sym e) ∙ ap (sample_at bytes) (sym e)

    earlier : (i < n → get_or (samples bytes n) i false ≡ sample_at bytes i) → i < n
        → get_or (samples bytes n ++ (sample_at bytes n ∷ [])) i false ≡ sample_at bytes i
    earlier ih l = get_or-append (samples bytes n) (sample_at bytes n ∷ []) false i (omega (arith, length-samples bytes n)) ∙ ih l

pub sample_past : (bytes : List ℕ) (i : ℕ) → length bytes ≤ i / 8 → false ≡ sample_at bytes i
unfolding sample_at bit_of
sample_past bytes i h = rw (get_or-eq_default bytes 0 h, zero-div (2 ^ (i % 8)))

-- ---- Packing

pub bytes_few : (n : ℕ) {size : ℕ} → n ≤ most_samples → size ≡ bytes_for n → size ≤ 512
unfolding bytes_for
bytes_few n h e = omega arith

pub length-packed : (k : ℕ) (bits : List Bool) → length (packed k bits) ≡ k
unfolding packed
length-packed zero bits = refl
length-packed (suc k) bits = ap suc (length-packed k (drop 8 bits))

pub length-pack : (bits : List Bool) → length (pack bits) ≡ bytes_for (length bits)
unfolding pack
length-pack bits = length-packed (bytes_for (length bits)) bits

packed_at : (k : ℕ) (bits : List Bool) (j : ℕ) → j < k → get_or (packed k bits) j 0 ≡ binary (take 8 (drop (8 * j) bits))
unfolding packed
packed_at zero bits j h = absurd (omega arith)
packed_at (suc k) bits zero h = refl
packed_at (suc k) bits (suc j) h =
    let e : 8 + 8 * j ≡ 8 * suc j = omega arith in
    packed_at k (drop 8 bits) j (omega arith) ∙ ap (λ (l : List Bool). binary (take 8 l)) (drop-drop (8 * j) 8 bits ∙ ap (λ (n : ℕ). drop n bits) e)

pub pack_byte : (bits : List Bool) (rest : List ℕ) (j : ℕ) → j < bytes_for (length bits)
    → get_or (pack bits ++ rest) j 0 ≡ binary (take 8 (drop (8 * j) bits))
unfolding pack
pack_byte bits rest j h =
    let k = bytes_for (length bits) in
    get_or-append (packed k bits) rest 0 j (omega (arith, length-packed k bits)) ∙ packed_at k bits j h

-- sample i of packed samples is the i-th of them
sample_pack : (bits : List Bool) (rest : List ℕ) (i : ℕ) → i < length bits → sample_at (pack bits ++ rest) i ≡ get_or bits i false
unfolding sample_at bytes_for
sample_pack bits rest i h =
    let j = i / 8 in
    let r = i % 8 in
    let e : 8 * j + r ≡ i = omega arith in
    ap (bit_of r) (pack_byte bits rest j (omega arith))
    ∙ bit-binary (take 8 (drop (8 * j) bits)) r
    ∙ get_or-take 8 (drop (8 * j) bits) r false (omega arith)
    ∙ get_or-drop (8 * j) bits r false
    ∙ ap (λ (n : ℕ). get_or bits n false) e

samples_front : (bits : List Bool) (rest : List ℕ) (n : ℕ) → n ≤ length bits → samples (pack bits ++ rest) n ≡ take n bits
unfolding samples
samples_front bits rest zero h = refl
samples_front bits rest (suc n) h =
    rw (samples_front bits rest n (omega arith), sample_pack bits rest n (omega arith)) (sym (take-suc bits n false h))

pub samples-pack : (bits : List Bool) (rest : List ℕ) → samples (pack bits ++ rest) (length bits) ≡ bits
samples-pack bits rest = samples_front bits rest (length bits) (omega arith) ∙ take_all (length bits) bits (omega arith)

pub samples-packed : (bits : List Bool) → samples (pack bits) (length bits) ≡ bits
samples-packed bits = rw append-nil at (samples-pack bits [])

-- ---- Writing

pub write_past : (bytes : List ℕ) (i : ℕ) (b : Bool) → length bytes ≤ i / 8 → bytes ≡ with_sample bytes i b
unfolding with_sample
write_past bytes i b h = sym (set_out bytes (i / 8) _ h)

pub write_stored : (bytes : List ℕ) (i : ℕ) (b : Bool) {v : ℕ} → v ≡ with_bit (i % 8) (get_or bytes (i / 8) 0) b
    → set bytes (i / 8) v ≡ with_sample bytes i b
unfolding with_sample
write_stored bytes i b e = ap (set bytes (i / 8)) e

-- up to eight samples are one byte
pub pack-few : (bits : List Bool) → 0 < length bits → length bits ≤ 8 → pack bits ≡ binary bits ∷ []
unfolding pack bytes_for packed
pack-few bits some few =
    let e : (length bits + 7) / 8 ≡ 1 = omega arith in
    rw (e, take_all 8 bits few)

-- the first eight samples are the first byte
pub pack_chunk : (bits : List Bool) → 8 ≤ length bits → pack bits ≡ binary (take 8 bits) ∷ pack (drop 8 bits)
unfolding pack bytes_for packed
pack_chunk bits h =
    let e : (length bits + 7) / 8 ≡ suc ((length (drop 8 bits) + 7) / 8) = omega (arith, length-drop 8 bits) in
    rw e

into_chunk : (x : ℕ) (out : List ℕ) (bits : List Bool) → 8 ≤ length bits
    → packed_into (x ∷ out) bits ≡ binary (take 8 bits) ∷ packed_into out (drop 8 bits)
unfolding packed_into bytes_for
into_chunk x out bits h =
    let e : (length bits + 7) / 8 ≡ suc ((length (drop 8 bits) + 7) / 8) = omega (arith, length-drop 8 bits) in
    rw (pack_chunk bits h, e)

into_few : (x : ℕ) (out : List ℕ) (b : Bool) (bs : List Bool) → length bs < 8 → packed_into (x ∷ out) (b ∷ bs) ≡ binary (b ∷ bs) ∷ out
unfolding packed_into bytes_for
into_few x out b bs h =
    let e : (suc (length bs) + 7) / 8 ≡ 1 = omega arith in
    rw (pack-few (b ∷ bs) (omega arith) (omega arith), e)

with_chunk : (x : ℕ) (out : List ℕ) (n m : ℕ) (b : Bool) → n ≡ m + 8 → with_sample (x ∷ out) n b ≡ x ∷ with_sample out m b
unfolding with_sample
with_chunk x out n m b h =
    let at = next_byte n m h in
    rw (at.0, at.1)

with_few : (x : ℕ) (out : List ℕ) (n : ℕ) (b : Bool) → n < 8 → with_sample (x ∷ out) n b ≡ with_bit n x b ∷ out
unfolding with_sample
with_few x out n b h =
    let at = first_byte n h in
    rw (at.0, at.1)

into_first : (x : ℕ) (out : List ℕ) (b : Bool) → with_sample (packed_into (x ∷ out) []) 0 b ≡ packed_into (x ∷ out) (b ∷ [])
unfolding packed_into pack bytes_for packed with_sample with_bit binary
into_first x out b = let v : x % 1 + digit b * 1 ≡ digit b + 2 * 0 = omega arith in rw v

-- the output holds the samples before; q is the byte of the next
next_at : (q : ℕ) (bits : List Bool) (out : List ℕ) (b : Bool) → length bits / 8 ≡ q → q < length out
    → with_sample (packed_into out bits) (length bits) b ≡ packed_into out (bits ++ (b ∷ []))
next_at zero bits [] b e h = absurd (omega arith)
next_at zero [] (x ∷ out) b e h = into_first x out b
next_at zero (a ∷ bs) (x ∷ out) b e h =
    let few : length bs < 7 = omega arith in
    let more : length (bs ++ (b ∷ [])) < 8 = omega (arith, length-append bs (b ∷ [])) in
    rw (into_few x out a bs (omega arith), with_few (binary (a ∷ bs)) out (length (a ∷ bs)) b (omega arith), with_bit_lem (a ∷ bs) b)
    (sym (into_few x out a (bs ++ (b ∷ [])) more))
next_at (suc q) bits [] b e h = absurd (omega arith)
next_at (suc q) bits (x ∷ out) b e h =
    let whole : 8 ≤ length bits = omega arith in
    let rest : length (drop 8 bits) ≡ length bits - 8 = length-drop 8 bits in
    let more : 8 ≤ length (bits ++ (b ∷ [])) = omega (arith, length-append bits (b ∷ [])) in
    let ih = next_at q (drop 8 bits) out b (omega arith) (omega arith) in
    rw (
      into_chunk x out bits whole,
      with_chunk (binary (take 8 bits)) (packed_into out (drop 8 bits)) (length bits) (length (drop 8 bits)) b (omega arith),
      ih,
      into_chunk x out (bits ++ (b ∷ [])) more,
      take-append-le 8 bits (b ∷ []) whole,
      drop-append-le 8 bits (b ∷ []) whole,
    )

pub write_next : (bits : List Bool) (out : List ℕ) (b : Bool) → length bits / 8 < length out
    → with_sample (packed_into out bits) (length bits) b ≡ packed_into out (bits ++ (b ∷ []))
write_next bits out b h = next_at (length bits / 8) bits out b refl h

-- a loop that writes samples in order: its start, a turn, its end
pub into_start : (out : List ℕ) → out ≡ packed_into out []
unfolding packed_into pack bytes_for packed
into_start out = refl

pub into_more : (out : List ℕ) (bits : List Bool) (i : ℕ) → i < length bits → bytes_for (length bits) ≤ length out
    → with_sample (packed_into out (take i bits)) i (get_or bits i false) ≡ packed_into out (take (i + 1) bits)
unfolding bytes_for
into_more out bits i h fits =
    let n : length (take i bits) ≡ i = length-take-le i bits (omega arith) in
    ap (λ (k : ℕ). with_sample (packed_into out (take i bits)) k (get_or bits i false)) (sym n)
    ∙ write_next (take i bits) out (get_or bits i false) (omega (arith, n))
    ∙ ap (packed_into out) (sym (take-suc bits i false h) ∙ ap (λ (k : ℕ). take k bits) (sym (add-one i)))

pub length_into : (out : List ℕ) (bits : List Bool) → bytes_for (length bits) ≤ length out → length (packed_into out bits) ≡ length out
unfolding packed_into
length_into out bits fits =
    omega (arith, length-append (pack bits) (drop (bytes_for (length bits)) out), length-pack bits, length-drop (bytes_for (length bits)) out)
