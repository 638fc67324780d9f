-- Laws of the bits above the last sample:
--   padding_whole, padding_told, padding_past     what the test comes to, one law for each way through it
--   pack_clean, packed_clean             of packed samples none is set, whatever follows them
--   clean_packed                         bytes of the right length with none set are the packing of their samples
--   clean_exactly                        so of such bytes none is set exactly when they are that packing
use mathlib.Core.Path.{◌≡◌, refl, sym, ap, ◌∙◌}
use mathlib.Core.Logic.{◌↔◌}
use mathlib.Core.Bool.{Bool, true, false, not}
use mathlib.Core.List.{List, [], ◌∷◌, ◌++◌, append-nil, append_assoc}
use Prim.Native.Nat.{ℕ, zero, suc, ◌+◌, ◌*◌, ◌-◌, ◌/◌, ◌%◌, ◌^◌, ◌<◌, ◌≤◌}
use native.Mathlib.Nat.{div-eq_of_lt, zero-div, mod-eq_of_lt}
use native.Mathlib.Omega.{arith}
use lib.Dec.{eqb, ltb}
use lib.ListN.{length, get_or, take, drop, length-drop, drop_of_length-le, get_or-eq_default}
use lib.Pow.{mod-pow-add, split}
use lib.Seq.{take_all, take_at, drop_at}
use borrow.Author.Tests.{eqb-true, eqb-false, eq-eqb, ne_eqb, ltb-true, ltb-false, not-false}
use Rattle.trace.specs.{bit_of, sample_at, samples, digit, binary, bytes_for, packed, pack, padding_set}
use Rattle.trace.proofs.Bits.{binary-bound, binary_snoc}
use Rattle.trace.proofs.Packing.{next_byte, first_byte, length-samples, pack_byte, pack-few, pack_chunk}

-- ---- The test

module _ (bytes : List ℕ) (n : ℕ) where
  pub padding_whole : n % 8 ≡ 0 → padding_set bytes n ≡ false
  unfolding padding_set
  padding_whole e = rw (eq-eqb (n % 8) 0 e)

  pub padding_told : (n % 8 ≡ 0 → ⊥) → padding_set bytes n ≡ not (eqb (get_or bytes (n / 8) 0 / 2 ^ (n % 8)) 0)
  unfolding padding_set
  padding_told h = rw (ne_eqb (n % 8) 0 h)

  pub padding_past : (n % 8 ≡ 0 → ⊥) → length bytes ≤ n / 8 → padding_set bytes n ≡ false
  padding_past some h = padding_told some ∙ rw (get_or-eq_default bytes 0 h, zero-div (2 ^ (n % 8)))

-- the byte after the first is the first of the others
padding_next : (b : ℕ) (bs : List ℕ) (n m : ℕ) → n ≡ m + 8 → padding_set (b ∷ bs) n ≡ padding_set bs m
unfolding padding_set
padding_next b bs n m h =
    let at = next_byte n m h in
    rw (at.0, at.1)

-- ---- Packed samples

module _ (bits : List Bool) (rest : List ℕ) where
  abbrev count : ℕ
  count = length bits

  -- the last samples, in a byte of their own
  last-few : (count % 8 ≡ 0 → ⊥) → length (take 8 (drop (8 * (count / 8)) bits)) ≡ count % 8
  last-few some =
      let left = drop (8 * (count / 8)) bits in
      let size : length left ≡ count % 8 = length-drop (8 * (count / 8)) bits ∙ omega arith in
      ap length (take_all 8 left (omega arith)) ∙ size

  last_clean : (count % 8 ≡ 0 → ⊥) → get_or (pack bits ++ rest) (count / 8) 0 / 2 ^ (count % 8) ≡ 0
  unfolding bytes_for
  last_clean some =
      let last = take 8 (drop (8 * (count / 8)) bits) in
      rw (pack_byte bits rest (count / 8) (omega arith)) (div-eq_of_lt (rw (last-few some) at (binary-bound last)))

  pub pack_clean : padding_set (pack bits ++ rest) count ≡ false
  pack_clean = go (eqb (count % 8) 0) refl
    where
      go : (b : Bool) → eqb (count % 8) 0 ≡ b → padding_set (pack bits ++ rest) count ≡ false
      go true e = padding_whole (pack bits ++ rest) count (eqb-true (count % 8) 0 e)
      go false e =
          let some = eqb-false (count % 8) 0 e in
          padding_told (pack bits ++ rest) count some ∙ rw (last_clean some)

pub packed_clean : (bits : List Bool) → padding_set (pack bits) (length bits) ≡ false
packed_clean bits = rw append-nil at (pack_clean bits [])

-- ---- Bytes of the right length

digit-bit : (k byte : ℕ) → digit (bit_of k byte) ≡ byte / 2 ^ k % 2
unfolding bit_of
digit-bit k byte = go (eqb (byte / 2 ^ k % 2) 1) refl
  where
    go : (b : Bool) → eqb (byte / 2 ^ k % 2) 1 ≡ b → digit b ≡ byte / 2 ^ k % 2
    go true e = sym (eqb-true (byte / 2 ^ k % 2) 1 e)
    go false e = let not : byte / 2 ^ k % 2 ≡ 1 → ⊥ = eqb-false (byte / 2 ^ k % 2) 1 e in omega arith

module _ (b : ℕ) (bs : List ℕ) where
  -- up to eight samples are those of the first byte
  first_sample : (m : ℕ) → m < 8 → sample_at (b ∷ bs) m ≡ bit_of m b
  unfolding sample_at
  first_sample m h =
      let at = first_byte m h in
      rw (at.0, at.1)

  first-binary : (m : ℕ) → m ≤ 8 → binary (samples (b ∷ bs) m) ≡ b % 2 ^ m
  unfolding samples binary
  first-binary zero h = omega arith
  first-binary (suc m) h =
      let low = first-binary m (omega arith) in
      let high : digit (sample_at (b ∷ bs) m) ≡ b / 2 ^ m % 2 = ap digit (first_sample m (omega arith)) ∙ digit-bit m b in
      let next : suc m ≡ 1 + m = omega arith in
      let whole : b % 2 ^ (1 + m) ≡ b / 2 ^ m % 2 * 2 ^ m + b % 2 ^ m = mod-pow-add b 1 m in
      binary_snoc (samples (b ∷ bs) m) (sample_at (b ∷ bs) m)
      ∙ rw (length-samples (b ∷ bs) m, low, high, ap (λ (k : ℕ). b % 2 ^ k) next, whole) (omega arith)

  -- the samples after the first eight are those of the other bytes
  next_sample : (n m : ℕ) → n ≡ m + 8 → sample_at (b ∷ bs) n ≡ sample_at bs m
  unfolding sample_at
  next_sample n m h =
      let at = next_byte n m h in
      rw (at.0, at.1)

  next_samples : (n m : ℕ) → n ≡ m + 8 → samples (b ∷ bs) n ≡ samples (b ∷ bs) 8 ++ samples bs m
  unfolding samples
  next_samples n zero h = rw (h, append-nil)
  next_samples zero (suc m) h = absurd (omega arith)
  next_samples (suc n) (suc m) h =
      rw (next_samples n m (omega arith), next_sample n m (omega arith)) (append_assoc (samples (b ∷ bs) 8) (samples bs m) (sample_at bs m ∷ []))

none_packed : [] ≡ pack (samples [] 0)
unfolding pack bytes_for packed samples
none_packed = refl

-- a byte whose bits above the n-th are 0
low_byte : (b : ℕ) (bs : List ℕ) (n : ℕ) → 0 < n → n < 8 → padding_set (b ∷ bs) n ≡ false → b % 2 ^ n ≡ b
low_byte b bs n some few clean =
    let at = first_byte n few in
    let told : not (eqb (b / 2 ^ n) 0) ≡ false = rw (at.0, at.1) at (sym (padding_told (b ∷ bs) n (λ e. omega arith)) ∙ clean) in
    let above : b / 2 ^ n ≡ 0 = eqb-true (b / 2 ^ n) 0 (not-false (eqb (b / 2 ^ n) 0) told) in
    let whole : 0 * 2 ^ n + b % 2 ^ n ≡ b = rw above at (split b n) in
    omega arith

pub clean_packed : (bytes : List ℕ) (n : ℕ) → ((i : ℕ) → get_or bytes i 0 < 256) → length bytes ≡ bytes_for n → padding_set bytes n ≡ false
    → bytes ≡ pack (samples bytes n)
unfolding bytes_for
clean_packed [] n are size clean = let none : n ≡ 0 = omega arith in rw none none_packed
clean_packed (b ∷ bs) n are size clean =
    go (ltb n 8) refl (λ long. clean_packed bs (n - 8) (λ i. are (suc i)) (omega arith) (sym (padding_next b bs n (n - 8) (omega arith)) ∙ clean))
  where
    few : 0 < n → n < 8 → b ∷ bs ≡ pack (samples (b ∷ bs) n)
    few some h =
        let bits = samples (b ∷ bs) n in
        let k : length bits ≡ n = length-samples (b ∷ bs) n in
        ap (λ (l : List ℕ). b ∷ l) (drop_of_length-le bs {i = 0} (omega arith))
        ∙ ap (λ (x : ℕ). x ∷ []) (sym (first-binary b bs n (omega arith) ∙ low_byte b bs n some h clean))
        ∙ sym (pack-few bits (omega arith) (omega arith))

    more : (m : ℕ) → n ≡ m + 8 → bs ≡ pack (samples bs m) → b ∷ bs ≡ pack (samples (b ∷ bs) n)
    more m h others =
        let first = samples (b ∷ bs) 8 in
        let k : length (samples (b ∷ bs) n) ≡ n = length-samples (b ∷ bs) n in
        let byte : binary first ≡ b = first-binary b bs 8 (omega arith) ∙ mod-eq_of_lt (are 0) in
        let cut : take 8 (samples (b ∷ bs) n) ≡ first =
        ap (take 8) (next_samples b bs n m h) ∙ take_at first (samples bs m) 8 (length-samples (b ∷ bs) 8) in
        let left : drop 8 (samples (b ∷ bs) n) ≡ samples bs m =
        ap (drop 8) (next_samples b bs n m h) ∙ drop_at first (samples bs m) 8 (length-samples (b ∷ bs) 8) in
        sym (pack_chunk (samples (b ∷ bs) n) (omega arith) ∙ rw (cut, left, byte, ← others))

    go : (t : Bool) → ltb n 8 ≡ t → (8 ≤ n → bs ≡ pack (samples bs (n - 8))) → b ∷ bs ≡ pack (samples (b ∷ bs) n)
    go true e others = few (omega arith) (ltb-true n 8 e)
    go false e others = let long : 8 ≤ n = ltb-false n 8 e in more (n - 8) (omega arith) (others long)

pub clean_exactly : (bytes : List ℕ) (n : ℕ) → ((i : ℕ) → get_or bytes i 0 < 256) → length bytes ≡ bytes_for n
    → (padding_set bytes n ≡ false) ↔ (bytes ≡ pack (samples bytes n))
clean_exactly bytes n are size = (clean_packed bytes n are size, clean)
  where
    clean : bytes ≡ pack (samples bytes n) → padding_set bytes n ≡ false
    clean e = ap (λ (l : List ℕ). padding_set l n) e ∙ (rw (length-samples bytes n) at (packed_clean (samples bytes n)))
