-- Laws of the header at a place of a program of a sort, one for each way through the code:
--   header_cut        7
--   header-kinds      8, of the number of parameters and the kinds byte
--   header-guard      8, of the guard byte
--   header-length     9
--   header-found      a header
--   header_is         what a header that was found meets
--   header-fault      its number of parameters and its kinds byte are not refused
--   header_guarded    nor its guard byte
--   header-size       nor its body length
--   header_bounds     a header has four or five bytes
use mathlib.Core.Path.{◌≡◌, refl, sym, ap, ◌∙◌}
use mathlib.Core.Bool.{Bool, true, false, cond, ◌||◌}
use mathlib.Core.List.{List, [], ◌∷◌}
use Prim.Native.Nat.{ℕ, ◌+◌, ◌-◌, ◌<◌, ◌≤◌}
use native.Mathlib.Omega.{arith}
use lib.ListN.{length, get_or, drop, length-drop}
use lib.Seq.{get_or-drop}
use lib.Dec.{ltb}
use borrow.Author.Tests.{lt-ltb, le-ltb, ltb-false}
use Rattle.std.specs.Prelude.{Result, Ok, Err}
use Rattle.refusal.specs.declared.Refusal.{Refusal}
use Rattle.refusal.specs.declared.Refusal.TheVariants.{HeaderCut, ParameterKinds, BodyLength}
use Rattle.encoding.specs.{from_low}
use Rattle.semantics.specs.declared.Sort.{Sort}
use Rattle.semantics.specs.declared.Sort.TheVariants.{One, Two}
use Rattle.syntax.specs.declared.Header.{Header}
use Rattle.syntax.specs.Bytes.{header_bytes, guard_byte_in, kinds_fault, guard_fault, length_fault, body_length, header_of}

pub header_bounds : (s : Sort) → (4 ≤ header_bytes s) × (header_bytes s ≤ 5)
header_bounds One = (omega arith, omega arith)
header_bounds Two = (omega arith, omega arith)

-- the tests of `header_of` on what was read
abbrev judged : ℕ → ℕ → ℕ → ℕ → ℕ → ℕ → Result Header Refusal
judged remains size params kinds guard n =
    cond (ltb remains size) (Err HeaderCut)
    (cond (kinds_fault params kinds || guard_fault kinds guard) (Err ParameterKinds)
    (cond (length_fault n (remains - size)) (Err BodyLength)
    (Ok (record { params = params; kinds = kinds; guard = guard; length = n }))))

module _ (bytes : List ℕ) (at : ℕ) (s : Sort) {size : ℕ} (sized : size ≡ header_bytes s) where
  byte_at : (i j : ℕ) → i ≡ at + j → get_or (drop at bytes) j 0 ≡ get_or bytes i 0
  byte_at i j e = get_or-drop at bytes j 0 ∙ ap (λ (n : ℕ). get_or bytes n 0) (sym e)

  read_at : header_of s (drop at bytes)
      ≡ judged (length bytes - at) size (get_or bytes at 0) (get_or bytes (at + 1) 0) (guard_byte_in s (drop at bytes))
      (from_low (get_or bytes (at + size - 2) 0 ∷ get_or bytes (at + size - 1) 0 ∷ []))
  unfolding header_of
  read_at =
      let low : at + size - 2 ≡ at + (header_bytes s - 2) = omega (arith, header_bounds s, sized) in
      let high : at + size - 1 ≡ at + (header_bytes s - 1) = omega (arith, header_bounds s, sized) in
      rw (
        length-drop at bytes,
        byte_at at 0 (omega arith),
        byte_at (at + 1) 1 refl,
        byte_at _ (header_bytes s - 2) low,
        byte_at _ (header_bytes s - 1)
            high,
        ← sized,
      )

  pub header_cut : length bytes - at < size → Err HeaderCut ≡ header_of s (drop at bytes)
  header_cut h = rw (read_at, lt-ltb _ _ h)

  module _ (long : size ≤ length bytes - at) where
    pub header-kinds : {b : Bool} → b ≡ kinds_fault (get_or bytes at 0) (get_or bytes (at + 1) 0) → b ≡ true
        → Err ParameterKinds ≡ header_of s (drop at bytes)
    header-kinds e t = rw (read_at, le-ltb _ _ long, sym e ∙ t)

    module _ {b : Bool} (e : b ≡ kinds_fault (get_or bytes at 0) (get_or bytes (at + 1) 0)) (t : b ≡ false) {g : ℕ}
        (read : g ≡ guard_byte_in s (drop at bytes)) where
      pub header-guard : {c : Bool} → c ≡ guard_fault (get_or bytes (at + 1) 0) g → c ≡ true → Err ParameterKinds ≡ header_of s (drop at bytes)
      header-guard q u = rw (read_at, le-ltb _ _ long, sym e ∙ t, ← read, sym q ∙ u)

      module _ {c : Bool} (q : c ≡ guard_fault (get_or bytes (at + 1) 0) g) (u : c ≡ false) {n : ℕ}
          (two : n ≡ from_low (get_or bytes (at + size - 2) 0 ∷ get_or bytes (at + size - 1) 0 ∷ [])) where
        pub header-length : {d : Bool} → d ≡ length_fault n (length bytes - at - size) → d ≡ true → Err BodyLength ≡ header_of s (drop at bytes)
        header-length p v = rw (read_at, le-ltb _ _ long, sym e ∙ t, ← read, sym q ∙ u, ← two, sym p ∙ v)

        pub header-found : {d : Bool} → d ≡ length_fault n (length bytes - at - size) → d ≡ false
            → Ok (record { params = get_or bytes at 0; kinds = get_or bytes (at + 1) 0; guard = g; length = n }) ≡ header_of s (drop at bytes)
        header-found p v = rw (read_at, le-ltb _ _ long, sym e ∙ t, ← read, sym q ∙ u, ← two, sym p ∙ v)

-- a header that was found at the front of some bytes
pub record HeaderIs (s : Sort) (bs : List ℕ) (h : Header) : Type 0 where
  pub long : header_bytes s ≤ length bs
  pub same : h ≡ record { params = get_or bs 0 0; kinds = get_or bs 1 0; guard = guard_byte_in s bs; length = body_length s bs }
  pub kinds : kinds_fault (get_or bs 0 0) (get_or bs 1 0) ≡ false
  pub guard : guard_fault (get_or bs 1 0) (guard_byte_in s bs) ≡ false
  pub size : length_fault (body_length s bs) (length bs - header_bytes s) ≡ false

-- 0 where a header was found, else 1; and the header
abbrev missing : Result Header Refusal → ℕ
missing (Ok h) = 0
missing (Err f) = 1

abbrev found_in : Header → Result Header Refusal → Header
found_in z (Ok h) = h
found_in z (Err f) = z

module _ (s : Sort) (bs : List ℕ) (h : Header) where
  pub header_is : header_of s bs ≡ Ok h → HeaderIs s bs h
  unfolding header_of
  header_is e =
      go
      (ltb (length bs) (header_bytes s))
      (kinds_fault (get_or bs 0 0) (get_or bs 1 0))
      (guard_fault (get_or bs 1 0) (guard_byte_in s bs))
      (length_fault (body_length s bs) (length bs - header_bytes s))
      refl
      refl
      refl
      refl
      e
    where
      go : (a b c d : Bool) → ltb (length bs) (header_bytes s) ≡ a → kinds_fault (get_or bs 0 0) (get_or bs 1 0) ≡ b
          → guard_fault (get_or bs 1 0) (guard_byte_in s bs) ≡ c → length_fault (body_length s bs) (length bs - header_bytes s) ≡ d
          → cond a (Err HeaderCut)
          (cond (b || c) (Err ParameterKinds)
          (cond d (Err BodyLength)
          (Ok (record { params = get_or bs 0 0; kinds = get_or bs 1 0; guard = guard_byte_in s bs; length = body_length s bs }))))
          ≡ Ok h → HeaderIs s bs h
      go true b c d p q r t e = let z : ◌≡◌ {A = ℕ} 1 0 = ap missing e in absurd (omega arith)
      go false true c d p q r t e = let z : ◌≡◌ {A = ℕ} 1 0 = ap missing e in absurd (omega arith)
      go false false true d p q r t e = let z : ◌≡◌ {A = ℕ} 1 0 = ap missing e in absurd (omega arith)
      go false false false true p q r t e = let z : ◌≡◌ {A = ℕ} 1 0 = ap missing e in absurd (omega arith)
      go false false false false p q r t e =
          record { long = ltb-false _ _ p; same = sym (ap (found_in h) e); kinds = q; guard = r; size = t }

  module _ (is : HeaderIs s bs h) where
    pub header-fault : kinds_fault h.params h.kinds ≡ false
    header-fault = rw is.same is.kinds

    pub header_guarded : guard_fault h.kinds h.guard ≡ false
    header_guarded = rw is.same is.guard

    pub header-size : length_fault h.length (length bs - header_bytes s) ≡ false
    header-size = rw is.same is.size
