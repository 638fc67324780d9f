-- The functions that were found by their headers, and where they stand:
--   RawAt, RawsAre, raws_are             what is known of functions that were read one after the other
--   AllSound, all_sound                  their headers are not refused, and their bodies as long as these say
--   outline_means                        their outline is that of the program they are read as
--   outline_params, outline_kinds, outline_guards, outline_starts, outline_ends   what stands in it at each place
--   there, get_or_mapped                   an element of a list by its place, and its image
--   params_at, kinds_at, guards_at       what stands in the outline of a program for each function
--   placed                               each of them lies within the program
--   raw_frame, framed, fitting            the check of each works on a frame that fits it
use Rattle.refusal.specs.declared.Refusal.{Refusal}
use Rattle.std.specs.Prelude.{Err, Ok, Result}
use mathlib.Core.Path.{◌≡◌, refl, sym, ap, ◌∙◌}
use mathlib.Core.List.{List, [], ◌∷◌, map, map-map}
use mathlib.Core.Option.{some}
use Prim.Native.Nat.{ℕ, zero, suc, ◌+◌, ◌-◌, ◌<◌, ◌≤◌}
use native.Mathlib.Omega.{arith}
use lib.ListN.{length, get_elem?, get_or, take, drop, length-drop, length-map}
use lib.Seq.{drop-drop}
use Rattle.semantics.specs.declared.Sort.{Sort}
use Rattle.semantics.specs.Language.{Function, Program}
use Rattle.syntax.specs.declared.Header.{Header}
use Rattle.syntax.specs.Limits.{most_functions, most_params, most_bytes}
use Rattle.rule.specs.Form.{encode_expr, padded, kinds_byte, guard_byte}
use Rattle.syntax.specs.Bytes.{header_bytes, header_of}
use Rattle.rule.specs.Reading.{got, onward, Raw, raw_from, raws_from, functions_from, headers, apart}
use Rattle.rule.specs.Outline.{starts_from, ends_from, outline_of}
use Rattle.rule.specs.Walk.{Frame, frame_at, Placed, raw_starts, raw_ends, raw_outline}
use Rattle.rule.proofs.Padded.{get_or-padded}
use Rattle.syntax.proofs.HeaderWays.{header_is, header-size}
use Rattle.rule.proofs.Scanning.{end_of, size_fits}
use Rattle.rule.proofs.Parsing.{not-got, got_inv, Onward, by, onward_inv}
use Rattle.rule.proofs.Expressions.{place-below}
use Rattle.rule.proofs.FunctionBytes.{raw_for, Sound, raw_at, found-sound, bodies_read, bodies_heads, bodies_back}
use Rattle.rule.proofs.KindBytes.{kinds-few}
use Rattle.rule.proofs.WalkMeaning.{Framed}
use Rattle.rule.proofs.BodyMeaning.{Fitting}

-- ---- Functions read one after the other

-- function i of some, the first header at `at`
pub record RawAt (s : Sort) (bytes : List ℕ) (at : ℕ) (xs : List Raw) (i : ℕ) (x : Raw) : Type 0 where
  pub sound : Sound s x
  pub ordered : get_or (raw_starts s at xs) i 0 ≤ get_or (raw_ends s at xs) i 0
  pub within : get_or (raw_ends s at xs) i 0 ≤ length bytes
  pub body : x.body ≡ take (get_or (raw_ends s at xs) i 0 - get_or (raw_starts s at xs) i 0) (drop (get_or (raw_starts s at xs) i 0) bytes)

pub record RawsAre (s : Sort) (bytes : List ℕ) (n at : ℕ) (xs : List Raw) (rest : List ℕ) : Type 0 where
  pub count : length xs ≡ n
  pub each : (i : ℕ) (x : Raw) → get_elem? xs i ≡ some x → RawAt s bytes at xs i x
  pub after : rest ≡ drop (end_of s at xs) bytes
  pub within : end_of s at xs ≤ length bytes

-- the first of them
record First (s : Sort) (bytes : List ℕ) (at : ℕ) (x : Raw) (r : List ℕ) : Type 0 where
  sound : Sound s x
  within : at + header_bytes s + x.header.length ≤ length bytes
  body : x.body ≡ take x.header.length (drop (at + header_bytes s) bytes)
  after : r ≡ drop (at + header_bytes s + x.header.length) bytes

module _ (s : Sort) (bytes : List ℕ) where
  found_first : (at : ℕ) → at ≤ length bytes → (h : Header) → header_of s (drop at bytes) ≡ Ok h
      → First s bytes at (raw_at s (drop at bytes) h) (drop h.length (drop (header_bytes s) (drop at bytes)))
  found_first at l h e =
      let is = header_is s (drop at bytes) h e in
      let size = size_fits h.length (length (drop at bytes) - header_bytes s) (header-size s (drop at bytes) h is) in
      record {
        sound = found-sound s (drop at bytes) h e;
        within = omega (arith, size.1, is.long, length-drop at bytes);
        body = ap (take h.length) (drop-drop (header_bytes s) at bytes);
        after = ap (drop h.length) (drop-drop (header_bytes s) at bytes) ∙ drop-drop h.length (at + header_bytes s) bytes;
      }

  first_is : (at : ℕ) → at ≤ length bytes → (read : Result Header Refusal) → header_of s (drop at bytes) ≡ read → (x : Raw) (r : List ℕ)
      → raw_from s read (drop at bytes) ≡ got x r → First s bytes at x r
  first_is at l (Ok h) e x r q = let same = got_inv q in rw (same.0, same.1) (found_first at l h e)
  first_is at l (Err f) e x r q = absurd (not-got q)

  none_are : (at : ℕ) → at ≤ length bytes → RawsAre s bytes 0 at [] (drop at bytes)
  unfolding end_of
  none_are at l = record { count = refl; each = λ i x e. let z : i < 0 = place-below [] i x e in absurd (omega arith); after = refl; within = l }

  more_are : (n at : ℕ) (x : Raw) (r : List ℕ) (xs : List Raw) (rest : List ℕ) → First s bytes at x r
      → RawsAre s bytes n (at + header_bytes s + x.header.length) xs rest → RawsAre s bytes (suc n) at (x ∷ xs) rest
  unfolding raw_starts raw_ends end_of
  more_are n at x r xs rest f more = record { count = ap suc more.count; each = go; after = more.after; within = more.within }
    where
      first : RawAt s bytes at (x ∷ xs) 0 x
      first =
          let size : at + header_bytes s + x.header.length - (at + header_bytes s) ≡ x.header.length = omega arith in
          record { sound = f.sound; ordered = omega arith; within = f.within; body = rw size f.body }

      go : (i : ℕ) (y : Raw) → get_elem? (x ∷ xs) i ≡ some y → RawAt s bytes at (x ∷ xs) i y
      go zero y e = let same : y ≡ x = cc in rw same first
      go (suc i) y e = let m = more.each i y e in record { sound = m.sound; ordered = m.ordered; within = m.within; body = m.body }

  pub raws_are : (n at : ℕ) (xs : List Raw) (rest : List ℕ) → at ≤ length bytes → raws_from s n (drop at bytes) ≡ got xs rest
      → RawsAre s bytes n at xs rest
  unfolding raws_from
  raws_are zero at xs rest l q = let same = got_inv q in rw (same.0, same.1) (none_are at l)
  raws_are (suc n) at xs rest l q = one (λ to. raws_are n to) (onward_inv (raw_from s (header_of s (drop at bytes)) (drop at bytes)) _ xs rest q)
    where
      More : Type 0
      More = (to : ℕ) (ys : List Raw) (t : List ℕ) → to ≤ length bytes → raws_from s n (drop to bytes) ≡ got ys t → RawsAre s bytes n to ys t

      all : (x : Raw) (r : List ℕ) → First s bytes at x r → More → Onward (raws_from s n r) (λ ys t. got (x ∷ ys) t) xs rest
          → RawsAre s bytes (suc n) at xs rest
      all x r f more (by ys t p k) =
          let same = got_inv k in
          rw (same.0, same.1)
          (more_are n at x r ys t f (more (at + header_bytes s + x.header.length) ys t f.within (rw f.after at p)))

      one : More
          → Onward (raw_from s (header_of s (drop at bytes)) (drop at bytes)) (λ x r. onward (raws_from s n r) (λ ys t. got (x ∷ ys) t)) xs rest
          → RawsAre s bytes (suc n) at xs rest
      one more (by x r p k) = all x r (first_is at l (header_of s (drop at bytes)) refl x r p) more (onward_inv (raws_from s n r) _ xs rest k)

-- ---- The program they are read as

-- every one of them is sound
abbrev pub AllSound : Sort → List Raw → Type 0
AllSound s xs = (i : ℕ) (x : Raw) → get_elem? xs i ≡ some x → Sound s x

module _ (s : Sort) where
  starts_for : (P : Program) (at : ℕ) → raw_starts s at (map raw_for P) ≡ starts_from s at P
  unfolding raw_starts starts_from
  starts_for [] at = refl
  starts_for (f ∷ P) at = rw (starts_for P (at + header_bytes s + length (encode_expr f.body)))

  ends_for : (P : Program) (at : ℕ) → raw_ends s at (map raw_for P) ≡ ends_from s at P
  unfolding raw_ends ends_from
  ends_for [] at = refl
  ends_for (f ∷ P) at = rw (ends_for P (at + header_bytes s + length (encode_expr f.body)))

  -- the headers and bodies that a program is written as have its outline
  outline_for : (P : Program) → raw_outline s (map raw_for P) ≡ outline_of s P
  unfolding raw_outline outline_of
  outline_for P =
      λ i. record {
        functions = length-map P raw_for i;
        params = padded most_functions 0 (map-map (λ (x : Raw). x.header.params) raw_for P i);
        kinds = padded most_functions 0 (map-map (λ (x : Raw). x.header.kinds) raw_for P i);
        guards = padded most_functions 0 (map-map (λ (x : Raw). x.header.guard) raw_for P i);
        starts = padded most_functions 0 (starts_for P 1 i);
        ends = padded most_functions 0 (ends_for P 1 i);
      }

  pub outline_means : (xs : List Raw) (P : Program) (rest : List ℕ) → AllSound s xs → functions_from apart s (headers xs) xs ≡ got P rest
      → raw_outline s xs ≡ outline_of s P
  outline_means xs P rest sound q =
      let bodies = (bodies_read s (headers xs) xs P rest q).0 in
      ap (raw_outline s) (bodies_back s P (headers xs) (bodies_heads bodies) sound bodies) ∙ outline_for P

-- ---- Where they stand

-- an element below the length is there
pub there : {A : Type 0} (l : List A) (i : ℕ) → i < length l → (a : A) × (get_elem? l i ≡ some a)
there [] i h = absurd (omega arith)
there (x ∷ l) zero h = (x, refl)
there (x ∷ l) (suc i) h = there l i (omega arith)

-- an element of a list of images is an image
mapped : {A B : Type 0} (f : A → B) (l : List A) (i : ℕ) (b : B) → get_elem? (map f l) i ≡ some b → (a : A) × (get_elem? l i ≡ some a) × (f a ≡ b)
mapped f [] i b e = let z : ◌≡◌ {A = ℕ} 0 1 = cc in absurd (omega arith)
mapped f (x ∷ l) zero b e = (x, refl, cc)
mapped f (x ∷ l) (suc i) b e = mapped f l i b e

pub get_or_mapped : {A B : Type 0} (f : A → B) (l : List A) (i : ℕ) (a : A) (z : B) → get_elem? l i ≡ some a → get_or (map f l) i z ≡ f a
get_or_mapped f [] i a z e = let no : ◌≡◌ {A = ℕ} 0 1 = cc in absurd (omega arith)
get_or_mapped f (x ∷ l) zero a z e = let same : x ≡ a = cc in ap f same
get_or_mapped f (x ∷ l) (suc i) a z e = get_or_mapped f l i a z e

-- the number of parameters, the kinds byte and the guard byte of each function, as its outline has them
module _ (s : Sort) (P : Program) (g : ℕ) (f : Function) (e : get_elem? P g ≡ some f) where
  at_function : (read : Function → ℕ) → get_or (padded most_functions 0 (map read P)) g 0 ≡ read f
  at_function read = get_or-padded most_functions 0 (map read P) g ∙ get_or_mapped read P g f 0 e

  pub params_at : get_or (outline_of s P).params g 0 ≡ length f.params
  unfolding outline_of
  params_at = at_function (λ (x : Function). length x.params)

  pub kinds_at : get_or (outline_of s P).kinds g 0 ≡ kinds_byte f.params f.result
  unfolding outline_of
  kinds_at = at_function (λ (x : Function). kinds_byte x.params x.result)

  pub guards_at : get_or (outline_of s P).guards g 0 ≡ guard_byte f.params f.result
  unfolding outline_of
  guards_at = at_function (λ (x : Function). guard_byte x.params x.result)

module _ (s : Sort) (xs : List Raw) (i : ℕ) where
  module _ (x : Raw) (e : get_elem? xs i ≡ some x) where
    at_raw : (read : Raw → ℕ) → get_or (padded most_functions 0 (map read xs)) i 0 ≡ read x
    at_raw read = get_or-padded most_functions 0 (map read xs) i ∙ get_or_mapped read xs i x 0 e

    pub outline_params : get_or (raw_outline s xs).params i 0 ≡ x.header.params
    unfolding raw_outline
    outline_params = at_raw (λ (y : Raw). y.header.params)

    pub outline_kinds : get_or (raw_outline s xs).kinds i 0 ≡ x.header.kinds
    unfolding raw_outline
    outline_kinds = at_raw (λ (y : Raw). y.header.kinds)

    pub outline_guards : get_or (raw_outline s xs).guards i 0 ≡ x.header.guard
    unfolding raw_outline
    outline_guards = at_raw (λ (y : Raw). y.header.guard)

  pub outline_starts : get_or (raw_outline s xs).starts i 0 ≡ get_or (raw_starts s 1 xs) i 0
  unfolding raw_outline
  outline_starts = get_or-padded most_functions 0 (raw_starts s 1 xs) i

  pub outline_ends : get_or (raw_outline s xs).ends i 0 ≡ get_or (raw_ends s 1 xs) i 0
  unfolding raw_outline
  outline_ends = get_or-padded most_functions 0 (raw_ends s 1 xs) i

-- what the check of body i works on
abbrev pub raw_frame : List ℕ → Sort → List Raw → ℕ → Frame
raw_frame bytes s xs = frame_at bytes s (raw_outline s xs)

-- how many there are
pub outline_count : (s : Sort) (xs : List Raw) → (raw_outline s xs).functions ≡ length xs
unfolding raw_outline
outline_count s xs = refl

module _ {s : Sort} {bytes : List ℕ} {n : ℕ} {xs : List Raw} {rest : List ℕ} (are : RawsAre s bytes n 1 xs rest) where
  pub all_sound : AllSound s xs
  all_sound i x e = (are.each i x e).sound

  small : (i : ℕ) (x : Raw) → get_elem? xs i ≡ some x → x.header.params ≤ most_params
  small i x e = kinds-few x.header.params x.header.kinds (all_sound i x e).kinds

  pub placed : length bytes ≤ most_bytes → length xs ≤ most_functions → Placed (length bytes) (raw_outline s xs)
  placed short few =
      record {
        short = short;
        few = rw (outline_count s xs) few;
        ordered = λ i l.
            let x = there xs i (rw (outline_count s xs) at l) in
            rw (outline_starts s xs i, outline_ends s xs i) (are.each i x.0 x.1).ordered;
        within = λ i l. let x = there xs i (rw (outline_count s xs) at l) in rw (outline_ends s xs i) (are.each i x.0 x.1).within;
        small = λ i l. let x = there xs i (rw (outline_count s xs) at l) in rw (outline_params s xs i x.0 x.1) (small i x.0 x.1);
      }

  pub framed : (i : ℕ) → Framed s (headers xs) (raw_frame bytes s xs i)
  framed i =
      record {
        sort = refl;
        count = outline_count s xs ∙ sym (length-map xs (λ (x : Raw). x.header));
        heads = λ g h e.
            let m = mapped (λ (x : Raw). x.header) xs g h e in
            let x = m.0 in (
              outline_params s xs g x m.1 ∙ ap (λ (k : Header). k.params) m.2,
              outline_kinds s xs g x m.1 ∙ ap (λ (k : Header). k.kinds) m.2,
              outline_guards s xs g x m.1 ∙ ap (λ (k : Header). k.guard) m.2,
              rw m.2 at (small g x m.1),
            );
      }

  pub fitting : (i : ℕ) (x : Raw) → get_elem? xs i ≡ some x → Fitting s (headers xs) (raw_frame bytes s xs i) x
  fitting i x e =
      record {
        framed = framed i;
        body = rw (outline_starts s xs i, outline_ends s xs i) (sym (are.each i x e).body);
        params = outline_params s xs i x e;
        kinds = outline_kinds s xs i x e;
        guard = outline_guards s xs i x e;
      }
