-- Laws of the headers of a program of a sort, read one after the other:
--   Scanned           some headers have been read: their outline, and what is left to read
--   map_snoc          the images of a list with one more element
--   scan_stopped, scan_passed   what the code answers
use Rattle.std.specs.Prelude.{Result, Ok, Err}
use mathlib.Core.Path.{◌≡◌, refl, sym, ap, ◌∙◌}
use mathlib.Core.Bool.{Bool, true, false, ◌||◌}
use mathlib.Core.List.{List, [], ◌∷◌, ◌++◌, map, append_assoc, append-nil}
use Prim.Native.Nat.{ℕ, suc, ◌+◌, ◌-◌, ◌<◌, ◌≤◌}
use native.Mathlib.Omega.{arith}
use lib.Dec.{eqb, ltb}
use lib.ListN.{length, take, drop, set, replicate, length-append, length-drop, length-map}
use lib.Seq.{drop-drop}
use borrow.Author.Tests.{ltb-false}
use Rattle.refusal.specs.declared.Refusal.{Refusal}
use Rattle.semantics.specs.declared.Sort.{Sort}
use Rattle.syntax.specs.declared.Header.{Header}
use Rattle.rule.specs.declared.Outline.{Outline}
use Rattle.rule.specs.declared.functions.Scan.{Scan}
use Rattle.syntax.specs.Limits.{most_functions, most_body}
use Rattle.rule.specs.Form.{padded}
use Rattle.syntax.specs.Bytes.{header_bytes, length_fault, header_of}
use Rattle.rule.specs.Reading.{Parsed, got, refused, onward, Raw, raws_from}
use Rattle.rule.specs.Walk.{raw_starts, raw_ends, raw_outline, scan_from}
use Rattle.rule.proofs.Padded.{set-padded}
use Rattle.syntax.proofs.HeaderWays.{header_is, header-size}

-- the place after some functions
unfoldable pub end_of : Sort → ℕ → List Raw → ℕ
end_of s at [] = at
end_of s at (x ∷ xs) = end_of s (at + header_bytes s + x.header.length) xs

module _ (s : Sort) (x : Raw) where
  end_snoc : (at : ℕ) (xs : List Raw) → end_of s at (xs ++ (x ∷ [])) ≡ end_of s at xs + header_bytes s + x.header.length
  unfolding end_of
  end_snoc at [] = refl
  end_snoc at (y ∷ ys) = end_snoc (at + header_bytes s + y.header.length) ys

  starts_snoc : (at : ℕ) (xs : List Raw) → raw_starts s at (xs ++ (x ∷ [])) ≡ raw_starts s at xs ++ ((end_of s at xs + header_bytes s) ∷ [])
  unfolding raw_starts end_of
  starts_snoc at [] = refl
  starts_snoc at (y ∷ ys) = ap (λ (l : List ℕ). (at + header_bytes s) ∷ l) (starts_snoc (at + header_bytes s + y.header.length) ys)

  ends_snoc : (at : ℕ) (xs : List Raw)
      → raw_ends s at (xs ++ (x ∷ [])) ≡ raw_ends s at xs ++ ((end_of s at xs + header_bytes s + x.header.length) ∷ [])
  unfolding raw_ends end_of
  ends_snoc at [] = refl
  ends_snoc at (y ∷ ys) =
      ap (λ (l : List ℕ). (at + header_bytes s + y.header.length) ∷ l) (ends_snoc (at + header_bytes s + y.header.length) ys)

pub length_starts : (s : Sort) (at : ℕ) (xs : List Raw) → length (raw_starts s at xs) ≡ length xs
unfolding raw_starts
length_starts s at [] = refl
length_starts s at (x ∷ xs) = ap suc (length_starts s (at + header_bytes s + x.header.length) xs)

pub length-ends : (s : Sort) (at : ℕ) (xs : List Raw) → length (raw_ends s at xs) ≡ length xs
unfolding raw_ends
length-ends s at [] = refl
length-ends s at (x ∷ xs) = ap suc (length-ends s (at + header_bytes s + x.header.length) xs)

pub map_snoc : {A B : Type 0} (f : A → B) (xs : List A) (x : A) → map f (xs ++ (x ∷ [])) ≡ map f xs ++ (f x ∷ [])
map_snoc f [] x = refl
map_snoc f (y ∷ ys) x = ap (λ (l : List _). f y ∷ l) (map_snoc f ys x)

-- the length of a body that 9 does not refuse
pub size_fits : (size remains : ℕ) → length_fault size remains ≡ false → (size ≤ most_body) × (size ≤ remains)
size_fits size remains e = go (eqb size 0) (ltb most_body size) (ltb remains size) refl refl e
  where
    go : (a b c : Bool) → ltb most_body size ≡ b → ltb remains size ≡ c → (a || (b || c)) ≡ false → (size ≤ most_body) × (size ≤ remains)
    go true b c p q e = let z : ◌≡◌ {A = ℕ} 0 1 = cc in absurd (omega arith)
    go false true c p q e = let z : ◌≡◌ {A = ℕ} 0 1 = cc in absurd (omega arith)
    go false false true p q e = let z : ◌≡◌ {A = ℕ} 0 1 = cc in absurd (omega arith)
    go false false false p q e = (ltb-false _ _ p, ltb-false _ _ q)

-- headers before i have been read: `done`, with the place after them
pub record Scanned (s : Sort) (bytes : List ℕ) (n : ℕ) (ps ks gs ss es : List ℕ) (at i : ℕ) : Type 0 where
  pub done : List Raw
  pub count : length done ≡ i
  pub below : i ≤ n
  pub within : at ≤ length bytes
  pub place : at ≡ end_of s 1 done
  pub params : ps ≡ padded most_functions 0 (map (λ (x : Raw). x.header.params) done)
  pub kinds : ks ≡ padded most_functions 0 (map (λ (x : Raw). x.header.kinds) done)
  pub guards : gs ≡ padded most_functions 0 (map (λ (x : Raw). x.header.guard) done)
  pub starts : ss ≡ padded most_functions 0 (raw_starts s 1 done)
  pub ends : es ≡ padded most_functions 0 (raw_ends s 1 done)
  pub rest : raws_from s n (drop 1 bytes) ≡ onward (raws_from s (n - i) (drop at bytes)) (λ xs r. got (done ++ xs) r)

onward_same : (p : Parsed (List Raw)) → onward p (λ xs r. got xs r) ≡ p
onward_same (got xs r) = refl
onward_same (refused f) = refl

onward-more : (done : List Raw) (x : Raw) (p : Parsed (List Raw))
    → onward (onward p (λ xs r. got (x ∷ xs) r)) (λ xs r. got (done ++ xs) r) ≡ onward p (λ xs r. got ((done ++ (x ∷ [])) ++ xs) r)
onward-more done x (got xs r) = ap (λ (l : List Raw). got l r) (sym (append_assoc done (x ∷ []) xs))
onward-more done x (refused f) = refl

-- the first header, with the bytes from it on
rest_found : (s : Sort) (m : ℕ) (bs : List ℕ) (h : Header) → header_of s bs ≡ Ok h
    → raws_from s (suc m) bs
    ≡ onward (raws_from s m (drop h.length (drop (header_bytes s) bs)))
    (λ xs r. got (record { header = h; body = take h.length (drop (header_bytes s) bs) } ∷ xs) r)
unfolding raws_from
rest_found s m bs h e = rw e

rest_refused : (s : Sort) (m : ℕ) (bs : List ℕ) (f : Refusal) → header_of s bs ≡ Err f → raws_from s (suc m) bs ≡ refused f
unfolding raws_from
rest_refused s m bs f e = rw e

-- the arrays take one more function
stored_next : {m : List ℕ} {i : ℕ} (l l' : List ℕ) (v : ℕ) → m ≡ padded most_functions 0 l → length l ≡ i → i < most_functions → l' ≡ l ++ (v ∷ [])
    → set m i v ≡ padded most_functions 0 l'
stored_next l l' v e n h q = rw (e, ← n, q) (set-padded most_functions 0 l v (rw n h))

pub scanned_start : (s : Sort) (bytes : List ℕ) (n : ℕ) → 1 ≤ length bytes
    → Scanned s bytes n (replicate 32 0) (replicate 32 0) (replicate 32 0) (replicate 32 0) (replicate 32 0) 1 0
unfolding padded raw_starts raw_ends end_of
scanned_start s bytes n h =
    let none : n - 0 ≡ n = omega arith in
    record {
      done = [];
      count = refl;
      below = omega arith;
      within = h;
      place = refl;
      params = refl;
      kinds = refl;
      guards = refl;
      starts = refl;
      ends = refl;
      rest = rw none (sym (onward_same (raws_from s n (drop 1 bytes))));
    }

module _ {s : Sort} {bytes : List ℕ} {n : ℕ} {ps ks gs ss es : List ℕ} {at i : ℕ} (u : Scanned s bytes n ps ks gs ss es at i) where
  pub scanned_stop : {f : Refusal} → i < n → header_of s (drop at bytes) ≡ Err f → raws_from s n (drop 1 bytes) ≡ refused f
  scanned_stop {f} h e =
      let more : n - i ≡ suc (n - (i + 1)) = omega arith in
      rw (more, rest_refused s (n - (i + 1)) (drop at bytes) f e) at u.rest

  pub scanned_end : n ≤ i → raws_from s n (drop 1 bytes) ≡ got u.done (drop at bytes)
  unfolding raws_from
  scanned_end h =
      let none : n - i ≡ 0 = omega arith in
      (rw none at u.rest) ∙ ap (λ (l : List Raw). got l (drop at bytes)) (append-nil u.done)

  -- the header at the next place fits
  pub next_fits : {h : Header} → header_of s (drop at bytes) ≡ Ok h
      → (h.length ≤ most_body) × (at + header_bytes s + h.length ≤ length bytes)
  next_fits {h} e =
      let is = header_is s (drop at bytes) h e in
      let size = size_fits h.length (length (drop at bytes) - header_bytes s) (header-size s (drop at bytes) h is) in
      (size.0, omega (arith, size.1, is.long, length-drop at bytes, u.within))

  module _ {h : Header} (few : n ≤ most_functions) (l : i < n) (e : header_of s (drop at bytes) ≡ Ok h) where
    pub scanned_more : Scanned s bytes n (set ps i h.params) (set ks i h.kinds) (set gs i h.guard) (set ss i (at + header_bytes s))
        (set es i (at + header_bytes s + h.length)) (at + header_bytes s + h.length) (i + 1)
    scanned_more =
        let bs = drop at bytes in
        let x : Raw = record { header = h; body = take h.length (drop (header_bytes s) bs) } in
        let more : n - i ≡ suc (n - (i + 1)) = omega arith in
        let full : i < most_functions = omega arith in
        let away : drop h.length (drop (header_bytes s) bs) ≡ drop (at + header_bytes s + h.length) bytes =
        ap (drop h.length) (drop-drop (header_bytes s) at bytes) ∙ drop-drop h.length (at + header_bytes s) bytes in
        record {
          done = u.done ++ (x ∷ []);
          count = length-append u.done (x ∷ []) ∙ ap (λ (k : ℕ). k + 1) u.count;
          below = omega arith;
          within = (next_fits e).1;
          place = ap (λ (p : ℕ). p + header_bytes s + h.length) u.place ∙ sym (end_snoc s x 1 u.done);
          params =
              stored_next _ _ h.params u.params (length-map u.done (λ (y : Raw). y.header.params) ∙ u.count) full (map_snoc _ u.done x);
          kinds =
              stored_next _ _ h.kinds u.kinds (length-map u.done (λ (y : Raw). y.header.kinds) ∙ u.count) full (map_snoc _ u.done x);
          guards =
              stored_next _ _ h.guard u.guards (length-map u.done (λ (y : Raw). y.header.guard) ∙ u.count) full (map_snoc _ u.done x);
          starts =
              stored_next _ _ (at + header_bytes s) u.starts (length_starts s 1 u.done ∙ u.count) full
              (starts_snoc s x 1 u.done ∙ ap (λ (p : ℕ). raw_starts s 1 u.done ++ ((p + header_bytes s) ∷ [])) (sym u.place));
          ends =
              stored_next _ _ (at + header_bytes s + h.length) u.ends (length-ends s 1 u.done ∙ u.count) full
              (ends_snoc s x 1 u.done ∙ ap (λ (p : ℕ). raw_ends s 1 u.done ++ ((p + header_bytes s + h.length) ∷ [])) (sym u.place));
          rest =
              (rw (more, rest_found s (n - (i + 1)) bs h e, away) at u.rest)
              ∙ onward-more u.done x (raws_from s (n - (i + 1)) (drop (at + header_bytes s + h.length) bytes));
        }

-- what the loop answers
pub scan_stopped : (s : Sort) (len : ℕ) {p : Parsed (List Raw)} {f : Refusal} → p ≡ refused f → Err f ≡ scan_from s len p
scan_stopped s len e = sym (ap (scan_from s len) e)

module _ {s : Sort} {bytes : List ℕ} {n : ℕ} {l : Outline} {at i : ℕ} (all : l.functions ≡ n)
    (u : Scanned s bytes n l.params l.kinds l.guards l.starts l.ends at i) (h : n ≤ i) where
  scan_outline : l ≡ raw_outline s u.done
  unfolding raw_outline
  scan_outline =
      let size : l.functions ≡ length u.done = omega (arith, all, u.count, u.below) in
      λ j. record { functions = size j; params = u.params j; kinds = u.kinds j; guards = u.guards j; starts = u.starts j; ends = u.ends j }

  pub scan_passed : ◌≡◌ {A = Result Scan Refusal} (Ok (record { outline = l; end = at })) (scan_from s (length bytes) (raws_from s n (drop 1 bytes)))
  scan_passed =
      let end : at ≡ length bytes - length (drop at bytes) = omega (arith, u.within, length-drop at bytes) in
      (λ j. Ok (record { outline = scan_outline j; end = end j })) ∙ sym (ap (scan_from s (length bytes)) (scanned_end u h))
