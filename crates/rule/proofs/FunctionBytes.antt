-- Reading the functions of a program of a sort and writing them:
--   expr_bytes             an expression is at least one byte
--   bytes_take, bytes_drop     some of a list of bytes are bytes
--   raws_read, heads_for_lem   the headers and bodies that functions are written as are found
--   functions-read         and are read as those functions
--   Sound, found-sound     what is known of a header that is found, and of its body
--   Bodies, bodies_read, bodies_heads, bodies_back
--                          functions that are read are those that their headers and bodies are written as
--   functions_inv          functions that are read: their bytes, within the limits and well-kinded
use Rattle.refusal.specs.declared.Refusal.{Refusal}
use Rattle.std.specs.Prelude.{Err, Ok, Result}
use mathlib.Core.Path.{◌≡◌, refl, sym, ap, ◌∙◌, subst}
use mathlib.Core.Bool.{true, false}
use mathlib.Core.List.{List, [], ◌∷◌, ◌++◌, map, append_assoc, append-nil}
use mathlib.Core.Option.{some}
use Prim.Native.Nat.{ℕ, zero, suc, ◌+◌, ◌-◌, ◌<◌, ◌≤◌}
use native.Mathlib.Omega.{arith}
use lib.Dec.{eqb, ltb}
use lib.ListN.{length, get_elem?, get_or, take, drop, length-append, length-drop, take-append-drop}
use lib.Seq.{take-append_seam, drop-append_seam, drop-cons, get_or-drop, length-take-le}
use borrow.Author.Tests.{ne_eqb, le-ltb}
use Rattle.encoding.specs.{low_first, from_low}
use Rattle.encoding.proofs.Low.{from_low_lem, low_from}
use Rattle.semantics.specs.declared.Contact.TheVariants.{Ram, Guard}
use Rattle.semantics.specs.declared.Sort.{Sort}
use Rattle.semantics.specs.declared.Sort.TheVariants.{One, Two}
use Rattle.semantics.specs.declared.Demand.TheVariants.{Only as only}
use Rattle.semantics.specs.Language.{Expr, constant, empty, param, op, ifte, call, Function, Program, Meets, WellKinded}
use Rattle.syntax.specs.declared.Header.{Header}
use Rattle.syntax.specs.Limits.{most_functions, most_body, most_depth}
use Rattle.rule.specs.Form.{AreBytes, encode_expr, depth, kinds_byte, guard_byte, encode_function, encode_functions, ExprOfSort, Fits}
use Rattle.syntax.specs.Bytes.{header_bytes, guard_byte_in, kinds_fault, guard_fault, length_fault, body_length, header_of}
use Rattle.syntax.proofs.HeaderWays.{header_is, header-fault, header_guarded, header-size}
use Rattle.rule.specs.Reading.{Parsed, got, refused, onward, param_kinds, result_kind, Raw, raw_from, raws_from, expr_from, whole_body, function_from, functions_from, headers, apart, body_place}
use Rattle.rule.proofs.KindBytes.{kinds_back, kinds-sound, guard-sound, kinds-few, kinds_again, guard_again, GuardOfSort, guard_of_sort, kind_of_sort, kinds_of_sort, length-kinds}
use Rattle.rule.proofs.Parsing.{not-got, got_inv, Onward, by, onward_inv}
use Rattle.rule.proofs.Scanning.{size_fits}
use Rattle.rule.proofs.Expressions.{Head, Heads, no_heads, one_head, expr_read, expr_written}

-- ---- Written, then read

-- the header and body that a function is written as
abbrev pub header_for : Function → Header
header_for f =
    record {
      params = length f.params;
      kinds = kinds_byte f.params f.result;
      guard = guard_byte f.params f.result;
      length = length (encode_expr f.body);
    }

abbrev pub raw_for : Function → Raw
raw_for f = record { header = header_for f; body = encode_expr f.body }

-- an expression is at least one byte
pub expr_bytes : (e : Expr) → 0 < length (encode_expr e)
unfolding encode_expr
expr_bytes (constant false) = omega arith
expr_bytes (constant true) = omega arith
expr_bytes (empty Ram) = omega arith
expr_bytes (empty Guard) = omega arith
expr_bytes (param i) = omega arith
expr_bytes (op p e) = omega arith
expr_bytes (ifte c a b) = omega arith
expr_bytes (call g xs) = omega arith

length-passes : (size remains : ℕ) → 0 < size → size ≤ most_body → size ≤ remains → length_fault size remains ≡ false
length-passes size remains low most fits =
    let nonzero : eqb size 0 ≡ false = ne_eqb size 0 (λ e. omega arith) in simp (nonzero, le-ltb _ _ most, le-ltb _ _ fits)

-- a guard byte where there is one
abbrev guard_bytes : Sort → ℕ → List ℕ
guard_bytes One g = []
guard_bytes Two g = g ∷ []

-- the bytes of a header and a body
abbrev encode_raw : Sort → Raw → List ℕ
encode_raw s x = x.header.params ∷ x.header.kinds ∷ guard_bytes s x.header.guard ++ (low_first 2 x.header.length ++ x.body)

raw_bytes : (s : Sort) (x : Raw) (rest : List ℕ) → encode_raw s x ++ rest
    ≡ x.header.params ∷ x.header.kinds ∷ guard_bytes s x.header.guard ++ (low_first 2 x.header.length ++ (x.body ++ rest))
raw_bytes One x rest = rw (append_assoc (low_first 2 x.header.length) x.body rest)
raw_bytes Two x rest = rw (append_assoc (low_first 2 x.header.length) x.body rest)

function_raw : (s : Sort) (f : Function) → encode_function s f ≡ encode_raw s (raw_for f)
unfolding encode_function
function_raw One f = refl
function_raw Two f = refl

header-passes : (s : Sort) (a k g size : ℕ) (bs : List ℕ) → kinds_fault a k ≡ false → guard_fault k g ≡ false → GuardOfSort s g → size < 65536
    → length_fault size (length bs) ≡ false
    → header_of s (a ∷ k ∷ guard_bytes s g ++ (low_first 2 size ++ bs)) ≡ Ok (record { params = a; kinds = k; guard = g; length = size })
unfolding header_of low_first
header-passes One a k g size bs p q z below r =
    let long : ltb (suc (suc (suc (suc (length bs))))) 4 ≡ false = le-ltb (suc (suc (suc (suc (length bs))))) 4 (omega arith) in
    let rest : suc (suc (suc (suc (length bs)))) - 4 ≡ length bs = omega arith in
    rw z (rw (long, p, rw z at q, rest, from_low_lem 2 size below, r))
header-passes Two a k g size bs p q z below r =
    let long : ltb (suc (suc (suc (suc (suc (length bs)))))) 5 ≡ false = le-ltb (suc (suc (suc (suc (suc (length bs)))))) 5 (omega arith) in
    let rest : suc (suc (suc (suc (suc (length bs))))) - 5 ≡ length bs = omega arith in
    rw (long, p, q, rest, from_low_lem 2 size below, r)

header_read : (s : Sort) (f : Function) (rest : List ℕ) → Fits s f → header_of s (encode_function s f ++ rest) ≡ Ok (header_for f)
header_read s f rest fit =
    let body = encode_expr f.body in
    let size = length body in
    let few = fit.params in
    let fits : size ≤ length (body ++ rest) = omega (arith, length-append body rest) in
    let right = length-passes size (length (body ++ rest)) (expr_bytes f.body) fit.body fits in
    let sorted = guard_of_sort s f.params f.result few fit.param_kinds fit.result_kind in
    rw (function_raw s f, raw_bytes s (raw_for f) rest)
    (header-passes s (length f.params) (kinds_byte f.params f.result) (guard_byte f.params f.result) size (body ++ rest)
    (kinds-sound f.params f.result few) (guard-sound f.params f.result few) sorted (omega (arith, fit.body)) right)

-- after the header's bytes
after_header : (s : Sort) (a k g size : ℕ) (bs : List ℕ) → drop (header_bytes s) (a ∷ k ∷ guard_bytes s g ++ (low_first 2 size ++ bs)) ≡ bs
unfolding low_first
after_header One a k g size bs = refl
after_header Two a k g size bs = refl

raw_read : (s : Sort) (f : Function) (rest : List ℕ) → Fits s f
    → raw_from s (header_of s (encode_function s f ++ rest)) (encode_function s f ++ rest) ≡ got (raw_for f) rest
raw_read s f rest fit =
    let body : drop (header_bytes s) (encode_function s f ++ rest) ≡ encode_expr f.body ++ rest =
    rw (function_raw s f, raw_bytes s (raw_for f) rest) (after_header s _ _ _ _ _) in
    rw (header_read s f rest fit, body, take-append_seam (encode_expr f.body) rest, drop-append_seam (encode_expr f.body) rest)

module _ (s : Sort) where
  pub raws_read : (P : Program) (rest : List ℕ) → ((g : ℕ) (f : Function) → get_elem? P g ≡ some f → Fits s f)
      → raws_from s (length P) (encode_functions s P ++ rest) ≡ got (map raw_for P) rest
  unfolding raws_from encode_functions
  raws_read [] rest fit = refl
  raws_read (f ∷ P) rest fit =
      rw (
        append_assoc (encode_function s f) (encode_functions s P) rest,
        raw_read s f (encode_functions s P ++ rest) (fit zero f refl),
        raws_read P rest (λ g x e. fit (suc g) x e),
      )

  head_for : (f : Function) → Fits s f → Head f (header_for f)
  head_for f fit = let back = kinds_back f.params f.result fit.params in record { params = sym back.0; result = sym back.1 }

  pub heads_for_lem : (P : Program) → ((g : ℕ) (f : Function) → get_elem? P g ≡ some f → Fits s f) → Heads P (headers (map raw_for P))
  heads_for_lem [] fit = no_heads
  heads_for_lem (f ∷ P) fit = one_head (head_for f (fit zero f refl)) (heads_for_lem P (λ g x e. fit (suc g) x e))

  -- a body that is read whole at its header
  whole : (H : List Header) (x : Raw) (f : Function) → Head f x.header
      → expr_from apart s H f.params most_depth (body_place f.result) x.body ≡ got f.body [] → function_from apart s H x ≡ got f []
  whole H x f h reading = rw (← h.params, ← h.result, reading) (rw (← h.params, ← h.result))

  module _ (P : Program) (H : List Header) (of-program : Heads P H) (few : length P ≤ most_functions) where
    function_read : (f : Function) → Fits s f → Meets P f.params (only f.result) f.body → function_from apart s H (raw_for f) ≡ got f []
    function_read f fit meets =
        whole H (raw_for f) f (head_for f fit)
        (rw append-nil at
        (expr_read s P H of-program few f.params fit.params f.body most_depth (body_place f.result) [] meets fit.lists fit.deep))

    pub functions-read : (Q : Program)
        → ((g : ℕ) (f : Function) → get_elem? Q g ≡ some f → Fits s f × Meets P f.params (only f.result) f.body)
        → functions_from apart s H (map raw_for Q) ≡ got Q []
    unfolding functions_from
    functions-read [] good = refl
    functions-read (f ∷ Q) good =
        let first = good zero f refl in rw (function_read f first.0 first.1, functions-read Q (λ g x e. good (suc g) x e))

-- ---- Read, then written

pub bytes_take : (n : ℕ) (bs : List ℕ) → AreBytes bs → AreBytes (take n bs)
bytes_take zero bs are i = omega arith
bytes_take (suc n) [] are i = omega arith
bytes_take (suc n) (b ∷ bs) are zero = are 0
bytes_take (suc n) (b ∷ bs) are (suc i) = bytes_take n bs (λ j. are (suc j)) i

pub bytes_drop : (n : ℕ) (bs : List ℕ) → AreBytes bs → AreBytes (drop n bs)
bytes_drop n bs are i = rw (get_or-drop n bs i 0) (are (n + i))

-- two bytes are written as they were read
two_back : (l m : ℕ) → l < 256 → m < 256 → low_first 2 (from_low (l ∷ m ∷ [])) ≡ l ∷ m ∷ []
two_back l m low high = low_from (l ∷ m ∷ []) are
  where
    are : (i : ℕ) → get_or (l ∷ m ∷ []) i 0 < 256
    are zero = low
    are (suc zero) = high
    are (suc (suc i)) = omega arith

-- what is known of a header that is found, and of its body
pub record Sound (s : Sort) (x : Raw) : Type 0 where
  pub kinds : kinds_fault x.header.params x.header.kinds ≡ false
  pub guard : guard_fault x.header.kinds x.header.guard ≡ false
  pub sorted : GuardOfSort s x.header.guard
  pub size : length x.body ≡ x.header.length
  pub most : x.header.length ≤ most_body

-- the header and body at the front of some bytes, where a header is found
abbrev pub raw_at : Sort → List ℕ → Header → Raw
raw_at s bs h = record { header = h; body = take h.length (drop (header_bytes s) bs) }

guard_in : (s : Sort) (bs : List ℕ) → GuardOfSort s (guard_byte_in s bs)
guard_in One bs = refl
guard_in Two bs = tt

pub found-sound : (s : Sort) (bs : List ℕ) (h : Header) → header_of s bs ≡ Ok h → Sound s (raw_at s bs h)
found-sound s bs h e =
    let is = header_is s bs h e in
    let size = size_fits h.length (length bs - header_bytes s) (header-size s bs h is) in
    record {
      kinds = header-fault s bs h is;
      guard = header_guarded s bs h is;
      sorted = rw is.same (guard_in s bs);
      size = length-take-le h.length (drop (header_bytes s) bs) (omega (arith, size.1, length-drop (header_bytes s) bs));
      most = size.0;
    }

-- the bytes of a header one by one
header_bytes_lem : (s : Sort) (bs : List ℕ) → header_bytes s ≤ length bs
    → bs ≡ get_or bs 0 0 ∷ get_or bs 1 0 ∷ guard_bytes s (guard_byte_in s bs)
    ++ (get_or bs (header_bytes s - 2) 0 ∷ get_or bs (header_bytes s - 1) 0 ∷ drop (header_bytes s) bs)
header_bytes_lem One bs h =
    rw (← drop-cons bs 3 0 (omega arith), ← drop-cons bs 2 0 (omega arith), ← drop-cons bs 1 0 (omega arith), ← drop-cons bs 0 0 (omega arith))
header_bytes_lem Two bs h =
    rw (
      ← drop-cons bs 4 0 (omega arith),
      ← drop-cons bs 3 0 (omega arith),
      ← drop-cons bs 2 0 (omega arith),
      ← drop-cons bs 1 0 (omega arith),
      ← drop-cons bs 0 0 (omega arith),
    )

found_written : (s : Sort) (bs : List ℕ) (h : Header) → AreBytes bs → header_of s bs ≡ Ok h
    → bs ≡ encode_raw s (raw_at s bs h) ++ drop h.length (drop (header_bytes s) bs)
found_written s bs h are e =
    let is = header_is s bs h e in
    let two : low_first 2 (body_length s bs) ≡ get_or bs (header_bytes s - 2) 0 ∷ get_or bs (header_bytes s - 1) 0 ∷ [] = two_back _ _ (are _) (are _) in
    rw (raw_bytes s (raw_at s bs h) _, take-append-drop h.length (drop (header_bytes s) bs), is.same, two) (header_bytes_lem s bs is.long)

raw_written : (s : Sort) (bs : List ℕ) (read : Result Header Refusal) → header_of s bs ≡ read → (x : Raw) (r : List ℕ) → AreBytes bs → raw_from s read bs ≡ got x r
    → (bs ≡ encode_raw s x ++ r) × Sound s x × AreBytes r
raw_written s bs (Err f) e x r are q = absurd (not-got q)
raw_written s bs (Ok h) e x r are q =
    let same = got_inv q in
    rw (same.0, same.1)
    (found_written s bs h are e, found-sound s bs h e, bytes_drop h.length (drop (header_bytes s) bs) (bytes_drop (header_bytes s) bs are))

-- bytes that are headers with their bodies, and r after them
data RawsAt (s : Sort) (r : List ℕ) : List Raw → List ℕ → Type 0 where
  no_raws : RawsAt s r [] r
  one_raw : {x : Raw} {xs : List Raw} {bs bs' : List ℕ} → Sound s x → bs ≡ encode_raw s x ++ bs' → RawsAt s r xs bs' → RawsAt s r (x ∷ xs) bs

module _ (s : Sort) where
  raws_written : (n : ℕ) (bs : List ℕ) (xs : List Raw) (r : List ℕ) → AreBytes bs → raws_from s n bs ≡ got xs r → (length xs ≡ n) × RawsAt s r xs bs
  unfolding raws_from
  raws_written zero bs xs r are q = let same = got_inv q in rw (same.0, same.1) (refl, no_raws)
  raws_written (suc n) bs xs r are q = first (λ t ys u. raws_written n t ys u) (onward_inv (raw_from s (header_of s bs) bs) _ xs r q)
    where
      Rest : Type 0
      Rest = (t : List ℕ) (ys : List Raw) (u : List ℕ) → AreBytes t → raws_from s n t ≡ got ys u → (length ys ≡ n) × RawsAt s u ys t

      second : (x : Raw) (t : List ℕ) → raw_from s (header_of s bs) bs ≡ got x t → Rest
          → Onward (raws_from s n t) (λ ys u. got (x ∷ ys) u) xs r → (length xs ≡ suc n) × RawsAt s r xs bs
      second x t p more (by ys u p' l) =
          let same = got_inv l in
          let w = raw_written s bs (header_of s bs) refl x t are p in
          let v = more t ys u w.2 p' in
          rw (same.0, same.1) (ap suc v.0, one_raw w.1 w.0 v.1)

      first : Rest → Onward (raw_from s (header_of s bs) bs) (λ x t. onward (raws_from s n t) (λ ys u. got (x ∷ ys) u)) xs r
          → (length xs ≡ suc n) × RawsAt s r xs bs
      first more (by x t p l) = second x t p more (onward_inv (raws_from s n t) _ xs r l)

-- function by function: it has the header that was found, and its body was read whole
pub data Bodies (s : Sort) (H : List Header) : List Raw → Program → Type 0 where
  no_bodies : Bodies s H [] []
  one-body : {x : Raw} {xs : List Raw} {f : Function} {P : Program} → Head f x.header
      → expr_from apart s H f.params most_depth (body_place f.result) x.body ≡ got f.body [] → Bodies s H xs P → Bodies s H (x ∷ xs) (f ∷ P)

module _ (s : Sort) (H : List Header) where
  body-read : (x : Raw) (p : Parsed Expr)
      → expr_from apart s H (param_kinds x.header) most_depth (body_place (result_kind x.header)) x.body ≡ p
      → (f : Function) (r : List ℕ) → whole_body x.header p ≡ got f r
      → Head f x.header × (expr_from apart s H f.params most_depth (body_place f.result) x.body ≡ got f.body [])
  body-read x (got e []) p f r q = rw (got_inv q).0 (record { params = refl; result = refl }, p)
  body-read x (got e (b ∷ bs)) p f r q = absurd (not-got q)
  body-read x (refused g) p f r q = absurd (not-got q)

  pub bodies_read : (xs : List Raw) (P : Program) (r : List ℕ) → functions_from apart s H xs ≡ got P r → Bodies s H xs P × (r ≡ [])
  unfolding functions_from
  bodies_read [] P r q = let same = got_inv q in rw (same.0, same.1) (no_bodies, refl)
  bodies_read (x ∷ xs) P r q = first (λ Q t. bodies_read xs Q t) (onward_inv (function_from apart s H x) _ P r q)
    where
      Rest : Type 0
      Rest = (Q : Program) (t : List ℕ) → functions_from apart s H xs ≡ got Q t → Bodies s H xs Q × (t ≡ [])

      second : (f : Function) (t : List ℕ) → function_from apart s H x ≡ got f t → Rest
          → Onward (functions_from apart s H xs) (λ Q u. got (f ∷ Q) u) P r → Bodies s H (x ∷ xs) P × (r ≡ [])
      second f t p more (by Q u p' l) =
          let same = got_inv l in
          let w = body-read x _ refl f t p in
          let v = more Q u p' in
          rw (same.0, same.1) (one-body w.0 w.1 v.0, v.1)

      first : Rest → Onward (function_from apart s H x) (λ f t. onward (functions_from apart s H xs) (λ Q u. got (f ∷ Q) u)) P r
          → Bodies s H (x ∷ xs) P × (r ≡ [])
      first more (by f t p l) = second f t p more (onward_inv (functions_from apart s H xs) _ P r l)

pub bodies_heads : {s : Sort} {H : List Header} {xs : List Raw} {P : Program} → Bodies s H xs P → Heads P (headers xs)
bodies_heads no_bodies = no_heads
bodies_heads (one-body h p more) = one_head h (bodies_heads more)

bodies_length : {s : Sort} {H : List Header} {xs : List Raw} {P : Program} → Bodies s H xs P → length P ≡ length xs
bodies_length no_bodies = refl
bodies_length (one-body h p more) = ap suc (bodies_length more)

-- a header and a body are those that the function read from them is written as
raw_back : (s : Sort) (x : Raw) (f : Function) → Sound s x → Head f x.header → x.body ≡ encode_expr f.body → x ≡ raw_for f
raw_back s x f sound h e =
    let n = x.header.params in
    let k = x.header.kinds in
    let g = x.header.guard in
    let params : n ≡ length f.params = sym (ap length h.params ∙ length-kinds k g 0 n) in
    let kinds : k ≡ kinds_byte f.params f.result = sym (rw (h.params, h.result) (kinds_again n k g sound.kinds)) in
    let guard : g ≡ guard_byte f.params f.result = sym (rw (h.params, h.result) (guard_again n k g sound.kinds sound.guard)) in
    let size : x.header.length ≡ length (encode_expr f.body) = sym sound.size ∙ ap length e in
    λ i. record { header = record { params = params i; kinds = kinds i; guard = guard i; length = size i }; body = e i }

-- such a function is within the limits
function_fits : (s : Sort) (x : Raw) (f : Function) → Sound s x → Head f x.header → x ≡ raw_for f → depth f.body ≤ most_depth
    → ExprOfSort s f.body → Fits s f
function_fits s x f sound h same deep lists =
    let n = x.header.params in
    let k = x.header.kinds in
    let g = x.header.guard in
    record {
      params = rw (ap (λ (y : Raw). y.header.params) same) at (kinds-few n k sound.kinds);
      body = rw (ap (λ (y : Raw). y.header.length) same) at sound.most;
      deep = deep;
      param_kinds = rw h.params (kinds_of_sort s k g sound.sorted 0 n);
      result_kind = rw h.result (kind_of_sort s k g sound.sorted 4);
      lists = lists;
    }

-- what holds of a function and of each after it
each : (Good : Function → Type 0) (f : Function) (P : Program) → Good f → ((g : ℕ) (x : Function) → get_elem? P g ≡ some x → Good x)
    → (g : ℕ) (x : Function) → get_elem? (f ∷ P) g ≡ some x → Good x
each Good f P first rest zero x e = let same : f ≡ x = cc in subst Good same first
each Good f P first rest (suc g) x e = rest g x e

module _ (s : Sort) (P : Program) (H : List Header) (of-program : Heads P H) where
  -- a function that was read at a header
  function_written : (x : Raw) (f : Function) → Sound s x → Head f x.header
      → expr_from apart s H f.params most_depth (body_place f.result) x.body ≡ got f.body []
      → (x ≡ raw_for f) × Fits s f × Meets P f.params (only f.result) f.body
  function_written x f sound h p =
      let w = expr_written s P H of-program f.params most_depth (body_place f.result) x.body f.body [] p in
      let same = raw_back s x f sound h (w.0 ∙ append-nil (encode_expr f.body)) in
      (same, function_fits s x f sound h same w.1 w.3, w.2)

  functions_written : {r bs : List ℕ} {xs : List Raw} {Q : Program} → RawsAt s r xs bs → Bodies s H xs Q
      → (bs ≡ encode_functions s Q ++ r)
      × ((g : ℕ) (f : Function) → get_elem? Q g ≡ some f → Fits s f × Meets P f.params (only f.result) f.body)
  unfolding encode_functions
  functions_written no_raws no_bodies = (refl, λ g f e. let z : ◌≡◌ {A = ℕ} 0 1 = cc in absurd (omega arith))
  functions_written {r} (one_raw {x = x} {bs' = bs'} sound split more) (one-body {f = f} {P = Q} h p bodies) =
      let w = function_written x f sound h p in
      let rest = functions_written more bodies in
      let bytes : encode_raw s x ≡ encode_function s f = ap (encode_raw s) w.0 ∙ sym (function_raw s f) in
      let whole =
      ap (λ (l : List ℕ). l ++ bs') bytes
      ∙ ap (λ (l : List ℕ). encode_function s f ++ l) rest.0
      ∙ sym (append_assoc (encode_function s f) (encode_functions s Q) r) in
      (split ∙ whole, each (λ y. Fits s y × Meets P y.params (only y.result) y.body) f Q (w.1, w.2) rest.1)

  pub bodies_back : {xs : List Raw} {Q : Program} → ((i : ℕ) (x : Raw) → get_elem? xs i ≡ some x → Sound s x) → Bodies s H xs Q → xs ≡ map raw_for Q
  bodies_back sound no_bodies = refl
  bodies_back sound (one-body {x = x} {f = f} h p more) =
      rw ((function_written x f (sound zero x refl) h p).0, bodies_back (λ i y e. sound (suc i) y e) more)

-- what is known of the functions that n headers and their bodies, at the front of bs, are read as
pub record FunctionsAt (s : Sort) (n : ℕ) (bs : List ℕ) (xs : List Raw) (after : List ℕ) (P : Program) (rest : List ℕ) : Type 0 where
  pub bytes : bs ≡ encode_functions s P ++ after
  pub count : length P ≡ n
  pub heads : Heads P (headers xs)
  pub fits : (g : ℕ) (f : Function) → get_elem? P g ≡ some f → Fits s f
  pub kinds : WellKinded P
  pub none : rest ≡ []

pub functions_inv : (s : Sort) (n : ℕ) (bs : List ℕ) (xs : List Raw) (after : List ℕ) (P : Program) (rest : List ℕ) → AreBytes bs
    → raws_from s n bs ≡ got xs after → functions_from apart s (headers xs) xs ≡ got P rest
    → FunctionsAt s n bs xs after P rest
functions_inv s n bs xs after P rest are p q =
    let raws = raws_written s n bs xs after are p in
    let bodies = bodies_read s (headers xs) xs P rest q in
    let heads = bodies_heads bodies.0 in
    let w = functions_written s P (headers xs) heads raws.1 bodies.0 in
    record {
      bytes = w.0;
      count = bodies_length bodies.0 ∙ raws.0;
      heads = heads;
      fits = λ g f e. (w.1 g f e).0;
      kinds = λ g f e. (w.1 g f e).1;
      none = bodies.1;
    }
