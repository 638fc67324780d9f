-- The bytes of an accepted program, and where its bodies stand:
--   program_bytes          they are at least six bytes
--   body_at                from a function's start on stand the bytes of its body
use mathlib.Core.Path.{◌≡◌, refl}
use mathlib.Core.List.{List, [], ◌∷◌, ◌++◌, append_assoc}
use mathlib.Core.Option.{some}
use Prim.Native.Nat.{ℕ, zero, suc, ◌+◌, ◌≤◌}
use native.Mathlib.Omega.{arith}
use lib.ListN.{length, get_elem?, get_or, drop, length-append}
use lib.Seq.{drop-append-add}
use Rattle.encoding.specs.{low_first}
use Rattle.semantics.specs.declared.Sort.{Sort}
use Rattle.semantics.specs.declared.Sort.TheVariants.{One, Two}
use Rattle.semantics.specs.Language.{Function, Program}
use Rattle.syntax.specs.Bytes.{count_byte, header_bytes}
use Rattle.syntax.proofs.HeaderWays.{header_bounds}
use Rattle.rule.specs.Form.{encode_expr, encode_function, encode_functions, encode, Accepted}
use Rattle.rule.specs.Outline.{starts_from}
use Rattle.rule.proofs.FunctionBytes.{expr_bytes}

length_function : (s : Sort) (f : Function) → length (encode_function s f) ≡ header_bytes s + length (encode_expr f.body)
unfolding encode_function low_first
length_function One f = omega arith
length_function Two f = omega arith

-- the number of functions, and four or five header bytes and a body of main
pub program_bytes : (bytes : List ℕ) (s : Sort) (P : Program) → Accepted bytes s P → 6 ≤ length bytes
unfolding encode encode_functions
program_bytes bytes s P a = rw a.encoded (go P a.main.1)
  where
    go : (P : Program) {f : Function} → get_elem? P 0 ≡ some f → 6 ≤ length (encode s P)
    go [] e = let z : ◌≡◌ {A = ℕ} 0 1 = cc in absurd (omega arith)
    go (f ∷ P) e =
        omega (arith, length-append (encode_function s f) (encode_functions s P), length_function s f, header_bounds s, expr_bytes f.body)

-- the first body, its header standing after other bytes
first_body : (s : Sort) (pre : List ℕ) (f : Function) (P : Program)
    → drop (length pre + header_bytes s) (pre ++ encode_functions s (f ∷ P)) ≡ encode_expr f.body ++ encode_functions s P
unfolding encode_functions encode_function low_first
first_body One pre f P = drop-append-add pre _ 4
first_body Two pre f P = drop-append-add pre _ 5

-- functions that stand after other bytes
body_after : (s : Sort) (P : Program) (pre : List ℕ) (at g : ℕ) (f : Function) → length pre ≡ at → get_elem? P g ≡ some f
    → (rest : List ℕ) × (drop (get_or (starts_from s at P) g 0) (pre ++ encode_functions s P) ≡ encode_expr f.body ++ rest)
unfolding starts_from encode_functions
body_after s [] pre at g f here e = let z : ◌≡◌ {A = ℕ} 0 1 = cc in absurd (omega arith)
body_after s (f' ∷ P) pre at zero f here e = let same : f' ≡ f = cc in (encode_functions s P, rw (← here, ← same) (first_body s pre f' P))
body_after s (f' ∷ P) pre at (suc g) f here e =
    let pre' = pre ++ encode_function s f' in
    let at' = at + header_bytes s + length (encode_expr f'.body) in
    let here' : length pre' ≡ at' = omega (arith, length-append pre (encode_function s f'), length_function s f') in
    let w = body_after s P pre' at' g f here' e in
    (w.0, rw (append_assoc pre (encode_function s f') (encode_functions s P)) at w.1)

module _ (bytes : List ℕ) (s : Sort) (P : Program) (a : Accepted bytes s P) (g : ℕ) (f : Function) (e : get_elem? P g ≡ some f) where
  pub body_at : (rest : List ℕ) × (drop (get_or (starts_from s 1 P) g 0) bytes ≡ encode_expr f.body ++ rest)
  unfolding encode
  body_at = rw a.encoded (body_after s P (count_byte s (length P) ∷ []) 1 g f refl e)
