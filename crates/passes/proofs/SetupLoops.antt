-- Laws of setting up, for each loop of the code its start, a turn, its end:
--   shortened-short                                    lengths cut to those that traces can have
--   Product, size-start, size-more, size_fits,
--   size-whole                                         the product of the sizes of parameters, from the last down
--   size_nonzero                                       every function has a configuration
--   Listed, listed_start, listed_more,
--   cells_listed, functions_of_lem, total_of_lem               the array of functions and the total
--   traces-whole                                       the bytes of the traces, copied into zeros
use mathlib.Core.Path.{◌≡◌, refl, ap, ◌∙◌}
use mathlib.Core.List.{List, [], ◌++◌, append_assoc}
use Prim.Native.Nat.{ℕ, zero, suc, ◌+◌, ◌-◌, ◌*◌, ◌^◌, ◌<◌, ◌≤◌, min}
use native.Mathlib.Nat.{mul_comm, mul-pos, mul-le-mul, pow-succ', pow-le-pow_right, min-eq_left}
use native.Mathlib.Numerals.{add-one, sub-one}
use native.Mathlib.Omega.{arith}
use lib.ListN.{length, get_or, set, take, drop, replicate, length-take, replicate-append-replicate}
use lib.Seq.{take-length, take_at, drop_at, drop-drop, paste}
use Rattle.semantics.specs.declared.Kind.{Kind}
use Rattle.syntax.specs.Limits.{most_functions, most_params}
use Rattle.syntax.specs.Kinds.{kind_in}
use Rattle.rule.specs.Form.{padded}
use Rattle.rule.specs.Walk.{at_most_four}
use Rattle.rule.proofs.Padded.{length-padded}
use Rattle.codes.specs.declared.Lengths.{Lengths}
use Rattle.codes.specs.{Short, most_trace_bytes, radix_of}
use Rattle.codes.proofs.Bounds.{radix_small, radix_pos}
use Rattle.passes.specs.Mirror.{most_values, most_configurations, shortened, size_from, traces_of}
use Rattle.passes.specs.Mirror.{Heads, signature_at, total_before, functions_upto, functions_of, total_of}

-- ---- Lengths

pub shortened-short : (n : Lengths) → Short n → shortened n ≡ n
shortened-short n h = rw (min-eq_left h.0, min-eq_left h.1)

-- ---- Sizes

module _ (signature : ℕ) (n : Lengths) (count : ℕ) where
  -- the product of the parameters from i on
  pub record Product (product i : ℕ) : Type 0 where
    pub below : i ≤ count
    pub size : product ≡ size_from signature n i (count - i)
    pub bound : product ≤ most_values ^ (count - i)

  pub size-start : Product 1 count
  unfolding size_from
  size-start =
      let e : count - count ≡ 0 = omega arith in
      record { below = omega arith; size = rw e; bound = rw e (omega arith) }

  pub size-more : (i : ℕ) {product radix : ℕ} {kind : Kind} → Product product i → 0 < i → Short n
      → kind ≡ kind_in signature (i - 1) → radix ≡ radix_of kind n
      → Product (product * radix) (i - 1)
  unfolding size_from
  size-more zero u h few b r = absurd (omega arith)
  size-more (suc i) {product} {radix} {kind} u h few b r =
      let k : count - i ≡ suc (count - suc i) = omega (arith, u.below) in
      let top : radix ≤ most_values = rw r (radix_small kind n few) in
      record {
        below = omega (arith, u.below);
        size = rw (mul_comm product radix) (simp (sub-one, k, add-one, r, b, u.size));
        bound = simp (sub-one, k, pow-succ', mul_comm product radix) (mul-le-mul top u.bound);
      }

  pub size_fits : (i : ℕ) {product : ℕ} → Product product i → count ≤ most_params → product ≤ most_configurations
  size_fits i u few = let h : count - i ≤ most_params = omega arith in omega (arith, u.bound, pow-le-pow_right {n = most_values} (omega arith) h)

  pub size-whole : (i : ℕ) {product : ℕ} → Product product i → i ≤ 0 → product ≡ size_from signature n 0 count
  size-whole zero u h = let k : count - 0 ≡ count = omega arith in rw k at u.size
  size-whole (suc i) u h = absurd (omega arith)

pub size_nonzero : (signature : ℕ) (n : Lengths) (i count : ℕ) → 0 < size_from signature n i count
unfolding size_from
size_nonzero signature n i zero = omega arith
size_nonzero signature n i (suc c) = mul-pos (radix_pos (kind_in signature i) n) (size_nonzero signature n (i + 1) c)

-- ---- Functions

module _ (H : Heads) (n : Lengths) where
  -- the functions before g
  pub record Listed (functions : List ℕ) (total g : ℕ) : Type 0 where
    pub array : functions ≡ functions_upto H n g
    pub sum : total ≡ total_before H n g
    pub bound : total ≤ g * most_configurations

  pub listed_start : Listed (replicate 96 0) 0 0
  unfolding functions_upto total_before
  listed_start = record { array = refl; sum = refl; bound = omega arith }

  pub listed_more : (g : ℕ) {functions : List ℕ} {total k p count size : ℕ} → Listed functions total g → k ≡ signature_at H g → p ≡ get_or H.params g 0
      → count ≡ at_most_four (get_or H.params g 0) → (size ≡ size_from k n 0 count) × (size ≤ most_configurations)
      → Listed (set (set (set functions g total) (32 + g) k) (64 + g) p) (total + size) (g + 1)
  unfolding functions_upto total_before
  listed_more g u ek ep c s =
      record {
        array = simp (add-one, u.array, u.sum, ek, ep);
        sum = simp (add-one, u.sum, s.0, c, ek);
        bound = omega (arith, u.bound, s.1);
      }

  -- what the loop answers for so many
  listed_whole : (count g : ℕ) {functions : List ℕ} {total : ℕ} → Listed functions total g → g ≤ count → count ≤ g
      → (functions ≡ functions_upto H n count) × (total ≡ total_before H n count)
  listed_whole count g u l h =
      let e : g ≡ count = omega arith in
      (u.array ∙ ap (functions_upto H n) e, u.sum ∙ ap (total_before H n) e)

module _ (H : Heads) (n : Lengths) (count : ℕ) where
  pub cells_listed : (g : ℕ) {samples : Lengths} {last : ℕ} {functions : List ℕ} {total : ℕ} → samples ≡ shortened n → last ≡ min count most_functions
      → Listed H samples functions total g → g ≤ last → last ≤ g
      → (functions ≡ functions_of H n count) × (total ≡ total_of H n count)
  unfolding functions_of total_of
  cells_listed g {samples} {last} s l u h k = rw l at (rw s at (listed_whole H samples last g u h k))

  -- a count and lengths that are not too large
  pub functions_of_lem : Short n → count ≤ most_functions → functions_of H n count ≡ functions_upto H n count
  unfolding functions_of
  functions_of_lem h k = rw (shortened-short n h, min-eq_left k)

  pub total_of_lem : Short n → count ≤ most_functions → total_of H n count ≡ total_before H n count
  unfolding total_of
  total_of_lem h k = rw (shortened-short n h, min-eq_left k)

-- ---- The traces

drop_copies : (k m z : ℕ) → drop k (replicate m z) ≡ replicate (m - k) z
drop_copies zero m z = let e : m - 0 ≡ m = omega arith in rw e
drop_copies (suc k) zero z = let e : 0 - suc k ≡ 0 = omega arith in rw e
drop_copies (suc k) (suc m) z = let e : suc m - suc k ≡ m - k = omega arith in rw e (drop_copies k m z)

-- copied into zeros that come after other bytes
pasted_after : (x : List ℕ) (m : ℕ) (s : List ℕ) {at : ℕ} → length x ≡ at → paste (x ++ replicate m 0) at s (length s) ≡ x ++ padded m 0 s
unfolding padded
pasted_after x m s {at} e =
    rw (
      take_at x (replicate m 0) at e,
      take-length s,
      ← drop-drop (length s) at (x ++ replicate m 0),
      drop_at x (replicate m 0) at e,
      drop_copies (length s) m 0,
      append_assoc,
    )

padded-more : (a b : ℕ) (s : List ℕ) → length s ≤ a → padded (a + b) 0 s ≡ padded a 0 s ++ replicate b 0
unfolding padded
padded-more a b s h =
    let e : a + b - length s ≡ a - length s + b = omega arith in
    rw (e, ← replicate-append-replicate {A = ℕ} (a - length s) b 0, append_assoc)

pub traces-whole : (ram guard : List ℕ) {bytes all : List ℕ}
    → bytes ≡ paste (replicate 1024 0) 0 (take most_trace_bytes ram) (length (take most_trace_bytes ram))
    → all ≡ paste bytes most_trace_bytes (take most_trace_bytes guard) (length (take most_trace_bytes guard)) → all ≡ traces_of ram guard
unfolding traces_of
traces-whole ram guard e f =
    let R = take most_trace_bytes ram in
    let G = take most_trace_bytes guard in
    let short : length R ≤ most_trace_bytes = omega (arith, length-take most_trace_bytes ram) in
    let first = pasted_after [] 1024 R refl ∙ padded-more most_trace_bytes most_trace_bytes R short in
    f
    ∙ ap (λ (l : List ℕ). paste l most_trace_bytes G (length G)) (e ∙ first)
    ∙ pasted_after (padded most_trace_bytes 0 R) most_trace_bytes G (length-padded most_trace_bytes 0 R short)
