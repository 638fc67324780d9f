-- What stands in the array of functions:
--   kind_in_lem                                   the kinds that both bytes say, read from the signature
--   signature_for, byte_small,
--   param_kind, result_kind_lem                   the signature of a function, and its kinds read from it
--   radix_in, size_from_lem, size_means           how many values a kind has, how many configurations a function has
--   heads_for                                  what the headers of a program say
--   total_means                               the cells of all
--   first_means, signature_means,
--   count_means                               the first cell, the signature, the count of each function
--   sizes_mean                                how many configurations each has
--   main_cell_means                           main's cell on the whole traces
use mathlib.Core.Path.{◌≡◌, refl, sym, ap, ◌∙◌}
use mathlib.Core.Logic.{⊎_elim}
use mathlib.Core.List.{List, [], ◌∷◌}
use mathlib.Core.Option.{some}
use Prim.Native.Nat.{ℕ, zero, suc, ◌+◌, ◌-◌, ◌*◌, ◌/◌, ◌%◌, ◌<◌, ◌≤◌}
use native.Mathlib.Nat.{eq-or-lt_of_le, zero-add}
use native.Mathlib.Numerals.{add-one}
use native.Mathlib.Omega.{arith}
use lib.ListN.{length, get_elem?, get_or, set, take, length-set, length-replicate}
use lib.Seq.{take-length, get_or-set_same, get_or-set_other}
use Rattle.trace.specs.{bit_of}
use Rattle.semantics.specs.declared.Sort.{Sort}
use Rattle.semantics.specs.declared.Kind.{Kind}
use Rattle.semantics.specs.Language.{is_list, Function, Program, Traces}
use Rattle.semantics.specs.Numbering.{kind_size, size, cells}
use Rattle.semantics.specs.Verdicts.{main_cell}
use Rattle.syntax.specs.Limits.{most_params}
use Rattle.syntax.specs.Kinds.{signature_of, kind_in}
use Rattle.rule.specs.Form.{kinds_byte, guard_byte, Accepted}
use Rattle.rule.specs.Reading.{kind_at, kinds_from}
use Rattle.rule.specs.Outline.{outline_of}
use Rattle.rule.specs.Walk.{at_most_four}
use Rattle.rule.proofs.KindBytes.{flags_below, kinds_back}
use Rattle.rule.proofs.Expressions.{place-below}
use Rattle.rule.proofs.OutlineMeaning.{there, params_at, kinds_at, guards_at}
use Rattle.rule.proofs.WalkMeaning.{at_most_four_lem, kind_there}
use Rattle.codes.specs.declared.Lengths.{Lengths}
use Rattle.codes.specs.{Short, radix_of}
use Rattle.codes.proofs.CodeMeaning.{LengthsOf, radix_means}
use Rattle.decoding.specs.Decoding.{signature_in}
use Rattle.passes.specs.Mirror.{size_from, first_of, count_of, size_of, main_cell_of, Heads, heads_of, signature_at, total_before, functions_upto}
use Rattle.evaluator.proofs.Sets.{first_cell}
use Rattle.passes.proofs.SetupLoops.{shortened-short}

-- ---- Signatures

-- the low bits of a signature are those of the kinds byte
signature_low : (k g i : ℕ) → i < 5 → bit_of i (signature_of k g) ≡ bit_of i k
unfolding bit_of
signature_low k g zero h = let e : (k + 256 * g) / 1 % 2 ≡ k / 1 % 2 = omega arith in rw e
signature_low k g (suc zero) h = let e : (k + 256 * g) / 2 % 2 ≡ k / 2 % 2 = omega arith in rw e
signature_low k g (suc (suc zero)) h = let e : (k + 256 * g) / 4 % 2 ≡ k / 4 % 2 = omega arith in rw e
signature_low k g (suc (suc (suc zero))) h = let e : (k + 256 * g) / 8 % 2 ≡ k / 8 % 2 = omega arith in rw e
signature_low k g (suc (suc (suc (suc zero)))) h = let e : (k + 256 * g) / 16 % 2 ≡ k / 16 % 2 = omega arith in rw e
signature_low k g (suc (suc (suc (suc (suc i))))) h = absurd (omega arith)

-- and from bit 8 on those of the guard byte
signature_high : (k g i : ℕ) → k < 256 → i < 5 → bit_of (8 + i) (signature_of k g) ≡ bit_of i g
unfolding bit_of
signature_high k g zero b h = let e : (k + 256 * g) / 256 % 2 ≡ g / 1 % 2 = omega arith in rw e
signature_high k g (suc zero) b h = let e : (k + 256 * g) / 512 % 2 ≡ g / 2 % 2 = omega arith in rw e
signature_high k g (suc (suc zero)) b h = let e : (k + 256 * g) / 1024 % 2 ≡ g / 4 % 2 = omega arith in rw e
signature_high k g (suc (suc (suc zero))) b h = let e : (k + 256 * g) / 2048 % 2 ≡ g / 8 % 2 = omega arith in rw e
signature_high k g (suc (suc (suc (suc zero)))) b h = let e : (k + 256 * g) / 4096 % 2 ≡ g / 16 % 2 = omega arith in rw e
signature_high k g (suc (suc (suc (suc (suc i))))) b h = absurd (omega arith)

pub kind_in_lem : (k g i : ℕ) → k < 256 → i < 5 → kind_in (signature_of k g) i ≡ (kind_at k g i)
unfolding kind_in
kind_in_lem k g i b h = rw (signature_low k g i h, signature_high k g i b h) refl

abbrev pub signature_for : List Kind → Kind → ℕ
signature_for params result = signature_of (kinds_byte params result) (guard_byte params result)

module _ (params : List Kind) (result : Kind) (few : length params ≤ most_params) where
  pub byte_small : kinds_byte params result < 256
  byte_small = omega (arith, flags_below is_list params result few)

  pub param_kind : (i : ℕ) (κ : Kind) → get_elem? params i ≡ some κ → kind_in (signature_for params result) i ≡ κ
  param_kind i κ e =
      let k = kinds_byte params result in
      let g = guard_byte params result in
      let below = place-below params i κ e in
      let here : get_elem? params i ≡ some (kind_at k g i) =
      rw ((kinds_back params result few).0, zero-add i) at (kind_there k g 0 (length params) i below) in
      let same : kind_at k g i ≡ κ = cc in
      kind_in_lem k g i byte_small (omega (arith, below)) ∙ same

  pub result_kind_lem : kind_in (signature_for params result) 4 ≡ result
  result_kind_lem =
      kind_in_lem (kinds_byte params result) (guard_byte params result) 4 byte_small (omega arith) ∙ (kinds_back params result few).1

-- ---- Sizes

module _ {t : Traces} {n : Lengths} (ls : LengthsOf t n) where
  pub radix_in : (k g i : ℕ) → k < 256 → i < 5 → radix_of (kind_in (signature_of k g) i) n ≡ kind_size t (kind_at k g i)
  radix_in k g i b h = ap (λ (x : Kind). radix_of x n) (kind_in_lem k g i b h) ∙ radix_means ls (kind_at k g i)

  -- the size of the parameters that bits from i on say
  pub size_from_lem : (k g i m : ℕ) → k < 256 → i + m ≤ 5 → size_from (signature_of k g) n i m ≡ size t (kinds_from k g i m)
  unfolding size_from kinds_from
  size_from_lem k g i zero b h = refl
  size_from_lem k g i (suc m) b h = rw (radix_in k g i b (omega arith), add-one i, size_from_lem k g (suc i) m b (omega arith))

  pub size_means : (params : List Kind) (result : Kind) → length params ≤ most_params
      → size_from (signature_for params result) n 0 (length params) ≡ size t params
  size_means params result h =
      size_from_lem (kinds_byte params result) (guard_byte params result) 0 (length params) (byte_small params result h) (omega arith)
      ∙ ap (size t) (kinds_back params result h).0

-- ---- First cells

cells-more : (t : Traces) (P : Program) (g : ℕ) (f : Function) → get_elem? P g ≡ some f
    → cells t (take g P) + size t f.params ≡ cells t (take (suc g) P)
cells-more t [] g f e = let no : ◌≡◌ {A = ℕ} 0 1 = cc in absurd (omega arith)
cells-more t (x ∷ P) zero f e = let same : f ≡ x = cc in rw same (omega arith)
cells-more t (x ∷ P) (suc g) f e = omega (arith, cells-more t P g f e)

abbrev pub heads_for : Sort → Program → Heads
heads_for s P = heads_of (outline_of s P)

module _ (s : Sort) (P : Program) (t : Traces) (n : Lengths) (ls : LengthsOf t n)
    (small : (g : ℕ) (f : Function) → get_elem? P g ≡ some f → length f.params ≤ most_params) where
  total-before : (g : ℕ) → g ≤ length P → total_before (heads_for s P) n g ≡ first_cell t P g
  unfolding total_before
  total-before zero h = refl
  total-before (suc g) h =
      let x = there P g h in
      let f = x.0 in
      rw (
        kinds_at s P g f x.1,
        guards_at s P g f x.1,
        params_at s P g f x.1,
        at_most_four_lem (length f.params) (small g f x.1),
        size_means ls f.params
            f.result (small g f x.1),
        total-before g (omega arith),
      )
      (cells-more t P g f x.1)

-- ---- The array

module _ (H : Heads) (n : Lengths) where
  length_functions : (m : ℕ) → length (functions_upto H n m) ≡ 96
  unfolding functions_upto
  length_functions zero = length-replicate {A = ℕ} 96 0
  length_functions (suc m) = simp length-set (length_functions m)

  -- what the array has of function g
  record Entry (functions : List ℕ) (g : ℕ) : Type 0 where
    first : first_of functions g ≡ total_before H n g
    signature : signature_in functions g ≡ signature_at H g
    count : get_or functions (64 + g) 0 ≡ get_or H.params g 0

  -- writing the entry of function m
  written : ℕ → List ℕ → List ℕ
  written m l = set (set (set l m (total_before H n m)) (32 + m) (signature_at H m)) (64 + m) (get_or H.params m 0)

  entry_same : (m : ℕ) (l : List ℕ) → m < 32 → length l ≡ 96 → Entry (written m l) m
  unfolding written
  entry_same m l h len =
      let l₁ = set l m (total_before H n m) in
      let l₂ = set l₁ (32 + m) (signature_at H m) in
      let n₁ : length l₁ ≡ 96 = length-set l m _ ∙ len in
      let n₂ : length l₂ ≡ 96 = length-set l₁ (32 + m) _ ∙ n₁ in
      record {
        first =
            get_or-set_other l₂ (64 + m) m _ 0 (λ e. omega arith)
            ∙ get_or-set_other l₁ (32 + m) m _ 0 (λ e. omega arith)
            ∙ get_or-set_same l m _ 0 (omega arith);
        signature = get_or-set_other l₂ (64 + m) (32 + m) _ 0 (λ e. omega arith) ∙ get_or-set_same l₁ (32 + m) _ 0 (omega arith);
        count = get_or-set_same l₂ (64 + m) _ 0 (omega arith);
      }

  written_other : (m : ℕ) (l : List ℕ) (j : ℕ) → (j ≡ m → ⊥) → (j ≡ 32 + m → ⊥) → (j ≡ 64 + m → ⊥) → get_or (written m l) j 0 ≡ get_or l j 0
  unfolding written
  written_other m l j p q r =
      let l₁ = set l m (total_before H n m) in
      let l₂ = set l₁ (32 + m) (signature_at H m) in
      get_or-set_other l₂ (64 + m) j _ 0 r ∙ get_or-set_other l₁ (32 + m) j _ 0 q ∙ get_or-set_other l m j _ 0 p

  entry_other : (m g : ℕ) (l : List ℕ) → g < m → m < 32 → Entry l g → Entry (written m l) g
  entry_other m g l h b u =
      record {
        first = written_other m l g (λ e. omega arith) (λ e. omega arith) (λ e. omega arith) ∙ u.first;
        signature = written_other m l (32 + g) (λ e. omega arith) (λ e. omega arith) (λ e. omega arith) ∙ u.signature;
        count = written_other m l (64 + g) (λ e. omega arith) (λ e. omega arith) (λ e. omega arith) ∙ u.count;
      }

  entry : (m g : ℕ) → g < m → m ≤ 32 → Entry (functions_upto H n m) g
  unfolding functions_upto written
  entry zero g h b = absurd (omega arith)
  entry (suc m) g h b = ⊎_elim last (λ l. entry_other m g (functions_upto H n m) l b (entry m g l (omega arith))) (eq-or-lt_of_le (omega arith))
    where
      last : g ≡ m → Entry (written m (functions_upto H n m)) g
      last e = rw e (entry_same m (functions_upto H n m) b (length_functions m))

-- ---- Of an accepted program

module _ {bytes : List ℕ} {s : Sort} {P : Program} (a : Accepted bytes s P) (t : Traces) (n : Lengths) (ls : LengthsOf t n) where
  small : (g : ℕ) (f : Function) → get_elem? P g ≡ some f → length f.params ≤ most_params
  small g f e = (a.fits g f e).params

  pub total_means : total_before (heads_for s P) n (length P) ≡ cells t P
  total_means = total-before s P t n ls small (length P) (omega arith) ∙ ap (cells t) (take-length P)

  abbrev functions : List ℕ
  functions = functions_upto (heads_for s P) n (length P)

  module _ (g : ℕ) (f : Function) (e : get_elem? P g ≡ some f) where
    entry_of : Entry (heads_for s P) n functions g
    entry_of = entry (heads_for s P) n (length P) g (place-below P g f e) a.few

    pub first_means : first_of functions g ≡ first_cell t P g
    first_means = entry_of.first ∙ total-before s P t n ls small g (omega (arith, place-below P g f e))

    pub signature_means : signature_in functions g ≡ signature_for f.params f.result
    signature_means = entry_of.signature ∙ rw (kinds_at s P g f e, guards_at s P g f e)

    pub count_means : count_of functions g ≡ length f.params
    count_means =
        let few = small g f e in
        let byte : length f.params % 256 ≡ length f.params = omega arith in
        ap (λ (k : ℕ). at_most_four (k % 256)) (entry_of.count ∙ params_at s P g f e)
        ∙ ap at_most_four byte
        ∙ at_most_four_lem (length f.params) few

    pub sizes_mean : size_of functions n g ≡ size t f.params
    sizes_mean = rw (signature_means, count_means) (size_means ls f.params f.result (small g f e))

  pub main_cell_means : Short n → main_cell_of functions n ≡ main_cell t P
  unfolding main_cell_of
  main_cell_means few =
      let m = a.main in
      rw (shortened-short n few, sizes_mean 0 m.0 m.1) (last P m.0 m.1)
    where
      last : (Q : Program) (f : Function) → get_elem? Q 0 ≡ some f → size t f.params - 1 ≡ main_cell t Q
      last [] f e = let no : ◌≡◌ {A = ℕ} 0 1 = cc in absurd (omega arith)
      last (f₀ ∷ Q) f e = let same : f ≡ f₀ = cc in rw same
