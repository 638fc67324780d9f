-- Laws of passes, one for each way through the code:
--   visit_kept, visit_open                   the visit of a decided cell, and of an undecided one
--   Visited                                  some configurations of a function have been visited
--   visited_start, visited_more              before the first, and after one more
--   visited_row                              a row more
--   stores_le                                how many outcomes are stored at most
--   short_true, true_short                   the test that traces can have such lengths
--   ready-fits, fits-ready                   the test that a function's cells lie within the table
--   Covering                                 some functions have been visited, or passed over
--   cleared-whole, cleared-within            the first cells made undecided
use mathlib.Core.Path.{◌≡◌, refl, sym, ap, ◌∙◌}
use mathlib.Core.Bool.{Bool, true, false, cond}
use mathlib.Core.List.{List, ◌++◌}
use Prim.Native.Nat.{ℕ, zero, suc, ◌+◌, ◌*◌, ◌≤◌, min}
use native.Mathlib.Nat.{add-zero, add-suc, zero-add, min-eq_left}
use native.Mathlib.Numerals.{add-one}
use Rattle.std.proofs.lemmas.List.{drop_min}
use native.Mathlib.Omega.{arith}
use lib.Dec.{ltb, leb, eqb}
use lib.ListN.{length, get_or, set, drop, replicate, length-set}
use borrow.Author.Tests.{ltb-true, leb-true, lt-ltb, le-leb, eq-eqb, ne_eqb}
use Rattle.trace.specs.{most_samples}
use Rattle.syntax.specs.Limits.{most_functions, most_depth}
use Rattle.rule.proofs.Tests.{both}
use Rattle.codes.specs.declared.Lengths.{Lengths}
use Rattle.codes.specs.{Short, cell_code}
use Rattle.decoding.specs.Words.{held_in}
use Rattle.passes.specs.Mirror.{most_configurations, short, Setup, first_of, body_at, size_of, env_at, filled_at, put_in, stored_at, visit_at, one_unless}
use Rattle.evaluator.specs.{function_at, eval_word}
use Rattle.passes.specs.Mirror.{visits_from, stores_from, Ready}
use Rattle.passes.specs.Mirror.{fits, pass_visits, pass_counts, cleared}

-- ---- The visit of a configuration

module _ (S : Setup) (n : Lengths) (g body : ℕ) (T : List ℕ) (i : ℕ) where
  abbrev pub held_here : ℕ
  held_here = held_in (function_at S.words g) (get_or T (first_of S.functions g + i) 0)

  pub visit_kept : (held_here ≡ 0 → ⊥) → (T ≡ visit_at S n g body T i) × (0 ≡ one_unless (stored_at S n g body T i))
  unfolding visit_at stored_at
  visit_kept h = (simp (ne_eqb _ _ h), simp (ne_eqb _ _ h))

  -- the body is taken on the values of the configuration
  pub visit_open : (stored : ℕ) {env T' : List ℕ} {more : ℕ} → held_here ≡ 0 → env ≡ env_at S.functions n g i
      → T' ≡ put_in T (first_of S.functions g + i) (eval_word S.words S.traces T env most_depth body)
      → more ≡ stored + one_unless (eval_word S.words S.traces T env most_depth body)
      → (T' ≡ visit_at S n g body T i) × (more ≡ stored + one_unless (stored_at S n g body T i))
  unfolding visit_at stored_at filled_at
  visit_open stored h e v s = (v ∙ simp (eq-eqb _ _ h, e), s ∙ simp (eq-eqb _ _ h, e))

  length-put : (c : ℕ) → length (put_in T (first_of S.functions g + i) c) ≡ length T
  length-put c = go (eqb c 0)
    where
      go : (b : Bool) → length (cond b T (set T (first_of S.functions g + i) (cell_code c))) ≡ length T
      go true = refl
      go false = length-set T (first_of S.functions g + i) (cell_code c)

  length-visit : length (visit_at S n g body T i) ≡ length T
  unfolding visit_at
  length-visit = length-put (stored_at S n g body T i)

one_le : (c : ℕ) → one_unless c ≤ 1
one_le c = go (eqb c 0)
  where
    go : (b : Bool) → cond b 0 1 ≤ 1
    go true = omega arith
    go false = omega arith

-- ---- Some configurations of a function

module _ (S : Setup) (n : Lengths) (g body base : ℕ) (T : List ℕ) where
  pub length-visits : (i : ℕ) → length (visits_from S n g body base i T) ≡ length T
  unfolding visits_from
  length-visits zero = refl
  length-visits (suc i) = length-visit S n g body (visits_from S n g body base i T) (base + i) ∙ length-visits i

  pub stores_le : (i : ℕ) → stores_from S n g body base i T ≤ i
  unfolding stores_from
  stores_le zero = omega arith
  stores_le (suc i) = omega (arith, stores_le i, one_le (stored_at S n g body (visits_from S n g body base i T) (base + i)))

  visits-more : (i : ℕ) → visits_from S n g body base (i + 1) T ≡ visit_at S n g body (visits_from S n g body base i T) (base + i)
  unfolding visits_from
  visits-more i = rw add-one

  stores-more : (i : ℕ) → stores_from S n g body base (i + 1) T ≡ stores_from S n g body base i T + one_unless
      (stored_at S n g body (visits_from S n g body base i T) (base + i))
  unfolding stores_from
  stores-more i = rw add-one

-- those of a row come after those before it
module _ (S : Setup) (n : Lengths) (g body base : ℕ) (T : List ℕ) where
  visits-row : (k : ℕ) → visits_from S n g body 0 (base + k) T ≡ visits_from S n g body base k (visits_from S n g body 0 base T)
  unfolding visits_from
  visits-row zero = rw (add-zero base)
  visits-row (suc k) =
      rw (add-suc base k, zero-add (base + k)) (ap (λ (l : List ℕ). visit_at S n g body l (base + k)) (visits-row k))

  stores_row : (k : ℕ) → stores_from S n g body 0 (base + k) T
      ≡ stores_from S n g body 0 base T + stores_from S n g body base k (visits_from S n g body 0 base T)
  unfolding stores_from
  stores_row zero = rw (add-zero base) (omega arith)
  stores_row (suc k) =
      rw (add-suc base k, zero-add (base + k), visits-row k) (omega (arith, stores_row k))

-- from `base` on, i configurations have been visited; `before` outcomes had been stored
pub record Visited (S : Setup) (n : Lengths) (g body base : ℕ) (T₀ T : List ℕ) (before stored i : ℕ) : Type 0 where
  pub cells : T ≡ visits_from S n g body base i T₀
  pub count : stored ≡ before + stores_from S n g body base i T₀

pub visited_start : (S : Setup) (n : Lengths) (g body base : ℕ) (T : List ℕ) (before : ℕ) → Visited S n g body base T T before before 0
unfolding visits_from stores_from
visited_start S n g body base T before = record { cells = refl; count = omega arith }

module _ {S : Setup} {n : Lengths} {g body base : ℕ} {T₀ T : List ℕ} {before stored i : ℕ} (u : Visited S n g body base T₀ T before stored i) where
  pub visited_length : length T ≡ length T₀
  visited_length = ap length u.cells ∙ length-visits S n g body base T₀ i

  pub visited_few : stored ≤ before + i
  visited_few = omega (arith, u.count, stores_le S n g body base T₀ i)

  pub visited_more : {T' : List ℕ} {stored' : ℕ} → T' ≡ visit_at S n g body T (base + i) → stored' ≡ stored + one_unless (stored_at S n g body T (base + i))
      → Visited S n g body base T₀ T' before stored' (i + 1)
  visited_more v s = record {
    cells = v ∙ ap (λ (l : List ℕ). visit_at S n g body l (base + i)) u.cells ∙ sym (visits-more S n g body base T₀ i);
    count =
        let one = ap (λ (l : List ℕ). one_unless (stored_at S n g body l (base + i))) u.cells in
        omega (arith, s, u.count, one, stores-more S n g body base T₀ i);
  }

  pub visited_end : {last size : ℕ} → i ≤ last → last ≤ i → last ≡ size → (T ≡ visits_from S n g body base size T₀)
      × (stored ≡ before + stores_from S n g body base size T₀)
  visited_end {last} {size} h k e =
      let all : i ≡ size = omega (arith, h, k, e) in
      (rw all at u.cells, rw all at u.count)

-- one row more
pub visited_row : {S : Setup} {n : Lengths} {g body : ℕ} {T₀ T T' : List ℕ} {before stored base stored' : ℕ} (width : ℕ)
    → Visited S n g body 0 T₀ T before stored base → T' ≡ visits_from S n g body base width T → stored' ≡ stored + stores_from S n g body base width T
    → Visited S n g body 0 T₀ T' before stored' (base + width)
visited_row {S} {n} {g} {body} {T₀} {base = base} width u v s = record {
  cells = v ∙ ap (visits_from S n g body base width) u.cells ∙ sym (visits-row S n g body base T₀ width);
  count =
      let row = ap (stores_from S n g body base width) u.cells in
      omega (arith, s, u.count, row, stores_row S n g body base T₀ width);
}

-- ---- Cells within the table

pub short_true : {n : Lengths} → Short n → short n ≡ true
short_true {n} h = simp (le-leb n.ram most_samples h.0, le-leb n.guard most_samples h.1)

pub true_short : {n : Lengths} → short n ≡ true → Short n
true_short {n} e =
    let h = both (leb n.ram most_samples) _ e in
    (leb-true _ _ h.0, leb-true _ _ h.1)

module _ {functions : List ℕ} {n : Lengths} {g len : ℕ} where
  pub ready-fits : Ready functions n g len → fits functions n g len ≡ true
  unfolding fits
  ready-fits u = simp (lt-ltb g most_functions u.below, short_true u.samples, le-leb _ len u.within)

  pub fits-ready : fits functions n g len ≡ true → Ready functions n g len
  unfolding fits
  fits-ready e =
      let first = both (ltb g most_functions) _ e in
      let second = both (short n) _ first.1 in
      record { below = ltb-true _ _ first.0; samples = true_short second.0; within = leb-true _ _ second.1 }

-- ---- All functions

pub record Covering (S : Setup) (n : Lengths) (starts : List ℕ) (T₀ T : List ℕ) (stored g : ℕ) : Type 0 where
  pub cells : T ≡ pass_visits S n starts g T₀
  pub count : stored ≡ pass_counts S n starts g T₀
  pub few : stored ≤ g * most_configurations
  pub same : length T ≡ length T₀

pub covering_start : (S : Setup) (n : Lengths) (starts T : List ℕ) → Covering S n starts T T 0 0
unfolding pass_visits pass_counts
covering_start S n starts T = record { cells = refl; count = refl; few = omega arith; same = refl }

module _ (S : Setup) (n : Lengths) (starts T : List ℕ) (g : ℕ) where
  pass-more : fits S.functions n g (length T) ≡ true
      → pass_visits S n starts (g + 1) T ≡ visits_from S n g (body_at S.words (get_or starts g 0)) 0 (size_of S.functions n g) (pass_visits S n starts g T)
  unfolding pass_visits
  pass-more e = rw (add-one, e)

  counts_more : fits S.functions n g (length T) ≡ true
      → pass_counts S n starts (g + 1) T
      ≡ pass_counts S n starts g T + stores_from S n g (body_at S.words (get_or starts g 0)) 0 (size_of S.functions n g) (pass_visits S n starts g T)
  unfolding pass_counts
  counts_more e = rw (add-one, e)

  pass_over : fits S.functions n g (length T) ≡ false → pass_visits S n starts (g + 1) T ≡ pass_visits S n starts g T
  unfolding pass_visits
  pass_over e = rw (add-one, e)

  counts_over : fits S.functions n g (length T) ≡ false → pass_counts S n starts (g + 1) T ≡ pass_counts S n starts g T
  unfolding pass_counts
  counts_over e = rw (add-one, e) (omega arith)

module _ {S : Setup} {n : Lengths} {starts T₀ T : List ℕ} {stored g : ℕ} (u : Covering S n starts T₀ T stored g) where
  pub covering_more : fits S.functions n g (length T₀) ≡ true → {T' : List ℕ} {more : ℕ}
      → T' ≡ visits_from S n g (body_at S.words (get_or starts g 0)) 0 (size_of S.functions n g) T
      → (more ≡ stores_from S n g (body_at S.words (get_or starts g 0)) 0 (size_of S.functions n g) T) × (more ≤ most_configurations)
      → Covering S n starts T₀ T' (stored + more) (g + 1)
  covering_more e v s = record {
    cells = v ∙ ap (visits_from S n g (body_at S.words (get_or starts g 0)) 0 (size_of S.functions n g)) u.cells ∙ sym (pass-more S n starts T₀ g e);
    count = simp (s.0, u.count, u.cells) (sym (counts_more S n starts T₀ g e));
    few = omega (arith, u.few, s.1);
    same = ap length v ∙ length-visits S n g (body_at S.words (get_or starts g 0)) 0 T (size_of S.functions n g) ∙ u.same;
  }

  pub covering_over : fits S.functions n g (length T₀) ≡ false → Covering S n starts T₀ T stored (g + 1)
  covering_over e = record {
    cells = u.cells ∙ sym (pass_over S n starts T₀ g e);
    count = u.count ∙ sym (counts_over S n starts T₀ g e);
    few = omega (arith, u.few);
    same = u.same;
  }

pub length-pass : (S : Setup) (n : Lengths) (starts T : List ℕ) (g : ℕ) → length (pass_visits S n starts g T) ≡ length T
unfolding pass_visits
length-pass S n starts T zero = refl
length-pass S n starts T (suc g) = go (fits S.functions n g (length T)) (length-pass S n starts T g)
  where
    before : List ℕ
    before = pass_visits S n starts g T

    after : List ℕ
    after = visits_from S n g (body_at S.words (get_or starts g 0)) 0 (size_of S.functions n g) before

    go : (b : Bool) → length before ≡ length T → length (cond b after before) ≡ length T
    go true e = length-visits S n g (body_at S.words (get_or starts g 0)) 0 before (size_of S.functions n g) ∙ e
    go false e = e

-- ---- Clearing

-- the first of them written over
pub cleared-whole : (needed last : ℕ) (T : List ℕ) {cells : List ℕ} → last ≡ min needed (length T) → cells ≡ replicate last 0 → cells ++ drop last T ≡ cleared needed T
unfolding cleared
cleared-whole needed last T l e = rw (e, l, drop_min needed T)

-- a table that has so many cells
pub cleared-within : (needed : ℕ) (T : List ℕ) → needed ≤ length T → cleared needed T ≡ replicate needed 0 ++ drop needed T
unfolding cleared
cleared-within needed T h = rw (min-eq_left h)
