-- The cells of a function, visited one after the other:
--   count_few                    a function has at most four parameters
--   cell-inside, cell-few        a cell that a pass comes to is the function's, and its number fits
--   Worked, worked, row_ready
--                                what is worked out of a function once, and that a row can begin
--   width_some, row_at, row_last,
--   row_inside, digit-fits       the cells of a row: their values, those of the last, where they lie, and the last parameter's value
--   Stepping                     some rows have been visited, and the values are those of the next cell
--   stepping_start               before the first
--   stepping_ready, stepping_few,
--   stepping_more, stepping_end  what the next row asks, after one more, and after all
use mathlib.Core.Path.{◌≡◌, refl, ap, ◌∙◌}
use mathlib.Core.Bool.{Bool, true, false, cond}
use mathlib.Core.List.{List}
use Prim.Native.Nat.{ℕ, ◌+◌, ◌-◌, ◌%◌, ◌<◌, ◌≤◌}
use native.Mathlib.Omega.{arith}
use lib.Dec.{ltb}
use lib.ListN.{length, get_or}
use borrow.Author.Tests.{ltb-true}
use Rattle.syntax.specs.Limits.{most_params}
use Rattle.rule.specs.Walk.{at_most_four}
use Rattle.codes.specs.declared.Lengths.{Lengths}
use Rattle.codes.specs.{Short}
use Rattle.decoding.specs.Decoding.{signature_in}
use Rattle.evaluator.specs.{function_at, digit_bound}
use Rattle.passes.specs.Digits.{configurations, array_of, firsts_of, lasts_of, AtCell, StepsCells}
use Rattle.passes.specs.Mirror.{most_configurations, Setup, count_of, last_of, low_of, high_of, width_of, size_from, size_of, Ready, RowReady, SameOthers, visits_from, stores_from}
use Rattle.passes.proofs.Digits.{size-kinds, size_most, at_first, at_others, at_row, low_high, high_small}
use Rattle.passes.proofs.PassWays.{Visited, visited_start, visited_length, visited_few, visited_row, visited_end}

at_most : (k : ℕ) → at_most_four k ≤ most_params
at_most k = go (ltb k 5) refl
  where
    go : (b : Bool) → ltb k 5 ≡ b → cond b k 4 ≤ most_params
    go true e = let h = ltb-true k 5 e in omega arith
    go false e = omega arith

pub count_few : (functions : List ℕ) (g : ℕ) → count_of functions g ≤ most_params
count_few functions g = at_most (get_or functions (64 + g) 0 % 256)

module _ (functions : List ℕ) (g : ℕ) {n : Lengths} {index digit : ℕ} {env : List ℕ}
    (at : AtCell (signature_in functions g) (count_of functions g) n index env digit) where
  pub cell-inside : index < size_of functions n g
  cell-inside = rw (size-kinds (signature_in functions g) (count_of functions g) n (count_few functions g)) at.inside

  pub cell-few : Short n → index < most_configurations
  cell-few few = omega (arith, cell-inside, size_most (signature_in functions g) n few (count_of functions g) (count_few functions g))

-- ---- What is worked out of a function once in a pass

pub record Worked (functions : List ℕ) (n : Lengths) (g slot size width : ℕ) (firsts lasts : List ℕ) : Type 0 where
  pub place : slot ≡ last_of functions g
  pub cells : size ≡ size_of functions n g
  pub first : firsts ≡ firsts_of (signature_in functions g) (count_of functions g)
  pub last : lasts ≡ lasts_of (signature_in functions g) (count_of functions g) n
  pub low : get_or firsts slot 0 ≡ low_of functions g
  pub wide : width ≡ width_of functions n g

-- by the number of parameters
pub worked : (functions : List ℕ) (n : Lengths) (g : ℕ) {count slot size width : ℕ} {firsts lasts : List ℕ} → count ≡ count_of functions g → slot ≡ count - 1
    → size ≡ size_from (signature_in functions g) n 0 count → firsts ≡ firsts_of (signature_in functions g) count
    → lasts ≡ lasts_of (signature_in functions g) count n → width ≡ get_or lasts slot 0 + 1 - get_or firsts slot 0
    → Worked functions n g slot size width firsts lasts
worked functions n g {slot = slot} {firsts = firsts} {lasts = lasts} c s z f l w =
    let place : slot ≡ last_of functions g = s ∙ ap (λ (k : ℕ). k - 1) c in
    let first : firsts ≡ firsts_of (signature_in functions g) (count_of functions g) = rw c at f in
    let last : lasts ≡ lasts_of (signature_in functions g) (count_of functions g) n = rw c at l in
    let low : get_or firsts slot 0 ≡ low_of functions g = rw (first, place) in
    let high : get_or lasts slot 0 ≡ high_of functions n g = rw (last, place) in
    record {
      place = place;
      cells = z ∙ ap (size_from (signature_in functions g) n 0) c;
      first = first;
      last = last;
      low = low;
      wide = rw (low, high) at w;
    }

module _ {functions : List ℕ} {n : Lengths} {g slot size width : ℕ} {firsts lasts : List ℕ} (w : Worked functions n g slot size width firsts lasts) where
  pub row_ready : (words : List ℕ) {len : ℕ} → Ready functions n g len → RowReady words functions n g len (function_at words g) slot (get_or firsts slot 0) width
  row_ready words u = record { ready = u; word = refl; place = w.place; first = w.low; wide = w.wide }

-- ---- A row

module _ {words functions : List ℕ} {n : Lengths} {g len function slot low width : ℕ} (u : RowReady words functions n g len function slot low width) where
  pub width_some : 0 < width
  width_some = omega (arith, u.wide, low_high (signature_in functions g) (count_of functions g) n (count_few functions g))

  pub digit-fits : (d : ℕ) → d < width → low + d < digit_bound
  digit-fits d h =
      omega (arith, u.wide, u.first, high_small (signature_in functions g) (count_of functions g) n u.ready.samples (count_few functions g))

  module _ {index : ℕ} {env : List ℕ} (at : AtCell (signature_in functions g) (count_of functions g) n index env low) where
    pub row_at : (d : ℕ) → d < width → AtCell (signature_in functions g) (count_of functions g) n (index + d) env (low + d)
    row_at d h =
        rw u.first
        (at_row (signature_in functions g) (count_of functions g) n (count_few functions g) index env (rw u.first at at) d (omega (arith, u.wide, h)))

    -- the last of them
    pub row_last : AtCell (signature_in functions g) (count_of functions g) n (index + (width - 1)) env (high_of functions n g)
    row_last =
        let high : low + (width - 1) ≡ high_of functions n g =
        omega (arith, u.wide, u.first, low_high (signature_in functions g) (count_of functions g) n (count_few functions g)) in
        rw high at (row_at (width - 1) (omega (arith, width_some)))

    pub row_inside : index + width ≤ size_of functions n g
    row_inside = omega (arith, width_some, cell-inside functions g row_last)

-- ---- All rows

module _ (S : Setup) (n : Lengths) (g body : ℕ) (T₀ : List ℕ) where
  abbrev signature : ℕ
  signature = signature_in S.functions g

  abbrev count : ℕ
  count = count_of S.functions g

  abbrev all : ℕ
  all = size_of S.functions n g

  -- the cells before `index` have been visited; where one is left, env has its values, the last parameter's being its first
  pub record Stepping (T env : List ℕ) (stored index : ℕ) : Type 0 where
    pub visited : Visited S n g body 0 T₀ T 0 stored index
    pub few : index ≤ all
    pub values : index < all → AtCell signature count n index env (low_of S.functions g)

  pub stepping_start : {env firsts : List ℕ} → firsts ≡ firsts_of signature count → env ≡ array_of firsts n → Stepping T₀ env 0 0
  stepping_start f e = record {
    visited = visited_start S n g body 0 T₀ 0;
    few = omega arith;
    values = λ h. at_first signature count n (count_few S.functions g) (rw f at e) refl;
  }

  module _ {T env : List ℕ} {stored index : ℕ} (p : Stepping T env stored index) where
    pub stepping_ready : Ready S.functions n g (length T₀) → Ready S.functions n g (length T)
    stepping_ready u = record { below = u.below; samples = u.samples; within = omega (arith, u.within, visited_length p.visited) }

    pub stepping_more : {words : List ℕ} {len function slot low width : ℕ} → RowReady words S.functions n g len function slot low width → index < all
        → (env₁ : List ℕ) {T' env' firsts lasts : List ℕ} {stored' : ℕ} → T' ≡ visits_from S n g body index width T → SameOthers (last_of S.functions g) env env₁
        → stored' ≡ stored + stores_from S n g body index width T → firsts ≡ firsts_of signature count → lasts ≡ lasts_of signature count n
        → StepsCells firsts lasts slot env₁ (get_or lasts slot 0) env' (get_or firsts slot 0) → Stepping T' env' stored' (index + width)
    stepping_more {slot = slot} {low = low} {width = width} u h env₁ {env' = env'} {firsts} {lasts} v o s f l steps =
        let at = rw (← u.first) at (p.values h) in
        record { visited = visited_row width p.visited v s; few = row_inside u at; values = next at }
      where
        next : AtCell signature count n index env low → index + width < all → AtCell signature count n (index + width) env' (low_of S.functions g)
        next at more =
            let one : index + (width - 1) + 1 ≡ index + width = omega (arith, width_some u) in
            let inside : index + (width - 1) + 1 < configurations signature count n = rw (← size-kinds signature count n (count_few S.functions g), one) more in
            let high : high_of S.functions n g ≡ get_or lasts slot 0 = rw (l, u.place) in
            let low-is : get_or firsts slot 0 ≡ low_of S.functions g = rw (f, u.place) in
            let last = rw high at (at_others {env' = env₁} (row_last u at) o) in
            rw (one, low-is) at (steps signature count n (index + (width - 1)) (count_few S.functions g) f l u.place last inside)

    pub stepping_few : stored ≤ index
    stepping_few = omega (arith, visited_few p.visited)

    pub stepping_end : all ≤ index → (T ≡ visits_from S n g body 0 all T₀) × (stored ≡ stores_from S n g body 0 all T₀)
    stepping_end h =
        let v = visited_end p.visited {last = all} p.few h refl in
        (v.0, omega (arith, v.1))
