-- The digits of a configuration, and their step to the next:
--   first-values     those of a function's first configuration
--   step_values      stepping the values of configuration c gives those of configuration c + 1, and none after the last
--   step_cell        stepping the values of cell c gives those of cell c + 1
--   next_last        a step by the last digit: it goes up, or the others step
use Prim.Native.Nat.{ℕ, ◌+◌, ◌-◌, ◌*◌, ◌/◌, ◌%◌, ◌≤◌, ◌<◌}
use native.Mathlib.Omega.{arith}
use native.Mathlib.Nat.{zero-div, zero-mod, mod-lt, div-add-mod', div-lt_iff_lt-mul, mul-le-mul_right}
use mathlib.Core.Path.{◌≡◌, refl, sym, ap, ◌∙◌}
use mathlib.Core.Bool.{Bool, true, false, cond}
use mathlib.Core.List.{List, [], ◌∷◌, ◌++◌}
use mathlib.Core.Option.{Option, none, some}
use lib.Arith.{digits_div, digits_mod}
use lib.Dec.{ltb}
use lib.ListN.{length}
use borrow.Author.Tests.{ltb-true, ltb-false, lt-ltb, le-ltb}
use Rattle.semantics.specs.declared.Kind.{Kind}
use Rattle.semantics.specs.Language.{Program, Traces, Value}
use Rattle.semantics.specs.Numbering.{kind_size, digit_of, value_at, size, values_at, Config, config_at}
use Rattle.semantics.specs.Digits.{first_values, carried_to, next_values}
use Rattle.semantics.proofs.Numbering.{digit_value, size_pos}

pub first-values : (t : Traces) (κs : List Kind) → values_at t κs 0 ≡ first_values κs
first-values t [] = refl
first-values t (κ ∷ κs) = rw (zero-div (size t κs), zero-mod (size t κs), first-values t κs)

-- ---- A step

-- the values of the next configuration, unless this one is the last
abbrev following : Traces → List Kind → ℕ → Option (List Value)
following t κs c = cond (ltb (c + 1) (size t κs)) (some (values_at t κs (c + 1))) none

module _ (t : Traces) (κ : Kind) (κs : List Kind) (c : ℕ) (h : c < size t (κ ∷ κs)) where
  abbrev S : ℕ
  S = size t κs

  abbrev top : ℕ
  top = c / S

  abbrev left : ℕ
  left = c % S

  split : top * S + left ≡ c
  split = div-add-mod' c S

  top_below : top < kind_size t κ
  top_below = (div-lt_iff_lt-mul (size_pos t κs)).1 h

  -- the digits after the first go on
  stays : left + 1 < S → some (value_at κ top ∷ values_at t κs (left + 1)) ≡ following t (κ ∷ κs) c
  stays l =
      let next : top * S + (left + 1) ≡ c + 1 = omega (arith, split) in
      let high : top ≡ (c + 1) / S = sym (digits_div top l) ∙ ap (λ (x : ℕ). x / S) next in
      let low : left + 1 ≡ (c + 1) % S = sym (digits_mod top l) ∙ ap (λ (x : ℕ). x % S) next in
      let more : c + 1 < kind_size t κ * S = omega (arith, next, mul-le-mul_right S top_below) in
      rw (lt-ltb _ _ more, ← high, ← low)

  -- the first goes up, and those after it begin again
  carries : S ≤ left + 1 → carried_to t κ κs (value_at κ top) none ≡ following t (κ ∷ κs) c
  carries l = rw (digit_value t κ top top_below, ← first-values t κs) (go (ltb (top + 1) (kind_size t κ)) refl)
    where
      rest : left + 1 ≡ S
      rest = omega (arith, mod-lt c (size_pos t κs))

      next : (top + 1) * S + 0 ≡ c + 1
      next = omega (arith, split, rest)

      go : (b : Bool) → ltb (top + 1) (kind_size t κ) ≡ b → cond b (some (value_at κ (top + 1) ∷ values_at t κs 0)) none ≡ following t (κ ∷ κs) c
      go true e =
          let pos = size_pos t κs in
          let high : top + 1 ≡ (c + 1) / S = sym (digits_div (top + 1) pos) ∙ ap (λ (x : ℕ). x / S) next in
          let low : 0 ≡ (c + 1) % S = sym (digits_mod (top + 1) pos) ∙ ap (λ (x : ℕ). x % S) next in
          let more : c + 1 < kind_size t κ * S = omega (arith, next, pos, mul-le-mul_right S (ltb-true (top + 1) (kind_size t κ) e)) in
          rw (lt-ltb _ _ more, ← high, ← low)
      go false e =
          let last : kind_size t κ * S ≤ c + 1 = omega (arith, next, mul-le-mul_right S (ltb-false (top + 1) (kind_size t κ) e)) in
          rw (le-ltb _ _ last)

pub step_values : (t : Traces) (κs : List Kind) (c : ℕ) → c < size t κs → next_values t κs (values_at t κs c) ≡ following t κs c
step_values t [] c h = rw (le-ltb (c + 1) 1 (omega arith))
step_values t (κ ∷ κs) c h =
    let S = size t κs in
    rw (step_values t κs (c % S) (mod-lt c (size_pos t κs))) (go (ltb (c % S + 1) S) refl)
  where
    go : (b : Bool) → ltb (c % size t κs + 1) (size t κs) ≡ b
        → carried_to t κ κs (value_at κ (c / size t κs)) (cond b (some (values_at t κs (c % size t κs + 1))) none) ≡ following t (κ ∷ κs) c
    go true e = stays t κ κs c h (ltb-true _ _ e)
    go false e = carries t κ κs c h (ltb-false _ _ e)

-- ---- Of cells

pub step_cell : (t : Traces) (P : Program) (c : ℕ) (k : Config) (vs : List Value) → config_at t P c ≡ some k
    → next_values t k.fun.params k.args ≡ some vs → config_at t P (c + 1) ≡ some (record { fun = k.fun; args = vs })
step_cell t [] c k vs e n = let z : ◌≡◌ {A = ℕ} 0 1 = cc in absurd (omega arith)
step_cell t (f ∷ P) c k vs e n = go (λ q. step_cell t P (c - size t f.params) k vs q n) (ltb c (size t f.params)) refl e
  where
    here : Config
    here = record { fun = f; args = values_at t f.params c }

    next : List Value → Config
    next ws = record { fun = f; args = ws }

    inside : (b : Bool) → ltb (c + 1) (size t f.params) ≡ b → cond b (some (values_at t f.params (c + 1))) none ≡ some vs
        → config_at t (f ∷ P) (c + 1) ≡ some (next vs)
    inside true l q = let same : values_at t f.params (c + 1) ≡ vs = cc in rw l (ap (λ (ws : List Value). some (next ws)) same)
    inside false l q = let z : ◌≡◌ {A = ℕ} 0 1 = cc in absurd (omega arith)

    go : (config_at t P (c - size t f.params) ≡ some k → config_at t P (c - size t f.params + 1) ≡ some (record { fun = k.fun; args = vs }))
        → (b : Bool) → ltb c (size t f.params) ≡ b → cond b (some here) (config_at t P (c - size t f.params)) ≡ some k
        → config_at t (f ∷ P) (c + 1) ≡ some (record { fun = k.fun; args = vs })
    go later true l q =
        let same : here ≡ k = cc in
        let stepped : next_values t f.params (values_at t f.params c) ≡ some vs = rw (← same) at n in
        rw (← same) (inside (ltb (c + 1) (size t f.params)) refl (sym (step_values t f.params c (ltb-true _ _ l)) ∙ stepped))
    go later false l q =
        let past = ltb-false c (size t f.params) l in
        let one : c + 1 - size t f.params ≡ c - size t f.params + 1 = omega arith in
        rw (le-ltb (c + 1) (size t f.params) (omega arith), one) (later q)

-- ---- By the last digit

first_snoc : (κs : List Kind) (κ : Kind) → first_values (κs ++ (κ ∷ [])) ≡ first_values κs ++ (value_at κ 0 ∷ [])
first_snoc [] κ = refl
first_snoc (κ₀ ∷ κs) κ = ap (λ (vs : List Value). value_at κ₀ 0 ∷ vs) (first_snoc κs κ)

-- digits that have stepped, with one after them at its first value
abbrev pub before : Kind → Option (List Value) → Option (List Value)
before κ none = none
before κ (some vs) = some (vs ++ (value_at κ 0 ∷ []))

module _ (t : Traces) (κ : Kind) (v : Value) where
  -- a step by whether the last digit goes up
  abbrev pub by_last : List Kind → List Value → Bool → Option (List Value)
  by_last κs vs up = cond up (some (vs ++ (value_at κ (digit_of v + 1) ∷ []))) (before κ (next_values t κs vs))

  -- a digit before them
  carried_last : (κ₀ : Kind) (κs : List Kind) (v₀ : Value) (next : Option (List Value))
      → carried_to t κ₀ (κs ++ (κ ∷ [])) v₀ (before κ next) ≡ before κ (carried_to t κ₀ κs v₀ next)
  carried_last κ₀ κs v₀ (some vs) = refl
  carried_last κ₀ κs v₀ none = rw (first_snoc κs κ) (go (ltb (digit_of v₀ + 1) (kind_size t κ₀)))
    where
      go : (b : Bool) → cond b (some (value_at κ₀ (digit_of v₀ + 1) ∷ (first_values κs ++ (value_at κ 0 ∷ [])))) none
          ≡ before κ (cond b (some (value_at κ₀ (digit_of v₀ + 1) ∷ first_values κs)) none)
      go true = refl
      go false = refl

  pub next_last : (κs : List Kind) (vs : List Value) → length vs ≡ length κs
      → next_values t (κs ++ (κ ∷ [])) (vs ++ (v ∷ [])) ≡ by_last κs vs (ltb (digit_of v + 1) (kind_size t κ))
  next_last [] [] e = refl
  next_last [] (x ∷ vs) e = absurd (omega (arith, e))
  next_last (κ₀ ∷ κs) [] e = absurd (omega (arith, e))
  next_last (κ₀ ∷ κs) (v₀ ∷ vs) e =
      rw (next_last κs vs (omega (arith, e))) (go (ltb (digit_of v + 1) (kind_size t κ)))
    where
      go : (b : Bool) → carried_to t κ₀ (κs ++ (κ ∷ [])) v₀ (by_last κs vs b) ≡ by_last (κ₀ ∷ κs) (v₀ ∷ vs) b
      go true = refl
      go false = carried_last κ₀ κs v₀ (next_values t κs vs)
