-- The numbers of configurations, for any number of parameters and functions:
--   kind_pos, size_pos, number_lt               there is one, and a configuration's number is below their count
--   digit_lt, value_digit, digit_value          the place of a value among those of its kind, and back
--   values-number, number-values, values_in_lem     numbers and values of their kinds are inverse to each other
--   cell_lt, config_cell                        the cell of a configuration is a cell, and stands for it
--   Place, here, place                          each cell is some configuration's
--   main-cell                                   main's cell on the whole trace or traces
use Prim.Native.Nat.{ℕ, zero, suc, ◌+◌, ◌-◌, ◌*◌, ◌/◌, ◌%◌, ◌≤◌, ◌<◌}
use native.Mathlib.Omega.{arith}
use native.Mathlib.Nat.{mul-pos, mod-lt, div-add-mod', div-lt_iff_lt-mul, mul-le-mul_right}
use mathlib.Core.Path.{◌≡◌, refl}
use mathlib.Core.Bool.{Bool, true, false}
use mathlib.Core.List.{List, [], ◌∷◌}
use mathlib.Core.Option.{some}
use lib.ListN.{get_elem?}
use lib.Dec.{T, ltb}
use lib.Arith.{digits_div, digits_mod}
use borrow.Author.Tests.{ltb-true, ltb-false, lt-ltb, le-ltb}
use Rattle.semantics.specs.declared.Sort.{Sort}
use Rattle.semantics.specs.declared.Sort.TheVariants.{One, Two}
use Rattle.semantics.specs.declared.Kind.{Kind}
use Rattle.semantics.specs.declared.Kind.TheVariants.{Truth as truth, List as list}
use Rattle.semantics.specs.Language.{Function, Program, main_params, Traces, Value, bit, suffix, in_kind, InKinds, whole_traces}
use Rattle.semantics.specs.Numbering.{kind_size, digit_of, value_at, size, number, values_at, cells, cell_of, config_at}
use Rattle.semantics.specs.Verdicts.{main_cell}
use Rattle.semantics.proofs.Demands.{in_suffix, suffix_in}

-- ---- One digit

pub kind_pos : (t : Traces) (κ : Kind) → 0 < kind_size t κ
kind_pos t truth = omega arith
kind_pos t (list c) = omega arith

pub digit_lt : (t : Traces) (κ : Kind) (v : Value) → T (in_kind t κ v) → digit_of v < kind_size t κ
digit_lt t truth (bit true) h = omega arith
digit_lt t truth (bit false) h = omega arith
digit_lt t truth (suffix c k) h = absurd h
digit_lt t (list c) (bit b) h = absurd h
digit_lt t (list c) (suffix c' k) h = omega (arith, (suffix_in t c c' k h).1)

pub value_digit : (t : Traces) (κ : Kind) (v : Value) → T (in_kind t κ v) → value_at κ (digit_of v) ≡ v
value_digit t truth (bit true) h = refl
value_digit t truth (bit false) h = refl
value_digit t truth (suffix c k) h = absurd h
value_digit t (list c) (bit b) h = absurd h
value_digit t (list c) (suffix c' k) h = rw (suffix_in t c c' k h).0

pub digit_value : (t : Traces) (κ : Kind) (i : ℕ) → i < kind_size t κ → digit_of (value_at κ i) ≡ i
digit_value t truth zero h = refl
digit_value t truth (suc zero) h = refl
digit_value t truth (suc (suc i)) h = omega arith
digit_value t (list c) i h = refl

value_in : (t : Traces) (κ : Kind) (i : ℕ) → i < kind_size t κ → T (in_kind t κ (value_at κ i))
value_in t truth zero h = tt
value_in t truth (suc i) h = tt
value_in t (list c) i h = in_suffix t c i (omega arith)

-- ---- All digits of a configuration

pub size_pos : (t : Traces) (κs : List Kind) → 0 < size t κs
size_pos t [] = omega arith
size_pos t (κ ∷ κs) = mul-pos (kind_pos t κ) (size_pos t κs)

pub number_lt : (t : Traces) (κs : List Kind) (vs : List Value) → InKinds t κs vs → number t κs vs < size t κs
number_lt t [] [] h = omega arith
number_lt t [] (v ∷ vs) h = absurd h
number_lt t (κ ∷ κs) [] h = absurd h
number_lt t (κ ∷ κs) (v ∷ vs) h =
    let a = number_lt t κs vs h.1 in
    let b : suc (digit_of v) * size t κs ≤ kind_size t κ * size t κs = mul-le-mul_right (size t κs) (digit_lt t κ v h.0) in
    omega arith

pub values-number : (t : Traces) (κs : List Kind) (vs : List Value) → InKinds t κs vs → values_at t κs (number t κs vs) ≡ vs
values-number t [] [] h = refl
values-number t [] (v ∷ vs) h = absurd h
values-number t (κ ∷ κs) [] h = absurd h
values-number t (κ ∷ κs) (v ∷ vs) h =
    let a = number_lt t κs vs h.1 in
    rw (digits_div (digit_of v) a, digits_mod (digit_of v) a, value_digit t κ v h.0, values-number t κs vs h.1)

top_digit : (t : Traces) (κ : Kind) (κs : List Kind) (i : ℕ) → i < size t (κ ∷ κs) → i / size t κs < kind_size t κ
top_digit t κ κs i h = (div-lt_iff_lt-mul (size_pos t κs)).1 h

pub number-values : (t : Traces) (κs : List Kind) (i : ℕ) → i < size t κs → number t κs (values_at t κs i) ≡ i
number-values t [] i h = omega arith
number-values t (κ ∷ κs) i h =
    rw (digit_value t κ (i / size t κs) (top_digit t κ κs i h), number-values t κs (i % size t κs) (mod-lt i (size_pos t κs)))
    (div-add-mod' i (size t κs))

pub values_in_lem : (t : Traces) (κs : List Kind) (i : ℕ) → i < size t κs → InKinds t κs (values_at t κs i)
values_in_lem t [] i h = tt
values_in_lem t (κ ∷ κs) i h = (value_in t κ (i / size t κs) (top_digit t κ κs i h), values_in_lem t κs (i % size t κs) (mod-lt i (size_pos t κs)))

-- ---- The functions' cells, one after the other

pub cell_lt : (t : Traces) (P : Program) (g : ℕ) (f : Function) (vs : List Value) → get_elem? P g ≡ some f → InKinds t f.params vs
    → cell_of t P g vs < cells t P
cell_lt t [] g f vs e h = let z : ◌≡◌ {A = ℕ} 0 1 = cc in absurd (omega arith)
cell_lt t (f₀ ∷ P) zero f vs e h = let q : f ≡ f₀ = cc in let a = number_lt t f₀.params vs (rw q at h) in omega arith
cell_lt t (f₀ ∷ P) (suc g) f vs e h = omega (arith, cell_lt t P g f vs e h)

back : (a b : ℕ) → a + b - a ≡ b
back a b = omega arith

pub config_cell : (t : Traces) (P : Program) (g : ℕ) (f : Function) (vs : List Value) → get_elem? P g ≡ some f → InKinds t f.params vs
    → config_at t P (cell_of t P g vs) ≡ some (record { fun = f; args = vs })
config_cell t [] g f vs e h = let z : ◌≡◌ {A = ℕ} 0 1 = cc in absurd (omega arith)
config_cell t (f₀ ∷ P) zero f vs e h =
    let q : f ≡ f₀ = cc in
    let k : InKinds t f₀.params vs = rw q at h in
    rw (lt-ltb _ _ (number_lt t f₀.params vs k), values-number t f₀.params vs k, q)
config_cell t (f₀ ∷ P) (suc g) f vs e h =
    rw (le-ltb (size t f₀.params + cell_of t P g vs) (size t f₀.params) (omega arith), back (size t f₀.params) (cell_of t P g vs))
    (config_cell t P g f vs e h)

-- ---- The configuration of a cell

pub record Place (t : Traces) (P : Program) (c : ℕ) : Type 0 where
  pub g : ℕ
  pub f : Function
  pub vs : List Value
  pub is_fun : get_elem? P g ≡ some f
  pub are_in : InKinds t f.params vs
  pub cell : cell_of t P g vs ≡ c
  pub config : config_at t P c ≡ some (record { fun = f; args = vs })

abbrev pub here : (t : Traces) (P : Program) (g : ℕ) (f : Function) (vs : List Value) → get_elem? P g ≡ some f → InKinds t f.params vs
    → Place t P (cell_of t P g vs)
here t P g f vs e h = record { g = g; f = f; vs = vs; is_fun = e; are_in = h; cell = refl; config = config_cell t P g f vs e h }

place-first : (t : Traces) (f : Function) (P : Program) (c : ℕ) → c < size t f.params → Place t (f ∷ P) c
place-first t f P c h = record {
  g = zero;
  f = f;
  vs = values_at t f.params c;
  is_fun = refl;
  are_in = values_in_lem t f.params c h;
  cell = number-values t f.params c h;
  config = rw (lt-ltb c (size t f.params) h);
}

place_later : (t : Traces) (f : Function) (P : Program) (c : ℕ) → size t f.params ≤ c → Place t P (c - size t f.params) → Place t (f ∷ P) c
place_later t f P c h r = record {
  g = suc r.g;
  f = r.f;
  vs = r.vs;
  is_fun = r.is_fun;
  are_in = r.are_in;
  cell = omega (arith, r.cell);
  config = rw (le-ltb c (size t f.params) h) r.config;
}

pub place : (t : Traces) (P : Program) (c : ℕ) → c < cells t P → Place t P c
place t [] c h = absurd (omega arith)
place t (f ∷ P) c h = go (λ k. place t P (c - size t f.params) k) (ltb c (size t f.params)) refl
  where
    go : (c - size t f.params < cells t P → Place t P (c - size t f.params)) → (b : Bool) → ltb c (size t f.params) ≡ b → Place t (f ∷ P) c
    go r true e = place-first t f P c (ltb-true _ _ e)
    go r false e = let l = ltb-false c (size t f.params) e in place_later t f P c l (r (omega arith))

-- ---- Main

-- the whole traces are the last of main's configurations
whole-last : (s : Sort) (t : Traces) → number t (main_params s) (whole_traces s t) ≡ size t (main_params s) - 1
whole-last One t = omega arith
whole-last Two t = omega arith

pub main-cell : (s : Sort) (t : Traces) (P : Program) (f : Function) → get_elem? P 0 ≡ some f → f.params ≡ main_params s
    → cell_of t P 0 (whole_traces s t) ≡ main_cell t P
main-cell s t [] f e h = let z : ◌≡◌ {A = ℕ} 0 1 = cc in absurd (omega arith)
main-cell s t (f₀ ∷ P) f e h = let q : f₀.params ≡ main_params s = cc in rw q (whole-last s t)
