-- Calls, their arguments taken one after the other:
--   lookup_means             a call looked up by the number of its arguments
--   Due                      a call that has taken some of its arguments
--   due_first, due_next      before the first, and after one more
--   args_none, args_one      what it comes to where none is due, and by one that is due and those after it
use Rattle.std.proofs.Common.{◌≡◌, ℕ, suc, ◌+◌, ◌-◌, ◌*◌, ◌/◌, ◌%◌, ◌<◌, ◌≤◌, cond, List, [], ◌∷◌, length, get_or, sym, refl, ap, ◌∙◌, mul-le-mul_right, mod-eq_of_lt, mul-le-mul_left, zero-add, zero-mul, add-one, arith}
use mathlib.Core.Option.{Option, none, some}
use lib.ListN.{get_elem?}
use lib.Dec as dec
use Rattle.semantics.specs.declared.Outcome.{Outcome}
use Rattle.semantics.specs.declared.Outcome.TheVariants.{Truth, Suffix, Failed}
use Rattle.semantics.specs.declared.Kind.{Kind}
use Rattle.semantics.specs.declared.Demand.TheVariants.{Only as only}
use Rattle.semantics.specs.Language.{Function, Program, Traces, Value, bit, suffix, given, in_kind, InKinds}
use Rattle.semantics.specs.Rules.{Arguments, values, failed}
use Rattle.semantics.specs.Numbering.{kind_size, digit_of, size, number, cell_of, most_cells}
use Rattle.semantics.specs.Cells.{content_of, outcome_in}
use Rattle.semantics.specs.Bodies.{with_value, with_values}
use Rattle.semantics.specs.Visits.{Table, lookup}
use Rattle.semantics.proofs.Numbering.{size_pos, number_lt}
use Rattle.semantics.proofs.Visits.{lookup-held}
use Rattle.codes.specs.declared.Lengths.{Lengths}
use Rattle.codes.specs.{working_of, lowest_code, foreign}
use Rattle.codes.proofs.CodeMeaning.{ShortTraces, LengthsOf, OfDemand, working_content, radix_means, value_own, value_digit, none_foreign, failed-foreign}
use Rattle.codes.proofs.Bounds.{lengths_short}
use Rattle.decoding.specs.Words.{first_in, values_in, lowest_in, kind_word}
use Rattle.decoding.proofs.Packing.{values_in_lem, lowest_in_lem}
use Rattle.evaluator.specs.{bound, function_at, param_at, next_index, lookup_by, args_in}
use Rattle.evaluator.proofs.Sets.{Sets}
use Rattle.evaluator.proofs.CellMeaning.{first_cell_lem, first-within, held_means, first_is}

-- ---- The look-up

pub lookup_means : (P : Program) (t : Traces) (n : Lengths) (bytes words traces : List ℕ) → Sets P t n bytes words traces
    → (T : Table) (g : ℕ) (f : Function) (vs : List Value) → get_elem? P g ≡ some f
    → lookup_by (function_at words g) T (number t f.params vs) ≡ content_of (lookup P t T g vs)
unfolding lookup_by
lookup_means P t n bytes words traces s T g f vs e =
    let place : first_in (function_at words g) + number t f.params vs ≡ cell_of t P g vs =
    rw (first_is s g f e) (sym (first_cell_lem t P g f vs e)) in
    held_means s g f e (get_or T (first_in (function_at words g) + number t f.params vs) 0)
    ∙ ap (λ (c : ℕ). content_of (outcome_in t f.result (get_or T c 0))) place
    ∙ ap content_of (sym (lookup-held P t T g vs f e))

-- ---- One more digit

below_product : (a s b : ℕ) → 0 < s → a * s ≤ b → a ≤ b
below_product a s b h l = omega (arith, mul-le-mul_left a h)

-- a number with one more digit stays below the product of the radices
digit-within : (index radix digit s b : ℕ) → digit < radix → suc index * (radix * s) ≤ b → suc (index * radix + digit) * s ≤ b
digit-within index radix digit s b h l =
    let top : suc (index * radix + digit) ≤ suc index * radix = omega arith in
    omega (arith, mul-le-mul_right s top)

regroup : (a r d s m : ℕ) → (a * r + d) * s + m ≡ a * (r * s) + (d * s + m)
regroup a r d s m = omega arith

next_index_lem : (index radix digit : ℕ) → index < bound → next_index index radix digit ≡ index * radix + digit
next_index_lem index radix digit h = rw (mod-eq_of_lt h)

digit-below : (t : Traces) (κ : Kind) (v : Value) → dec.T (in_kind t κ v) → digit_of v < kind_size t κ
digit-below t κ v h = omega (arith, number_lt t (κ ∷ []) (v ∷ []) (h, tt))

-- ---- Arguments

with_rest : (v : Value) (rs : Option Arguments) (k : List Value → Option Outcome)
    → with_values Failed (with_values failed rs (λ ws. some (values (v ∷ ws)))) k ≡ with_values Failed rs (λ ws. k (v ∷ ws))
with_rest v none k = refl
with_rest v (some (values ws)) k = refl
with_rest v (some (failed x)) k = refl

-- an argument by its number c, and what comes later by the number of the arguments so far
module _ (t : Traces) (κ : Kind) (index : ℕ) (low : index < bound) (c : ℕ) (later : ℕ → ℕ)
    (rs : Option Arguments) (k : List Value → Option Outcome)
    (more : (v : Value) → dec.T (in_kind t κ v) → later (index * kind_size t κ + digit_of v) ≡ content_of (with_values Failed rs (λ ws. k (v ∷ ws)))) where
  -- what a call makes of an argument
  abbrev taken : ℕ
  taken = cond (foreign (lowest_code κ) (kind_size t κ) c) c (later (next_index index (kind_size t κ) (c - lowest_code κ)))

  value_means : (v : Value) → dec.T (in_kind t κ v) → c ≡ working_of (given v)
      → taken ≡ content_of (with_values Failed (with_values failed rs (λ ws. some (values (v ∷ ws)))) k)
  value_means v h e =
      rw (e, value_own t κ v h, value_digit t κ v h, next_index_lem index (kind_size t κ) (digit_of v) low, with_rest v rs k) (more v h)

  arg_means : (r : Option Outcome) → OfDemand t (only κ) r → c ≡ working_content r
      → taken ≡ content_of (with_values Failed (with_value failed r (λ v. with_values failed rs (λ ws. some (values (v ∷ ws))))) k)
  arg_means none h e = rw (e, none_foreign t κ)
  arg_means (some (Truth b)) h e = value_means (bit b) (h (Truth b) refl) e
  arg_means (some (Suffix a m)) h e = value_means (suffix a m) (h (Suffix a m) refl) e
  arg_means (some (Failed x)) h e = rw (e, failed-foreign t κ x)

-- a call of function g that has taken its arguments up to i, their number so far being `index`: the kinds of those that are
-- due, and what is looked up with their values
pub record Due (t : Traces) (n : Lengths) (words : List ℕ) (T : Table) (g : ℕ) (κs : List Kind) (i index : ℕ) (k : List Value → Option Outcome) : Type 0 where
  pub kinds : (j : ℕ) (κ : Kind) → get_elem? κs j ≡ some κ → param_at words g (i + j) ≡ kind_word κ n
  pub fits : suc index * size t κs ≤ most_cells
  pub found : (vs : List Value) → InKinds t κs vs → lookup_by (function_at words g) T (index * size t κs + number t κs vs) ≡ content_of (k vs)

-- at first all are due
pub due_first : (P : Program) (t : Traces) (n : Lengths) (bytes words traces : List ℕ) → Sets P t n bytes words traces
    → (T : Table) (g : ℕ) (f : Function) → get_elem? P g ≡ some f
    → Due t n words T g f.params 0 0 (lookup P t T g)
due_first P t n bytes words traces s T g f e = record {
  kinds = λ j κ q. rw (zero-add j) (s.param g j f κ e q);
  fits = omega (arith, first-within t P g f e, s.fits);
  found = λ vs h. rw (zero-mul (size t f.params), zero-add (number t f.params vs)) (lookup_means P t n bytes words traces s T g f vs e);
}

module _ (t : Traces) (n : Lengths) (words : List ℕ) (T : Table) (g i index : ℕ) (k : List Value → Option Outcome) where
  module _ (κ : Kind) (κs : List Kind) (due : Due t n words T g (κ ∷ κs) i index k) where
    pub due_next : (v : Value) → dec.T (in_kind t κ v) → Due t n words T g κs (suc i) (index * kind_size t κ + digit_of v) (λ vs. k (v ∷ vs))
    due_next v h = record {
      kinds = λ j κ' q. let same : i + suc j ≡ suc i + j = omega arith in rw same at (due.kinds (suc j) κ' q);
      fits = digit-within index (kind_size t κ) (digit_of v) (size t κs) most_cells (digit-below t κ v h) due.fits;
      found = λ vs hs. rw (regroup index (kind_size t κ) (digit_of v) (size t κs) (number t κs vs)) (due.found (v ∷ vs) (h, hs));
    }

    -- an argument that stands at a place; `rest` has the places of those after it
    pub args_one : ShortTraces t → LengthsOf t n → (eval : ℕ → ℕ) (at rest : ℕ) (r : Option Outcome) (rs : Option Arguments) → OfDemand t (only κ) r
        → rest % 4096 ≡ at → eval at ≡ working_content r
        → ((v : Value) → dec.T (in_kind t κ v)
        → args_in words T eval g (length κs) (suc i) (index * kind_size t κ + digit_of v) (rest / 4096)
        ≡ content_of (with_values Failed rs (λ vs. k (v ∷ vs))))
        → args_in words T eval g (length (κ ∷ κs)) i index rest
        ≡ content_of (with_values Failed (with_value failed r (λ v. with_values failed rs (λ vs. some (values (v ∷ vs))))) k)
    unfolding args_in
    args_one short ls eval at rest r rs h place q more =
        let low : index < bound = omega (arith, below_product (suc index) (size t (κ ∷ κs)) most_cells (size_pos t (κ ∷ κs)) due.fits) in
        let first : i + 0 ≡ i = omega arith in
        let kind : param_at words g i ≡ kind_word κ n = rw first at (due.kinds 0 κ refl) in
        let many : values_in (param_at words g i) ≡ kind_size t κ =
        ap values_in kind ∙ values_in_lem κ n (lengths_short short ls) ∙ radix_means ls κ in
        let lowest : lowest_in (param_at words g i) ≡ lowest_code κ = ap lowest_in kind ∙ lowest_in_lem κ n in
        rw (place, many, lowest, add-one i)
        (arg_means t κ index low (eval at) (λ next. args_in words T eval g (length κs) (suc i) next (rest / 4096)) rs k more r h q)

  pub args_none : Due t n words T g [] i index k → (eval : ℕ → ℕ) (rest : ℕ) → args_in words T eval g 0 i index rest ≡ content_of (k [])
  unfolding args_in
  args_none due eval rest =
      let same : index * 1 + 0 ≡ index = omega arith in
      rw same at (due.found [] tt)
