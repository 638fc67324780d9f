-- Parameter values as digits that step from cell to cell:
--   step_stops, step_goes,
--   step_whole                     a step of the code's: where it ends, where it carries, and where nothing is left
--   lengths_long                   the lengths of traces that are as long
--   size-kinds, size_most          how many configurations a function has, and how many at most
--   digits_step                    a step of digits is that of the values
--   row_step, at_row               within a row the last digit goes up by one: the values of each cell
--   row_over                       from the values of a row's last cell to those of the next row's first
--   low_high, high_small           the first and the last value of the last parameter
--   at_first                       the values of a function's first cell
--   at_others                      whatever stands in the last parameter's place
use Prim.Native.Nat.{ℕ, zero, suc, ◌+◌, ◌-◌, ◌/◌, ◌%◌, ◌^◌, ◌<◌, ◌≤◌}
use native.Mathlib.Nat.{zero-add, add-zero, mul-le-mul, pow-succ', pow-le-pow_right}
use native.Mathlib.Numerals.{sub-one}
use native.Mathlib.Omega.{arith}
use mathlib.Core.Path.{◌≡◌, refl, sym, ap, ◌∙◌}
use mathlib.Core.Bool.{Bool, true, false, cond, true≢false}
use mathlib.Core.List.{List, [], ◌∷◌, ◌++◌}
use mathlib.Core.Option.{Option, none, some}
use lib.Dec.{T, ltb}
use lib.ListN.{length, get_or, set, drop, length-set, length-append, length-replicate, length-drop}
use lib.Seq.{get_or-append_seam, set-append_seam, get_or-set_same, get_or-set_other, set-set, set_comm}
use borrow.Author.Tests.{lt-ltb, le-ltb, lt-leb, ltb-true, ltb-false}
use Rattle.semantics.specs.declared.Contact.TheVariants.{Ram, Guard}
use Rattle.semantics.specs.declared.Kind.{Kind}
use Rattle.semantics.specs.declared.Kind.TheVariants.{Truth as truth, List as list}
use Rattle.semantics.specs.Language.{Traces, Value, given, in_kind, InKinds}
use Rattle.semantics.specs.Numbering.{kind_size, digit_of, value_at}
use Rattle.semantics.specs.Digits.{first_values, next_values}
use Rattle.semantics.proofs.Numbering.{kind_pos, size_pos, digit_lt, value_digit, values_in_lem}
use Rattle.semantics.proofs.Digits.{first-values, step_values, before, by_last, next_last}
use Rattle.syntax.specs.Limits.{most_params}
use Rattle.syntax.specs.Kinds.{signature_of, kind_in}
use Rattle.rule.specs.Reading.{kind_at, kinds_from}
use Rattle.rule.proofs.KindBytes.{length-kinds}
use Rattle.codes.specs.declared.Lengths.{Lengths}
use Rattle.codes.specs.{Short, working_of, radix_of, lowest_code}
use Rattle.codes.proofs.Bounds.{radix_pos, radix_small, lowest_small}
use Rattle.codes.proofs.CodeMeaning.{LengthsOf}
use Rattle.passes.specs.Digits.{kinds_of, traces_long, configurations, values_of, digits_of, blank, env_of, array_of, firsts_of, lasts_of, AtCell, StepsCells}
use Rattle.passes.specs.Mirror.{most_values, most_configurations, size_from, stepped, SameOthers}
use Rattle.evaluator.specs.{digit_bound}
use Rattle.passes.proofs.FunctionsMeaning.{kind_in_lem, radix_in, size_from_lem}

-- ---- Steps, as the code makes them

-- whether one of so many digits can go up
steps : List ℕ → List ℕ → ℕ → List ℕ → Bool
steps firsts lasts zero env = false
steps firsts lasts (suc i) env = cond (ltb (get_or env i 0) (get_or lasts i 0)) true (steps firsts lasts i (set env i (get_or firsts i 0)))

module _ (firsts lasts : List ℕ) where
  pub step_stops : (i : ℕ) (env : List ℕ) → 0 < i → get_or env (i - 1) 0 < get_or lasts (i - 1) 0
      → set env (i - 1) (get_or env (i - 1) 0 + 1) ≡ stepped firsts lasts i env
  unfolding stepped
  step_stops zero env z h = absurd (omega arith)
  step_stops (suc i) env z h =
      let test : get_or env i 0 < get_or lasts i 0 = rw sub-one at h in
      rw (sub-one, lt-ltb _ _ test)

  pub step_goes : (i : ℕ) (env : List ℕ) → 0 < i → get_or lasts (i - 1) 0 ≤ get_or env (i - 1) 0
      → stepped firsts lasts i env ≡ stepped firsts lasts (i - 1) (set env (i - 1) (get_or firsts (i - 1) 0))
  unfolding stepped
  step_goes zero env z h = absurd (omega arith)
  step_goes (suc i) env z h =
      let test : get_or lasts i 0 ≤ get_or env i 0 = rw sub-one at h in
      rw (sub-one, le-ltb _ _ test)

  pub step_whole : (i : ℕ) (env : List ℕ) → i ≤ 0 → env ≡ stepped firsts lasts i env
  unfolding stepped
  step_whole zero env h = refl
  step_whole (suc i) env h = absurd (omega arith)

  -- what stands past the digits goes through
  step_other : (c : ℕ) (env : List ℕ) (j v : ℕ) → c ≤ j
      → (stepped firsts lasts c (set env j v) ≡ set (stepped firsts lasts c env) j v) × (steps firsts lasts c (set env j v) ≡ steps firsts lasts c env)
  unfolding stepped steps
  step_other zero env j v h = (refl, refl)
  step_other (suc c) env j v h =
      let same = get_or-set_other env j c v 0 (λ e. omega arith) in
      rw same (go (λ e. step_other c e j v (omega arith)) (ltb (get_or env c 0) (get_or lasts c 0)))
    where
      first : ℕ
      first = get_or firsts c 0

      swap : (w : ℕ) → set (set env j v) c w ≡ set (set env c w) j v
      swap w = set_comm env j c v w (λ e. omega arith)

      go : ((e : List ℕ) → (stepped firsts lasts c (set e j v) ≡ set (stepped firsts lasts c e) j v) × (steps firsts lasts c (set e j v) ≡ steps firsts lasts c e))
          → (b : Bool)
          → (cond b (set (set env j v) c (get_or env c 0 + 1)) (stepped firsts lasts c (set (set env j v) c first))
          ≡ set (cond b (set env c (get_or env c 0 + 1)) (stepped firsts lasts c (set env c first))) j v)
          × (cond b true (steps firsts lasts c (set (set env j v) c first)) ≡ cond b true (steps firsts lasts c (set env c first)))
      go ih true = (swap _, refl)
      go ih false =
          (ap (stepped firsts lasts c) (swap first) ∙ (ih (set env c first)).0, ap (steps firsts lasts c) (swap first) ∙ (ih (set env c first)).1)

  module _ (slot digit : ℕ) (env : List ℕ) (room : slot < length env) where
    here : get_or (set env slot digit) slot 0 ≡ digit
    here = get_or-set_same env slot digit 0 room

    last_up : digit < get_or lasts slot 0
        → (set env slot (digit + 1) ≡ stepped firsts lasts (suc slot) (set env slot digit)) × (true ≡ steps firsts lasts (suc slot) (set env slot digit))
    unfolding stepped steps
    last_up h = (rw (here, lt-ltb _ _ h) (sym (set-set env slot digit (digit + 1))), rw (here, lt-ltb _ _ h))

    last_over : get_or lasts slot 0 ≤ digit
        → (set (stepped firsts lasts slot env) slot (get_or firsts slot 0) ≡ stepped firsts lasts (suc slot) (set env slot digit))
        × (steps firsts lasts slot env ≡ steps firsts lasts (suc slot) (set env slot digit))
    unfolding stepped steps
    last_over h =
        let first = get_or firsts slot 0 in
        let other = step_other slot env slot first (omega arith) in
        (rw (here, le-ltb _ _ h, set-set env slot digit first) (sym other.0), rw (here, le-ltb _ _ h, set-set env slot digit first) (sym other.1))

-- ---- One digit

-- the working number of a value, by its place among those of its kind
number_at : (t : Traces) (κ : Kind) (d : ℕ) → d < kind_size t κ → working_of (given (value_at κ d)) ≡ lowest_code κ + d
number_at t truth zero h = refl
number_at t truth (suc zero) h = refl
number_at t truth (suc (suc d)) h = absurd (omega arith)
number_at t (list Ram) d h = refl
number_at t (list Guard) d h = refl

number_in : (t : Traces) (κ : Kind) (v : Value) → T (in_kind t κ v) → working_of (given v) ≡ lowest_code κ + digit_of v
number_in t κ v h = rw (value_digit t κ v h) at (number_at t κ (digit_of v) (digit_lt t κ v h))

-- the test whether it goes up
up_test : (low d K : ℕ) → 0 < K → ltb (low + d) (low + K - 1) ≡ ltb (d + 1) K
up_test low d K pos = go (ltb (d + 1) K) refl
  where
    go : (b : Bool) → ltb (d + 1) K ≡ b → ltb (low + d) (low + K - 1) ≡ b
    go true e = let h = ltb-true (d + 1) K e in lt-ltb (low + d) (low + K - 1) (omega arith)
    go false e = let h = ltb-false (d + 1) K e in le-ltb (low + d) (low + K - 1) (omega arith)

-- ---- Lists by their last element

kinds_snoc : (k g i c : ℕ) → kinds_from k g i (suc c) ≡ kinds_from k g i c ++ (kind_at k g (i + c) ∷ [])
unfolding kinds_from
kinds_snoc k g i zero = let e : i ≡ i + 0 = omega arith in ap (λ (m : ℕ). kind_at k g m ∷ []) e
kinds_snoc k g i (suc c) =
    let e : suc i + c ≡ i + suc c = omega arith in
    ap (λ (κs : List Kind). kind_at k g i ∷ κs) (kinds_snoc k g (suc i) c ∙ ap (λ (m : ℕ). kinds_from k g (suc i) c ++ (kind_at k g m ∷ [])) e)

-- values of so many kinds and one more
record Last (t : Traces) (κs : List Kind) (κ : Kind) (vs : List Value) : Type 0 where
  front : List Value
  last : Value
  both : vs ≡ front ++ (last ∷ [])
  fronts : InKinds t κs front
  lasts : T (in_kind t κ last)

last_of : (t : Traces) (κs : List Kind) (κ : Kind) (vs : List Value) → InKinds t (κs ++ (κ ∷ [])) vs → Last t κs κ vs
last_of t [] κ [] h = absurd h
last_of t [] κ (v ∷ []) h = record { front = []; last = v; both = refl; fronts = tt; lasts = h.0 }
last_of t [] κ (v ∷ w ∷ vs) h = absurd h.1
last_of t (κ₀ ∷ κs) κ [] h = absurd h
last_of t (κ₀ ∷ κs) κ (v ∷ vs) h =
    let r = last_of t κs κ vs h.1 in
    record { front = v ∷ r.front; last = r.last; both = ap (λ (l : List Value). v ∷ l) r.both; fronts = (h.0, r.fronts); lasts = r.lasts }

pub values_length : (t : Traces) (κs : List Kind) (vs : List Value) → InKinds t κs vs → length vs ≡ length κs
values_length t [] [] h = refl
values_length t [] (v ∷ vs) h = absurd h
values_length t (κ ∷ κs) [] h = absurd h
values_length t (κ ∷ κs) (v ∷ vs) h = ap suc (values_length t κs vs h.1)

pub digits_length : (vs : List Value) → length (digits_of vs) ≡ length vs
digits_length [] = refl
digits_length (v ∷ vs) = ap suc (digits_length vs)

digits_snoc : (vs : List Value) (v : Value) (rest : List ℕ) → digits_of (vs ++ (v ∷ [])) ++ rest ≡ digits_of vs ++ working_of (given v) ∷ rest
digits_snoc [] v rest = refl
digits_snoc (v₀ ∷ vs) v rest = ap (λ (l : List ℕ). working_of (given v₀) ∷ l) (digits_snoc vs v rest)

-- ---- Steps of digits are steps of values

-- digits, with others after them, have stepped to those of values, or none of them could go up
abbrev SteppedTo : List ℕ → Option (List Value) → Bool → List ℕ → Type 0
SteppedTo rest none more env = more ≡ false
SteppedTo rest (some vs) more env = (more ≡ true) × (env ≡ digits_of vs ++ rest)

module _ (t : Traces) (k g : ℕ) (firsts lasts : List ℕ) (count : ℕ)
    (begins : (i : ℕ) → i < count → get_or firsts i 0 ≡ lowest_code (kind_at k g i))
    (ends : (i : ℕ) → i < count → get_or lasts i 0 ≡ lowest_code (kind_at k g i) + kind_size t (kind_at k g i) - 1) where
  -- one digit more after some
  module _ (c : ℕ) (h : c < count) (us : List Value) (v : Value) (l : length us ≡ c) (is_in : T (in_kind t (kind_at k g c) v)) (rest : List ℕ) where
    abbrev κ : Kind
    κ = kind_at k g c

    abbrev number : ℕ
    number = working_of (given v)

    long : length (digits_of us) ≡ c
    long = digits_length us ∙ l

    there : get_or (digits_of us ++ number ∷ rest) c 0 ≡ number
    there = rw long at (get_or-append_seam (digits_of us) number rest 0)

    put : (w : ℕ) → set (digits_of us ++ number ∷ rest) c w ≡ digits_of us ++ w ∷ rest
    put w = rw long at (set-append_seam (digits_of us) number rest w)

    goes_up : ltb number (get_or lasts c 0) ≡ ltb (digit_of v + 1) (kind_size t κ)
    goes_up = rw (ends c h, number_in t κ v is_in) (up_test (lowest_code κ) (digit_of v) (kind_size t κ) (kind_pos t κ))

    reset : (o : Option (List Value)) (more : Bool) (env : List ℕ) → SteppedTo (get_or firsts c 0 ∷ rest) o more env → SteppedTo rest (before κ o) more env
    reset none more env s = s
    reset (some ws) more env s =
        let low : get_or firsts c 0 ≡ working_of (given (value_at κ 0)) = omega (arith, begins c h, number_at t κ 0 (kind_pos t κ)) in
        (s.0, s.1 ∙ ap (λ (w : ℕ). digits_of ws ++ w ∷ rest) low ∙ sym (digits_snoc ws (value_at κ 0) rest))

    step_one : (κs : List Kind)
        → ((rest' : List ℕ)
        → SteppedTo rest' (next_values t κs us) (steps firsts lasts c (digits_of us ++ rest')) (stepped firsts lasts c (digits_of us ++ rest')))
        → SteppedTo rest (by_last t κ v κs us (ltb (digit_of v + 1) (kind_size t κ))) (steps firsts lasts (suc c) (digits_of us ++ number ∷ rest))
        (stepped firsts lasts (suc c) (digits_of us ++ number ∷ rest))
    unfolding stepped steps
    step_one κs ih = rw (there, goes_up, put (number + 1), put (get_or firsts c 0)) (go (ltb (digit_of v + 1) (kind_size t κ)) refl)
      where
        go : (b : Bool) → ltb (digit_of v + 1) (kind_size t κ) ≡ b
            → SteppedTo rest (by_last t κ v κs us b) (cond b true (steps firsts lasts c (digits_of us ++ get_or firsts c 0 ∷ rest)))
            (cond b (digits_of us ++ (number + 1) ∷ rest) (stepped firsts lasts c (digits_of us ++ get_or firsts c 0 ∷ rest)))
        go true e =
            let more = ltb-true _ _ e in
            let up : number + 1 ≡ working_of (given (value_at κ (digit_of v + 1))) = omega (arith, number_in t κ v is_in, number_at t κ (digit_of v + 1) more) in
            (refl, ap (λ (w : ℕ). digits_of us ++ w ∷ rest) up ∙ sym (digits_snoc us (value_at κ (digit_of v + 1)) rest))
        go false e = reset (next_values t κs us) _ _ (ih (get_or firsts c 0 ∷ rest))

  none_left : (vs : List Value) (rest env : List ℕ) → SteppedTo rest (next_values t (kinds_from k g 0 zero) vs) false env
  unfolding kinds_from
  none_left vs rest env = refl

  digits_step : (c : ℕ) (vs : List Value) (rest : List ℕ) → c ≤ count → InKinds t (kinds_from k g 0 c) vs
      → SteppedTo rest (next_values t (kinds_from k g 0 c) vs) (steps firsts lasts c (digits_of vs ++ rest)) (stepped firsts lasts c (digits_of vs ++ rest))
  unfolding steps
  digits_step zero vs rest h is_in = none_left vs rest _
  digits_step (suc c) vs rest h is_in =
      let κs = kinds_from k g 0 c in
      let all : kinds_from k g 0 (suc c) ≡ κs ++ (kind_at k g c ∷ []) = rw (zero-add c) at (kinds_snoc k g 0 c) in
      let r = last_of t κs (kind_at k g c) vs (rw all at is_in) in
      let same = values_length t κs r.front r.fronts in
      rw (all, r.both, digits_snoc r.front r.last rest, next_last t (kind_at k g c) r.last κs r.front same)
      (step_one c h r.front r.last (same ∙ length-kinds k g 0 c) r.lasts rest κs
      (λ rest'. digits_step c r.front rest' (omega arith) r.fronts))

-- ---- From cell to cell

pub lengths_long : (n : Lengths) → LengthsOf (traces_long n) n
lengths_long n = record { ram = sym (length-replicate n.ram false); guard = sym (length-replicate n.guard false) }

module _ (signature count : ℕ) (n : Lengths) (few : count ≤ most_params) where
  abbrev t : Traces
  t = traces_long n

  abbrev k : ℕ
  k = signature % 256

  abbrev g : ℕ
  g = signature / 256

  byte : k < 256
  byte = omega arith

  whole : signature ≡ signature_of k g
  whole = omega arith

  kind_there : (i : ℕ) → i < 5 → kind_in signature i ≡ (kind_at k g i)
  kind_there i h = ap (λ (s : ℕ). kind_in s i) whole ∙ kind_in_lem k g i byte h

  radix_there : (i : ℕ) → i < 5 → radix_of (kind_in signature i) n ≡ kind_size t (kind_at k g i)
  radix_there i h = ap (λ (s : ℕ). radix_of (kind_in s i) n) whole ∙ radix_in (lengths_long n) k g i byte h

  pub size-kinds : size_from signature n 0 count ≡ configurations signature count n
  size-kinds = ap (λ (s : ℕ). size_from s n 0 count) whole ∙ size_from_lem (lengths_long n) k g 0 count byte (omega arith)

  begins : (i : ℕ) → i < count → get_or (firsts_of signature count) i 0 ≡ lowest_code (kind_at k g i)
  begins zero h = rw (lt-leb count 0 h, kind_there 0 (omega arith))
  begins (suc zero) h = rw (lt-leb count 1 h, kind_there 1 (omega arith))
  begins (suc (suc zero)) h = rw (lt-leb count 2 h, kind_there 2 (omega arith))
  begins (suc (suc (suc zero))) h = rw (lt-leb count 3 h, kind_there 3 (omega arith))
  begins (suc (suc (suc (suc i)))) h = absurd (omega arith)

  ends : (i : ℕ) → i < count → get_or (lasts_of signature count n) i 0 ≡ lowest_code (kind_at k g i) + kind_size t (kind_at k g i) - 1
  ends zero h = rw (lt-leb count 0 h, ← radix_there 0 (omega arith), kind_there 0 (omega arith))
  ends (suc zero) h = rw (lt-leb count 1 h, ← radix_there 1 (omega arith), kind_there 1 (omega arith))
  ends (suc (suc zero)) h = rw (lt-leb count 2 h, ← radix_there 2 (omega arith), kind_there 2 (omega arith))
  ends (suc (suc (suc zero))) h = rw (lt-leb count 3 h, ← radix_there 3 (omega arith), kind_there 3 (omega arith))
  ends (suc (suc (suc (suc i)))) h = absurd (omega arith)

  values_many : (x : ℕ) → x < configurations signature count n → length (values_of signature count n x) ≡ count
  values_many x h = values_length t (kinds_of signature count) _ (values_in_lem t (kinds_of signature count) x h) ∙ length-kinds k g 0 count

  -- the values of a cell stepped
  at_next : (x : ℕ) (env : List ℕ) → x < configurations signature count n → {step_to : List ℕ} {more : Bool}
      → env ≡ env_of n (values_of signature count n x)
      → step_to ≡ stepped (firsts_of signature count) (lasts_of signature count n) count env
      → more ≡ steps (firsts_of signature count) (lasts_of signature count n) count env
      → (more ≡ ltb (x + 1) (configurations signature count n))
      × (more ≡ true → (x + 1 < configurations signature count n) × (step_to ≡ env_of n (values_of signature count n (x + 1))))
  at_next x env h {step_to} {more} e s m =
      let vs = values_of signature count n x in
      let κs = kinds_of signature count in
      let rest = drop (length vs) (blank n) in
      let d = digits_step t k g (firsts_of signature count) (lasts_of signature count n) count begins ends count vs rest (omega arith) (values_in_lem t κs x h) in
      let d' : SteppedTo rest (next_values t κs vs) more step_to = rw (s, m, e) d in
      go (ltb (x + 1) (configurations signature count n)) refl (rw (step_values t κs x h) at d')
    where
      go : (b : Bool) → ltb (x + 1) (configurations signature count n) ≡ b
          → SteppedTo (drop (length (values_of signature count n x)) (blank n)) (cond b (some (values_of signature count n (x + 1))) none) more step_to
          → (more ≡ b) × (more ≡ true → (x + 1 < configurations signature count n) × (step_to ≡ env_of n (values_of signature count n (x + 1))))
      go true l d =
          let next = ltb-true _ _ l in
          let same : length (values_of signature count n x) ≡ length (values_of signature count n (x + 1)) = values_many x h ∙ sym (values_many (x + 1) next) in
          (d.0, λ m. (next, d.1 ∙ ap (λ (j : ℕ). digits_of (values_of signature count n (x + 1)) ++ drop j (blank n)) same))
      go false l d = (d, λ q. absurd (true≢false (sym q ∙ d)))

  -- the working number of a parameter's first value
  first-number : (i : ℕ) → i < 5 → lowest_code (kind_in signature i) ≡ working_of (given (value_at (kind_at k g i) 0))
  first-number i h =
      let κ = kind_at k g i in
      ap lowest_code (kind_there i h) ∙ omega (arith, number_at t κ 0 (kind_pos t κ))

-- the array of first values
firsts_array : (signature : ℕ) (n : Lengths) (count : ℕ) → count ≤ most_params
    → set (array_of (firsts_of signature count) n) (count - 1) (get_or (firsts_of signature count) (count - 1) 0) ≡ env_of n (first_values (kinds_of signature count))
unfolding kinds_from
firsts_array signature n zero h = refl
firsts_array signature n (suc zero) h = rw (first-number signature 1 n h 0 (omega arith))
firsts_array signature n (suc (suc zero)) h = rw (first-number signature 2 n h 0 (omega arith), first-number signature 2 n h 1 (omega arith))
firsts_array signature n (suc (suc (suc zero))) h =
    rw (first-number signature 3 n h 0 (omega arith), first-number signature 3 n h 1 (omega arith), first-number signature 3 n h 2 (omega arith))
firsts_array signature n (suc (suc (suc (suc zero)))) h =
    rw (
      first-number signature 4 n h 0 (omega arith),
      first-number signature 4 n h 1 (omega arith),
      first-number signature 4 n h 2 (omega arith),
      first-number signature 4 n h 3 (omega arith),
    )
firsts_array signature n (suc (suc (suc (suc (suc c))))) h = absurd (omega arith)

pub at_first : (signature count : ℕ) (n : Lengths) → count ≤ most_params → {env : List ℕ} {digit : ℕ} → env ≡ array_of (firsts_of signature count) n
    → digit ≡ get_or (firsts_of signature count) (count - 1) 0 → AtCell signature count n 0 env digit
at_first signature count n few e d = record {
  inside = size_pos (traces_long n) (kinds_of signature count);
  values = rw (e, d) (firsts_array signature n count few ∙ ap (env_of n) (sym (first-values (traces_long n) (kinds_of signature count))));
}

-- whatever stands in the last parameter's place
pub at_others : {signature count index digit : ℕ} {n : Lengths} {env env' : List ℕ} → AtCell signature count n index env digit → SameOthers (count - 1) env env'
    → AtCell signature count n index env' digit
at_others {digit = digit} at o = record { inside = at.inside; values = o digit ∙ at.values }

-- the array has a place for the last parameter
env_length : (n : Lengths) (vs : List Value) → length vs ≤ 6 → length (env_of n vs) ≡ 6
env_length n vs h = omega (arith, length-append (digits_of vs) (drop (length vs) (blank n)), digits_length vs, length-drop (length vs) (blank n))

module _ (signature count : ℕ) (n : Lengths) (few : count ≤ most_params) (index : ℕ) (env : List ℕ) (digit : ℕ) (at : AtCell signature count n index env digit) where
  slot_there : count - 1 < length env
  slot_there =
      let many = values_many signature count n few index at.inside in
      omega (arith, length-set env (count - 1) digit, ap length at.values, env_length n (values_of signature count n index) (omega (arith, many)))

  abbrev firsts : List ℕ
  firsts = firsts_of signature count

  abbrev lasts : List ℕ
  lasts = lasts_of signature count n

  abbrev slot : ℕ
  slot = count - 1

  -- all digits stepped, of a function that has parameters
  stepped-cell : {env' : List ℕ} {more : Bool} → 0 < count → env' ≡ stepped firsts lasts (suc slot) (set env slot digit)
      → more ≡ steps firsts lasts (suc slot) (set env slot digit)
      → (more ≡ ltb (index + 1) (configurations signature count n))
      × (more ≡ true → (index + 1 < configurations signature count n) × (env' ≡ env_of n (values_of signature count n (index + 1))))
  stepped-cell pos s m =
      let same : suc slot ≡ count = omega arith in
      at_next signature count n few index (set env slot digit) at.inside at.values (rw same at s) (rw same at m)

-- a function without parameters has one cell
one_cell : (signature index : ℕ) (n : Lengths) → index + 1 < configurations signature 0 n → ⊥
unfolding kinds_from
one_cell signature index n h = omega arith

-- within a row: the last digit goes up by one
pub row_step : (signature count : ℕ) (n : Lengths) → count ≤ most_params → (index : ℕ) (env : List ℕ) (digit : ℕ) → AtCell signature count n index env digit
    → digit < get_or (lasts_of signature count n) (count - 1) 0 → AtCell signature count n (index + 1) env (digit + 1)
row_step signature zero n few index env digit at h = absurd (omega arith)
row_step signature (suc c) n few index env digit at h =
    let u = last_up (firsts_of signature (suc c)) (lasts_of signature (suc c) n) (suc c - 1) digit env (slot_there signature (suc c) n few index env digit at) h in
    let next = (stepped-cell signature (suc c) n few index env digit at (omega arith) u.0 u.1).1 refl in
    record { inside = next.0; values = next.1 }

-- from row to row: the last digit goes from its last value back to its first, and the others step
pub row_over : {firsts lasts : List ℕ} {slot : ℕ} {env env' : List ℕ} → env' ≡ stepped firsts lasts slot env
    → StepsCells firsts lasts slot env (get_or lasts slot 0) env' (get_or firsts slot 0)
row_over e signature zero n index few f l p at h = absurd (one_cell signature index n h)
row_over {firsts} {lasts} {slot} {env} {env'} e signature (suc c) n index few f l p at h =
    let last = get_or (lasts_of signature (suc c) n) (suc c - 1) 0 in
    let at' : AtCell signature (suc c) n index env last = rw (l, p) at at in
    let u =
    last_over (firsts_of signature (suc c)) (lasts_of signature (suc c) n) (suc c - 1) last env (slot_there signature (suc c) n few index env last at')
    (omega arith) in
    let next = stepped-cell signature (suc c) n few index env last at' (omega arith) u.0 u.1 in
    let more = next.0 ∙ lt-ltb _ _ h in
    record { inside = h; values = rw (e, f, l, p) (next.1 more).1 }

-- the values of each cell of a row
pub at_row : (signature count : ℕ) (n : Lengths) → count ≤ most_params → (index : ℕ) (env : List ℕ) → AtCell signature count n index env (get_or (firsts_of signature count) (count - 1) 0)
    → (d : ℕ) → get_or (firsts_of signature count) (count - 1) 0 + d ≤ get_or (lasts_of signature count n) (count - 1) 0
    → AtCell signature count n (index + d) env (get_or (firsts_of signature count) (count - 1) 0 + d)
at_row signature count n few index env at zero h = rw (add-zero index, add-zero (get_or (firsts_of signature count) (count - 1) 0)) at
at_row signature count n few index env at (suc d) h =
    let low = get_or (firsts_of signature count) (count - 1) 0 in
    let before = at_row signature count n few index env at d (omega arith) in
    let one : index + d + 1 ≡ index + suc d = omega arith in
    let up : low + d + 1 ≡ low + suc d = omega arith in
    rw (← one, ← up) (row_step signature count n few (index + d) env (low + d) before (omega arith))

-- the first value of the last parameter is not above the last, and these fit
module _ (signature count : ℕ) (n : Lengths) (few : count ≤ most_params) where
  bounds : (i : ℕ) → i < count → (get_or (firsts_of signature count) i 0 ≤ get_or (lasts_of signature count n) i 0)
      × (get_or (lasts_of signature count n) i 0 ≡ lowest_code (kind_in signature i) + radix_of (kind_in signature i) n - 1)
  bounds zero h = let pos = radix_pos (kind_in signature 0) n in (rw (lt-leb count 0 h) (omega arith), rw (lt-leb count 0 h))
  bounds (suc zero) h = let pos = radix_pos (kind_in signature 1) n in (rw (lt-leb count 1 h) (omega arith), rw (lt-leb count 1 h))
  bounds (suc (suc zero)) h = let pos = radix_pos (kind_in signature 2) n in (rw (lt-leb count 2 h) (omega arith), rw (lt-leb count 2 h))
  bounds (suc (suc (suc zero))) h = let pos = radix_pos (kind_in signature 3) n in (rw (lt-leb count 3 h) (omega arith), rw (lt-leb count 3 h))
  bounds (suc (suc (suc (suc i)))) h = absurd (omega arith)

pub low_high : (signature count : ℕ) (n : Lengths) → count ≤ most_params
    → get_or (firsts_of signature count) (count - 1) 0 ≤ get_or (lasts_of signature count n) (count - 1) 0
low_high signature zero n few = omega arith
low_high signature (suc c) n few = (bounds signature (suc c) n few (suc c - 1) (omega arith)).0

pub high_small : (signature count : ℕ) (n : Lengths) → Short n → count ≤ most_params → get_or (lasts_of signature count n) (count - 1) 0 < digit_bound
high_small signature zero n short few = omega arith
high_small signature (suc c) n short few =
    let kind = kind_in signature (suc c - 1) in
    omega (arith, (bounds signature (suc c) n few (suc c - 1) (omega arith)).1, lowest_small kind, radix_small kind n short)

-- the most configurations of a function
size_power : (signature : ℕ) (n : Lengths) → Short n → (i c : ℕ) → size_from signature n i c ≤ most_values ^ c
unfolding size_from
size_power signature n few i zero = omega arith
size_power signature n few i (suc c) = rw pow-succ' (mul-le-mul (radix_small (kind_in signature i) n few) (size_power signature n few (i + 1) c))

pub size_most : (signature : ℕ) (n : Lengths) → Short n → (c : ℕ) → c ≤ most_params → size_from signature n 0 c ≤ most_configurations
size_most signature n few c h = omega (arith, size_power signature n few 0 c, pow-le-pow_right {n = most_values} (omega arith) h)
