-- The numbers of outcomes, worked with as the rules work with outcomes:
--   ShortTraces, LengthsOf                  traces within the limit, and their lengths
--   places_from, SaysTraces, Origins         where the samples of each begin; arrays with their bytes, and with the origins of places
--   OfDemand, any_list_lem                      no outcome, or one that a place allows; hd, tl and null allow any list
--   working_content                          the working number of what is worked with
--   head_means, tail_means, null_means      hd, tl and null
--   radix_means                             how many values a kind has
--   value_own, value_digit                  a value is not foreign to its kind, and what digit it has there
--   none_foreign, failed-foreign            undecided and errors are foreign to every kind
--   decided_means                           what a cell holds, by the result kind of its function
--   result_code, result_means, cell_working  from a cell to the working number, and back
--   working_not_zero                        no outcome has the working number of undecided
use Prim.Native.Nat.{ℕ, zero, suc, ◌+◌, ◌-◌, ◌<◌, ◌≤◌, ◌%◌, ◌*◌, ◌/◌}
use native.Mathlib.Nat.{add-sub_cancel_left}
use native.Mathlib.Omega.{arith}
use mathlib.Core.Path.{◌≡◌, refl, ◌∙◌}
use mathlib.Core.Bool.{Bool, true, false, cond}
use mathlib.Core.List.{List}
use mathlib.Core.Option.{Option, none, some}
use lib.ListN.{length, get_or}
use lib.Dec.{T, leb, eqb}
use borrow.Author.Tests.{lt-ltb, le-ltb, lt-leb, leb-true, leb-false}
use Rattle.trace.specs.{most_samples}
use Rattle.semantics.specs.declared.Contact.{Contact}
use Rattle.semantics.specs.declared.Contact.TheVariants.{Ram, Guard}
use Rattle.semantics.specs.declared.Error.{Error}
use Rattle.semantics.specs.declared.Error.TheVariants.{Head, Tail}
use Rattle.semantics.specs.declared.Outcome.{Outcome}
use Rattle.semantics.specs.declared.Outcome.TheVariants.{Truth, Suffix, Failed}
use Rattle.semantics.specs.declared.Kind.{Kind}
use Rattle.semantics.specs.declared.Kind.TheVariants.{Truth as truth, List as list}
use Rattle.semantics.specs.declared.Demand.{Demand}
use Rattle.semantics.specs.declared.Demand.TheVariants.{Only as only, AnyList as any_list}
use Rattle.semantics.specs.Language.{is_guard, Op, hd, tl, null, Traces, trace_of, Value, bit, suffix, given, in_kind, op_allowed, operand_demand}
use Rattle.semantics.specs.Numbering.{kind_size, digit_of}
use Rattle.semantics.specs.Cells.{undecided_code, false_code, true_code, head_code, tail_code, suffix_code, code_of, content_of, of_kind, outcome_in}
use Rattle.semantics.specs.Bodies.{with_value, operated}
use Rattle.semantics.proofs.Demands.{same_contact_lem, suffix_in, of_demand, demand_kind}
use Rattle.codes.specs.declared.Lengths.{Lengths}
use Rattle.codes.specs.{guard_shift, guard_code, working_of, most_trace_bytes, sample_code, ram_offset, guard_offset, origin_of, place_of, has_samples, head_of, tail_of, null_of, radix_of, lowest_code, foreign, least_code, most_code, decided_code, shifted_code, cell_code}

-- ---- Traces

abbrev pub ShortTraces : Traces → Type 0
ShortTraces t = (c : Contact) → length (trace_of t c) ≤ most_samples

pub record LengthsOf (t : Traces) (n : Lengths) : Type 0 where
  pub ram : n.ram ≡ length t.of_ram
  pub guard : n.guard ≡ length t.of_guard

-- where the samples of a trace begin among those of both
abbrev pub places_from : Contact → ℕ
places_from Ram = 0
places_from Guard = 8 * most_trace_bytes

-- the bytes of both traces say their samples
abbrev pub SaysTraces : Traces → List ℕ → Type 0
SaysTraces t bytes = (c : Contact) (i : ℕ) → i < length (trace_of t c)
    → sample_code bytes (places_from c + i) ≡ cond (get_or (trace_of t c) i false) true_code false_code

-- an array of values has the origins of places
pub record Origins (t : Traces) (env : List ℕ) : Type 0 where
  pub ram : get_or env 4 0 ≡ length t.of_ram + ram_offset
  pub guard : get_or env 5 0 ≡ length t.of_guard + guard_offset

-- ---- Outcomes

-- no outcome, or one that meets a demand
abbrev pub OfDemand : Traces → Demand → Option Outcome → Type 0
OfDemand t d r = (o : Outcome) → r ≡ some o → T (of_demand t d o)

-- what the operand of hd, tl or null gives is a list of either contact
pub any_list_lem : (t : Traces) (p : Op) (d : Demand) (r : Option Outcome) → T (op_allowed p d) → OfDemand t (operand_demand p d) r
    → OfDemand t any_list r
any_list_lem t hd d r a h = h
any_list_lem t tl (only truth) r a h = absurd a
any_list_lem t tl (only (list c)) r a h = λ o e. demand_kind t any_list (list c) o tt (h o e)
any_list_lem t tl any_list r a h = h
any_list_lem t null d r a h = h

-- the working number of an outcome, and 0 where there is none
abbrev pub working_content : Option Outcome → ℕ
working_content none = undecided_code
working_content (some o) = working_of o

-- ---- Operations on a list

some-samples : (c : Contact) (k : ℕ) → suc k ≤ most_samples → has_samples (working_of (Suffix c (suc k))) ≡ true
some-samples Ram k h = lt-ltb suffix_code ((suffix_code + suc k) % guard_shift) (omega arith)
some-samples Guard k h = lt-ltb suffix_code ((guard_code + suc k) % guard_shift) (omega arith)

one_less : (c : Contact) (k : ℕ) → working_of (Suffix c (suc k)) - 1 ≡ working_of (Suffix c k)
one_less Ram k = omega arith
one_less Guard k = omega arith

truth_code : (b : Bool) → cond b true_code false_code ≡ working_of (Truth b)
truth_code true = refl
truth_code false = refl

module _ (t : Traces) (short : ShortTraces t) where
  -- a suffix of a trace is no longer than the trace, which is short
  within : (c : Contact) (k : ℕ) → T (of_demand t any_list (Suffix c k)) → (k ≤ length (trace_of t c)) × (k ≤ most_samples)
  within c k h = let l = (suffix_in t c c k h).1 in (l, omega (arith, l, short c))

  module _ (bytes env : List ℕ) (says : SaysTraces t bytes) (origins : Origins t env) where
    -- the contact that a working number says, and the place that is worked out from it
    place_there : (c : Contact) (k : ℕ) → k ≤ most_samples → suc k ≤ length (trace_of t c)
        → place_of (origin_of env (working_of (Suffix c (suc k)))) (working_of (Suffix c (suc k))) ≡ places_from c + (length (trace_of t c) - suc k)
    place_there Ram k h l =
        let bit : (5 + suc k) / 8192 % 2 ≡ 0 = omega arith in
        rw (bit, origins.ram) (omega (arith, short Ram))
    place_there Guard k h l =
        let bit : (8197 + suc k) / 8192 % 2 ≡ 1 = omega arith in
        rw (bit, origins.guard) (omega (arith, short Guard))

    pub head_means : (r : Option Outcome) → OfDemand t any_list r
        → head_of bytes env (working_content r) ≡ working_content (with_value Failed r (operated t hd))
    head_means none h = refl
    head_means (some (Truth b)) h = absurd (h (Truth b) refl)
    head_means (some (Suffix Ram zero)) h = refl
    head_means (some (Suffix Guard zero)) h = refl
    head_means (some (Suffix c (suc k))) h =
        let l = within c (suc k) (h (Suffix c (suc k)) refl) in
        rw (some-samples c k l.1, place_there c k (omega (arith, l.1)) l.0)
        (says c (length (trace_of t c) - suc k) (omega (arith, l.0)) ∙ truth_code (get_or (trace_of t c) (length (trace_of t c) - suc k) false))
    head_means (some (Failed Head)) h = refl
    head_means (some (Failed Tail)) h = refl

  pub tail_means : (r : Option Outcome) → OfDemand t any_list r → tail_of (working_content r) ≡ working_content (with_value Failed r (operated t tl))
  tail_means none h = refl
  tail_means (some (Truth b)) h = absurd (h (Truth b) refl)
  tail_means (some (Suffix Ram zero)) h = refl
  tail_means (some (Suffix Guard zero)) h = refl
  tail_means (some (Suffix c (suc k))) h =
      rw (some-samples c k (within c (suc k) (h (Suffix c (suc k)) refl)).1) (one_less c k)
  tail_means (some (Failed Head)) h = refl
  tail_means (some (Failed Tail)) h = refl

  pub null_means : (r : Option Outcome) → OfDemand t any_list r → null_of (working_content r) ≡ working_content (with_value Failed r (operated t null))
  null_means none h = refl
  null_means (some (Truth b)) h = absurd (h (Truth b) refl)
  null_means (some (Suffix Ram zero)) h = refl
  null_means (some (Suffix Guard zero)) h = refl
  null_means (some (Suffix c (suc k))) h = rw (some-samples c k (within c (suc k) (h (Suffix c (suc k)) refl)).1)
  null_means (some (Failed Head)) h = refl
  null_means (some (Failed Tail)) h = refl

-- ---- Values

pub radix_means : {t : Traces} {n : Lengths} → LengthsOf t n → (κ : Kind) → radix_of κ n ≡ kind_size t κ
radix_means ls truth = refl
radix_means ls (list Ram) = omega (arith, ls.ram)
radix_means ls (list Guard) = omega (arith, ls.guard)

-- the number of a suffix, by the lowest of its kind
suffix_lowest : (c : Contact) (k : ℕ) → working_of (Suffix c k) ≡ lowest_code (list c) + k
suffix_lowest Ram k = refl
suffix_lowest Guard k = refl

own : (lowest radix k : ℕ) → k < radix → foreign lowest radix (lowest + k) ≡ false
own lowest radix k h = simp (le-ltb (lowest + k) lowest (omega arith), add-sub_cancel_left lowest k, lt-leb radix k h)

module _ (t : Traces) where
  -- the number of a value is as far above the lowest of its kind as its digit says
  pub value_digit : (κ : Kind) (v : Value) → T (in_kind t κ v) → working_of (given v) - lowest_code κ ≡ digit_of v
  value_digit truth (bit true) h = refl
  value_digit truth (bit false) h = refl
  value_digit truth (suffix c k) h = absurd h
  value_digit (list c) (bit b) h = absurd h
  value_digit (list c) (suffix c' k) h =
      rw (suffix_lowest c' k, (suffix_in t c c' k h).0) (add-sub_cancel_left (lowest_code (list c')) k)

  pub value_own : (κ : Kind) (v : Value) → T (in_kind t κ v) → foreign (lowest_code κ) (kind_size t κ) (working_of (given v)) ≡ false
  value_own truth (bit true) h = refl
  value_own truth (bit false) h = refl
  value_own truth (suffix c k) h = absurd h
  value_own (list c) (bit b) h = absurd h
  value_own (list c) (suffix c' k) h =
      let p = suffix_in t c c' k h in
      rw (suffix_lowest c' k, ← p.0) (own (lowest_code (list c)) (suc (length (trace_of t c))) k (omega (arith, p.1)))

  pub none_foreign : (κ : Kind) → foreign (lowest_code κ) (kind_size t κ) undecided_code ≡ true
  none_foreign truth = refl
  none_foreign (list Ram) = refl
  none_foreign (list Guard) = refl

  pub failed-foreign : (κ : Kind) (x : Error) → foreign (lowest_code κ) (kind_size t κ) (working_of (Failed x)) ≡ true
  failed-foreign truth Head = refl
  failed-foreign truth Tail = refl
  failed-foreign (list Ram) Head = refl
  failed-foreign (list Ram) Tail = refl
  failed-foreign (list Guard) Head = refl
  failed-foreign (list Guard) Tail = refl

-- ---- What a cell holds

decided-truth : (t : Traces) (cell : ℕ) → decided_code false_code tail_code cell ≡ content_of (outcome_in t truth cell)
unfolding outcome_in
decided-truth t zero = refl
decided-truth t (suc zero) = refl
decided-truth t (suc (suc zero)) = refl
decided-truth t (suc (suc (suc zero))) = refl
decided-truth t (suc (suc (suc (suc zero)))) = refl
decided-truth t (suc (suc (suc (suc (suc k))))) =
    let cell = suc (suc (suc (suc (suc k)))) in
    rw (le-ltb cell 1 (omega arith), lt-ltb 4 cell (omega arith))

-- a list function's cell that is the number of a suffix
decided-suffix : (c : Contact) (n k cell : ℕ) → cell ≡ 5 + k
    → decided_code head_code (n + suffix_code) cell ≡ content_of (cond (leb k n) (some (Suffix c k)) none)
decided-suffix c n k cell e = go (leb k n) refl
  where
    go : (b : Bool) → leb k n ≡ b → decided_code head_code (n + suffix_code) cell ≡ content_of (cond b (some (Suffix c k)) none)
    go true h =
        let l = leb-true k n h in
        simp (le-ltb cell 3 (omega arith), le-ltb (n + 5) cell (omega arith)) e
    go false h =
        let l = leb-false k n h in
        simp (le-ltb cell 3 (omega arith), lt-ltb (n + 5) cell (omega arith))

decided-list : (t : Traces) (c : Contact) (cell : ℕ)
    → decided_code head_code (length (trace_of t c) + suffix_code) cell ≡ content_of (outcome_in t (list c) cell)
unfolding outcome_in
decided-list t c zero = refl
decided-list t c (suc zero) = refl
decided-list t c (suc (suc zero)) = refl
decided-list t c (suc (suc (suc zero))) = simp (le-ltb (length (trace_of t c) + 5) 3 (omega arith))
decided-list t c (suc (suc (suc (suc zero)))) = simp (le-ltb (length (trace_of t c) + 5) 4 (omega arith))
decided-list t c (suc (suc (suc (suc (suc k))))) =
    rw (same_contact_lem c) (decided-suffix c (length (trace_of t c)) k (suc (suc (suc (suc (suc k))))) (omega arith))

pub decided_means : {t : Traces} {n : Lengths} → LengthsOf t n → (κ : Kind) (cell : ℕ)
    → decided_code (least_code κ) (most_code κ n) cell ≡ content_of (outcome_in t κ cell)
decided_means {t} ls truth cell = decided-truth t cell
decided_means {t} ls (list Ram) cell = rw ls.ram (decided-list t Ram cell)
decided_means {t} ls (list Guard) cell = rw ls.guard (decided-list t Guard cell)

-- ---- Working numbers

-- what a call makes of what a cell holds, by the result kind of its function
abbrev pub result_code : Kind → ℕ → ℕ
result_code kind cell = cond (is_guard kind) (shifted_code cell) cell

suffix_shifted : (k : ℕ) → k ≤ most_samples → shifted_code (suffix_code + k) ≡ working_of (Suffix Guard k)
suffix_shifted k h = rw (le-ltb (suffix_code + k) suffix_code (omega arith)) (omega arith)

suffix-cell : (c : Contact) (k : ℕ) → k ≤ most_samples → cell_code (working_of (Suffix c k)) ≡ suffix_code + k
suffix-cell Ram k h = omega arith
suffix-cell Guard k h = omega arith

module _ (t : Traces) (short : ShortTraces t) where
  shifted_code_lem : (o : Outcome) → T (of_kind t (list Guard) o) → shifted_code (code_of o) ≡ working_of o
  shifted_code_lem (Truth b) h = absurd h
  shifted_code_lem (Suffix Ram k) h = absurd h
  shifted_code_lem (Suffix Guard k) h = suffix_shifted k (omega (arith, (suffix_in t Guard Guard k h).1, short Guard))
  shifted_code_lem (Failed Head) h = refl
  shifted_code_lem (Failed Tail) h = refl

  -- of a kind that is no guard list the number in a cell is the working number
  same_code : (κ : Kind) (o : Outcome) → is_guard κ ≡ false → T (of_kind t κ o) → code_of o ≡ working_of o
  same_code κ (Truth b) e h = refl
  same_code truth (Suffix c k) e h = absurd h
  same_code (list Ram) (Suffix Ram k) e h = refl
  same_code (list Ram) (Suffix Guard k) e h = absurd h
  same_code (list Guard) (Suffix c k) e h = let z : ◌≡◌ {A = ℕ} 0 1 = cc in absurd (omega arith)
  same_code κ (Failed x) e h = refl

  shifted_content : (r : Option Outcome) → OfDemand t (only (list Guard)) r → shifted_code (content_of r) ≡ working_content r
  shifted_content none h = refl
  shifted_content (some o) h = shifted_code_lem o (h o refl)

  same_content : (κ : Kind) → is_guard κ ≡ false → (r : Option Outcome) → OfDemand t (only κ) r → content_of r ≡ working_content r
  same_content κ g none h = refl
  same_content κ g (some o) h = same_code κ o g (h o refl)

  -- what a call gives, by the result kind of its function
  pub result_means : (κ : Kind) (r : Option Outcome) → OfDemand t (only κ) r → result_code κ (content_of r) ≡ working_content r
  result_means truth = same_content truth refl
  result_means (list Ram) = same_content (list Ram) refl
  result_means (list Guard) = shifted_content

  pub cell_working : (κ : Kind) (o : Outcome) → T (of_kind t κ o) → cell_code (working_of o) ≡ code_of o
  cell_working κ (Truth false) h = refl
  cell_working κ (Truth true) h = refl
  cell_working truth (Suffix c k) h = absurd h
  cell_working (list c') (Suffix c k) h = let p = suffix_in t c' c k h in suffix-cell c k (omega (arith, p.1, short c'))
  cell_working κ (Failed Head) h = refl
  cell_working κ (Failed Tail) h = refl

pub working_not_zero : (o : Outcome) → working_of o ≡ 0 → ⊥
working_not_zero (Truth false) h = omega arith
working_not_zero (Truth true) h = omega arith
working_not_zero (Suffix Ram k) h = omega arith
working_not_zero (Suffix Guard k) h = omega arith
working_not_zero (Failed Head) h = omega arith
working_not_zero (Failed Tail) h = omega arith
