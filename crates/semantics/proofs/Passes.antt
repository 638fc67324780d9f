-- Passes, on any table, and from zeros:
--   length-visits, length-pass, length_after       a pass keeps the table's length
--   stores_none, still_same, same_still            a pass that stores nothing is one that changes nothing
--   Closed, still_closed                         after it no undecided cell has a decided body
--   undecided-visits, undecided-pass               the undecided cells that a pass leaves, and the outcomes that it stores
--   visits_good, pass_good, after_good             only derived outcomes are stored
--   closed_calls                                   a closed table's calls are closed under evaluation
--   first-still, count_in_time                     the pass count
--   final_good, final_still                        the table when passes end
--   stored-append, visit-append, visits-append,
--   pass-append, stores-append                     cells after those that are needed are not read, and stay
use Prim.Native.Nat.{ℕ, zero, suc, ◌+◌, ◌≤◌, ◌<◌}
use native.Mathlib.Omega.{arith}
use native.Mathlib.Decide.{ℕ_discrete}
use mathlib.Core.Path.{◌≡◌, refl, sym, ap, ◌∙◌}
use mathlib.Core.Logic.{◌≢◌}
use mathlib.Core.Bool.{Bool, true, false, cond}
use mathlib.Core.List.{List, ◌++◌}
use mathlib.Core.Option.{Option, none, some}
use lib.ListN.{length, get_elem?, replicate, length-replicate, get_or-replicate, get_or-append}
use lib.Dec.{eqb}
use lib.Seq.{set-append_left}
use borrow.Author.Tests.{eqb-true, eqb-false}
use Rattle.semantics.specs.declared.Outcome.{Outcome}
use Rattle.semantics.specs.declared.Demand.TheVariants.{Only as only}
use Rattle.semantics.specs.Language.{Function, Program, Traces, Value, InKinds, WellKinded}
use Rattle.semantics.specs.Numbering.{cells, cell_of}
use Rattle.semantics.specs.Cells.{code_of}
use Rattle.semantics.specs.Bodies.{body_outcome}
use Rattle.semantics.specs.Visits.{Table, lookup, held_at, stored, stored_in, one_if, visit, visits, stores, pass, pass_stores}
use Rattle.semantics.specs.Passes.{table_after, passes_from, pass_count, final_table}
use Rattle.semantics.specs.Demand.{FirstStill}
use Rattle.semantics.proofs.Unique.{derives_unique}
use Rattle.semantics.proofs.Bodies.{sound, ClosedCalls, SameCalls, same_body}
use Rattle.semantics.proofs.Numbering.{cell_lt, here, place}
use Rattle.semantics.proofs.Visits.{lookup-kinds, lookup-held_at, held_at_zero, stored-body, visit_none, length-visit, Good, visit_good, undecided, undecided_le, undecided-visit}

-- ---- Any program, any table

one_zero : {A : Type 0} (s : Option A) → one_if s ≡ 0 → s ≡ none
one_zero none e = refl
one_zero (some a) e = absurd (omega arith)

module _ (P : Program) (t : Traces) (T : Table) where
  pub length-visits : (n : ℕ) → length (visits P t n T) ≡ length T
  unfolding visits
  length-visits zero = refl
  length-visits (suc n) = length-visit P t (visits P t n T) n ∙ length-visits n

  pub length-pass : length (pass P t T) ≡ length T
  unfolding pass
  length-pass = length-visits (cells t P)

  -- visits that store nothing find nothing to store, and leave the table as it was
  pub stores_none : (n : ℕ) → stores P t n T ≡ 0 → (visits P t n T ≡ T) × ((c : ℕ) → c < n → stored P t T c ≡ none)
  unfolding visits stores
  stores_none zero e = (refl, λ c l. absurd (omega arith))
  stores_none (suc n) e =
      let ih = stores_none n (omega arith) in
      let one : stored P t (visits P t n T) n ≡ none = one_zero _ (omega arith) in
      let s : stored P t T n ≡ none = rw ih.0 at one in
      (visit_none P t (visits P t n T) n one ∙ ih.0, λ c l. go s ih.1 c l (ℕ_discrete c n))
    where
      go : stored P t T n ≡ none → ((c : ℕ) → c < n → stored P t T c ≡ none) → (c : ℕ) → c < suc n → Dec (c ≡ n) → stored P t T c ≡ none
      go s ih c l (yes x) = rw x s
      go s ih c l (no y) = ih c (omega arith)

  pub still_same : pass_stores P t T ≡ 0 → pass P t T ≡ T
  unfolding pass pass_stores
  still_same e = (stores_none (cells t P) e).0

-- no undecided cell has a decided body
abbrev pub Closed : Program → Traces → Table → Type 0
Closed P t T = (g : ℕ) (vs : List Value) (f : Function) → get_elem? P g ≡ some f → InKinds t f.params vs → lookup P t T g vs ≡ none
    → body_outcome t (lookup P t T) vs f.body ≡ none

pub still_closed : (P : Program) (t : Traces) (T : Table) → pass_stores P t T ≡ 0 → Closed P t T
unfolding pass_stores
still_closed P t T e g vs f q h l =
    let c = cell_of t P g vs in
    let s = (stores_none P t T (cells t P) e).1 c (cell_lt t P g f vs q h) in
    sym (stored-body P t T c (here t P g f vs q h) (sym (lookup-held_at P t T g vs f q h) ∙ l)) ∙ s

pub length_after : (P : Program) (t : Traces) (k : ℕ) → length (table_after P t k) ≡ cells t P
unfolding table_after
length_after P t zero = length-replicate (cells t P) 0
length_after P t (suc k) = length-pass P t (table_after P t k) ∙ length_after P t k

-- ---- Well-kinded programs

module _ (P : Program) (t : Traces) (wk : WellKinded P) where
  pub undecided-visits : (T : Table) → cells t P ≤ length T → (n : ℕ) → n ≤ cells t P
      → undecided P t (visits P t n T) + stores P t n T ≡ undecided P t T
  unfolding visits stores
  undecided-visits T len zero l = omega arith
  undecided-visits T len (suc n) l =
      omega (arith, undecided-visits T len n (omega arith), undecided-visit P t wk (visits P t n T) n l (omega (arith, length-visits P t T n)))

  pub undecided-pass : (T : Table) → cells t P ≤ length T → undecided P t (pass P t T) + pass_stores P t T ≡ undecided P t T
  unfolding pass pass_stores
  undecided-pass T len = undecided-visits T len (cells t P) (omega arith)

  pub same_still : (T : Table) → cells t P ≤ length T → pass P t T ≡ T → pass_stores P t T ≡ 0
  same_still T len e = omega (arith, undecided-pass T len, ap (undecided P t) e)

  pub visits_good : (T : Table) (n : ℕ) → n ≤ cells t P → Good P t T → Good P t (visits P t n T)
  unfolding visits
  visits_good T zero l ok = ok
  visits_good T (suc n) l ok = visit_good P t wk (visits P t n T) n l (visits_good T n (omega arith) ok)

  pub pass_good : (T : Table) → Good P t T → Good P t (pass P t T)
  unfolding pass
  pass_good T ok = visits_good T (cells t P) (omega arith) ok

  pub closed_calls : (T : Table) → Good P t T → Closed P t T → ClosedCalls P t (lookup P t T)
  closed_calls T ok st g vs f o q h b = go (lookup P t T g vs) refl
    where
      go : (r : Option Outcome) → lookup P t T g vs ≡ r → lookup P t T g vs ≡ some o
      go none l = let n = st g vs f q h l in cc
      go (some x) l =
          let d = sound P t (lookup P t T) (lookup-kinds P t T) ok.sound f.params vs h f.body (only f.result) o (wk g f q) b in
          let s = derives_unique P t d (ok.sound g vs f x q h l) in
          cc

  -- ---- The table after k passes

  start_good : Good P t (replicate (cells t P) 0)
  start_good = record {
    long = rw (length-replicate {A = ℕ} (cells t P) 0) (omega arith);
    clean = λ c l h. get_or-replicate (cells t P) c 0 0 l;
    sound = λ g vs f o q h l.
        let c = cell_of t P g vs in
        let zeros : Table = replicate (cells t P) 0 in
        let z = held_at_zero P t zeros c (get_or-replicate (cells t P) c 0 0 (cell_lt t P g f vs q h)) in
        let y : some o ≡ none = sym l ∙ (lookup-held_at P t zeros g vs f q h ∙ z) in
        let x : ◌≡◌ {A = ℕ} 0 1 = cc in
        absurd (omega arith);
  }

  pub after_good : (k : ℕ) → Good P t (table_after P t k)
  unfolding table_after
  after_good zero = start_good
  after_good (suc k) = pass_good (table_after P t k) (after_good k)

  undecided_after : (k : ℕ) → undecided P t (table_after P t (suc k)) + pass_stores P t (table_after P t k) ≡ undecided P t (table_after P t k)
  unfolding table_after
  undecided_after k = undecided-pass (table_after P t k) (after_good k).long

  -- ---- The pass count

  -- `count` is the number of the first pass after the first k that stores nothing
  record Counted (k count : ℕ) : Type 0 where
    before : ℕ
    counted : count ≡ suc before
    still : pass_stores P t (table_after P t before) ≡ 0
    first : (j : ℕ) → k ≤ j → j < before → pass_stores P t (table_after P t j) ≢ 0

  counted_here : (k : ℕ) → pass_stores P t (table_after P t k) ≡ 0 → Counted k (suc k)
  counted_here k e = record { before = k; counted = refl; still = e; first = λ j a b. absurd (omega arith) }

  counted_later : (k count : ℕ) → pass_stores P t (table_after P t k) ≢ 0 → Counted (suc k) count → Counted k count
  counted_later k count n r = record { before = r.before; counted = r.counted; still = r.still; first = λ j a b. go j a b (ℕ_discrete j k) }
    where
      go : (j : ℕ) → k ≤ j → j < r.before → Dec (j ≡ k) → pass_stores P t (table_after P t j) ≢ 0
      go j a b (yes e) = rw e n
      go j a b (no e) = r.first j (omega arith) b

  counted_pick : (k later : ℕ) (b : Bool) → eqb (pass_stores P t (table_after P t k)) 0 ≡ b
      → (pass_stores P t (table_after P t k) ≢ 0 → Counted (suc k) later) → Counted k (cond b (suc k) later)
  counted_pick k later true e r = counted_here k (eqb-true _ _ e)
  counted_pick k later false e r = let n = eqb-false _ _ e in counted_later k later n (r n)

  -- each pass that stores something leaves fewer undecided cells
  counted_from : (n k : ℕ) → undecided P t (table_after P t k) ≤ n → Counted k (passes_from P t n k)
  unfolding passes_from
  counted_from zero k l = counted_here k (omega (arith, undecided_after k))
  counted_from (suc n) k l = counted_pick k (passes_from P t n (suc k)) _ refl (λ s. counted_from n (suc k) (omega (arith, undecided_after k)))

  pub first-still : FirstStill P t (pass_count P t)
  unfolding pass_count
  first-still =
      let r = counted_from (cells t P) zero (undecided_le P t (table_after P t zero)) in
      record { before = r.before; counted = r.counted; still = r.still; first = λ k l. r.first k (omega arith) l }

  -- ---- The table when passes end

  pub final_good : Good P t (final_table P t)
  unfolding final_table
  final_good = after_good (pass_count P t)

  pub final_still : pass_stores P t (final_table P t) ≡ 0
  unfolding final_table table_after
  final_still =
      let r = first-still in
      rw (r.counted, still_same P t (table_after P t r.before) r.still) r.still

from_in_time : (P : Program) (t : Traces) (n k : ℕ) → passes_from P t n k ≤ suc (k + n)
unfolding passes_from
from_in_time P t zero k = omega arith
from_in_time P t (suc n) k = go (eqb (pass_stores P t (table_after P t k)) 0) (from_in_time P t n (suc k))
  where
    go : (b : Bool) → passes_from P t n (suc k) ≤ suc (suc k + n) → cond b (suc k) (passes_from P t n (suc k)) ≤ suc (k + suc n)
    go true l = omega arith
    go false l = omega arith

pub count_in_time : (P : Program) (t : Traces) → pass_count P t ≤ suc (cells t P)
unfolding pass_count
count_in_time P t = omega (arith, from_in_time P t (cells t P) zero)

-- ---- A longer table

module _ (P : Program) (t : Traces) (wk : WellKinded P) where
  lookup-append : (T : Table) (rest : List ℕ) → cells t P ≤ length T → SameCalls P t (lookup P t (T ++ rest)) (lookup P t T)
  unfolding lookup
  lookup-append T rest len g vs f q h = rw (get_or-append T rest 0 (cell_of t P g vs) (omega (arith, cell_lt t P g f vs q h)))

  held_at-append : (T : Table) (rest : List ℕ) → cells t P ≤ length T → (c : ℕ) → c < cells t P → held_at P t (T ++ rest) c ≡ held_at P t T c
  unfolding held_at
  held_at-append T rest len c l = rw (get_or-append T rest 0 c (omega arith))

  pub stored-append : (T : Table) (rest : List ℕ) → cells t P ≤ length T → (c : ℕ) → c < cells t P → stored P t (T ++ rest) c ≡ stored P t T c
  unfolding stored
  stored-append T rest len c l =
      let r = place t P c l in
      rw (
        held_at-append T rest len c l,
        r.config,
        same_body P t (lookup P t (T ++ rest)) (lookup P t T) (lookup-kinds P t (T ++ rest)) (lookup-append T rest len)
            r.f.params r.vs r.are_in r.f.body (only r.f.result) (wk r.g r.f r.is_fun),
      )

  put-append : (T : Table) (rest : List ℕ) (c : ℕ) → c < length T → (s : Option Outcome) → stored_in (T ++ rest) c s ≡ stored_in T c s ++ rest
  put-append T rest c l none = refl
  put-append T rest c l (some o) = set-append_left T rest c (code_of o) l

  pub visit-append : (T : Table) (rest : List ℕ) → cells t P ≤ length T → (c : ℕ) → c < cells t P → visit P t c (T ++ rest) ≡ visit P t c T ++ rest
  unfolding visit
  visit-append T rest len c l = rw (stored-append T rest len c l) (put-append T rest c (omega arith) (stored P t T c))

  pub visits-append : (T : Table) (rest : List ℕ) → cells t P ≤ length T → (n : ℕ) → n ≤ cells t P → visits P t n (T ++ rest) ≡ visits P t n T ++ rest
  unfolding visits
  visits-append T rest len zero l = refl
  visits-append T rest len (suc n) l =
      rw (visits-append T rest len n (omega arith)) (visit-append (visits P t n T) rest (omega (arith, length-visits P t T n)) n l)

  visits_stores_append : (T : Table) (rest : List ℕ) → cells t P ≤ length T → (n : ℕ) → n ≤ cells t P → stores P t n (T ++ rest) ≡ stores P t n T
  unfolding stores
  visits_stores_append T rest len zero l = refl
  visits_stores_append T rest len (suc n) l =
      rw (
        visits_stores_append T rest len n (omega arith),
        visits-append T rest len n (omega arith),
        stored-append (visits P t n T) rest (omega (arith, length-visits P t T n)) n l,
      )

  pub pass-append : (T : Table) (rest : List ℕ) → cells t P ≤ length T → pass P t (T ++ rest) ≡ pass P t T ++ rest
  unfolding pass
  pass-append T rest len = visits-append T rest len (cells t P) (omega arith)

  pub stores-append : (T : Table) (rest : List ℕ) → cells t P ≤ length T → pass_stores P t (T ++ rest) ≡ pass_stores P t T
  unfolding pass_stores
  stores-append T rest len = visits_stores_append T rest len (cells t P) (omega arith)
