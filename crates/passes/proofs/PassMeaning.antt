-- Visits and passes by places and numbers come to those of the rules:
--   Runs                                what ties a run of passes to the program and the traces
--   first_more, first-all               where the cells of the next function begin, and where all end
--   ready                               every function has its cells within the table
--   stored_means, visit_means           the visit of a configuration
--   function_means, function_counts     the visits of a function's configurations
--   pass_means, counts_mean             a pass
use Prim.Native.Nat.{ℕ, zero, suc, ◌+◌, ◌≤◌, ◌<◌}
use native.Mathlib.Nat.{add-zero, add-suc, zero-add, mod-eq_of_lt}
use native.Mathlib.Omega.{arith}
use mathlib.Core.Path.{◌≡◌, refl, ap, ◌∙◌}
use mathlib.Core.Bool.{cond}
use mathlib.Core.List.{List, [], ◌∷◌, ◌++◌}
use mathlib.Core.Option.{Option, none, some}
use lib.Dec as dec
use lib.Dec.{eqb}
use lib.ListN.{length, get_elem?, get_or, drop, length-append, length-drop}
use lib.Seq.{take-length}
use borrow.Author.Tests.{ne_eqb}
use Rattle.semantics.specs.declared.Outcome.{Outcome}
use Rattle.semantics.specs.declared.Kind.{Kind}
use Rattle.semantics.specs.declared.Demand.TheVariants.{Only as only}
use Rattle.semantics.specs.Language.{Function, Program, Traces, WellKinded}
use Rattle.semantics.specs.Numbering.{size, values_at, cells}
use Rattle.semantics.specs.Cells.{content_of, of_kind, outcome_in}
use Rattle.semantics.specs.Bodies.{body_outcome}
use Rattle.semantics.specs.Visits.{Table, lookup, held_at, if_undecided, stored, stored_in, one_if, visit, visits, stores, pass, pass_stores}
use Rattle.semantics.proofs.Cells.{code_not_zero}
use Rattle.semantics.proofs.Numbering.{Place, number-values, values_in_lem}
use Rattle.semantics.proofs.Visits.{stored_kind}
use Rattle.syntax.specs.Limits.{most_body, most_bytes, most_depth}
use Rattle.rule.specs.Form.{encode_expr, depth}
use Rattle.rule.proofs.Expressions.{place-below}
use Rattle.rule.proofs.FunctionBytes.{expr_bytes}
use Rattle.rule.proofs.OutlineMeaning.{there}
use Rattle.codes.specs.declared.Lengths.{Lengths}
use Rattle.codes.proofs.CodeMeaning.{ShortTraces, working_content, cell_working, working_not_zero}
use Rattle.codes.proofs.Bounds.{lengths_short}
use Rattle.passes.specs.Mirror.{Setup, first_of, body_at, size_of, env_at, filled_at, put_in, stored_at, visit_at, one_unless, visits_from}
use Rattle.passes.specs.Mirror.{stores_from, Ready, pass_visits, pass_counts}
use Rattle.evaluator.proofs.Sets.{first_cell, EnvOf, Sets}
use Rattle.evaluator.proofs.CellMeaning.{first_cell_lem, first-within, config_first, held_means}
use Rattle.evaluator.proofs.EvalMeaning.{eval_means}
use Rattle.passes.proofs.PassWays.{ready-fits}

pub record Runs (P : Program) (t : Traces) (n : Lengths) (bytes : List ℕ) (S : Setup) (starts : List ℕ) : Type 0 where
  pub sets : Sets P t n bytes S.words S.traces
  pub first : (g : ℕ) (f : Function) → get_elem? P g ≡ some f → first_of S.functions g ≡ first_cell t P g
  pub kinds : WellKinded P
  pub sizes : (g : ℕ) (f : Function) → get_elem? P g ≡ some f → size_of S.functions n g ≡ size t f.params
  pub envs : (g : ℕ) (f : Function) (i : ℕ) → get_elem? P g ≡ some f → i < size t f.params
      → EnvOf t (env_at S.functions n g i) (values_at t f.params i)
  pub bodies : (g : ℕ) (f : Function) → get_elem? P g ≡ some f
      → (rest : List ℕ) × (drop (get_or starts g 0) bytes ≡ encode_expr f.body ++ rest)
  pub deep : (g : ℕ) (f : Function) → get_elem? P g ≡ some f → depth f.body ≤ most_depth
  pub fits : (g : ℕ) (f : Function) → get_elem? P g ≡ some f → length (encode_expr f.body) ≤ most_body

-- ---- Functions in their order

pub first_more : (t : Traces) (P : Program) (g : ℕ) (f : Function) → get_elem? P g ≡ some f
    → first_cell t P (suc g) ≡ first_cell t P g + size t f.params
first_more t [] g f e = let z : ◌≡◌ {A = ℕ} 0 1 = cc in absurd (omega arith)
first_more t (f₀ ∷ P) zero f e = let q : f₀ ≡ f = cc in rw q (omega arith)
first_more t (f₀ ∷ P) (suc g) f e = omega (arith, first_more t P g f e)

pub first-all : (t : Traces) (P : Program) → first_cell t P (length P) ≡ cells t P
first-all t P = rw (take-length P)

-- ---- What a visit stores, by its number

stored-number : (old new : Option Outcome) → cond (eqb (content_of old) 0) (working_content new) 0 ≡ working_content (if_undecided old new)
stored-number none new = refl
stored-number (some o) new = rw (ne_eqb _ _ (code_not_zero o))

one_number : (s : Option Outcome) → one_unless (working_content s) ≡ one_if s
one_number none = refl
one_number (some o) = rw (ne_eqb _ _ (working_not_zero o))

-- an outcome of a kind is stored by its number in a cell
put-number : (t : Traces) → ShortTraces t → (κ : Kind) (T : Table) (c : ℕ) (s : Option Outcome) → ((o : Outcome) → s ≡ some o → dec.T (of_kind t κ o))
    → put_in T c (working_content s) ≡ stored_in T c s
put-number t short κ T c none h = refl
put-number t short κ T c (some o) h = rw (ne_eqb _ _ (working_not_zero o), cell_working t short κ o (h o refl))

module _ (P : Program) (t : Traces) (n : Lengths) (bytes : List ℕ) (S : Setup) (starts : List ℕ) (r : Runs P t n bytes S starts) where
  ready : (g : ℕ) (f : Function) → get_elem? P g ≡ some f → (len : ℕ) → cells t P ≤ len → Ready S.functions n g len
  ready g f e len long = record {
    below = omega (arith, place-below P g f e, r.sets.functions);
    samples = lengths_short r.sets.samples r.sets.lengths;
    within = rw (r.first g f e, r.sizes g f e) (omega (arith, first-within t P g f e));
  }

  -- ---- The visit of a configuration

  -- the word of a function's body
  abbrev body : ℕ → ℕ
  body g = body_at S.words (get_or starts g 0)

  module _ (T : Table) (g : ℕ) (f : Function) (i : ℕ) (e : get_elem? P g ≡ some f) (h : i < size t f.params) where
    filled_means : filled_at S n g (body g) T i ≡ working_content (body_outcome t (lookup P t T) (values_at t f.params i) f.body)
    unfolding filled_at
    filled_means =
        let start = get_or starts g 0 in
        let here = r.bodies g f e in
        let inside : start < most_bytes =
        omega (arith, ap length here.1, length-drop start bytes, length-append (encode_expr f.body) here.0, expr_bytes f.body, r.sets.short) in
        rw (mod-eq_of_lt inside)
        (eval_means P t n bytes S.words S.traces r.sets T f.params (values_at t f.params i) (values_in_lem t f.params i h)
        (r.sets.params g f e) (env_at S.functions n g i) (r.envs g f i e h) f.body (only f.result) most_depth start here.0
        (r.kinds g f e) (r.deep g f e) (r.fits g f e) here.1)

    pub stored_means : stored_at S n g (body g) T i ≡ working_content (stored P t T (first_cell t P g + i))
    unfolding stored_at stored held_at
    stored_means =
        let cell = get_or T (first_cell t P g + i) 0 in
        rw (r.first g f e, config_first t P g f i e h, held_means r.sets g f e cell, filled_means)
        (stored-number (outcome_in t f.result cell) (body_outcome t (lookup P t T) (values_at t f.params i) f.body))

    place_here : Place t P (first_cell t P g + i)
    place_here =
        let vs = values_at t f.params i in
        record {
          g = g;
          f = f;
          vs = vs;
          is_fun = e;
          are_in = values_in_lem t f.params i h;
          cell = first_cell_lem t P g f vs e ∙ ap (λ (k : ℕ). first_cell t P g + k) (number-values t f.params i h);
          config = config_first t P g f i e h;
        }

    pub visit_means : visit_at S n g (body g) T i ≡ visit P t (first_cell t P g + i) T
    unfolding visit_at visit place_here
    visit_means =
        let c = first_cell t P g + i in
        rw (stored_means, r.first g f e) (put-number t r.sets.samples f.result T c (stored P t T c) (stored_kind P t r.kinds T c place_here))

  -- ---- The visits of a function's configurations

  module _ (T : Table) (g : ℕ) (f : Function) (e : get_elem? P g ≡ some f) where
    pub function_means : (i : ℕ) → i ≤ size t f.params
        → visits_from S n g (body g) 0 i (visits P t (first_cell t P g) T) ≡ visits P t (first_cell t P g + i) T
    unfolding visits_from visits
    function_means zero h = rw (add-zero (first_cell t P g))
    function_means (suc i) h =
        let c = first_cell t P g + i in
        rw (add-suc (first_cell t P g) i, zero-add i, function_means i (omega arith)) (visit_means (visits P t c T) g f i e h)

    pub function_counts : (i : ℕ) → i ≤ size t f.params
        → stores P t (first_cell t P g) T + stores_from S n g (body g) 0 i (visits P t (first_cell t P g) T)
        ≡ stores P t (first_cell t P g + i) T
    unfolding stores_from stores
    function_counts zero h = rw (add-zero (first_cell t P g)) (omega arith)
    function_counts (suc i) h =
        let c = first_cell t P g + i in
        let W = visits P t c T in
        rw (add-suc (first_cell t P g) i, zero-add i, function_means i (omega arith), stored_means W g f i e h, one_number (stored P t W c))
        (omega (arith, function_counts i (omega arith)))

  -- ---- A pass

  -- a table that has room for the cells
  module _ (T : Table) (room : cells t P ≤ length T) where
    functions_mean : (g : ℕ) → g ≤ length P
        → (pass_visits S n starts g T ≡ visits P t (first_cell t P g) T)
        × (pass_counts S n starts g T ≡ stores P t (first_cell t P g) T)
    unfolding pass_visits pass_counts visits stores
    functions_mean zero h = (refl, refl)
    functions_mean (suc g) h =
        let f = there P g h in
        let all = size t f.0.params in
        let more = first_more t P g f.0 f.1 in
        let before = functions_mean g (omega arith) in
        let inside = ready-fits (ready g f.0 f.1 (length T) room) in (
          rw (more, inside, before.0, r.sizes g f.0 f.1) (function_means T g f.0 f.1 all (omega arith)),
          rw (more, inside, before.0, before.1, r.sizes g f.0 f.1) (function_counts T g f.0 f.1 all (omega arith)),
        )

    pub pass_means : pass_visits S n starts (length P) T ≡ pass P t T
    unfolding pass
    pass_means = rw (← first-all t P) (functions_mean (length P) (omega arith)).0

    pub counts_mean : pass_counts S n starts (length P) T ≡ pass_stores P t T
    unfolding pass_stores
    counts_mean = rw (← first-all t P) (functions_mean (length P) (omega arith)).1
