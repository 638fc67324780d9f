-- Demand 3, in the order of its proof:
--   good_content     a cell's content is the number of what the table says of its configuration
--   closed_found     a closed table holds each outcome that has a derivation
--   closed_right     so what it says of a configuration is right
--   main_said        what is decided from main's cell is what the table says of main on the whole trace or traces
--   decides          the verdict and the table when passes end are what evaluating owes
use Prim.Native.Nat.{ℕ, ◌<◌}
use native.Mathlib.Omega.{arith}
use mathlib.Core.Path.{◌≡◌, refl, sym, ap, ◌∙◌}
use mathlib.Core.List.{List, ◌++◌}
use mathlib.Core.Option.{Option, none, some}
use lib.ListN.{length, get_elem?, get_or, length-append, get_or-append}
use Rattle.semantics.specs.declared.Sort.{Sort}
use Rattle.semantics.specs.declared.Outcome.{Outcome}
use Rattle.semantics.specs.declared.Outcome.TheVariants.{Truth, Suffix, Failed}
use Rattle.semantics.specs.declared.Kind.TheVariants.{Truth as truth}
use Rattle.semantics.specs.declared.Demand.TheVariants.{Only as only}
use Rattle.semantics.specs.Language.{Function, Program, IsMain, Traces, no_traces, Value, InKinds, whole_traces, WellKinded}
use Rattle.semantics.specs.Numbering.{cell_of}
use Rattle.semantics.specs.Cells.{content_of, only_of_kind, outcome_of, outcome_in}
use Rattle.semantics.specs.Visits.{Table, lookup}
use Rattle.semantics.specs.Passes.{final_table}
use Rattle.semantics.specs.Verdicts.{decision_of, main_decision, main_cell, verdict_of}
use Rattle.semantics.specs.Demand.{Gives, Right, Decides}
use Rattle.semantics.proofs.Unique.{derives_unique}
use Rattle.semantics.proofs.Demands.{whole_in}
use Rattle.semantics.proofs.Bodies.{complete}
use Rattle.semantics.proofs.Numbering.{cell_lt, main-cell}
use Rattle.semantics.proofs.Cells.{code_held}
use Rattle.semantics.proofs.Visits.{lookup-held, lookup-kinds, lookup-held_at, Good}
use Rattle.semantics.proofs.Passes.{Closed, closed_calls, still_closed, first-still, count_in_time, final_good, final_still}

pub good_content : (P : Program) (t : Traces) (T : Table) → Good P t T → (g : ℕ) (f : Function) (vs : List Value)
    → get_elem? P g ≡ some f → InKinds t f.params vs → get_or T (cell_of t P g vs) 0 ≡ content_of (lookup P t T g vs)
good_content P t T ok g f vs q h = go (lookup P t T g vs) refl
  where
    go : (said : Option Outcome) → lookup P t T g vs ≡ said → get_or T (cell_of t P g vs) 0 ≡ content_of said
    go none l = ok.clean (cell_of t P g vs) (cell_lt t P g f vs q h) (sym (lookup-held_at P t T g vs f q h) ∙ l)
    go (some o) l = (code_held t f.result (get_or T (cell_of t P g vs) 0) o (sym (lookup-held P t T g vs f q) ∙ l)).0

module _ (P : Program) (t : Traces) (wk : WellKinded P) (T : Table) (ok : Good P t T) (st : Closed P t T)
    (g : ℕ) (f : Function) (vs : List Value) (q : get_elem? P g ≡ some f) (h : InKinds t f.params vs) where
  pub closed_found : (o : Outcome) → Gives P t f vs o → lookup P t T g vs ≡ some o
  closed_found o d =
      let closed = closed_calls P t wk T ok st in
      closed g vs f o q h (complete P t wk (lookup P t T) (lookup-kinds P t T) closed d f.params (only f.result) h (wk g f q))

  pub closed_right : Right P t f vs (lookup P t T g vs)
  closed_right = record {
    undecided = (λ z o d. let s = closed_found o d in let y : ◌≡◌ {A = ℕ} 0 1 = cc in omega arith, λ n. none_if n (lookup P t T g vs) refl);
    decided = λ o l. ok.sound g vs f o q h l;
    only = λ o o' d d'. derives_unique P t d d';
  }
    where
      none_if : ((o : Outcome) → ¬ Gives P t f vs o) → (said : Option Outcome) → lookup P t T g vs ≡ said → lookup P t T g vs ≡ none
      none_if n none l = l
      none_if n (some o) l = absurd (n o (ok.sound g vs f o q h l))

-- the values of Bool are the same on every trace
only-truth : (t t' : Traces) (said : Option Outcome) → only_of_kind t truth said ≡ only_of_kind t' truth said
only-truth t t' none = refl
only-truth t t' (some (Truth b)) = refl
only-truth t t' (some (Suffix c k)) = refl
only-truth t t' (some (Failed x)) = refl

pub main_said : (P : Program) (t : Traces) (T : Table) (s : Sort) (f : Function) → get_elem? P 0 ≡ some f → IsMain s f
    → main_decision (get_or T (main_cell t P) 0) ≡ decision_of (lookup P t T 0 (whole_traces s t))
unfolding main_decision outcome_in
main_said P t T s f q m =
    rw (lookup-held P t T 0 (whole_traces s t) f q, m.result, main-cell s t P f q m.params)
    (ap decision_of (only-truth no_traces t (outcome_of truth (get_or T (main_cell t P) 0))))

pub decides : (P : Program) (t : Traces) → WellKinded P → (rest : List ℕ) → Decides P t (verdict_of P t) (final_table P t ++ rest)
unfolding verdict_of
decides P t wk rest =
    let T = final_table P t in
    let ok = final_good P t wk in
    let st = still_closed P t T (final_still P t wk) in
    record {
      main = λ s f q m.
          let vs = whole_traces s t in
          (lookup P t T 0 vs, main_said P t T s f q m, closed_right P t wk T ok st 0 f vs q (rw m.params (whole_in s t)));
      within = λ g f vs q h. omega (arith, cell_lt t P g f vs q h, ok.long, length-append T rest);
      cell = λ g f vs q h.
          let l : cell_of t P g vs < length T = omega (arith, cell_lt t P g f vs q h, ok.long) in
          let content = get_or-append T rest 0 (cell_of t P g vs) l ∙ good_content P t T ok g f vs q h in
          (lookup P t T g vs, content, closed_right P t wk T ok st g f vs q h);
      passes = first-still P t wk;
      in_time = count_in_time P t;
    }
