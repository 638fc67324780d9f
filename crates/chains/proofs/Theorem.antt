-- What following comes to, of a program that only loops:
--   Course, course     with so many calls left the chain ends before they are made, or all are made
--   follows            the decision and the calls are what following owes
--   right_same         what is right of a configuration is one thing
--   as_decided         the decision is that of all passes over a table
use Prim.Native.Nat.{ℕ, zero, suc, ◌+◌}
use native.Mathlib.Omega.{arith}
use mathlib.Core.Path.{◌≡◌, refl, sym, ap, ◌∙◌}
use mathlib.Core.List.{List}
use mathlib.Core.Option.{Option, none, some}
use lib.ListN.{get_elem?}
use lib.Dec.{T}
use Rattle.semantics.specs.declared.Sort.{Sort}
use Rattle.semantics.specs.declared.Outcome.{Outcome}
use Rattle.semantics.specs.declared.Decision.TheVariants.{Forever, Decided}
use Rattle.semantics.specs.declared.Verdict.{Verdict}
use Rattle.semantics.specs.Language.{Function, Program, IsMain, Traces, Value, whole_traces, WellKinded}
use Rattle.semantics.specs.Numbering.{cells, Config}
use Rattle.semantics.specs.Visits.{Table}
use Rattle.semantics.specs.Verdicts.{decision_of}
use Rattle.semantics.specs.Demand.{Gives, Right, Decides}
use Rattle.semantics.proofs.Unique.{derives_unique}
use Rattle.semantics.proofs.Demands.{whole_in}
use Rattle.chains.specs.declared.Followed.{Followed}
use Rattle.chains.specs.Loops.{only_loops}
use Rattle.chains.specs.Following.{Turn, on_turn, follow_from, followed}
use Rattle.chains.specs.Chain.{Step, Chain, start, more, EndsAfter, Endless}
use Rattle.chains.specs.Owed.{main_on, Follows}
use Rattle.chains.proofs.Turns.{Turned, ended, called}
use Rattle.chains.proofs.Chains.{on, front, ends_unique, ends-gives, gives-ends, step_ends}
use Rattle.chains.proofs.InTime.{Proper, proper_turned, in_time_lem}

-- how following from a configuration went, with so many calls left after so many made
pub data Course (P : Program) (t : Traces) (left made : ℕ) (k : Config) (r : Followed) : Type 0 where
  ends : (o : Outcome) (n : ℕ) → EndsAfter P t k n o → r.decision ≡ Decided o → r.calls ≡ made + n → Course P t left made k r
  goes_on : (k' : Config) → Chain P t k left k' → r.decision ≡ Forever → r.calls ≡ made + left → Course P t left made k r

module _ (P : Program) (t : Traces) (wk : WellKinded P) (loops : T (only_loops P)) where
  -- one call before it
  later : {left made : ℕ} {k k' : Config} {r : Followed} → Step P t k k' → Course P t left (suc made) k' r → Course P t (suc left) made k r
  later s (ends o n e d c) = ends o (suc n) (step_ends P t s e) d (omega arith)
  later s (goes_on q e d c) = goes_on q (more s e) d (omega arith)

  -- by how its body is taken
  by_turn : {left made : ℕ} {k : Config} {u : Option Turn} (go : ℕ → List Value → Followed)
      → ((k' : Config) (p : Proper P t k') → Course P t left (suc made) k' (go p.g k'.args))
      → Turned P t k.args k.fun.body u → Course P t (suc left) made k (on_turn made go u)
  by_turn {k = k} go more-calls (ended o q d never) =
      rw q (ends o 0 (record { last = k; chain = start; no_more = λ k' s. never s.callee k'.args s.comes; gives = d }) refl (omega arith))
  by_turn go more-calls (called g vs f q c e i) =
      rw q (later (record { callee = g; is_fun = e; comes = c }) (more-calls (on f vs) (record { g = g; is_fun = e; are_in = i })))

  pub course : (left made : ℕ) (k : Config) (p : Proper P t k) → Course P t left made k (follow_from P t left made p.g k.args)
  unfolding follow_from
  course zero made k p = goes_on k start refl (omega arith)
  course (suc left) made k p =
      rw p.is_fun (by_turn (follow_from P t left (suc made)) (λ k' p'. course left (suc made) k' p') (proper_turned P t wk loops k p))

  module _ (s : Sort) (f : Function) (q : get_elem? P 0 ≡ some f) (m : IsMain s f) where
    abbrev k : Config
    k = main_on f s t

    proper : Proper P t k
    proper = record { g = 0; is_fun = q; are_in = rw m.params (whole_in s t) }

    owed : (r : Followed) → Course P t (cells t P) 0 k r → Follows P s t f r
    owed r (ends o n e d c) = record {
      main = (
        some o,
        d,
        record {
          undecided = (λ z. let y : ◌≡◌ {A = ℕ} 0 1 = cc in absurd (omega arith), λ never. absurd (never o (ends-gives P t e)));
          decided = λ o' z. let same : o ≡ o' = cc in rw same at (ends-gives P t e);
          only = λ a b x y. derives_unique P t x y;
        },
      );
      ends = λ o'. (
        λ z. let same : o ≡ o' = cc in (n, rw same at e),
        λ e'. let same = ends_unique P t e e'.1 in cc,
      );
      length = λ o' n' e'. let same = ends_unique P t e e' in omega (arith, same.0, c);
      forever = (
        λ z. let y : ◌≡◌ {A = ℕ} 0 1 = cc in absurd (omega arith),
        λ endless. let long = front P t (endless (suc n)).1 e in absurd (omega (arith, long.counted)),
      );
      all = λ z. let y : ◌≡◌ {A = ℕ} 0 1 = cc in absurd (omega arith);
    }
    owed r (goes_on k' c d n) = record {
      main = (
        none,
        d,
        record {
          undecided = (λ z o x. never o x, λ z. refl);
          decided = λ o z. let y : ◌≡◌ {A = ℕ} 0 1 = cc in absurd (omega arith);
          only = λ a b x y. derives_unique P t x y;
        },
      );
      ends = λ o. (λ z. let y : ◌≡◌ {A = ℕ} 0 1 = cc in absurd (omega arith), λ e. absurd (no_end o e.0 e.1));
      length = λ o m e. absurd (no_end o m e);
      forever = (λ z. endless, λ z. d);
      all = λ z. omega arith;
    }
      where
        no_end : (o : Outcome) (n : ℕ) → EndsAfter P t k n o → ⊥
        no_end o n e = let whole = front P t c e in omega (arith, whole.counted, in_time_lem P t wk loops k n o proper e)

        never : (o : Outcome) → Gives P t f (whole_traces s t) o → ⊥
        never o x = let e = gives-ends P t k x in no_end o e.0 e.1

        endless : Endless P t k
        endless n = go (course n 0 k proper)
          where
            go : {r : Followed} → Course P t n 0 k r → (k' : Config) × Chain P t k n k'
            go (ends o i e d c) = absurd (no_end o i e)
            go (goes_on k' c d i) = (k', c)

    pub follows : Follows P s t f (followed s P t)
    unfolding followed proper
    follows = owed (follow_from P t (cells t P) 0 0 (whole_traces s t)) (course (cells t P) 0 k proper)

-- ---- The table's

pub right_same : (P : Program) (t : Traces) (f : Function) (vs : List Value) (said said' : Option Outcome) → Right P t f vs said → Right P t f vs said' → said ≡ said'
right_same P t f vs none none r r' = refl
right_same P t f vs none (some o) r r' = absurd (r.undecided.0 refl o (r'.decided o refl))
right_same P t f vs (some o) none r r' = absurd (r'.undecided.0 refl o (r.decided o refl))
right_same P t f vs (some o) (some o') r r' = ap some (r.only o o' (r.decided o refl) (r'.decided o' refl))

pub as_decided : (P : Program) (t : Traces) (s : Sort) (f : Function) → get_elem? P 0 ≡ some f → IsMain s f → (r : Followed) → Follows P s t f r
    → (v : Verdict) (T : Table) → Decides P t v T → r.decision ≡ v.decision
as_decided P t s f q m r owed v T d =
    let mine = owed.main in
    let its = d.main s f q m in
    mine.1 ∙ ap decision_of (right_same P t f (whole_traces s t) mine.0 its.0 mine.2 its.2) ∙ sym its.1
