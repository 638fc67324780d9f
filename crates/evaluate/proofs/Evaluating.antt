-- What is answered and left, one law for each way through the code:
--   evaluation_decides                    demand 3, of what evaluating answers and leaves
--   evaluate_refused, evaluate_passed     evaluating
--   pass-refused, pass_passed             a single pass
use Prim.Native.Nat.{ℕ}
use mathlib.Core.Path.{◌≡◌, refl, ap}
use mathlib.Core.List.{List, [], ◌∷◌}
use lib.ListN.{length, drop}
use Rattle.std.specs.Prelude.{Result, Ok, Err, None}
use Rattle.refusal.specs.declared.Refusal.{Refusal}
use Rattle.refusal.specs.{passed, answer_if}
use Rattle.semantics.specs.declared.Verdict.{Verdict}
use Rattle.semantics.specs.Language.{Program}
use Rattle.semantics.specs.Handed.{Handed, samples_of}
use Rattle.semantics.specs.Numbering.{cells}
use Rattle.semantics.specs.Visits.{pass, pass_stores}
use Rattle.semantics.specs.Passes.{decided_table}
use Rattle.semantics.specs.Verdicts.{verdict_of, verdict_values}
use Rattle.semantics.proofs.Theorem.{decides}
use Rattle.rule.specs.Reading.{program_of}
use Rattle.rule.proofs.Programs.{read-encoded}
use Rattle.prepare.specs.declared.Prepared.{Prepared}
use Rattle.prepare.specs.Settled.{PlacedBy}
use Rattle.prepare.proofs.Preparing.{read-own, traces_placed}
use Rattle.prepare.specs.Checks.{handed_in, evaluate_check}
use Rattle.evaluate.specs.Evaluate.{evaluation, evaluated_answer, table_evaluated, Demand3, pass_made, made_answer, table_passed}

-- ---- Demand 3

-- the program is the one that is read, so nothing is refused, and the passes decide it
pub evaluation_decides : (program : List ℕ) (h : Handed) (T T' : List ℕ) {r : Result Verdict Refusal} → r ≡ evaluation program h (length T)
    → T' ≡ table_evaluated program h T → Demand3 program h (length T) (λ v. r ≡ Ok v) T'
unfolding evaluation table_evaluated evaluate_check
evaluation_decides program h T T' {r} told left P a fits room =
    let t = samples_of h in
    let verdict : r ≡ Ok (verdict_of P t) = rw (read-own program h.sort P a, read-encoded program h.sort P a None refl, fits, room) at told in
    let table : T' ≡ decided_table P t T = rw (read-own program h.sort P a, read-encoded program h.sort P a None refl, fits, room) at left in
    (verdict_of P t, verdict, rw table (decides P t a.kinds (drop (cells t P) T)))

-- ---- Answers

module _ (bytes : List ℕ) (h : Handed) (T : List ℕ) where
  abbrev P : Program
  P = program_of bytes

  -- what is owed of an answer and of the table left
  pub record EvaluateOwed (r : Result Verdict Refusal) (T' : List ℕ) : Type 0 where
    pub answer : r ≡ evaluation bytes h (length T)
    pub numbers : evaluated_answer r ≡ answer_if (evaluate_check bytes h (length T)) (verdict_values (verdict_of P (samples_of h)))
    pub cells : T' ≡ table_evaluated bytes h T
    pub decides : Demand3 bytes h (length T) (λ v. r ≡ Ok v) T'

  pub evaluate_refused : {f : Refusal} → Err f ≡ evaluate_check bytes h (length T) → EvaluateOwed (Err f) T
  unfolding evaluation table_evaluated
  evaluate_refused e =
      record {
        answer = rw (← e);
        numbers = rw (← e);
        cells = rw (← e);
        decides = evaluation_decides bytes h T T (rw (← e)) (rw (← e));
      }

  pub evaluate_passed : {v : Verdict} {T' : List ℕ} → passed ≡ evaluate_check bytes h (length T) → v ≡ verdict_of P (samples_of h)
      → T' ≡ decided_table P (samples_of h) T → EvaluateOwed (Ok v) T'
  unfolding evaluation table_evaluated
  evaluate_passed {T' = T'} e v t =
      record {
        answer = rw (← e, v);
        numbers = rw (← e, v);
        cells = rw (← e) t;
        decides = evaluation_decides bytes h T T' (rw (← e, v)) (rw (← e) t);
      }

  -- of what was prepared from these bytes and traces
  pub evaluate_prepared : {v : Verdict} {T' : List ℕ} → passed ≡ evaluate_check bytes h (length T) → {p : Prepared} → PlacedBy bytes p.outline h p
      → v ≡ verdict_of (program_of p.program.now) (samples_of (handed_in p.handed)) → T' ≡ decided_table (program_of p.program.now) (samples_of (handed_in p.handed)) T
      → EvaluateOwed (Ok v) T'
  evaluate_prepared e u v t =
      let traces = ap samples_of (traces_placed u) in evaluate_passed e (rw (u.program, traces) at v) (rw (u.program, traces) at t)

  pub record PassOwed (r : Result ℕ Refusal) (T' : List ℕ) : Type 0 where
    pub answer : r ≡ pass_made bytes h T
    pub numbers : made_answer r ≡ answer_if (evaluate_check bytes h (length T)) (pass_stores P (samples_of h) T ∷ [])
    pub cells : T' ≡ table_passed bytes h T

  pub pass-refused : {f : Refusal} → Err f ≡ evaluate_check bytes h (length T) → PassOwed (Err f) T
  unfolding pass_made table_passed
  pass-refused e = record { answer = rw (← e); numbers = rw (← e); cells = rw (← e) }

  pub pass_passed : {k : ℕ} {T' : List ℕ} → passed ≡ evaluate_check bytes h (length T) → k ≡ pass_stores P (samples_of h) T
      → T' ≡ pass P (samples_of h) T → PassOwed (Ok k) T'
  unfolding pass_made table_passed
  pass_passed e k t = record { answer = rw (← e, k); numbers = rw (← e, k); cells = rw (← e) t }

  pub pass_prepared : {k : ℕ} {T' : List ℕ} → passed ≡ evaluate_check bytes h (length T) → {p : Prepared} → PlacedBy bytes p.outline h p
      → k ≡ pass_stores (program_of p.program.now) (samples_of (handed_in p.handed)) T → T' ≡ pass (program_of p.program.now) (samples_of (handed_in p.handed)) T
      → PassOwed (Ok k) T'
  pass_prepared e u k t =
      let traces = ap samples_of (traces_placed u) in pass_passed e (rw (u.program, traces) at k) (rw (u.program, traces) at t)
