-- An answer in numbers, by the case that it is:
--   told           its values are left in the memory lent for them
--   untold         a refusal leaves what was there
--   told_as        what is told of an answer is told of what it is
--   evaluated_told, written_told    what is told of what evaluating and recording answer, and of demand 3
--   followed-told  what is told of what following answers, and of what it owes
--   compared-told  what is told of a verdict that a record was compared with
use mathlib.Core.Path.{◌≡◌, refl, sym, ap, ◌∙◌}
use mathlib.Core.Bool.{Bool, true, false}
use mathlib.Core.List.{List, [], ◌∷◌}
use Prim.Native.Nat.{ℕ}
use lib.ListN.{length, get_or}
use Rattle.std.specs.Prelude.{Result, Ok}
use Rattle.refusal.specs.declared.Refusal.{Refusal}
use Rattle.refusal.specs.{number_of, Answer, answered, values_left}
use Rattle.refusal.proofs.Numbers.{refused-left}
use Rattle.trace.specs.{digit}
use Rattle.semantics.specs.declared.Verdict.{Verdict}
use Rattle.semantics.specs.Handed.{Handed}
use Rattle.semantics.specs.Verdicts.{verdict_number, verdict_values}
use Rattle.evaluate.specs.Evaluate.{evaluation, evaluated_answer, table_evaluated, Demand3}
use Rattle.chains.specs.Following.{followed_values}
use Rattle.chains.specs.declared.Followed.{Followed}
use Rattle.follow.specs.Follow.{following_of, following_answer, FollowDemand, AsTable, ToldDecision}
use Rattle.record.specs.declared.Written.{Written}
use Rattle.record.specs.Recording.{record_of, written, writing, written_answer, output_written, table_written, RecordDemand3}
use Rattle.layout.specs.Trailer.{contents_in}
use Rattle.record.specs.Checking.{agrees, compared, checked_answer, compared_in}
use Rattle.gateway.specs.{first_alone, agreement_values}

module _ {A : Type 0} (numbers : A → Answer) {a b : A} (e : a ≡ b) (old : List ℕ) where
  -- the number answered and the memory left are those of the answer
  abbrev Tells : ℕ → List ℕ → Type 0
  Tells number left = (number ≡ (numbers a).number) × (left ≡ values_left (numbers a) old)

  pub told : {values left : List ℕ} → numbers b ≡ answered values → left ≡ values → Tells 0 left
  unfolding values_left
  told n l = let same = ap numbers e ∙ n in (rw same, rw same l)

  pub untold : (f : Refusal) {values : List ℕ} {number : ℕ} → numbers b ≡ record { number = number_of f; values = values }
      → number ≡ number_of f → Tells number old
  untold f {values} n m =
      let same = ap numbers e ∙ n in
      (rw same m, rw same (sym (refused-left f values old)))

pub told_as : {A : Type 0} (numbers : A → Answer) {a b : A} (old : List ℕ) {number : ℕ} {left : List ℕ} → number ≡ (numbers a).number
    → left ≡ values_left (numbers a) old → a ≡ b → (number ≡ (numbers b).number) × (left ≡ values_left (numbers b) old)
told_as numbers old n l e = (n ∙ ap (λ x. (numbers x).number) e, l ∙ ap (λ x. values_left (numbers x) old) e)

-- the clauses of evaluating and of recording, of the answer in numbers
module _ (program : List ℕ) (h : Handed) (T T' : List ℕ) {number : ℕ} {left : List ℕ} (old : List ℕ) where
  pub evaluated_told : {r : Result Verdict Refusal} → number ≡ (evaluated_answer r).number → left ≡ values_left (evaluated_answer r) old
      → r ≡ evaluation program h (length T) → T' ≡ table_evaluated program h T
      → Demand3 program h (length T) (λ v. r ≡ Ok v) T'
      → (number ≡ (evaluated_answer (evaluation program h (length T))).number)
      × ((T' ≡ table_evaluated program h T)
      × ((left ≡ values_left (evaluated_answer (evaluation program h (length T))) old)
      × Demand3 program h (length T) (λ v. (number ≡ 0) × (left ≡ verdict_values v)) T'))
  unfolding values_left
  evaluated_told n l answer cells decides =
      let all = told_as evaluated_answer old n l answer in
      (all.0, (cells, (all.1, λ P a f t. let d = decides P a f t in (d.0, told_as evaluated_answer old n l d.1, d.2))))

  pub written_told : {r : Result Written Refusal} (out out' : List ℕ) → number ≡ (written_answer r).number → left ≡ values_left (written_answer r) old
      → r ≡ writing program h (length T) (length out) → out' ≡ output_written program h (length T) out → T' ≡ table_written program h T (length out)
      → RecordDemand3 program h (length T) (length out) (λ v. r ≡ written (length (record_of program h)) v) T'
      → (number ≡ (written_answer (writing program h (length T) (length out))).number)
      × ((out' ≡ output_written program h (length T) out)
      × ((T' ≡ table_written program h T (length out))
      × ((left ≡ values_left (written_answer (writing program h (length T) (length out))) old)
      × RecordDemand3 program h (length T) (length out) (λ v. (number ≡ 0) × (left ≡ length (record_of program h) ∷ verdict_values v)) T')))
  unfolding values_left
  written_told out out' n l answer output cells decides =
      let all = told_as written_answer old n l answer in (
        all.0,
        (output, (cells, (all.1, λ enough P a f t. let d = decides enough P a f t in (d.0, told_as written_answer old n l d.1, d.2)))),
      )

-- the clauses of following
pub followed-told : (program : List ℕ) (h : Handed) {r : Result Followed Refusal} {number : ℕ} {left : List ℕ} (old : List ℕ) → number ≡ (following_answer r).number
    → left ≡ values_left (following_answer r) old → r ≡ following_of program h → FollowDemand program h (λ q. r ≡ Ok q)
    → AsTable program h (ToldDecision r)
    → (number ≡ (following_answer (following_of program h)).number)
    × ((left ≡ values_left (following_answer (following_of program h)) old)
    × (FollowDemand program h (λ q. (number ≡ 0) × (left ≡ followed_values q))
    × AsTable program h (λ d. (number ≡ 0) × (get_or left 0 0 ≡ verdict_number d))))
unfolding values_left
followed-told program h old n l answer owed table =
    let all = told_as following_answer old n l answer in (
      all.0,
      (
        all.1,
        (
          λ P a loops f t. let d = owed P a loops f t in (d.0, told_as following_answer old n l d.1, d.2),
          λ P a loops lent v e. let d = told_as following_answer old n l (table P a loops lent v e).1 in (d.0, ap (λ x. get_or x 0 0) d.1),
        ),
      ),
    )

pub compared-told : (bytes : List ℕ) (v : Verdict) (old : List ℕ)
    → ((checked_answer (compared_in bytes v)).number ≡ 0) × (values_left (first_alone (checked_answer (compared_in bytes v))) old ≡ agreement_values bytes v)
unfolding values_left
compared-told bytes v old = go (agrees (contents_in bytes).verdict (contents_in bytes).passes v)
  where
    go : (b : Bool) → ((checked_answer (Ok (compared b v))).number ≡ 0) × (values_left (first_alone (checked_answer (Ok (compared b v)))) old ≡ digit b ∷ [])
    go true = (refl, refl)
    go false = (refl, refl)
