-- 'Programs tried' of document 01: the rows marked as proved, A to H, as one table, and what it is that evaluating gives
-- each of them.
use Rattle.std.specs.Prelude.{ℕ, Bool, true, false, ◌&&◌, List, [], ◌∷◌, eqb, length, Result, Ok, Err}
use Rattle.refusal.specs.declared.Refusal.{Refusal}
use Rattle.refusal.specs.{number_of}
use Rattle.trace.specs.{pack}
use Rattle.semantics.specs.declared.Verdict.{Verdict}
use Rattle.semantics.specs.Language.{Trace}
use Rattle.semantics.specs.Handed.{one_trace}
use Rattle.semantics.specs.Verdicts.{verdict_number}
use Rattle.evaluate.specs.Evaluate.{evaluation}

-- the number of the verdict and the passes, or the number of the refusal
pub data Answer : Type 0 where
  verdict : ℕ → ℕ → Answer
  refusal : ℕ → Answer

pub record Row : Type 0 where
  pub program : List ℕ
  pub trace : Trace
  pub answer : Answer

abbrev row : List ℕ → Trace → Answer → Row
row program trace answer = record { program = program; trace = trace; answer = answer }

-- verdicts: 0 forever, 1 no, 2 yes, 3 head
abbrev pub rows : List Row
rows =
    -- A
    row (0x01 ∷ 0x01 ∷ 0x01 ∷ 0x02 ∷ 0x00 ∷ 0x22 ∷ 0x10 ∷ []) (true ∷ false ∷ true ∷ []) (verdict 1 2)
    -- B
    ∷ row (0x01 ∷ 0x01 ∷ 0x01 ∷ 0x02 ∷ 0x00 ∷ 0x80 ∷ 0x10 ∷ []) (true ∷ false ∷ true ∷ []) (verdict 0 1)
    -- C
    ∷ row (0x01 ∷ 0x01 ∷ 0x01 ∷ 0x02 ∷ 0x00 ∷ 0x20 ∷ 0x10 ∷ []) [] (verdict 3 2)
    -- D
    ∷ row (0x01 ∷ 0x01 ∷ 0x01 ∷ 0x0B ∷ 0x00 ∷ 0x23 ∷ 0x22 ∷ 0x10 ∷ 0x01 ∷ 0x23 ∷ 0x20 ∷ 0x10 ∷ 0x80 ∷ 0x21 ∷ 0x10 ∷ 0x00 ∷ [])
    (true ∷ true ∷ true ∷ []) (verdict 2 2)
    -- E
    ∷ row (0x02 ∷ 0x01 ∷ 0x01 ∷ 0x01 ∷ 0x00 ∷ 0x81 ∷ 0x00 ∷ 0x00 ∷ 0x01 ∷ 0x00 ∷ 0x01 ∷ []) [] (verdict 2 3)
    -- F
    ∷ row (0x02 ∷ 0x01 ∷ 0x01 ∷ 0x03 ∷ 0x00 ∷ 0x81 ∷ 0x80 ∷ 0x10 ∷ 0x01 ∷ 0x00 ∷ 0x01 ∷ 0x00 ∷ 0x01 ∷ []) [] (verdict 0 2)
    -- G
    ∷ row (0x01 ∷ 0x01 ∷ 0x01 ∷ 0x02 ∷ 0x00 ∷ 0x22 ∷ []) [] (refusal 9)
    -- H
    ∷ row (0x01 ∷ 0x01 ∷ 0x01 ∷ 0x02 ∷ 0x00 ∷ 0x24 ∷ 0x10 ∷ []) [] (refusal 14)
    ∷ []

-- what evaluating answers, in a row's numbers
abbrev pub answer_in : Result Verdict Refusal → Answer
answer_in (Ok v) = verdict (verdict_number v.decision) v.passes
answer_in (Err f) = refusal (number_of f)

abbrev pub same_answer : Answer → Answer → Bool
same_answer (verdict a m) (verdict b n) = eqb a b && eqb m n
same_answer (verdict a m) (refusal y) = false
same_answer (refusal x) (verdict b n) = false
same_answer (refusal x) (refusal y) = eqb x y

-- evaluating gives a row its answer: its trace packed, so many cells lent
abbrev pub gives : ℕ → Row → Bool
gives lent r = same_answer (answer_in (evaluation r.program (one_trace (pack r.trace) (length r.trace)) lent)) r.answer

abbrev pub all_give : ℕ → List Row → Bool
all_give lent [] = true
all_give lent (r ∷ rs) = gives lent r && all_give lent rs
