-- Laws of the walk:
--   step_told                  what a step answers, in numbers
--   before-short               the bytes before a record are fewer than those that end in it
--   walk_enough                more steps than bytes change nothing
--   walk_end                   no bytes left is the end
--   walk_record                a record is found, and then the walk of the bytes before it
--   walk_refused               a refusal ends the walk
use mathlib.Core.Path.{◌≡◌, refl, ap, ◌∙◌}
use mathlib.Core.List.{List, [], ◌∷◌}
use Prim.Native.Nat.{ℕ, zero, suc, ◌<◌, ◌≤◌}
use native.Mathlib.Omega.{arith}
use lib.ListN.{length, take}
use lib.Seq.{length-take-le}
use Rattle.refusal.specs.declared.Refusal.{Refusal}
use Rattle.std.specs.Prelude.{Result, Ok, Err}
use Rattle.refusal.specs.{Check, answer_if}
use Rattle.layout.specs.declared.Parts.{Parts}
use Rattle.layout.specs.Trailer.{parts_in, read_by}
use Rattle.record.specs.Reading.{read_check, reading_with, reading, parts_values}
use Rattle.record.proofs.Answers.{parts_within}
use Rattle.archive.specs.Walk.{Step, step_by, step_in, step_answer, step_numbers, Walk, ended, stopped, found, onward, walk_in, walk}

pub step_told : (bytes : List ℕ) {r : Step} → r ≡ step_in bytes → step_answer r ≡ step_numbers bytes
unfolding reading_with
step_told bytes e = ap step_answer e ∙ go bytes
  where
    by_check : (k : Check) (p : Parts) → step_answer (step_by (read_by k p)) ≡ answer_if k (parts_values p)
    by_check (Ok tt) p = refl
    by_check (Err f) p = refl

    go : (l : List ℕ) → step_answer (step_in l) ≡ step_numbers l
    go [] = refl
    go (b ∷ bs) = by_check (read_check (b ∷ bs)) (parts_in (b ∷ bs))

pub before-short : (bytes : List ℕ) (p : Parts) → reading bytes ≡ Ok p → length (take p.program.start bytes) < length bytes
before-short bytes p e = let w = parts_within bytes p e in rw (length-take-le p.program.start bytes (omega arith)) w.some

-- two ways on from a record that are the same for the record that is read
same_onward : (bytes : List ℕ) (r : Result Parts Refusal) → reading bytes ≡ r → (k l : Parts → Walk) → ((p : Parts) → reading bytes ≡ Ok p → k p ≡ l p)
    → onward bytes (step_by r) k ≡ onward bytes (step_by r) l
same_onward bytes (Ok p) e k l h = ap (found bytes p) (h p e)
same_onward bytes (Err f) e k l h = refl

enough : (k l : ℕ) (bytes : List ℕ) → length bytes ≤ k → length bytes ≤ l → walk_in k bytes ≡ walk_in l bytes
unfolding walk_in
enough zero zero [] h g = refl
enough zero (suc l) [] h g = refl
enough (suc k) zero [] h g = refl
enough (suc k) (suc l) [] h g = refl
enough zero l (b ∷ bs) h g = absurd (omega arith)
enough (suc k) zero (b ∷ bs) h g = absurd (omega arith)
enough (suc k) (suc l) (b ∷ bs) h g =
    let bytes = b ∷ bs in
    same_onward
    bytes
    (reading bytes)
    refl
    (λ p. walk_in k (take p.program.start bytes))
    (λ p. walk_in l (take p.program.start bytes))
    (λ p e. let short = before-short bytes p e in enough k l (take p.program.start bytes) (omega arith) (omega arith))

pub walk_enough : (k : ℕ) (bytes : List ℕ) → length bytes ≤ k → walk_in k bytes ≡ walk bytes
unfolding walk
walk_enough k bytes h = enough k (length bytes) bytes h (omega arith)

pub walk_end : walk [] ≡ ended
unfolding walk walk_in
walk_end = refl

-- a walk of some bytes by what is read
walk-some : (bytes : List ℕ) → 0 < length bytes → walk bytes ≡ onward bytes (step_by (reading bytes)) (λ p. walk (take p.program.start bytes))
unfolding walk walk_in
walk-some [] h = absurd (omega arith)
walk-some (b ∷ bs) h =
    let bytes = b ∷ bs in
    same_onward
    bytes
    (reading bytes)
    refl
    (λ p. walk_in (length bs) (take p.program.start bytes))
    (λ p. walk (take p.program.start bytes))
    (λ p e. let short = before-short bytes p e in walk_enough (length bs) (take p.program.start bytes) (omega arith))

pub walk_record : (bytes : List ℕ) (p : Parts) → reading bytes ≡ Ok p → walk bytes ≡ found bytes p (walk (take p.program.start bytes))
walk_record bytes p e = walk-some bytes (omega (arith, before-short bytes p e)) ∙ rw e

pub walk_refused : (bytes : List ℕ) (f : Refusal) → 0 < length bytes → reading bytes ≡ Err f → walk bytes ≡ stopped f
walk_refused bytes f h e = walk-some bytes h ∙ rw e
