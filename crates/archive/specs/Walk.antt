-- Walking an archive, of document 01: 'records end to end, read from its last byte backwards'.
use Rattle.std.specs.Prelude.{ℕ, zero, suc, ◌↔◌, ◌≡◌, List, [], ◌∷◌, ◌++◌, reverse, length, take, Option, Some, None, Result, Ok, Err}
use Rattle.refusal.specs.declared.Refusal.{Refusal}
use Rattle.refusal.specs.{Check, passed, Answer, answered, refused_as, answer_if}
use Rattle.layout.specs.declared.Parts.{Parts}
use Rattle.layout.specs.Form.{Contents, layout, Stated}
use Rattle.layout.specs.Trailer.{contents_at, parts_in}
use Rattle.record.specs.Reading.{reading, parts_values, read_check}

-- 'an archive is records end to end'
unfoldable pub archive_of : List Contents → List ℕ
archive_of [] = []
archive_of (c ∷ cs) = layout c ++ archive_of cs

-- ---- One step

-- what stands last: a record, no bytes, or what is refused
abbrev pub Step : Type 0
Step = Result (Option Parts) Refusal

abbrev pub step_by : Result Parts Refusal → Step
step_by (Ok p) = Ok (Some p)
step_by (Err f) = Err f

-- what the bytes end in; 'no bytes left is the end'
abbrev pub step_in : List ℕ → Step
step_in [] = Ok None
step_in (b ∷ bs) = step_by (reading (b ∷ bs))

-- the answer in numbers: the parts of a record; the end has none
abbrev pub step_answer : Step → Answer
step_answer (Ok None) = answered []
step_answer (Ok (Some p)) = answered (parts_values p)
step_answer (Err f) = refused_as f

-- what a step answers, in numbers
abbrev pub step_numbers : List ℕ → Answer
step_numbers [] = answered []
step_numbers (b ∷ bs) = answer_if (read_check (b ∷ bs)) (parts_values (parts_in (b ∷ bs)))

-- ---- The whole walk

-- records from the last on, and what comes after the last that is found: the end, or a refusal
pub data Walk : Type 0 where
  ended : Walk
  stopped : Refusal → Walk
  -- the bytes that end in a record, its parts, and the walk of the bytes before it
  found : List ℕ → Parts → Walk → Walk

abbrev pub onward : List ℕ → Step → (Parts → Walk) → Walk
onward bytes (Ok None) k = ended
onward bytes (Ok (Some p)) k = found bytes p (k p)
onward bytes (Err f) k = stopped f

-- at most so many steps
unfoldable pub walk_in : ℕ → List ℕ → Walk
walk_in zero bytes = ended
walk_in (suc k) bytes = onward bytes (step_in bytes) (λ p. walk_in k (take p.program.start bytes))

-- a record has bytes, so there are no more steps than bytes
unfoldable pub walk : List ℕ → Walk
walk bytes = walk_in (length bytes) bytes

-- the records that are found, the last first
abbrev pub records : Walk → List Contents
records ended = []
records (stopped f) = []
records (found bytes p w) = contents_at bytes p ∷ records w

-- how it ends: with no bytes left, or with a refusal
abbrev pub ending : Walk → Check
ending ended = passed
ending (stopped f) = Err f
ending (found bytes p w) = ending w

-- ---- What a walk owes

-- every one of some contents can be held by a record
abbrev pub AllStated : List Contents → Type 0
AllStated [] = Unit {0}
AllStated (c ∷ cs) = Stated c × AllStated cs

-- a walk finds exactly some records, the last first, and then the end
abbrev pub Finds : List ℕ → List Contents → Type 0
Finds bytes cs = (records (walk bytes) ≡ reverse cs) × (ending (walk bytes) ≡ passed)

-- the bytes are an archive of them: their layouts, in order, are the whole of it
abbrev pub IsArchive : List ℕ → List Contents → Type 0
IsArchive bytes cs = AllStated cs × (bytes ≡ archive_of cs)

-- both ways
abbrev pub WalksExactly : List ℕ → Type 0
WalksExactly bytes = (cs : List Contents) → Finds bytes cs ↔ IsArchive bytes cs
