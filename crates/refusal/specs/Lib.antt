-- 'What is refused' of document 01, with the numbers that document 02 adds: the number of each refusal, the refusal with a
-- number, and which of several applies.
use Rattle.std.specs.Prelude.{ℕ, Bool, true, false, cond, List, [], ◌∷◌, eqb, ◌≡◌, Result, Ok, Err, MatchResult}
use Rattle.refusal.specs.declared.Refusal.{Refusal}
use Rattle.refusal.specs.declared.NoRefusal.{NoRefusal}
use declared.Refusal.TheVariants.*

-- the number in the list 'What is refused'
abbrev pub number_of : Refusal → ℕ
-- fewer than eight bytes remain for a trailer
number_of TrailerMissing = 1
-- the mark is not 0x52 or the format is not 1
number_of MarkOrFormat = 2
-- n is above 4,095, or a distance does not fit
number_of TrailerFields = 3
-- the verdict byte is above 4 or the pass count is 0
number_of VerdictOrPasses = 4
-- the program is empty or longer than 4,096 bytes
number_of ProgramLength = 5
-- the function count is 0 or above 32
number_of FunctionCount = 6
-- fewer than four bytes remain for a header
number_of HeaderCut = 7
-- the parameter count is above 4, or a kind bit is set for an absent parameter or among bits 5 to 7
number_of ParameterKinds = 8
-- the body length is 0, above 1,024 or above what remains
number_of BodyLength = 9
-- bytes remain after the last function
number_of BytesAfterFunctions = 10
-- function 0 is not of main's kind
number_of MainKind = 11
-- the body ends where a node is due
number_of BodyEnds = 12
-- a node would be the 65th in depth
number_of TooDeep = 13
-- the byte is 0x24
number_of ListConstructor = 14
-- the byte is not in the table, or names an absent parameter or function
number_of UnknownByte = 15
-- the node's kind is not the one its place demands, in a body's or branch's result where a whole body demands it
number_of WrongKind = 16
-- bytes remain in the body after its expression
number_of BytesAfterExpression = 17
-- the ring slice is empty or longer than 4,095
number_of RingLength = 18
-- the ring's next place is not below its length, or its count is above it
number_of RingState = 19
-- a lent trace has n above 4,095 or not n / 8 rounded up bytes
number_of TraceLength = 20
-- the cells needed exceed the lent table or 16,777,216
number_of TableShort = 21
-- the output is shorter than what is to be written
number_of OutputShort = 22
-- a bit above the last sample is set
number_of PaddingSet = 23
-- a call stands elsewhere than as a whole body, or as a branch of an if that itself is in such a place
number_of CallElsewhere = 24
-- the node's kind is not the one its place demands, in an operand of hd, tl, null or a condition
number_of OperandKind = 25
-- the same, in an argument
number_of ArgumentKind = 26

-- the refusals in the order of the numbers
abbrev pub refusals : List Refusal
refusals =
    TrailerMissing ∷ MarkOrFormat ∷ TrailerFields ∷ VerdictOrPasses ∷ ProgramLength ∷ FunctionCount ∷
    HeaderCut ∷ ParameterKinds ∷ BodyLength ∷ BytesAfterFunctions ∷ MainKind ∷ BodyEnds ∷
    TooDeep ∷ ListConstructor ∷ UnknownByte ∷ WrongKind ∷ BytesAfterExpression ∷ RingLength ∷
    RingState ∷ TraceLength ∷ TableShort ∷ OutputShort ∷ PaddingSet ∷ CallElsewhere ∷
    OperandKind ∷ ArgumentKind ∷ []

-- what judging input comes to: nothing wrong, or the first refusal that applies
abbrev pub Check : Type 0
Check = Result (Unit {0}) Refusal

abbrev pub passed : Check
passed = Ok tt

-- what an answer that may be refused says of the check
abbrev pub told : {A : Type 0} → Result A Refusal → Check
told (Ok x) = passed
told (Err f) = Err f

-- the number of a check's answer; 0 stands for no refusal
abbrev pub check_number : Check → ℕ
check_number (Ok u) = 0
check_number (Err f) = number_of f

-- the one of some refusals that has a number
abbrev pub check_among : List Refusal → ℕ → Check
check_among [] n = passed
check_among (f ∷ fs) n = cond (eqb n (number_of f)) (Err f) (check_among fs n)

-- the check with a number; what is no refusal's number, as 0, stands for no refusal
abbrev pub check_of : ℕ → Check
check_of n = check_among refusals n

-- what asking for the refusal with a number answers: that refusal, or that no refusal has the number
abbrev pub Numbers : ℕ → Result Refusal NoRefusal → Type 0
Numbers n r = MatchResult r (λ f. check_of n ≡ Err f) (λ e. (e.0 ≡ n) × (check_of n ≡ passed))

-- one entry of the list: the refusal, where what it names is the case
abbrev pub refuse_if : Bool → Refusal → Check
refuse_if true f = Err f
refuse_if false f = passed

-- 'in rising order', 23 'directly after 3 for records, after 20 for lent traces', 24 'after 17', 25 and 26 'in the place of 16': the
-- first check that refuses decides
infixr 20 ◌then◌
abbrev pub ◌then◌ : Check → Check → Check
◌then◌ (Ok u) next = next
◌then◌ (Err f) next = Err f

-- what an operation leaves: the new content where nothing is refused; 'a refusal changes neither lent memory nor state'
abbrev pub changed_if : {A : Type 0} → Check → A → A → A
changed_if (Ok u) new old = new
changed_if (Err f) new old = old

-- ---- Answers

-- an answer in this paper's numbers: the number of the refusal, 0 for none, and the values that come with it
pub record Answer : Type 0 where
  pub number : ℕ
  pub values : List ℕ

abbrev pub answered : List ℕ → Answer
answered values = record { number = 0; values = values }

abbrev pub refused_as : Refusal → Answer
refused_as f = record { number = number_of f; values = [] }

-- what an operation answers: its values where nothing is refused, else the number of the refusal
abbrev pub answer_if : Check → List ℕ → Answer
answer_if (Ok u) values = answered values
answer_if (Err f) values = refused_as f

-- what memory lent for the values then holds: a refusal leaves what was there
unfoldable pub values_left : Answer → List ℕ → List ℕ
values_left a old = cond (eqb a.number 0) a.values old
