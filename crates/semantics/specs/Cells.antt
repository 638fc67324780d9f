-- 'Table and passes' of document 01: the content of a cell.
use Rattle.std.specs.Prelude.{ℕ, zero, suc, ◌+◌, Bool, true, false, cond}
use Rattle.std.proofs.Math.Option.{Option, none, some}
use Rattle.semantics.specs.declared.Error.TheVariants.{Head, Tail}
use Rattle.semantics.specs.declared.Outcome.{Outcome}
use Rattle.semantics.specs.declared.Outcome.TheVariants.{Truth, Suffix, Failed}
use Rattle.semantics.specs.declared.Kind.{Kind}
use Rattle.semantics.specs.declared.Kind.TheVariants.{Truth as truth, List as list}
use Rattle.semantics.specs.Language.{Traces, bit, suffix, in_kind}

-- '0 undecided, 1 False, 2 True, 3 head, 4 tail, 5 + k for a suffix'
abbrev pub undecided_code : ℕ
undecided_code = 0

abbrev pub false_code : ℕ
false_code = 1

abbrev pub true_code : ℕ
true_code = 2

abbrev pub head_code : ℕ
head_code = 3

abbrev pub tail_code : ℕ
tail_code = 4

abbrev pub suffix_code : ℕ
suffix_code = 5

-- the number of an outcome; of which trace a suffix is, its function's result kind says
abbrev pub code_of : Outcome → ℕ
code_of (Truth false) = false_code
code_of (Truth true) = true_code
code_of (Failed Head) = head_code
code_of (Failed Tail) = tail_code
code_of (Suffix c k) = suffix_code + k

-- the content of a cell
abbrev pub content_of : Option Outcome → ℕ
content_of none = undecided_code
content_of (some o) = code_of o

-- a suffix of the trace that a list kind means; no Bool is one
abbrev pub suffix_of : Kind → ℕ → Option Outcome
suffix_of truth k = none
suffix_of (list c) k = some (Suffix c k)

-- the outcome that a content of a cell stands for, its function's result kind being κ
abbrev pub outcome_of : Kind → ℕ → Option Outcome
outcome_of κ zero = none
outcome_of κ (suc zero) = some (Truth false)
outcome_of κ (suc (suc zero)) = some (Truth true)
outcome_of κ (suc (suc (suc zero))) = some (Failed Head)
outcome_of κ (suc (suc (suc (suc zero)))) = some (Failed Tail)
outcome_of κ (suc (suc (suc (suc (suc k))))) = suffix_of κ k

-- an outcome is of a kind if it is a value of it; an error is of every kind
abbrev pub of_kind : Traces → Kind → Outcome → Bool
of_kind t κ (Truth b) = in_kind t κ (bit b)
of_kind t κ (Suffix c k) = in_kind t κ (suffix c k)
of_kind t κ (Failed x) = true

abbrev pub only_of_kind : Traces → Kind → Option Outcome → Option Outcome
only_of_kind t κ none = none
only_of_kind t κ (some o) = cond (of_kind t κ o) (some o) none

-- what a cell of a function with the result kind κ holds: 'a cell that holds no outcome of its function's kind
-- counts as undecided'
unfoldable pub outcome_in : Traces → Kind → ℕ → Option Outcome
outcome_in t κ cell = only_of_kind t κ (outcome_of κ cell)
