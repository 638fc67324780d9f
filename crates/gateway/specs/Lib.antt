-- What the functions for C take and leave, in numbers: a ring's state, and an answer's values in memory that the caller lends.
use Rattle.std.specs.Prelude.{ℕ, List, [], ◌∷◌, Result, Ok, Err, take, get_or}
use Rattle.refusal.specs.declared.Refusal.{Refusal}
use Rattle.refusal.specs.{Answer, answered, refused_as}
use Rattle.trace.specs.{digit}
use Rattle.ring.specs.declared.Ring.{Ring}
use Rattle.semantics.specs.declared.Verdict.{Verdict}
use Rattle.layout.specs.Trailer.{contents_in}
use Rattle.record.specs.Checking.{agrees}

-- a state of two numbers: the next place, the count
abbrev pub ring_in : List ℕ → Ring
ring_in state = record { next = get_or state 0 0; count = get_or state 1 0 }

-- an answer of some values, or a refusal
abbrev pub values_answer : Result (List ℕ) Refusal → Answer
values_answer (Ok values) = answered values
values_answer (Err f) = refused_as f

-- an answer with its first value alone: of a check, whether the record agrees
abbrev pub first_alone : Answer → Answer
first_alone a = record { number = a.number; values = take 1 a.values }

-- what is told of the verdict worked out: 1 where the record that the bytes end in has it, else 0
abbrev pub agreement_values : List ℕ → Verdict → List ℕ
agreement_values bytes v = digit (agrees (contents_in bytes).verdict (contents_in bytes).passes v) ∷ []
