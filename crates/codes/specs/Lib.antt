-- A mirror of the code: outcomes as their numbers. No reader need believe it: proofs/ shows that it comes to what the
-- rules say.
use Rattle.std.specs.Prelude.{ℕ, ◌+◌, ◌-◌, ◌*◌, ◌/◌, ◌%◌, ◌≤◌, Bool, true, cond, List, ltb, leb, eqb, get_or}
use Rattle.trace.specs.{most_samples, bit_of}
use Rattle.semantics.specs.declared.Contact.TheVariants.{Ram, Guard}
use Rattle.semantics.specs.declared.Outcome.{Outcome}
use Rattle.semantics.specs.declared.Outcome.TheVariants.{Truth, Suffix, Failed}
use Rattle.semantics.specs.Cells.{code_of, undecided_code, false_code, true_code, head_code, tail_code, suffix_code}
use Rattle.semantics.specs.declared.Contact.{Contact}
use Rattle.semantics.specs.declared.Kind.{Kind}
use Rattle.semantics.specs.declared.Kind.TheVariants.{Truth as truth, List as list}
use Rattle.codes.specs.declared.Lengths.{Lengths}

-- ---- Working numbers

-- A working number is that of a cell, but of a suffix of the guard trace it is greater by so much, so that it says of which
-- trace the suffix is.
abbrev pub guard_shift : ℕ
guard_shift = 8192

-- that of the empty guard list
abbrev pub guard_code : ℕ
guard_code = 8197

-- the working number of an outcome
abbrev pub working_of : Outcome → ℕ
working_of (Truth b) = code_of (Truth b)
working_of (Suffix Ram k) = suffix_code + k
working_of (Suffix Guard k) = guard_code + k
working_of (Failed x) = code_of (Failed x)

-- ---- hd, tl and null

-- the most bytes of a trace, and where the guard's begin after the ram's
abbrev pub most_trace_bytes : ℕ
most_trace_bytes = 512

-- the sample at place i of both traces: the ram's begin at 0, the guard's after the most that the ram trace takes
abbrev pub sample_code : List ℕ → ℕ → ℕ
sample_code traces i = cond (bit_of (i % 8) (get_or traces (i / 8 % (2 * most_trace_bytes)) 0)) true_code false_code

-- The place of a suffix's oldest sample is the origin of its contact less the suffix's working number. An array of values has the
-- origins at 4 and 5: the trace's length, and added to it the number of the empty list and the place where the samples begin.
abbrev pub ram_offset : ℕ
ram_offset = suffix_code

abbrev pub guard_offset : ℕ
guard_offset = guard_code + 8 * most_trace_bytes

abbrev pub origin_of : List ℕ → ℕ → ℕ
origin_of env c = get_or env (4 + c / guard_shift % 2) 0

-- the place by an origin; a difference below 0, which no array and suffix give, wraps round
abbrev pub place_of : ℕ → ℕ → ℕ
place_of origin c = (origin + 65536 - c) % 65536

-- whether a number is that of a list that is not empty
abbrev pub has_samples : ℕ → Bool
has_samples c = ltb suffix_code (c % guard_shift)

-- undecided and errors go through, and the empty list gives what is said
abbrev pub through_or : ℕ → ℕ → ℕ
through_or c empty = cond (ltb c suffix_code) c empty

abbrev pub head_of : List ℕ → List ℕ → ℕ → ℕ
head_of traces env c = cond (has_samples c) (sample_code traces (place_of (origin_of env c) c)) (through_or c head_code)

abbrev pub tail_of : ℕ → ℕ
tail_of c = cond (has_samples c) (c - 1) (through_or c tail_code)

abbrev pub null_of : ℕ → ℕ
null_of c = cond (has_samples c) false_code (through_or c true_code)

-- lengths that traces can have
abbrev pub Short : Lengths → Type 0
Short n = (n.ram ≤ most_samples) × (n.guard ≤ most_samples)

-- ---- Kinds

-- the length of a contact's trace
abbrev pub length_of : Contact → Lengths → ℕ
length_of Ram n = n.ram
length_of Guard n = n.guard

-- how many values a kind has, and the working number of the first; the others follow
abbrev pub radix_of : Kind → Lengths → ℕ
radix_of truth n = 2
radix_of (list c) n = length_of c n + 1

abbrev pub lowest_code : Kind → ℕ
lowest_code truth = false_code
lowest_code (list Ram) = suffix_code
lowest_code (list Guard) = guard_code

-- the working number of a value of a kind, by its digit
abbrev pub value_code : Kind → ℕ → ℕ
value_code kind digit = digit + lowest_code kind

-- a number that is none of so many from the lowest on: undecided, an error, or a value of another kind
abbrev pub foreign : ℕ → ℕ → ℕ → Bool
foreign lowest radix c = cond (ltb c lowest) true (leb radix (c - lowest))

-- ---- What a cell holds

-- the least and the most number of an outcome of a kind
abbrev pub least_code : Kind → ℕ
least_code truth = false_code
least_code (list c) = head_code

abbrev pub most_code : Kind → Lengths → ℕ
most_code truth n = tail_code
most_code (list c) n = length_of c n + suffix_code

-- what a cell holds, by these; undecided where it holds no outcome of that kind
abbrev pub decided_code : ℕ → ℕ → ℕ → ℕ
decided_code least most cell = cond (ltb cell least) undecided_code (cond (ltb most cell) undecided_code cell)

-- the working number of what a cell of a function with a guard list result holds: a suffix is shifted
abbrev pub shifted_code : ℕ → ℕ
shifted_code cell = cond (ltb cell suffix_code) cell (cell % guard_shift + guard_shift)

-- the number that a cell holds for a working number
abbrev pub cell_code : ℕ → ℕ
cell_code c = c % guard_shift
