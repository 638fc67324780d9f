-- The traces that an operation is handed, packed: that of the ram, or those of both contacts. They say the sort of the program.
use Rattle.std.specs.Prelude.{ℕ, List, []}
use Rattle.trace.specs.{samples}
use Rattle.semantics.specs.declared.Sort.{Sort}
use Rattle.semantics.specs.declared.Sort.TheVariants.{One, Two}
use Rattle.semantics.specs.Language.{Traces}

-- bytes and numbers of samples; where there is one trace, the guard's is empty
pub record Handed : Type 0 where
  pub sort : Sort
  pub ram : List ℕ
  pub n : ℕ
  pub guard : List ℕ
  pub m : ℕ

abbrev pub handed : Sort → List ℕ → ℕ → List ℕ → ℕ → Handed
handed sort ram n guard m = record { sort = sort; ram = ram; n = n; guard = guard; m = m }

abbrev pub one_trace : List ℕ → ℕ → Handed
one_trace trace n = handed One trace n [] 0

abbrev pub two_traces : List ℕ → ℕ → List ℕ → ℕ → Handed
two_traces ram n guard m = handed Two ram n guard m

-- the samples that they mean
abbrev pub samples_of : Handed → Traces
samples_of h = record { of_ram = samples h.ram h.n; of_guard = samples h.guard h.m }
