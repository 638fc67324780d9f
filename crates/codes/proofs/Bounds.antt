-- Bounds of the numbers of a kind:
--   least_small, lowest_small      the least number in a cell, and the working number of the first value
--   lengths_short                  traces within the limit have lengths within it
--   radix_pos                      a kind has a value
--   most_small, radix_small        the most number in a cell, and how many values there are, for such lengths
use Prim.Native.Nat.{ℕ, suc, ◌+◌, ◌<◌, ◌≤◌}
use native.Mathlib.Omega.{arith}
use Rattle.trace.specs.{most_samples}
use Rattle.semantics.specs.declared.Contact.TheVariants.{Ram, Guard}
use Rattle.semantics.specs.Language.{Traces}
use Rattle.semantics.specs.Cells.{head_code, suffix_code}
use Rattle.semantics.specs.declared.Contact.{Contact}
use Rattle.semantics.specs.declared.Kind.{Kind}
use Rattle.semantics.specs.declared.Kind.TheVariants.{Truth as truth, List as list}
use Rattle.codes.specs.declared.Lengths.{Lengths}
use Rattle.codes.specs.{Short, guard_code, length_of, least_code, most_code, radix_of, lowest_code}
use Rattle.codes.proofs.CodeMeaning.{ShortTraces, LengthsOf}

pub least_small : (κ : Kind) → least_code κ ≤ head_code
least_small truth = omega arith
least_small (list c) = omega arith

pub lowest_small : (κ : Kind) → lowest_code κ ≤ guard_code
lowest_small truth = omega arith
lowest_small (list Ram) = omega arith
lowest_small (list Guard) = omega arith

pub lengths_short : {t : Traces} {n : Lengths} → ShortTraces t → LengthsOf t n → Short n
lengths_short short ls = (rw ls.ram (short Ram), rw ls.guard (short Guard))

pub radix_pos : (κ : Kind) (n : Lengths) → 0 < radix_of κ n
radix_pos truth n = omega arith
radix_pos (list c) n = omega arith

module _ (n : Lengths) (short : Short n) where
  length-small : (c : Contact) → length_of c n ≤ most_samples
  length-small Ram = short.0
  length-small Guard = short.1

pub most_small : (κ : Kind) (n : Lengths) → Short n → most_code κ n ≤ most_samples + suffix_code
most_small truth n short = omega arith
most_small (list c) n short = omega (arith, length-small n short c)

pub radix_small : (κ : Kind) (n : Lengths) → Short n → radix_of κ n ≤ suc most_samples
radix_small truth n short = omega arith
radix_small (list c) n short = omega (arith, length-small n short c)
