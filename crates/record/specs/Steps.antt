-- Notions of the code's own: what its private functions answer.
use Rattle.std.specs.Prelude.{ℕ, ◌+◌, List, [], Option, Some, None}
use Rattle.trace.specs.{bytes_for}
use Rattle.semantics.specs.declared.Sort.{Sort}
use Rattle.semantics.specs.declared.Sort.TheVariants.{One, Two}
use Rattle.semantics.specs.Handed.{Handed, handed}
use Rattle.layout.specs.declared.GuardTrace.{GuardTrace}
use Rattle.layout.specs.declared.Parts.{Parts}
use Rattle.layout.specs.Form.{least_trailer, guard_trailer}
use Rattle.layout.specs.Trailer.{part_of}

-- the bytes of the guard trace, if there are two traces, and of the trailer
abbrev pub beside_bytes : Sort → ℕ → ℕ
beside_bytes One m = least_trailer
beside_bytes Two m = bytes_for m + guard_trailer

-- of a record's guard trace: the sort of its program, the bytes, the number of samples
abbrev pub sort_held : Option GuardTrace → Sort
sort_held None = One
sort_held (Some g) = Two

abbrev pub guard_bytes : List ℕ → Option GuardTrace → List ℕ
guard_bytes bytes None = []
guard_bytes bytes (Some g) = part_of bytes g.span

abbrev pub guard_held : Option GuardTrace → ℕ
guard_held None = 0
guard_held (Some g) = g.samples

-- the traces that a record holds, as evaluating is handed them
abbrev pub handed_in : List ℕ → Parts → Handed
handed_in bytes p =
    handed (sort_held p.guard) (part_of bytes p.trace) p.n (guard_bytes bytes p.guard) (guard_held p.guard)
