-- The sorts of programs that a check takes.
use Rattle.std.specs.Prelude.{Bool, true, false, Option, Some, None}
use Rattle.semantics.specs.declared.Sort.{Sort}
use Rattle.semantics.specs.declared.Sort.TheVariants.{One, Two}

-- the sort that is wanted: none where the program alone is checked, else that of the traces or the format given
abbrev pub Wanted : Type 0
Wanted = Option Sort

-- whether programs of a sort are taken: of both where none is wanted
abbrev pub takes : Wanted → Sort → Bool
takes None s = true
takes (Some One) One = true
takes (Some One) Two = false
takes (Some Two) One = false
takes (Some Two) Two = true
