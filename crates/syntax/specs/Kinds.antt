-- The kinds that bytes say. Both kinds bytes of a function in one number are the code's own: no reader need believe them.
use Rattle.std.specs.Prelude.{ℕ, ◌+◌, ◌*◌, Bool, cond}
use Rattle.semantics.specs.declared.Contact.TheVariants.{Ram, Guard}
use Rattle.semantics.specs.declared.Kind.{Kind}
use Rattle.semantics.specs.declared.Kind.TheVariants.{Truth as truth, List as list}
use Rattle.trace.specs.{bit_of}

-- by its bits of the kinds byte and of the guard byte
abbrev pub kind_by : Bool → Bool → Kind
kind_by is_list is_guard = cond is_list (list (cond is_guard Guard Ram)) truth

-- the kinds byte of a function, and above it the guard byte
abbrev pub signature_of : ℕ → ℕ → ℕ
signature_of kinds guard = kinds + 256 * guard

-- the kind at place i of a signature: of parameter i, and at 4 of the result
unfoldable pub kind_in : ℕ → ℕ → Kind
kind_in signature i = kind_by (bit_of i signature) (bit_of (8 + i) signature)
