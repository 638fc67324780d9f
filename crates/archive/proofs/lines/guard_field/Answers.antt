-- `guard_field` meets its contract: where there is no guard trace, nothing is put.
use Prim.Native.Nat.{ℕ, ◌+◌, ◌≤◌}
use mathlib.Core.Path.{◌≡◌, sym, ap, ◌∙◌}
use mathlib.Core.List.{List, [], ◌++◌}
use native.Mathlib.Omega.{arith}
use lib.ListN.{length, take, drop, take-append-drop}
use Rattle.encoding.specs.{put}
use Rattle.encoding.proofs.Putting.{begins-start, room-put}
use Rattle.archive.specs.Listing.{guard_field}
use Rattle.archive.proofs.lines.guard_field.Goals as goal

-- an empty text
none-put : (at : ℕ) (out : List ℕ) → at + length {A = ℕ} [] ≤ length out → (at ≡ at + length {A = ℕ} []) × (out ≡ put at [] out)
none-put at out h =
    (omega arith, sym (room-put at [] out h ∙ ap (λ (l : List ℕ). take at out ++ l) (sym (begins-start (drop at out))) ∙ take-append-drop at out))

pub field-requires : goal.field-requires
unfolding guard_field
field-requires c = rw c.in-Some.is at c.requires

pub returns-in-None : goal.returns-in-None
unfolding guard_field
returns-in-None c =
    let none = none-put c.args.at c.args.out.now (rw c.in-None.is at c.requires) in
    record { place = rw c.in-None.is none.0; output = rw c.in-None.is none.1 }

pub returns-in-Some : goal.returns-in-Some
unfolding guard_field
returns-in-Some c = record { place = rw c.in-Some.is c.field.ensures.place; output = rw c.in-Some.is c.field.ensures.output }
