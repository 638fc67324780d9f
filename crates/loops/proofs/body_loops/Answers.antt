-- `body_loops` meets its contract: a body that does not lie within the program does not loop.
use mathlib.Core.Path.{◌≡◌, refl}
use mathlib.Core.Logic.{◌⊎◌, inl, inr}
use Prim.Native.Nat.{ℕ, ◌<◌}
use mathlib.Core.Bool.{Bool, true, false, cond}
use lib.Dec.{ltb}
use mathlib.Core.List.{List}
use lib.ListN.{length}
use borrow.Author.Tests.{lt-ltb, le-ltb}
use Rattle.loops.specs.{body_loops}
use Rattle.loops.proofs.body_loops.Goals as goal

pub returns-in-Some : goal.returns-in-Some
unfolding body_loops
returns-in-Some c =
    let h = c.in-Some.ensures.lookup.0 in
    rw (le-ltb _ _ h.0, le-ltb _ _ h.1) (rw h.2 at c.bytes_loop.ensures)

cond-same : (b : Bool) → cond b false false ≡ false
cond-same true = refl
cond-same false = refl

-- which is so where it ends before it begins, and where the program ends before it
outside : (bytes params : List ℕ) (start end : ℕ) → (end < start) ⊎ (length bytes < end) → false ≡ body_loops bytes params start end
unfolding body_loops
outside bytes params start end (inl h) = rw (lt-ltb end start h)
outside bytes params start end (inr h) = simp (lt-ltb (length bytes) end h, cond-same (ltb end start))

pub returns-in-None : goal.returns-in-None
returns-in-None c = outside _ _ _ _ c.in-None.ensures.lookup.0
