-- `last` meets its contract: more than all of the archive is all of it.
use mathlib.Core.Path.{◌≡◌, refl, ap, ◌∙◌}
use mathlib.Core.List.{List, [], ◌∷◌}
use Prim.Native.Nat.{ℕ}
use lib.ListN.{length}
use Rattle.std.proofs.Common.{rules}
use Rattle.std.specs.Prelude.{Err}
use Rattle.std.proofs.lemmas.List.{take_min}
use Rattle.refusal.proofs.Checks.{handed_on}
use Rattle.refusal.specs.declared.Refusal.{Refusal}
use Rattle.record.specs.Reading.{reading}
use Rattle.archive.specs.Walk.{step_by, step_in}
use Rattle.archive.proofs.last.Goals as goal

-- a refusal of the bytes that are left, of which there are some
step-refused : (bytes : List ℕ) {f : Refusal} → (length bytes ≡ 0 → ⊥) → Err f ≡ reading bytes → Err f ≡ step_in bytes
step-refused [] h e = absurd (h refl)
step-refused (b ∷ bs) h e = ap step_by e

pub returns-in_err-parts-clause-answer : goal.returns-in_err-parts-clause-answer
returns-in_err-parts-clause-answer c =
    handed_on _ c.from_residual.ensures.1
    ∙ rw (← take_min c.args.left c.args.archive.now, ← c.min.ensures) (step-refused _ (search rules) c.in_err-parts.ensures.answer)
