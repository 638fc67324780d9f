-- Laws of a program's length, function count and sort, one for each way through the code:
--   program-empty, program-long                  5
--   program_none, program_many, program-other    6
--   program-counted                              go on with the functions
--   told_judged, answered                        what the check answers of what was read
use Rattle.std.specs.Prelude.{Result}
use mathlib.Core.Path.{◌≡◌, refl, sym, ap, ◌∙◌}
use mathlib.Core.Bool.{Bool, true, false}
use mathlib.Core.List.{List}
use Prim.Native.Nat.{ℕ, ◌<◌, ◌≤◌}
use lib.ListN.{length, get_or, drop}
use borrow.Author.Tests.{eq-eqb, ne_eqb, lt-ltb, le-ltb}
use Rattle.refusal.specs.declared.Refusal.{Refusal}
use Rattle.refusal.specs.{told}
use Rattle.refusal.specs.declared.Refusal.TheVariants.{ProgramLength, FunctionCount}
use Rattle.semantics.specs.declared.Sort.{Sort}
use Rattle.semantics.specs.Language.{Program}
use Rattle.rule.specs.Wanted.{Wanted}
use Rattle.rule.specs.declared.Outline.{Outline}
use Rattle.syntax.specs.Limits.{most_functions, most_bytes}
use Rattle.syntax.specs.Bytes.{count_in}
use Rattle.rule.specs.Wanted.{takes}
use Rattle.rule.specs.Reading.{Parsed, got, refused, onward, raws_from, bodies_from, program_sort, program_by, program_for, check_from, program_check, apart}
use Rattle.rule.specs.Outline.{judged_from, judged}

module _ (wanted : Wanted) (bytes : List ℕ) where
  pub program-empty : length bytes ≡ 0 → program_for wanted bytes ≡ refused ProgramLength
  unfolding program_by
  program-empty h = simp (eq-eqb _ _ h)

  module _ (some : length bytes ≡ 0 → ⊥) where
    pub program-long : most_bytes < length bytes → program_for wanted bytes ≡ refused ProgramLength
    unfolding program_by
    program-long h = simp (ne_eqb _ _ some, lt-ltb _ _ h)

    module _ (short : length bytes ≤ most_bytes) {count : ℕ} (counted : count ≡ count_in (get_or bytes 0 0)) where
      pub program_none : count ≡ 0 → program_for wanted bytes ≡ refused FunctionCount
      unfolding program_by
      program_none h = simp (ne_eqb _ _ some, le-ltb _ _ short, sym counted, eq-eqb _ _ h)

      module _ (one : count ≡ 0 → ⊥) where
        pub program_many : most_functions < count → program_for wanted bytes ≡ refused FunctionCount
        unfolding program_by
        program_many h = simp (ne_eqb _ _ some, le-ltb _ _ short, sym counted, ne_eqb _ _ one, lt-ltb _ _ h)

        module _ (few : count ≤ most_functions) {s : Sort} (sorted : s ≡ program_sort bytes) {b : Bool} (t : b ≡ takes wanted s) where
          pub program-other : b ≡ false → program_for wanted bytes ≡ refused FunctionCount
          unfolding program_by
          program-other e = simp (ne_eqb _ _ some, le-ltb _ _ short, sym counted, ne_eqb _ _ one, le-ltb _ _ few, sym sorted, sym t ∙ e)

          pub program-counted : b ≡ true → program_for wanted bytes ≡ onward (raws_from s count (drop 1 bytes)) (bodies_from apart s)
          unfolding program_by
          program-counted e = simp (ne_eqb _ _ some, le-ltb _ _ short, sym counted, ne_eqb _ _ one, le-ltb _ _ few, sym sorted, sym t ∙ e)

pub told_judged : (s : Sort) (p : Parsed Program) → told (judged_from s p) ≡ check_from p
told_judged s (got P rest) = refl
told_judged s (refused f) = refl

pub answered : (wanted : Wanted) (bytes : List ℕ) (r : Result Outline Refusal) {s : Sort} {p : Parsed Program} → program_for wanted bytes ≡ p
    → s ≡ program_sort bytes → r ≡ judged_from s p
    → (told r ≡ program_check wanted bytes) × (r ≡ judged wanted bytes)
unfolding program_check judged
answered wanted bytes r {s = s} {p = p} e sorted q =
    rw e (ap (λ (x : Result Outline Refusal). told x) q ∙ told_judged s p, q ∙ ap (λ (z : Sort). judged_from z p) sorted)
