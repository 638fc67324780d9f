-- The check of a program of a sort whose headers were all found comes to what its reading says:
--   CheckMeans, check_means   the bytes after the functions, main's kind, the bodies, their places, the outline
use mathlib.Core.Path.{◌≡◌, refl, sym, ap, ◌∙◌}
use mathlib.Core.List.{List, [], ◌∷◌}
use Prim.Native.Nat.{ℕ, ◌-◌, ◌≤◌}
use native.Mathlib.Nat.{zero-add}
use lib.ListN.{length, get_or, drop, length-drop}
use Rattle.semantics.specs.declared.Sort.{Sort}
use Rattle.semantics.specs.declared.Sort.TheVariants.{One, Two}
use Rattle.semantics.specs.Language.{Program}
use Rattle.syntax.specs.Limits.{most_functions, most_bytes}
use Rattle.rule.specs.Form.{padded}
use Rattle.rule.specs.Reading.{got, Raw, raws_from, functions_from, headers, main_first, check_from, apart}
use Rattle.rule.specs.Outline.{outline_of}
use Rattle.rule.specs.Walk.{bodies_at, Placed, main_bits, raw_outline}
use Rattle.rule.proofs.Scanning.{end_of}
use Rattle.rule.proofs.BodyMeaning.{bodies_mean, main_means}
use Rattle.rule.proofs.OutlineMeaning.{RawsAre, raws_are, outline_params, outline_kinds, outline_guards, outline_count, outline_means, all_sound, placed, raw_frame, fitting}

-- main's kind by the outline
abbrev main_outlined : Sort → List Raw → Type 0
main_outlined s xs =
    main_bits s (get_or (raw_outline s xs).params 0 0) (get_or (raw_outline s xs).kinds 0 0) (get_or (raw_outline s xs).guards 0 0)
    ≡ main_first s (headers xs)

pub record CheckMeans (s : Sort) (bytes : List ℕ) (n : ℕ) (xs : List Raw) (rest : List ℕ) : Type 0 where
  pub count : length xs ≡ n
  pub within : end_of s 1 xs ≤ length bytes
  pub after : length rest ≡ length bytes - end_of s 1 xs
  pub main : main_outlined s xs
  pub bodies : bodies_at (raw_frame bytes s xs) (raw_outline s xs).functions 0 ≡ check_from (functions_from apart s (headers xs) xs)
  pub placed : Placed (length bytes) (raw_outline s xs)
  pub outline : (P : Program) (r : List ℕ) → functions_from apart s (headers xs) xs ≡ got P r → raw_outline s xs ≡ outline_of s P

-- the first header, and of no functions the zeros of their outline
main-first : (s : Sort) (xs : List Raw) → main_outlined s xs
unfolding raw_outline padded
main-first One [] = refl
main-first Two [] = refl
main-first s (x ∷ xs) =
    rw (outline_params s (x ∷ xs) 0 x refl, outline_kinds s (x ∷ xs) 0 x refl, outline_guards s (x ∷ xs) 0 x refl) (sym (main_means s x.header))

all_bodies : (s : Sort) (bytes : List ℕ) (n : ℕ) (xs : List Raw) (rest : List ℕ) → RawsAre s bytes n 1 xs rest
    → bodies_at (raw_frame bytes s xs) (raw_outline s xs).functions 0 ≡ check_from (functions_from apart s (headers xs) xs)
all_bodies s bytes n xs rest are =
    ap (λ (k : ℕ). bodies_at (raw_frame bytes s xs) k 0) (outline_count s xs)
    ∙ bodies_mean (raw_frame bytes s xs) s (headers xs) xs 0 (λ j x e. rw (zero-add j) (fitting are j x e))

pub check_means : (s : Sort) (bytes : List ℕ) (count : ℕ) (xs : List Raw) (rest : List ℕ) → count ≤ most_functions → 1 ≤ length bytes
    → length bytes ≤ most_bytes → raws_from s count (drop 1 bytes) ≡ got xs rest → CheckMeans s bytes count xs rest
check_means s bytes n xs rest few long short q =
    let are = raws_are s bytes n 1 xs rest long q in
    record {
      count = are.count;
      within = are.within;
      after = ap length are.after ∙ length-drop (end_of s 1 xs) bytes;
      main = main-first s xs;
      bodies = all_bodies s bytes n xs rest are;
      placed = placed are short (rw are.count few);
      outline = λ P r p. outline_means s xs P r (all_sound are) p;
    }
