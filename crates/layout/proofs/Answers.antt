-- What an answer of reading tells, and one of locating:
--   read_passed, read-refused                  the check behind it
--   located-refusal, located_passed, parts_are     the trailer's check, and the parts
use mathlib.Core.Path.{◌≡◌, refl, sym, ap, ◌∙◌}
use mathlib.Core.List.{List}
use Prim.Native.Nat.{ℕ}
use Rattle.std.specs.Prelude.{Result, Ok, Err}
use Rattle.refusal.specs.declared.Refusal.{Refusal}
use Rattle.refusal.specs.{Check, passed, told}
use Rattle.layout.specs.declared.Parts.{Parts}
use Rattle.layout.specs.Trailer.{trailer_check, parts_in, read_by, located_with, located}

abbrev parts_of : Parts → Result Parts Refusal → Parts
parts_of p (Ok q) = q
parts_of p (Err f) = p

told_by : (c : Check) (p : Parts) → told (read_by c p) ≡ c
told_by (Ok tt) p = refl
told_by (Err f) p = refl

pub read-refused : (c : Check) (p : Parts) {f : Refusal} → read_by c p ≡ Err f → c ≡ Err f
read-refused c p e = sym (told_by c p) ∙ ap told e

pub read_passed : (c : Check) (p q : Parts) → read_by c p ≡ Ok q → (c ≡ passed) × (p ≡ q)
read_passed c p q e =
    let all : c ≡ passed = sym (told_by c p) ∙ ap told e in
    let both : read_by passed p ≡ Ok q = rw all at e in
    (all, ap (parts_of p) both)

module _ (bytes : List ℕ) {r : Result Parts Refusal} (l : r ≡ located bytes) where
  pub located-refusal : {f : Refusal} → r ≡ Err f → trailer_check bytes ≡ Err f
  unfolding located_with
  located-refusal e = read-refused (trailer_check bytes) (parts_in bytes) (sym l ∙ e)

  module _ {p : Parts} (e : r ≡ Ok p) where
    pub located_passed : trailer_check bytes ≡ passed
    unfolding located_with
    located_passed = (read_passed (trailer_check bytes) (parts_in bytes) p (sym l ∙ e)).0

    pub parts_are : parts_in bytes ≡ p
    unfolding located_with
    parts_are = (read_passed (trailer_check bytes) (parts_in bytes) p (sym l ∙ e)).1
