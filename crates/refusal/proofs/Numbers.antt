-- Laws of the refusals' numbers:
--   refusal_back           the refusal with a refusal's number is that refusal
--   check_back             and so of a check
--   others_passed          a number that no refusal has stands for none
--   number_small           no refusal has a greater number than the greatest in the list
--   number_injective       two refusals with the same number are the same
--   check_injective        two checks with the same number are the same; 0 is no refusal's number
--   refused_same           two answers that refuse are the same by their refusals
--   value_same             two that do not, by their values
--   refused                an answer that refuses has no value
--   no_number              a refusal has a number other than 0
--   refused-left           a refusal leaves what was there
use Prim.Native.Nat.{ℕ, ◌≤◌, max}
use mathlib.Core.Path.{◌≡◌, refl, sym, ap, ◌∙◌}
use mathlib.Core.Bool.{Bool, true, false, cond}
use mathlib.Core.List.{List, [], ◌∷◌}
use native.Mathlib.Omega.{arith}
use lib.Dec.{eqb}
use borrow.Author.Tests.{ne_eqb, eqb-true}
use Rattle.refusal.specs.declared.Refusal.{Refusal}
use Rattle.refusal.specs.declared.Refusal.TheVariants as refusal
use Rattle.std.specs.Prelude.{Result, Ok, Err}
use Rattle.refusal.specs.{Check, passed, number_of, refusals, check_number, check_among, check_of, values_left}

pub refusal_back : (f : Refusal) → check_of (number_of f) ≡ Err f
refusal_back refusal.TrailerMissing = refl
refusal_back refusal.MarkOrFormat = refl
refusal_back refusal.TrailerFields = refl
refusal_back refusal.VerdictOrPasses = refl
refusal_back refusal.ProgramLength = refl
refusal_back refusal.FunctionCount = refl
refusal_back refusal.HeaderCut = refl
refusal_back refusal.ParameterKinds = refl
refusal_back refusal.BodyLength = refl
refusal_back refusal.BytesAfterFunctions = refl
refusal_back refusal.MainKind = refl
refusal_back refusal.BodyEnds = refl
refusal_back refusal.TooDeep = refl
refusal_back refusal.ListConstructor = refl
refusal_back refusal.UnknownByte = refl
refusal_back refusal.WrongKind = refl
refusal_back refusal.BytesAfterExpression = refl
refusal_back refusal.RingLength = refl
refusal_back refusal.RingState = refl
refusal_back refusal.TraceLength = refl
refusal_back refusal.TableShort = refl
refusal_back refusal.OutputShort = refl
refusal_back refusal.PaddingSet = refl
refusal_back refusal.CallElsewhere = refl
refusal_back refusal.OperandKind = refl
refusal_back refusal.ArgumentKind = refl

pub check_back : (c : Check) → check_of (check_number c) ≡ c
check_back (Ok tt) = refl
check_back (Err f) = refusal_back f

-- 0 where nothing is refused, else 1
abbrev passes : {A : Type 0} → Result A Refusal → ℕ
passes (Ok x) = 0
passes (Err f) = 1

pub check_injective : (c d : Check) → check_number c ≡ check_number d → c ≡ d
check_injective c d e = sym (check_back c) ∙ ap check_of e ∙ check_back d

-- the refusal that an answer holds, and its value
abbrev refusal_in : {A : Type 0} → Refusal → Result A Refusal → Refusal
refusal_in z (Ok x) = z
refusal_in z (Err f) = f

abbrev value_in : {A : Type 0} → A → Result A Refusal → A
value_in z (Ok x) = x
value_in z (Err f) = z

pub refused_same : {A : Type 0} {f g : Refusal} → ◌≡◌ {A = Result A Refusal} (Err f) (Err g) → f ≡ g
refused_same {f = f} e = ap (refusal_in f) e

pub value_same : {A : Type 0} {x y : A} → ◌≡◌ {A = Result A Refusal} (Ok x) (Ok y) → x ≡ y
value_same {x = x} e = ap (value_in x) e

pub number_injective : (f g : Refusal) → number_of f ≡ number_of g → f ≡ g
number_injective f g e = refused_same {A = Unit {0}} (check_injective (Err f) (Err g) e)

pub refused : {A : Type 0} {f : Refusal} {x : A} → ◌≡◌ {A = Result A Refusal} (Err f) (Ok x) → ⊥
refused e = let clash : ◌≡◌ {A = ℕ} 0 1 = ap passes (sym e) in absurd (omega arith)

pub no_number : (f : Refusal) → number_of f ≡ 0 → ⊥
no_number f e = refused (check_injective (Err f) passed e)

pub refused-left : (f : Refusal) (values old : List ℕ) → values_left (record { number = number_of f; values = values }) old ≡ old
unfolding values_left
refused-left f values old = rw (ne_eqb (number_of f) 0 (no_number f))

-- T, and a number that none of some refusals has
abbrev pub Others : Type 0 → List Refusal → ℕ → Type 0
Others T [] n = T
Others T (f ∷ fs) n = Others (T × (n ≡ number_of f → ⊥)) fs n

among_passed : (T : Type 0) (fs : List Refusal) (n : ℕ) → Others T fs n → T × (check_among fs n ≡ passed)
among_passed T [] n h = (h, refl)
among_passed T (f ∷ fs) n h =
    let w = among_passed (T × (n ≡ number_of f → ⊥)) fs n h in
    (w.0.0, rw (ne_eqb n (number_of f) w.0.1) w.1)

pub others_passed : (n : ℕ) → Others (Unit {0}) refusals n → check_of n ≡ passed
others_passed n h = (among_passed (Unit {0}) refusals n h).1

-- the greatest number of some refusals
abbrev pub greatest : List Refusal → ℕ
greatest [] = 0
greatest (f ∷ fs) = max (number_of f) (greatest fs)

among_small : (fs : List Refusal) (n : ℕ) (f : Refusal) → check_among fs n ≡ Err f → n ≤ greatest fs
among_small [] n f e = absurd (refused (sym e))
among_small (g ∷ fs) n f e = go (eqb n (number_of g)) refl e (λ q. among_small fs n f q)
  where
    go : (b : Bool) → eqb n (number_of g) ≡ b → cond b (Err g) (check_among fs n) ≡ Err f → (check_among fs n ≡ Err f → n ≤ greatest fs)
        → n ≤ max (number_of g) (greatest fs)
    go true same e more = omega (arith, eqb-true n (number_of g) same)
    go false other e more = omega (arith, more e)

pub number_small : (f : Refusal) → number_of f ≤ greatest refusals
number_small f = among_small refusals (number_of f) f (refusal_back f)
