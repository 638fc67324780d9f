-- What stands in the array of parameter values:
--   values-long       the values that a number stands for hang on the lengths of the traces alone
--   env_means         the array of a configuration's values
use mathlib.Core.Path.{◌≡◌, refl, ap, ◌∙◌}
use mathlib.Core.List.{List, [], ◌∷◌, ◌++◌}
use mathlib.Core.Option.{some}
use Prim.Native.Nat.{ℕ, zero, suc, ◌+◌, ◌*◌, ◌/◌, ◌%◌, ◌<◌, ◌≤◌}
use native.Mathlib.Omega.{arith}
use lib.ListN.{length, get_elem?, get_or, drop, length-replicate}
use Rattle.semantics.specs.declared.Contact.TheVariants.{Ram, Guard}
use Rattle.semantics.specs.declared.Kind.{Kind}
use Rattle.semantics.specs.declared.Kind.TheVariants.{Truth as truth, List as list}
use Rattle.semantics.specs.Language.{Traces, Value, given}
use Rattle.semantics.specs.Numbering.{kind_size, size, values_at}
use Rattle.semantics.proofs.Numbering.{values_in_lem}
use Rattle.syntax.specs.Limits.{most_params}
use Rattle.rule.specs.Form.{kinds_byte, guard_byte}
use Rattle.rule.proofs.KindBytes.{kinds_back}
use Rattle.codes.specs.declared.Lengths.{Lengths}
use Rattle.codes.specs.{working_of}
use Rattle.codes.proofs.CodeMeaning.{LengthsOf}
use Rattle.evaluator.proofs.Sets.{EnvOf}
use Rattle.passes.specs.Digits.{kinds_of, traces_long, values_of, digits_of, blank, env_of}
use Rattle.passes.proofs.FunctionsMeaning.{signature_for, byte_small}
use Rattle.passes.proofs.Digits.{values_length}

-- ---- Lengths alone

module _ {t : Traces} {n : Lengths} (ls : LengthsOf t n) where
  kind_long : (κ : Kind) → kind_size (traces_long n) κ ≡ kind_size t κ
  kind_long truth = refl
  kind_long (list Ram) = ap suc (length-replicate n.ram _ ∙ ls.ram)
  kind_long (list Guard) = ap suc (length-replicate n.guard _ ∙ ls.guard)

  size-long : (κs : List Kind) → size (traces_long n) κs ≡ size t κs
  size-long [] = refl
  size-long (κ ∷ κs) = rw (kind_long κ, size-long κs)

  values-long : (κs : List Kind) (i : ℕ) → values_at (traces_long n) κs i ≡ values_at t κs i
  values-long [] i = refl
  values-long (κ ∷ κs) i = rw (size-long κs, values-long κs (i % size t κs))

-- ---- The array

-- the number of a value that is there
number_there : (vs : List Value) (rest : List ℕ) (j : ℕ) (v : Value) → get_elem? vs j ≡ some v → get_or (digits_of vs ++ rest) j 0 ≡ working_of (given v)
number_there [] rest j v e = let no : ◌≡◌ {A = ℕ} 0 1 = cc in absurd (omega arith)
number_there (x ∷ vs) rest zero v e = let same : x ≡ v = cc in ap (λ (w : Value). working_of (given w)) same
number_there (x ∷ vs) rest (suc j) v e = number_there vs rest j v e

-- past the values stands what stood there
past_there : (vs : List Value) (l : List ℕ) (j : ℕ) → length vs ≤ j → length vs ≤ length l → get_or (digits_of vs ++ drop (length vs) l) j 0 ≡ get_or l j 0
past_there [] l j h k = refl
past_there (v ∷ vs) [] j h k = absurd (omega arith)
past_there (v ∷ vs) (x ∷ l) zero h k = absurd (omega arith)
past_there (v ∷ vs) (x ∷ l) (suc j) h k = past_there vs l j (omega arith) (omega arith)

-- the kinds of a function's parameters are those that its signature says
kinds_for : (κs : List Kind) (result : Kind) → length κs ≤ most_params → kinds_of (signature_for κs result) (length κs) ≡ κs
kinds_for κs result few =
    let k = kinds_byte κs result in
    let g = guard_byte κs result in
    let small = byte_small κs result few in
    let low : (k + 256 * g) % 256 ≡ k = omega arith in
    let high : (k + 256 * g) / 256 ≡ g = omega arith in
    rw (low, high) (kinds_back κs result few).0

pub env_means : {t : Traces} {n : Lengths} → LengthsOf t n → (κs : List Kind) (result : Kind) → length κs ≤ most_params
    → (i : ℕ) → i < size t κs
    → EnvOf t (env_of n (values_of (signature_for κs result) (length κs) n i)) (values_at t κs i)
env_means {t} {n} ls κs result few i h =
    let vs = values_at t κs i in
    let same : values_of (signature_for κs result) (length κs) n i ≡ vs = rw (kinds_for κs result few) (values-long ls κs i) in
    let short : length vs ≤ 4 = omega (arith, values_length t κs vs (values_in_lem t κs i h)) in
    let past : (j : ℕ) → 4 ≤ j → get_or (env_of n vs) j 0 ≡ get_or (blank n) j 0 = λ j l. past_there vs (blank n) j (omega arith) (omega arith) in
    rw same
    (record {
      value = λ j v e. number_there vs (drop (length vs) (blank n)) j v e;
      origins = record { ram = past 4 (omega arith) ∙ rw ls.ram; guard = past 5 (omega arith) ∙ rw ls.guard };
    })
