-- Values put into an array one after the other:
--   length-put      the array keeps its length
--   put_other       places that none is put into keep what they have
--   put_first       the first is there
--   arg_there, stop_after       arguments that are there, and places after the last
--   value_passes, error_fails   a value is no error, and an error is one
use Prim.Native.Nat.{ℕ, zero, suc, ◌+◌, ◌/◌, ◌%◌, ◌≤◌, ◌<◌}
use native.Mathlib.Omega.{arith}
use mathlib.Core.Path.{◌≡◌, refl, ◌∙◌}
use mathlib.Core.Bool.{true, false}
use mathlib.Core.List.{List}
use lib.ListN.{length, get_or, set, length-set}
use lib.Seq.{get_or-set_same, get_or-set_other}
use borrow.Author.Tests.{ne_eqb, lt-ltb, le-ltb}
use Rattle.semantics.specs.declared.Contact.TheVariants.{Ram, Guard}
use Rattle.semantics.specs.declared.Error.{Error}
use Rattle.semantics.specs.declared.Error.TheVariants.{Head, Tail}
use Rattle.semantics.specs.declared.Outcome.TheVariants.{Failed}
use Rattle.semantics.specs.Cells.{undecided_code, head_code, tail_code}
use Rattle.semantics.specs.Language.{Value, bit, suffix, given}
use Rattle.codes.specs.{working_of}
use Rattle.follow.specs.Mirror.{failing, arg_by, arg_in, args_stop, args_put}

no_error : (c : ℕ) → (c ≡ head_code → ⊥) → (c ≡ tail_code → ⊥) → failing c ≡ false
no_error c h t = simp (ne_eqb _ _ h, ne_eqb _ _ t)

pub value_passes : (v : Value) → failing (working_of (given v)) ≡ false
value_passes (bit true) = refl
value_passes (bit false) = refl
value_passes (suffix Ram k) = no_error (working_of (given (suffix Ram k))) (λ e. omega arith) (λ e. omega arith)
value_passes (suffix Guard k) = no_error (working_of (given (suffix Guard k))) (λ e. omega arith) (λ e. omega arith)

pub error_fails : (x : Error) → failing (working_of (Failed x)) ≡ true
error_fails Head = refl
error_fails Tail = refl

module _ (eval : ℕ → ℕ) (count : ℕ) where
  pub length-put : (k i rest : ℕ) (next : List ℕ) → length (args_put eval count k i rest next) ≡ length next
  unfolding args_put
  length-put zero i rest next = refl
  length-put (suc k) i rest next = length-put k (i + 1) (rest / 4096) (set next i (arg_in eval count i rest)) ∙ length-set next i _

  pub put_other : (k i rest : ℕ) (next : List ℕ) (p : ℕ) → ((q : ℕ) → i ≤ q → q < i + k → p ≡ q → ⊥) → get_or (args_put eval count k i rest next) p 0 ≡ get_or next p 0
  unfolding args_put
  put_other zero i rest next p h = refl
  put_other (suc k) i rest next p h =
      put_other k (i + 1) (rest / 4096) (set next i (arg_in eval count i rest)) p (λ q l m e. h q (omega arith) (omega arith) e)
      ∙ get_or-set_other next i p _ 0 (λ e. h i (omega arith) (omega arith) e)

  pub put_first : (k i rest : ℕ) (next : List ℕ) → i < length next → get_or (args_put eval count (suc k) i rest next) i 0 ≡ arg_in eval count i rest
  unfolding args_put
  put_first k i rest next long =
      put_other k (i + 1) (rest / 4096) (set next i (arg_in eval count i rest)) i (λ q l m e. omega arith)
      ∙ get_or-set_same next i _ 0 long

  -- an argument that is there, and places after the last
  pub arg_there : (i rest : ℕ) → i < count → arg_in eval count i rest ≡ eval (rest % 4096)
  unfolding arg_by
  arg_there i rest h = simp (lt-ltb _ _ h)

  pub stop_after : (k i rest : ℕ) → count ≤ i → args_stop eval count k i rest ≡ undecided_code
  unfolding args_stop arg_by
  stop_after zero i rest h = refl
  stop_after (suc k) i rest h = simp (le-ltb _ _ h) (stop_after k (i + 1) (rest / 4096) (omega arith))
