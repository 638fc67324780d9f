-- The walk over the bodies of a program comes to what the reading of its functions says:
--   Fitting           a frame that fits a function
--   body_means        one body
--   bodies_mean       the bodies in order
--   main_means        main's kind
use Rattle.std.specs.Prelude.{Err}
use mathlib.Core.Path.{◌≡◌, refl}
use mathlib.Core.Bool.{Bool, true, false, ◌&&◌, cond}
use mathlib.Core.List.{List, [], ◌∷◌}
use mathlib.Core.Option.{some}
use Prim.Native.Nat.{ℕ, zero, suc, ◌+◌, ◌-◌}
use native.Mathlib.Nat.{add-zero}
use native.Mathlib.Omega.{arith}
use lib.ListN.{length, get_elem?, drop, length-drop}
use lib.Dec.{eqb}
use borrow.Author.Tests.{eq-eqb, ne_eqb}
use Rattle.refusal.specs.declared.Refusal.TheVariants.{BytesAfterExpression}
use Rattle.refusal.specs.{passed, ◌then◌}
use Rattle.semantics.specs.declared.Contact.TheVariants.{Ram, Guard}
use Rattle.semantics.specs.declared.Sort.{Sort}
use Rattle.semantics.specs.declared.Sort.TheVariants.{One, Two}
use Rattle.semantics.specs.declared.Kind.TheVariants.{Truth as truth, List as list}
use Rattle.semantics.specs.declared.Demand.TheVariants.{Only as only}
use Rattle.semantics.specs.Language.{Expr, Function, Program, main_params, allows}
use Rattle.syntax.specs.declared.Header.{Header}
use Rattle.syntax.specs.Limits.{most_depth}
use Rattle.rule.specs.Reading.{Parsed, got, refused, onward, kind_at, kinds_from, param_kinds, result_kind, Raw, expr_from, whole_body, function_from, functions_from, same_kinds, check_from, body_place, apart}
use Rattle.rule.specs.Walk.{Frame, own_params, own_kinds, own_guard, Walked, check_at, body_end, body_at, bodies_at, main_bits}
use Rattle.rule.proofs.WalkMeaning.{Framed, Step, went, stopped, own_of, expr_step}

-- ---- Bodies

-- the frame has the headers of a program of a sort, and the body, the parameters and the kinds of one of its functions
pub record Fitting (s : Sort) (H : List Header) (F : Frame) (x : Raw) : Type 0 where
  pub framed : Framed s H F
  pub body : F.body ≡ x.body
  pub params : own_params F ≡ x.header.params
  pub kinds : own_kinds F ≡ x.header.kinds
  pub guard : own_guard F ≡ x.header.guard

-- the end of a body
end_means : (body : List ℕ) (h : Header) (w : Walked) (p : Parsed Expr) → Step body w p → body_end (length body) w ≡ check_from (whole_body h p)
end_means body h w p (went e to l) = go (drop to body) (length-drop to body)
  where
    go : (rest : List ℕ) → length rest ≡ length body - to
        → cond (eqb to (length body)) passed (Err BytesAfterExpression) ≡ check_from (whole_body h (got e rest))
    go [] n = rw (eq-eqb to (length body) (omega arith))
    go (b ∷ bs) n = rw (ne_eqb to (length body) (λ q. omega arith))
end_means body h w p (stopped f) = refl

pub body_means : (s : Sort) (H : List Header) (F : Frame) (x : Raw) → Fitting s H F x → body_at F ≡ check_from (function_from apart s H x)
unfolding body_at
body_means s H F x fit =
    let place = body_place (kind_at (own_kinds F) (own_guard F) 4) in
    let step : Step F.body (check_at F most_depth place 0) (expr_from apart s H (own_of F) most_depth place F.body) =
    expr_step s H F fit.framed most_depth place 0 (omega arith) in
    rw (← fit.body, ← fit.params, ← fit.kinds, ← fit.guard)
    (end_means F.body (record { params = own_params F; kinds = own_kinds F; guard = own_guard F; length = x.header.length }) _ _ step)

-- ---- Functions

then_means : {A B C : Type 0} (p : Parsed A) (q : Parsed B) (k : A → B → C)
    → (check_from p then check_from q) ≡ check_from (onward p (λ a r. onward q (λ b s. got (k a b) s)))
then_means (got a r) (got b s) k = refl
then_means (got a r) (refused f) k = refl
then_means (refused f) q k = refl

module _ (frames : ℕ → Frame) (s : Sort) (H : List Header) where
  pub bodies_mean : (xs : List Raw) (i : ℕ) → ((j : ℕ) (x : Raw) → get_elem? xs j ≡ some x → Fitting s H (frames (i + j)) x)
      → bodies_at frames (length xs) i ≡ check_from (functions_from apart s H xs)
  unfolding bodies_at functions_from
  bodies_mean [] i fit = refl
  bodies_mean (x ∷ xs) i fit =
      let here : Fitting s H (frames i) x = rw (add-zero i) at (fit 0 x refl) in
      let rest : bodies_at frames (length xs) (i + 1) ≡ check_from (functions_from apart s H xs) =
      bodies_mean xs (i + 1) (λ j y e. rw (moved j) (fit (suc j) y e)) in
      rw (body_means s H (frames i) x here, rest) (then_means (function_from apart s H x) (functions_from apart s H xs) (λ (f : Function) (fs : Program). f ∷ fs))
    where
      moved : (j : ℕ) → i + 1 + j ≡ i + suc j
      moved j = omega arith

-- ---- Main's kind

pub main_means : (s : Sort) (h : Header)
    → (same_kinds (main_params s) (param_kinds h) && allows (only truth) (result_kind h)) ≡ main_bits s h.params h.kinds h.guard
unfolding kinds_from
main_means s h = go s h.params h.kinds h.guard
  where
    one : (a r : Bool) → ((a && true) && r) ≡ (a && r)
    one true r = refl
    one false r = refl

    two : (a b r : Bool) → ((a && (b && true)) && r) ≡ (a && (b && r))
    two true b r = one b r
    two false b r = refl

    no_more : (a r : Bool) → ((a && false) && r) ≡ false
    no_more true r = refl
    no_more false r = refl

    nor_more : (a b r : Bool) → ((a && (b && false)) && r) ≡ false
    nor_more true b r = no_more b r
    nor_more false b r = refl

    go : (s : Sort) (n k g : ℕ) → (same_kinds (main_params s) (kinds_from k g 0 n) && allows (only truth) (kind_at k g 4)) ≡ main_bits s n k g
    go One zero k g = refl
    go One (suc zero) k g = one (allows (only (list Ram)) (kind_at k g 0)) _
    go One (suc (suc n)) k g = rw (ne_eqb (suc (suc n)) 1 (λ e. omega arith)) (no_more (allows (only (list Ram)) (kind_at k g 0)) _)
    go Two zero k g = refl
    go Two (suc zero) k g = no_more (allows (only (list Ram)) (kind_at k g 0)) _
    go Two (suc (suc zero)) k g = two (allows (only (list Ram)) (kind_at k g 0)) (allows (only (list Guard)) (kind_at k g 1)) _
    go Two (suc (suc (suc n))) k g =
        rw (ne_eqb (suc (suc (suc n))) 2 (λ e. omega arith))
        (nor_more (allows (only (list Ram)) (kind_at k g 0)) (allows (only (list Guard)) (kind_at k g 1)) _)
