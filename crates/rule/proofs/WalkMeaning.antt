-- The walk over positions of a body comes to what the reading of its bytes says:
--   Framed                       a frame that fits the headers of a program of a sort
--   Step                         a walk and a reading that agree: the bytes after what was read are those at the position after it, or
--                                both are refused alike
--   kind_there                   the kind of a parameter
--   at_most_four_lem             a number of parameters that is not refused
--   own_of                       the kinds of a frame's own parameters
--   expr_step                    expressions
use Rattle.std.specs.Prelude.{Ok, Err}
use mathlib.Core.Path.{◌≡◌, refl, ap, ◌∙◌}
use mathlib.Core.Bool.{Bool, true, false, not, cond}
use mathlib.Core.List.{List, [], ◌∷◌}
use mathlib.Core.Option.{Option, none, some}
use Prim.Native.Nat.{ℕ, zero, suc, ◌+◌, ◌<◌, ◌≤◌}
use native.Mathlib.Nat.{zero-add}
use native.Mathlib.Numerals.{add-one}
use native.Mathlib.Omega.{arith}
use lib.Dec.{ltb, leb}
use lib.ListN.{length, get_elem?, get_or, drop, drop_of_length-le}
use lib.Seq.{drop-cons}
use borrow.Author.Tests.{lt-ltb, le-leb, lt-leb, ltb-true, ltb-false, leb-true, leb-false}
use Rattle.refusal.specs.declared.Refusal.{Refusal}
use Rattle.refusal.specs.declared.Refusal.TheVariants.{BodyEnds, TooDeep, ListConstructor, UnknownByte}
use Rattle.semantics.specs.declared.Contact.TheVariants.{Ram, Guard}
use Rattle.semantics.specs.declared.Sort.{Sort}
use Rattle.semantics.specs.declared.Sort.TheVariants.{One, Two}
use Rattle.semantics.specs.declared.Kind.{Kind}
use Rattle.semantics.specs.declared.Kind.TheVariants.{Truth as truth, List as list}
use Rattle.semantics.specs.Language.{Op, hd, tl, null, param, op, ifte, call, arg, allows}
use Rattle.syntax.specs.declared.Node.{Node}
use Rattle.syntax.specs.declared.Node.TheVariants as node
use Rattle.syntax.specs.declared.Header.{Header}
use Rattle.syntax.specs.Limits.{most_params}
use Rattle.syntax.specs.Bytes.{node_of}
use Rattle.rule.specs.declared.expression.Place.{Place}
use Rattle.rule.specs.Reading.{Parsed, got, refused, onward, unless_fault, kind_at, kinds_from, result_kind, condition_place, operand_place, argument_place}
use Rattle.rule.specs.Reading.{apart, demanded, Reader, args_from, guard_empty_from, param_from, call_from, op_from, if_from, node_from, expr_from}
use Rattle.rule.specs.Walk.{Frame, own_params, own_kinds, own_guard, Walked, after, at_most_four, where_met, leaf_walked, param_walked, guard_empty_walked}
use Rattle.rule.specs.Walk.{args_walked, arms_walked, call_walked, read_walked, tail_walked, node_walked, check_at}
use Rattle.rule.proofs.Expressions.{place-below}

-- the frame has the headers of a program of a sort, whose counts are not refused
pub record Framed (s : Sort) (H : List Header) (F : Frame) : Type 0 where
  pub sort : F.sort ≡ s
  pub count : F.outline.functions ≡ length H
  pub heads : (g : ℕ) (h : Header) → get_elem? H g ≡ some h
      → (get_or F.outline.params g 0 ≡ h.params) × (get_or F.outline.kinds g 0 ≡ h.kinds) × (get_or F.outline.guards g 0 ≡ h.guard)
      × (h.params ≤ most_params)

-- ---- Kinds

-- the kind of a parameter that is there
pub kind_there : (k g i n j : ℕ) → j < n → get_elem? (kinds_from k g i n) j ≡ some (kind_at k g (i + j))
unfolding kinds_from
kind_there k g i zero j h = absurd (omega arith)
kind_there k g i (suc n) zero h = let e : i ≡ i + 0 = omega arith in ap (λ (m : ℕ). some (kind_at k g m)) e
kind_there k g i (suc n) (suc j) h =
    let e : suc i + j ≡ i + suc j = omega arith in kind_there k g (suc i) n j (omega arith) ∙ ap (λ (m : ℕ). some (kind_at k g m)) e

kind_absent : (k g i n j : ℕ) → n ≤ j → get_elem? (kinds_from k g i n) j ≡ none
unfolding kinds_from
kind_absent k g i zero j h = refl
kind_absent k g i (suc n) zero h = absurd (omega arith)
kind_absent k g i (suc n) (suc j) h = kind_absent k g (suc i) n j (omega arith)

pub at_most_four_lem : (n : ℕ) → n ≤ most_params → at_most_four n ≡ n
at_most_four_lem n h = rw (lt-ltb n 5 (omega arith))

-- where no element stands the list has ended
absent_above : {A : Type 0} (l : List A) (i : ℕ) → get_elem? l i ≡ none → length l ≤ i
absent_above [] i e = omega arith
absent_above (x ∷ l) zero e = let z : ◌≡◌ {A = ℕ} 0 1 = cc in absurd (omega arith)
absent_above (x ∷ l) (suc i) e = omega (arith, absent_above l i e)

-- ---- Walks and readings that agree

pub data Step {A : Type 0} (body : List ℕ) : Walked → Parsed A → Type 0 where
  went : (a : A) (to : ℕ) → to ≤ length body → Step body (Ok to) (got a (drop to body))
  stopped : (f : Refusal) → Step body (Err f) (refused f)

module _ {body : List ℕ} where
  -- one after the other
  step_onward : {A B : Type 0} {w : Walked} {p : Parsed A} (k : ℕ → Walked) (l : A → List ℕ → Parsed B) → Step body w p
      → ((a : A) (to : ℕ) → to ≤ length body → Step body (k to) (l a (drop to body))) → Step body (after w k) (onward p l)
  step_onward k l (went a to h) more = more a to h
  step_onward k l (stopped f) more = stopped f

  -- what was read as a part of something more
  step_part : {A B : Type 0} {w : Walked} {p : Parsed A} (f : A → B) → Step body w p → Step body w (onward p (λ a rest. got (f a) rest))
  step_part f (went a to h) = went (f a) to h
  step_part f (stopped r) = stopped r

  -- where a test has to hold, and where it may not
  step_allowed : {A : Type 0} {w : Walked} {p : Parsed A} (t : Bool) (f : Refusal) → Step body w p
      → Step body (cond t w (Err f)) (unless_fault (not t) f p)
  step_allowed true f s = s
  step_allowed false f s = stopped f

  step_banned : {A : Type 0} {w : Walked} {p : Parsed A} (t : Bool) (f : Refusal) → Step body w p
      → Step body (cond t (Err f) w) (unless_fault (not (not t)) f p)
  step_banned true f s = stopped f
  step_banned false f s = s

  step_demanded : {A : Type 0} {w : Walked} {p : Parsed A} (π : Place) (κ : Kind) → Step body w p
      → Step body (where_met π κ w) (demanded apart π κ p)
  step_demanded π κ s = step_allowed (allows π.demand κ) (apart π.fault) s

  -- a leaf
  leaf_step : {A : Type 0} (π : Place) (κ : Kind) (a : A) (at : ℕ) → at ≤ length body
      → Step body (leaf_walked π κ at) (demanded apart π κ (got a (drop at body)))
  unfolding leaf_walked
  leaf_step π κ a at h = step_demanded π κ (went a at h)

  guard_empty_step : (s : Sort) (π : Place) (at : ℕ) → at ≤ length body
      → Step body (guard_empty_walked s π at) (guard_empty_from apart s π (drop at body))
  unfolding guard_empty_walked
  guard_empty_step One π at h = stopped UnknownByte
  guard_empty_step Two π at h = leaf_step π (list Guard) _ at h

-- ---- Nodes, over a walk and a reading of operands that agree

-- the kinds of the parameters of the function whose body it is
abbrev pub own_of : Frame → List Kind
own_of F = kinds_from (own_kinds F) (own_guard F) 0 (own_params F)

module _ (s : Sort) (H : List Header) (F : Frame) (fits : Framed s H F) where
  module _ (walk : Place → ℕ → Walked) (read : Reader)
      (agree : (π : Place) (at : ℕ) → at ≤ length F.body → Step F.body (walk π at) (read π (drop at F.body))) where
    args_step : (k g n i at : ℕ) → at ≤ length F.body
        → Step F.body (args_walked walk k g n i at) (args_from read (kinds_from k g i n) (drop at F.body))
    unfolding args_walked args_from kinds_from
    args_step k g zero i at h = went _ at h
    args_step k g (suc n) i at h =
        step_onward (args_walked walk k g n (i + 1)) _ (agree (argument_place (kind_at k g i)) at h)
        (λ e to l. rw (add-one i) (step_part (arg e) (args_step k g n (suc i) to l)))

    param_step : (π : Place) (i at : ℕ) → at ≤ length F.body
        → Step F.body (param_walked F π i at) (param_from apart (get_elem? (own_of F) i) π i (drop at F.body))
    unfolding param_walked
    param_step π i at h = go (ltb i (own_params F)) refl
      where
        go : (t : Bool) → ltb i (own_params F) ≡ t
            → Step F.body (cond t (leaf_walked π (kind_at (own_kinds F) (own_guard F) i) at) (Err UnknownByte))
            (param_from apart (get_elem? (own_of F) i) π i (drop at F.body))
        go true e =
            rw (kind_there (own_kinds F) (own_guard F) 0 (own_params F) i (ltb-true _ _ e), zero-add i)
            (leaf_step {body = F.body} π (kind_at (own_kinds F) (own_guard F) i) (param i) at h)
        go false e = rw (kind_absent (own_kinds F) (own_guard F) 0 (own_params F) i (ltb-false _ _ e)) (stopped UnknownByte)

    call_step : (π : Place) (g at : ℕ) → at ≤ length F.body
        → Step F.body (call_walked F walk π at g) (call_from apart (get_elem? H g) read π g (drop at F.body))
    call_step π g at h = go (get_elem? H g) refl
      where
        go : (found : Option Header) → get_elem? H g ≡ found
            → Step F.body (call_walked F walk π at g) (call_from apart found read π g (drop at F.body))
        go none e = rw (fits.count, le-leb _ _ (absent_above H g e)) (stopped UnknownByte)
        go (some x) e =
            let head = fits.heads g x e in
            rw (fits.count, lt-leb _ _ (place-below H g x e), head.0, head.1, head.2, at_most_four_lem x.params head.3)
            (step_demanded π (result_kind x) (step_part (call g) (args_step x.kinds x.guard x.params 0 at h)))

    if_step : (π : Place) (at : ℕ) → at ≤ length F.body → Step F.body (arms_walked walk π at) (if_from read π (drop at F.body))
    if_step π at h =
        step_onward _ _ (agree condition_place at h) (λ c to l.
        step_onward _ _ (agree π to l) (λ a to' l'.
        step_part (ifte c a) (agree π to' l')))

    -- hd and null demand the same of their operand
    read_step : (p : Op) (π : Place) (at : ℕ) → at ≤ length F.body
        → Step F.body (read_walked walk π at)
        (demanded apart π truth (onward (read (operand_place hd π) (drop at F.body)) (λ e rest. got (op p e) rest)))
    read_step p π at h = step_demanded π truth (step_part (op p) (agree (operand_place hd π) at h))

    tail_step : (π : Place) (at : ℕ) → at ≤ length F.body
        → Step F.body (tail_walked walk π at) (op_from apart tl read π (drop at F.body))
    tail_step π at h = step_banned (allows π.demand truth) (apart π.fault) (step_part (op tl) (agree (operand_place tl π) at h))

    node_step : (π : Place) (at : ℕ) → at ≤ length F.body → (n : Node)
        → Step F.body (node_walked F walk π at n) (node_from apart s H (own_of F) read π n (drop at F.body))
    node_step π at h node.False = leaf_step π truth _ at h
    node_step π at h node.True = leaf_step π truth _ at h
    node_step π at h node.Empty = leaf_step π (list Ram) _ at h
    node_step π at h node.EmptyGuard = rw fits.sort (guard_empty_step s π at h)
    node_step π at h (node.Param i) = param_step π i at h
    node_step π at h node.Head = read_step hd π at h
    node_step π at h node.Tail = tail_step π at h
    node_step π at h node.Null = read_step null π at h
    node_step π at h node.If = if_step π at h
    node_step π at h node.Cons = stopped ListConstructor
    node_step π at h (node.Call g) = call_step π g at h
    node_step π at h node.Unknown = stopped UnknownByte

  pub expr_step : (d : ℕ) (π : Place) (at : ℕ) → at ≤ length F.body
      → Step F.body (check_at F d π at) (expr_from apart s H (own_of F) d π (drop at F.body))
  unfolding check_at expr_from
  expr_step zero π at h = go (leb (length F.body) at) refl
    where
      go : (t : Bool) → leb (length F.body) at ≡ t
          → Step F.body (cond t (Err BodyEnds) (Err TooDeep)) (expr_from apart s H (own_of F) zero π (drop at F.body))
      go true e = rw (drop_of_length-le F.body (leb-true _ _ e)) (stopped BodyEnds)
      go false e = rw (drop-cons F.body at 0 (leb-false _ _ e)) (stopped TooDeep)
  expr_step (suc d) π at h = go (leb (length F.body) at) refl (λ π' to l. expr_step d π' to l)
    where
      Deeper : Type 0
      Deeper =
          (π' : Place) (to : ℕ) → to ≤ length F.body → Step F.body (check_at F d π' to) (expr_from apart s H (own_of F) d π' (drop to F.body))

      go : (t : Bool) → leb (length F.body) at ≡ t → Deeper
          → Step F.body (cond t (Err BodyEnds) (node_walked F (check_at F d) π (at + 1) (node_of (get_or F.body at 0))))
          (expr_from apart s H (own_of F) (suc d) π (drop at F.body))
      go true e deeper = rw (drop_of_length-le F.body (leb-true _ _ e)) (stopped BodyEnds)
      go false e deeper =
          let within : suc at ≤ length F.body = leb-false _ _ e in
          rw (drop-cons F.body at 0 within, add-one at)
          (node_step (check_at F d) (λ π' rest. expr_from apart s H (own_of F) d π' rest) deeper π (suc at) within (node_of (get_or F.body at 0)))
