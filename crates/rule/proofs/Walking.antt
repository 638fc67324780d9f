-- Laws of the mirror, one for each way through the code:
--   check_end, check_deep, check_node       an expression: no byte, no depth left, a node
--   call_none, call-not, call-args          a call
--   Down                                    a check that has gone on to an operand with which it ends
--   Along                                   a call that has gone past some of its arguments
use Rattle.std.specs.Prelude.{Ok, Err}
use mathlib.Core.Path.{◌≡◌, refl, sym, ap, ◌∙◌}
use mathlib.Core.Bool.{Bool, true, false}
use Prim.Native.Nat.{ℕ, zero, suc, ◌+◌, ◌-◌, ◌<◌, ◌≤◌}
use native.Mathlib.Numerals.{sub-one}
use native.Mathlib.Omega.{arith}
use lib.ListN.{length, get_or}
use borrow.Author.Tests.{le-leb, lt-leb}
use Rattle.refusal.specs.declared.Refusal.{Refusal}
use Rattle.refusal.specs.declared.Refusal.TheVariants.{BodyEnds, TooDeep, UnknownByte}
use Rattle.semantics.specs.declared.Kind.{Kind}
use Rattle.semantics.specs.Language.{allows}
use Rattle.syntax.specs.declared.Node.{Node}
use Rattle.syntax.specs.Bytes.{node_of}
use Rattle.rule.specs.declared.expression.Place.{Place}
use Rattle.rule.specs.Reading.{kind_at, argument_place, apart}
use Rattle.rule.specs.Walk.{Frame, Walked, after, at_most_four, args_walked, node_walked, check_at, call_walked_at}

module _ (F : Frame) (d : ℕ) (place : Place) (at : ℕ) where
  pub check_end : length F.body ≤ at → Err BodyEnds ≡ check_at F d place at
  unfolding check_at
  check_end h = go d
    where
      go : (d : ℕ) → Err BodyEnds ≡ check_at F d place at
      go zero = simp (le-leb _ _ h)
      go (suc d) = simp (le-leb _ _ h)

  pub check_deep : at < length F.body → d ≡ 0 → Err TooDeep ≡ check_at F d place at
  unfolding check_at
  check_deep h e = simp (e, lt-leb _ _ h)

  pub check_node : at < length F.body → (d ≡ 0 → ⊥) → {n : Node} → n ≡ node_of (get_or F.body at 0) → {k : Node} → n ≡ k
      → {w : Walked} → w ≡ node_walked F (check_at F (d - 1)) place (at + 1) k → w ≡ check_at F d place at
  unfolding check_at
  check_node h e {n} p {k} q {w} r = r ∙ sym (go d e)
    where
      go : (d : ℕ) → (d ≡ 0 → ⊥) → check_at F d place at ≡ node_walked F (check_at F (d - 1)) place (at + 1) k
      go zero e = absurd (e refl)
      go (suc d) e = simp (lt-leb _ _ h, sym p ∙ q, sub-one)

  module _ (f : ℕ) where
    pub call_none : F.outline.functions ≤ f → Err UnknownByte ≡ call_walked_at F d place at f
    unfolding call_walked_at
    call_none h = simp (le-leb _ _ h)

    module _ (h : f < F.outline.functions) {result : Kind} {b : Bool}
        (e : result ≡ kind_at (get_or F.outline.kinds f 0) (get_or F.outline.guards f 0) 4) (q : b ≡ allows place.demand result) where
      pub call-not : b ≡ false → {r : Refusal} → r ≡ apart place.fault → Err r ≡ call_walked_at F d place at f
      unfolding call_walked_at
      call-not z w = simp (lt-leb _ _ h, sym e, sym q ∙ z, w)

      pub call-args : b ≡ true → {left : ℕ} → left ≡ at_most_four (get_or F.outline.params f 0)
          → call_walked_at F d place at f
          ≡ args_walked (check_at F d) (get_or F.outline.kinds f 0) (get_or F.outline.guards f 0) left 0 at
      unfolding call_walked_at
      call-args z c = simp (lt-leb _ _ h, sym e, sym q ∙ z, sym c)

-- a check that has gone on to an operand with which it ends
pub record Down (F : Frame) (depth : ℕ) (place : Place) (at left : ℕ) (here : Place) (to : ℕ) : Type 0 where
  pub below : left ≤ depth
  pub rest : check_at F left here to ≡ check_at F depth place at

module _ {F : Frame} {depth : ℕ} {place : Place} {at left : ℕ} {here : Place} {to : ℕ} (u : Down F depth place at left here to) where
  pub down_end : length F.body ≤ to → Err BodyEnds ≡ check_at F depth place at
  down_end h = check_end F left here to h ∙ u.rest

  module _ (h : to < length F.body) where
    pub down_deep : left ≡ 0 → Err TooDeep ≡ check_at F depth place at
    down_deep e = check_deep F left here to h e ∙ u.rest

    module _ (e : left ≡ 0 → ⊥) {n : Node} (p : n ≡ node_of (get_or F.body to 0)) {k : Node} (q : n ≡ k) where
      pub down_node : {w : Walked} → w ≡ node_walked F (check_at F (left - 1)) here (to + 1) k → w ≡ check_at F depth place at
      down_node r = check_node F left here to h e p q r ∙ u.rest

      pub down_on : {π : Place} {m : ℕ} → node_walked F (check_at F (left - 1)) here (to + 1) k ≡ check_at F (left - 1) π m
          → Down F depth place at (left - 1) π m
      down_on r = record { below = omega (arith, u.below); rest = check_node F left here to h e p q (sym r) ∙ u.rest }

-- a call of `left` arguments that has gone past i of them, up to m
pub record Along (walk : Place → ℕ → Walked) (ks gs left at i m : ℕ) : Type 0 where
  pub below : i ≤ left
  pub rest : args_walked walk ks gs (left - i) i m ≡ args_walked walk ks gs left 0 at

module _ {walk : Place → ℕ → Walked} {ks gs left at i m : ℕ} (u : Along walk ks gs left at i m) where
  pub along_end : left ≤ i → args_walked walk ks gs left 0 at ≡ Ok m
  unfolding args_walked
  along_end h = let z : left - i ≡ 0 = omega arith in sym u.rest ∙ ap (λ (k : ℕ). args_walked walk ks gs k i m) z

  module _ (h : i < left) {κ : Kind} (e : κ ≡ kind_at ks gs i) {w : Walked} (q : w ≡ walk (argument_place κ) m) where
    along_step : args_walked walk ks gs left 0 at ≡ after w (args_walked walk ks gs (left - (i + 1)) (i + 1))
    unfolding args_walked
    along_step =
        let z : left - i ≡ suc (left - (i + 1)) = omega arith in
        sym u.rest ∙ ap (λ (k : ℕ). args_walked walk ks gs k i m) z
        ∙ ap (λ (x : Walked). after x (args_walked walk ks gs (left - (i + 1)) (i + 1)))
        (ap (λ (k : Kind). walk (argument_place k) m) (sym e) ∙ sym q)

    pub along_stop : {f : Refusal} → w ≡ Err f → args_walked walk ks gs left 0 at ≡ Err f
    along_stop z = rw z at along_step

    pub along_more : {n : ℕ} → w ≡ Ok n → Along walk ks gs left at (i + 1) n
    along_more {n} z = record { below = omega arith; rest = sym (rw z at along_step) }
