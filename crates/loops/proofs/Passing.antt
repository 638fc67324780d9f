-- Laws of the code:
--   Read, read-start, read_outer, read-call, read_inner, read_whole    the bytes of a body
--   bodies_mean                                                        the bodies of a program
use mathlib.Core.Path.{◌≡◌, refl, sym, ◌∙◌}
use mathlib.Core.Bool.{Bool, true, false, ◌&&◌, and-false}
use mathlib.Core.List.{List, [], ◌∷◌}
use Prim.Native.Nat.{ℕ, zero, suc, ◌+◌, ◌-◌, ◌*◌, ◌<◌, ◌≤◌}
use native.Mathlib.Numerals.{add-one, sub-one}
use native.Mathlib.Omega.{arith}
use lib.ListN.{length, get_or, drop, length-drop}
use lib.Seq.{drop-cons}
use lib.Dec.{eqb}
use borrow.Author.Tests.{eqb-true, eqb-false}
use Rattle.std.specs.Bool.{MatchBool}
use Rattle.std.specs.List.{range_with_len, AllWithin, HoldsAt}
use Rattle.std.proofs.lemmas.List.FromFn.{length-range_with_len, get_or-range_with_len}
use Rattle.syntax.specs.declared.Node.{Node}
use Rattle.syntax.specs.Limits.{most_params}
use Rattle.syntax.specs.Bytes.{node_of}
use Rattle.loops.specs.declared.Shape.{Shape}
use Rattle.loops.specs.{shape_of, node_loops, loops_from, bodies_loop}

-- ---- Bytes

module _ (params body : List ℕ) where
  -- the first i bytes are read, and so many expressions are due
  pub record Read (due i : ℕ) : Type 0 where
    pub below : i ≤ length body
    pub few : due ≤ most_params + 3 * i
    pub rest : loops_from params 0 body ≡ loops_from params due (drop i body)

  pub read-start : Read 0 0
  read-start = record { below = omega arith; few = omega arith; rest = refl }

  -- a byte by what it asks for
  module _ {i : ℕ} (h : i < length body) {node : Node} (n : node ≡ node_of (get_or body i 0)) {shape : Shape}
      (e : (shape ≡ shape_of params node) × (shape.operands ≤ most_params) × (shape.inner ≤ most_params)) where
    step : (due : ℕ) → Read due i → loops_from params 0 body ≡ node_loops (λ k. loops_from params k (drop (i + 1) body)) due shape
    unfolding loops_from
    step due u = u.rest ∙ rw (drop-cons body i 0, add-one, e.0, n)

    pub read_outer : (due : ℕ) → Read due i → due ≡ 0 → Read shape.inner (i + 1)
    read_outer due u z = record { below = omega arith; few = omega (arith, e.2); rest = rw z at (step due u) }

    pub read-call : (due : ℕ) → Read due i → (due ≡ 0 → ⊥) → shape.call ≡ true → false ≡ loops_from params 0 body
    read-call zero u z c = absurd (z refl)
    read-call (suc due) u z c = sym (rw c at (step (suc due) u))

    pub read_inner : (due : ℕ) → Read due i → (due ≡ 0 → ⊥) → shape.call ≡ false → Read (due - 1 + shape.operands) (i + 1)
    read_inner zero u z c = absurd (z refl)
    read_inner (suc due) u z c =
        record {
          below = omega arith;
          few = omega (arith, u.few, e.1);
          rest = simp sub-one (rw c at (step (suc due) u));
        }

  none_left : (due : ℕ) (bs : List ℕ) → length bs ≤ 0 → loops_from params due bs ≡ true
  unfolding loops_from
  none_left due [] h = refl
  none_left due (b ∷ bs) h = absurd (omega arith)

  pub read_whole : (due i : ℕ) → Read due i → length body ≤ i → true ≡ loops_from params 0 body
  read_whole due i u h = sym (u.rest ∙ none_left due (drop i body) (omega (arith, length-drop i body)))

-- ---- Bodies

module _ (loops : ℕ → Bool) where
  all_loop : (n a : ℕ) → ((k : ℕ) → a ≤ k → k < a + n → loops k ≡ true) → bodies_loop loops n a ≡ true
  unfolding bodies_loop
  all_loop zero a h = refl
  all_loop (suc n) a h = rw (h a (omega arith) (omega arith), all_loop n (a + 1) (λ k l m. h k (omega arith) (omega arith)))

  one_stops : (n a k : ℕ) → a ≤ k → k < a + n → loops k ≡ false → bodies_loop loops n a ≡ false
  unfolding bodies_loop
  one_stops zero a k l m e = absurd (omega arith)
  one_stops (suc n) a k l m e = go (eqb k a) refl (λ l'. one_stops n (a + 1) k l' (omega arith) e)
    where
      go : (b : Bool) → eqb k a ≡ b → (a + 1 ≤ k → bodies_loop loops n (a + 1) ≡ false) → (loops a && bodies_loop loops n (a + 1)) ≡ false
      go true q later = let same = eqb-true k a q in rw (← same, e)
      go false q later = let other = eqb-false k a q in rw (later (omega arith)) (and-false (loops a))

  here : (n k : ℕ) → k < n → get_or (range_with_len 0 n) k 0 ≡ k
  here n k h = get_or-range_with_len 0 n k 0 h ∙ omega arith

  -- `r` is what the code has of n bodies
  pub bodies_mean : (n : ℕ) (r : Bool)
      → MatchBool r (AllWithin (λ i. loops i ≡ true) (range_with_len 0 n) 0 (length (range_with_len 0 n)))
      ((k : ℕ) × (k < length (range_with_len 0 n)) × HoldsAt (λ i. loops i ≡ false) (range_with_len 0 n) k)
      → r ≡ bodies_loop loops n 0
  bodies_mean n true m =
      let size = length-range_with_len 0 n in
      sym (all_loop n 0 (λ k l h. rw (here n k (omega arith)) at (m k 0 l (omega arith))))
  bodies_mean n false m =
      let size = length-range_with_len 0 n in
      let h : m.0 < n = omega (arith, m.1) in
      sym (one_stops n 0 m.0 (omega arith) (omega arith) (rw (here n m.0 h) at (m.2 0)))
