-- Passes made one after the other:
--   Running                          some passes have been made, and all stored
--   running_start, running_length
--   running_end                      all have been made
--   running_stop, running_more       one more, that stores nothing or something
use mathlib.Core.Path.{◌≡◌, refl, sym, ap, ◌∙◌}
use mathlib.Core.Bool.{true, false}
use mathlib.Core.List.{List}
use Prim.Native.Nat.{ℕ, suc, ◌+◌, ◌-◌, ◌<◌, ◌≤◌}
use native.Mathlib.Omega.{arith}
use lib.Dec.{eqb}
use lib.ListN.{length}
use borrow.Author.Tests.{eq-eqb, ne_eqb}
use Rattle.codes.specs.declared.Lengths.{Lengths}
use Rattle.passes.specs.Mirror.{Setup, pass_visits, pass_counts}
use Rattle.passes.proofs.PassWays.{length-pass}
use Rattle.fixpoint.specs.{table_from, passes_run}

-- `done` passes that all stored have led from T₀ to T
pub record Running (S : Setup) (n : Lengths) (starts : List ℕ) (count most : ℕ) (T₀ T : List ℕ) (done : ℕ) : Type 0 where
  pub few : done ≤ most
  pub cells : table_from S n starts count (most - done) T ≡ table_from S n starts count most T₀
  pub passes : done + passes_run S n starts count (most - done) T ≡ passes_run S n starts count most T₀
  pub same : length T ≡ length T₀

pub running_start : (S : Setup) (n : Lengths) (starts : List ℕ) (count most : ℕ) (T : List ℕ) → Running S n starts count most T T 0
running_start S n starts count most T =
    let all : most - 0 ≡ most = omega arith in
    record { few = omega arith; cells = rw all; passes = rw all (omega arith); same = refl }

module _ {S : Setup} {n : Lengths} {starts : List ℕ} {count most : ℕ} {T₀ T : List ℕ} {done : ℕ} (u : Running S n starts count most T₀ T done) where
  pub running_length : {T' : List ℕ} → T' ≡ pass_visits S n starts count T → length T' ≡ length T₀
  running_length v = ap length v ∙ length-pass S n starts T count ∙ u.same

  -- all passes have been made
  pub running_end : most ≤ done → (T ≡ table_from S n starts count most T₀) × (done ≡ passes_run S n starts count most T₀)
  unfolding table_from passes_run
  running_end h =
      let none : most - done ≡ 0 = omega arith in
      (rw none at u.cells, omega (arith, rw none at u.passes))

  module _ (left : done < most) where
    fuel : most - done ≡ suc (most - (done + 1))
    fuel = omega arith

    pub running_stop : {T' : List ℕ} {stored : ℕ} → T' ≡ pass_visits S n starts count T → stored ≡ pass_counts S n starts count T → stored ≡ 0
        → (T' ≡ table_from S n starts count most T₀) × (done + 1 ≡ passes_run S n starts count most T₀)
    unfolding table_from passes_run
    running_stop v s z =
        let none : eqb (pass_counts S n starts count T) 0 ≡ true = eq-eqb _ _ (sym s ∙ z) in
        (v ∙ (simp (fuel, none) at u.cells), simp (fuel, none) at u.passes)

    pub running_more : {T' : List ℕ} {stored : ℕ} → T' ≡ pass_visits S n starts count T → stored ≡ pass_counts S n starts count T → (stored ≡ 0 → ⊥)
        → Running S n starts count most T₀ T' (done + 1)
    unfolding table_from passes_run
    running_more v s k =
        let some : eqb (pass_counts S n starts count T) 0 ≡ false = ne_eqb _ _ (λ z. k (s ∙ z)) in
        record {
          few = omega arith;
          cells = rw v (simp (fuel, some) at u.cells);
          passes = rw v (omega (arith, simp (fuel, some) at u.passes));
          same = running_length v;
        }
