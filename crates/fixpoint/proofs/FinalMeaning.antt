-- Passes from zeros, in a table that may go on after the cells, by places and numbers:
--   table_means      the table that they leave
--   passes_mean      how many they are
use Prim.Native.Nat.{ℕ, zero, suc, ◌+◌, ◌≤◌, ◌<◌}
use native.Mathlib.Omega.{arith}
use native.Mathlib.Decide.{ℕ_discrete}
use mathlib.Core.Path.{◌≡◌, sym, ◌∙◌}
use mathlib.Core.Logic.{◌≢◌}
use mathlib.Core.List.{List, ◌++◌}
use lib.ListN.{length, replicate, length-append}
use borrow.Author.Tests.{eq-eqb, ne_eqb}
use Rattle.semantics.specs.Language.{Program, Traces}
use Rattle.semantics.specs.Numbering.{cells}
use Rattle.semantics.specs.Visits.{Table, pass_stores}
use Rattle.semantics.specs.Passes.{table_after, pass_count, final_table}
use Rattle.semantics.specs.Demand.{FirstStill}
use Rattle.semantics.proofs.Passes.{length_after, first-still, count_in_time, pass-append, stores-append}
use Rattle.codes.specs.declared.Lengths.{Lengths}
use Rattle.passes.specs.Mirror.{Setup, pass_visits, pass_counts}
use Rattle.passes.proofs.PassMeaning.{Runs, pass_means, counts_mean}
use Rattle.fixpoint.specs.{most_passes, table_from, passes_run}

module _ (P : Program) (t : Traces) (n : Lengths) (bytes : List ℕ) (S : Setup) (starts : List ℕ) (r : Runs P t n bytes S starts) (rest : List ℕ) where
  -- what the first k passes leave has room for the cells
  room : (k : ℕ) → cells t P ≤ length (table_after P t k ++ rest)
  room k = omega (arith, length_after P t k, length-append (table_after P t k) rest)

  -- the pass after the first k
  next_table : (k : ℕ) → pass_visits S n starts (length P) (table_after P t k ++ rest) ≡ table_after P t (suc k) ++ rest
  unfolding table_after
  next_table k =
      pass_means P t n bytes S starts r (table_after P t k ++ rest) (room k)
      ∙ pass-append P t r.kinds (table_after P t k) rest (omega (arith, length_after P t k))

  next_stores : (k : ℕ) → pass_counts S n starts (length P) (table_after P t k ++ rest) ≡ pass_stores P t (table_after P t k)
  next_stores k =
      counts_mean P t n bytes S starts r (table_after P t k ++ rest) (room k)
      ∙ stores-append P t r.kinds (table_after P t k) rest (omega (arith, length_after P t k))

  -- from table W, left by the first k passes, `fuel` more are enough to come to pass `last`, the first that stores nothing
  record Reaches (fuel k last : ℕ) (W : Table) : Type 0 where
    table : table_from S n starts (length P) fuel W ≡ table_after P t last ++ rest
    passes : k + passes_run S n starts (length P) fuel W ≡ last

  reaches_here : (fuel k : ℕ) → pass_stores P t (table_after P t k) ≡ 0 → Reaches (suc fuel) k (suc k) (table_after P t k ++ rest)
  unfolding table_from passes_run
  reaches_here fuel k still =
      let none = next_stores k ∙ still in
      record {
        table = rw (eq-eqb _ _ none) (next_table k);
        passes = rw (eq-eqb _ _ none) (omega arith);
      }

  reaches_later : (fuel k last : ℕ) → pass_stores P t (table_after P t k) ≢ 0 → Reaches fuel (suc k) last (table_after P t (suc k) ++ rest)
      → Reaches (suc fuel) k last (table_after P t k ++ rest)
  unfolding table_from passes_run
  reaches_later fuel k last stores later =
      let some = ne_eqb _ 0 (λ z. stores (sym (next_stores k) ∙ z)) in
      record {
        table = rw (some, next_table k) later.table;
        passes = rw (some, next_table k) (omega (arith, later.passes));
      }

  reaches : (last : ℕ) (s : FirstStill P t last) (fuel k : ℕ) → k ≤ s.before → last ≤ k + fuel
      → Reaches fuel k last (table_after P t k ++ rest)
  reaches last s zero k l enough = absurd (omega (arith, s.counted))
  reaches last s (suc fuel) k l enough = go (λ m. reaches last s fuel (suc k) m (omega arith)) (ℕ_discrete k s.before)
    where
      go : (suc k ≤ s.before → Reaches fuel (suc k) last (table_after P t (suc k) ++ rest)) → Dec (k ≡ s.before)
          → Reaches (suc fuel) k last (table_after P t k ++ rest)
      go later (yes e) =
          let same : last ≡ suc k = omega (arith, s.counted) in
          rw same (reaches_here fuel k (rw e s.still))
      go later (no z) = let m : suc k ≤ s.before = omega arith in reaches_later fuel k last (s.first k m) (later m)

  -- one more pass than there are cells is enough
  from_zeros : (fuel : ℕ) → cells t P < fuel → Reaches fuel 0 (pass_count P t) (replicate (cells t P) 0 ++ rest)
  unfolding table_after
  from_zeros fuel enough = reaches (pass_count P t) (first-still P t r.kinds) fuel 0 (omega arith) (omega (arith, count_in_time P t))

  in_time_lem : cells t P < most_passes
  in_time_lem = omega (arith, r.sets.fits)

  pub table_means : table_from S n starts (length P) most_passes (replicate (cells t P) 0 ++ rest) ≡ final_table P t ++ rest
  unfolding final_table
  table_means = (from_zeros most_passes in_time_lem).table

  pub passes_mean : passes_run S n starts (length P) most_passes (replicate (cells t P) 0 ++ rest) ≡ pass_count P t
  passes_mean = omega (arith, (from_zeros most_passes in_time_lem).passes)
