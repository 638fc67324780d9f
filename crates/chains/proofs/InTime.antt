-- Chains of a program that only loops, from configurations with values of their kinds:
--   loops_each          each function only loops
--   Proper              a function of the program on values of its parameters' kinds
--   proper_turned       how taking its body goes
--   proper_step         a step leads to another such
--   same_cell           two of them with one cell are the same
--   in_time_lem             a chain that ends has fewer calls than there are configurations
use Prim.Native.Nat.{ℕ, zero, suc, ◌+◌, ◌-◌, ◌≤◌, ◌<◌}
use native.Mathlib.Omega.{arith}
use mathlib.Core.Path.{◌≡◌, sym, ap, ◌∙◌}
use mathlib.Core.List.{[], ◌∷◌}
use mathlib.Core.Option.{Option, some}
use lib.ListN.{get_elem?}
use lib.Dec.{T}
use Rattle.semantics.specs.declared.Outcome.{Outcome}
use Rattle.semantics.specs.declared.Demand.TheVariants.{Only as only}
use Rattle.semantics.specs.Language.{Function, Program, Traces, InKinds, WellKinded}
use Rattle.semantics.specs.Numbering.{cells, cell_of, Config, config_at}
use Rattle.semantics.proofs.Numbering.{cell_lt, config_cell}
use Rattle.chains.specs.Loops.{loops_in, only_loops}
use Rattle.chains.specs.Following.{Turn, turn_of}
use Rattle.chains.specs.Chain.{Step, Chain, start, more, EndsAfter}
use Rattle.chains.proofs.Outcomes.{both}
use Rattle.chains.proofs.Turns.{comes_unique, Turned, ended, called, turned}
use Rattle.chains.proofs.Counting.{Below, Different, fewer}
use Rattle.chains.proofs.Chains.{ends_unique}

pub loops_each : (P : Program) → T (only_loops P) → (g : ℕ) (f : Function) → get_elem? P g ≡ some f → T (loops_in f.body)
unfolding only_loops
loops_each [] l g f e = let z : ◌≡◌ {A = ℕ} 0 1 = cc in absurd (omega arith)
loops_each (f₀ ∷ P) l zero f e = let q : f₀ ≡ f = cc in rw q at (both (loops_in f₀.body) (only_loops P) l).0
loops_each (f₀ ∷ P) l (suc g) f e = loops_each P (both (loops_in f₀.body) (only_loops P) l).1 g f e

pub record Proper (P : Program) (t : Traces) (k : Config) : Type 0 where
  pub g : ℕ
  pub is_fun : get_elem? P g ≡ some k.fun
  pub are_in : InKinds t k.fun.params k.args

-- its cell
abbrev pub cell : (P : Program) (t : Traces) (k : Config) → Proper P t k → ℕ
cell P t k p = cell_of t P p.g k.args

pub same_cell : (P : Program) (t : Traces) (k k' : Config) (p : Proper P t k) (p' : Proper P t k') → cell P t k p ≡ cell P t k' p' → k ≡ k'
same_cell P t k k' p p' e =
    let there = config_cell t P p.g k.fun k.args p.is_fun p.are_in in
    let there' = config_cell t P p'.g k'.fun k'.args p'.is_fun p'.are_in in
    let same : some k ≡ some k' = sym there ∙ ap (config_at t P) e ∙ there' in
    cc

module _ (P : Program) (t : Traces) (wk : WellKinded P) (loops : T (only_loops P)) where
  pub proper_turned : (k : Config) (p : Proper P t k) → Turned P t k.args k.fun.body (turn_of t k.args k.fun.body)
  proper_turned k p =
      turned P t k.fun.params k.args p.are_in k.fun.body (only k.fun.result) (loops_each P loops p.g k.fun p.is_fun)
      (wk p.g k.fun p.is_fun)

  pub proper_step : (k k' : Config) → Proper P t k → Step P t k k' → Proper P t k'
  proper_step k k' p s = go (proper_turned k p)
    where
      go : {u : Option Turn} → Turned P t k.args k.fun.body u → Proper P t k'
      go (ended o q d never) = absurd (never s.callee k'.args s.comes)
      go (called g vs f q c e i) =
          let same = comes_unique P t k.args k.fun.body c s.comes in
          let fun : f ≡ k'.fun = cc (same.0, s.is_fun, e) in
          record { g = s.callee; is_fun = s.is_fun; are_in = rw (fun, same.1) at i }

  -- the configuration after so many calls of a chain
  config_after : {k k' : Config} {n : ℕ} → Chain P t k n k' → ℕ → Config
  config_after {k} start i = k
  config_after {k} (more s c) zero = k
  config_after (more s c) (suc i) = config_after c i

  proper_at : {k k' : Config} {n : ℕ} → Proper P t k → (c : Chain P t k n k') (i : ℕ) → Proper P t (config_after c i)
  unfolding config_after
  proper_at p start i = p
  proper_at p (more s c) zero = p
  proper_at {k} p (more {k' = q} s c) (suc i) = proper_at (proper_step k q p s) c i

  -- the calls after these
  rest : {k k' : Config} {n : ℕ} (c : Chain P t k n k') (i d : ℕ) → n ≡ i + d → Chain P t (config_after c i) d k'
  unfolding config_after
  rest {k} start i d e = let none : d ≡ 0 = omega arith in rw none start
  rest {k} {k'} (more {n = n} s c) zero d e = let all : d ≡ suc n = omega arith in rw all (more s c)
  rest (more s c) (suc i) d e = rest c i d (omega arith)

  pub in_time_lem : (k : Config) (n : ℕ) (o : Outcome) → Proper P t k → EndsAfter P t k n o → n < cells t P
  in_time_lem k n o p e = fewer (cells t P) n place below different
    where
      c : Chain P t k n e.last
      c = e.chain

      place : ℕ → ℕ
      place i = cell P t (config_after c i) (proper_at p c i)

      below : Below (cells t P) n place
      below i h = let q = proper_at p c i in cell_lt t P q.g (config_after c i).fun (config_after c i).args q.is_fun q.are_in

      after : (i : ℕ) → i ≤ n → EndsAfter P t (config_after c i) (n - i) o
      after i h = record { last = e.last; chain = rest c i (n - i) (omega arith); no_more = e.no_more; gives = e.gives }

      different : Different n place
      different i j hi hj q =
          let same = same_cell P t (config_after c i) (config_after c j) (proper_at p c i) (proper_at p c j) q in
          let both_end = ends_unique P t (rw same at (after i hi)) (after j hj) in
          omega (arith, both_end.0)
