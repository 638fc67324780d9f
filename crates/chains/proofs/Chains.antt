-- Chains of calls, of any program:
--   same_config, step_unique     a configuration has one next at most
--   front                        a chain that ends goes through every chain from its beginning
--   ends_unique                  it ends after one number of calls, with one outcome
--   ends-gives, gives-ends       it ends with an outcome exactly where its beginning gives it
use Prim.Native.Nat.{ℕ, suc, ◌+◌}
use native.Mathlib.Omega.{arith}
use mathlib.Core.Path.{◌≡◌, refl, ap, ◌∙◌, subst}
use mathlib.Core.Bool.{true, false}
use mathlib.Core.List.{List}
use mathlib.Core.Option.{some}
use lib.ListN.{get_elem?}
use Rattle.semantics.specs.declared.Outcome.{Outcome}
use Rattle.semantics.specs.declared.Outcome.TheVariants.{Truth}
use Rattle.semantics.specs.Language.{Expr, ifte, Function, Program, Traces, Value}
use Rattle.semantics.specs.Rules.{Derives, r_constant, r_empty, r_param, r_op, r_op_error, r_then, r_else, r_if_error, r_call, r_call_error, DerivesAll, r_none, r_arg, r_arg_error, r_later_error}
use Rattle.semantics.specs.Numbering.{Config}
use Rattle.semantics.specs.Demand.{Gives}
use Rattle.semantics.proofs.Induction.{Kept, derived}
use Rattle.semantics.proofs.Unique.{derives_unique}
use Rattle.chains.specs.Chain.{Comes, in_call, in_then, in_else, Step, Chain, start, more, EndsAfter}
use Rattle.chains.proofs.Turns.{comes_spine, comes_unique, comes-gives, only_then, only_else, not_if, not_call}

-- function f on given values
abbrev pub on : Function → List Value → Config
on f vs = record { fun = f; args = vs }

pub same_config : (k k' : Config) → k.fun ≡ k'.fun → k.args ≡ k'.args → k ≡ k'
same_config k k' p q = ap (λ (f : Function). on f k.args) p ∙ ap (λ (vs : List Value). on k'.fun vs) q

module _ (P : Program) (t : Traces) where
  pub step_unique : (k k' k'' : Config) → Step P t k k' → Step P t k k'' → k' ≡ k''
  step_unique k k' k'' s s' =
      let same = comes_unique P t k.args k.fun.body s.comes s'.comes in
      let f : k'.fun ≡ k''.fun = cc (same.0, s.is_fun, s'.is_fun) in
      same_config k' k'' f same.1

  -- what is left of a chain that ends, after another from the same beginning
  pub record Left (k : Config) (m n : ℕ) (o : Outcome) : Type 0 where
    pub calls : ℕ
    pub counted : n ≡ m + calls
    pub ends : EndsAfter P t k calls o

  -- after one step
  after_step : {k q : Config} {n : ℕ} {o : Outcome} → Step P t k q → EndsAfter P t k n o → Left q 1 n o
  after_step {k} {q} {o = o} s e = go e.chain e.no_more e.gives
    where
      go : {n : ℕ} {z : Config} → Chain P t k n z → ((k' : Config) → ¬ Step P t z k') → Gives P t z.fun z.args o → Left q 1 n o
      go start never d = absurd (never q s)
      go (more {k' = q'} {k'' = z} {n = n} s' c) never d = record {
        calls = n;
        counted = omega arith;
        ends = record { last = z; chain = subst (λ (x : Config). Chain P t x n z) (step_unique k q' q s' s) c; no_more = never; gives = d };
      }

  pub front : {k k' : Config} {m n : ℕ} {o : Outcome} → Chain P t k m k' → EndsAfter P t k n o → Left k' m n o
  front {n = n} start e = record { calls = n; counted = omega arith; ends = e }
  front (more s c) e =
      let one = after_step s e in
      let l = front c one.ends in
      record { calls = l.calls; counted = omega (arith, one.counted, l.counted); ends = l.ends }

  -- a chain that goes no further
  none_left : {k : Config} {n : ℕ} {o o' : Outcome} → ((k' : Config) → ¬ Step P t k k') → Gives P t k.fun k.args o → EndsAfter P t k n o' → (n ≡ 0) × (o ≡ o')
  none_left {k} {n} {o} {o'} never d e = go e.chain e.gives
    where
      go : {n : ℕ} {k'' : Config} → Chain P t k n k'' → Gives P t k''.fun k''.args o' → (n ≡ 0) × (o ≡ o')
      go start d' = (refl, derives_unique P t d d')
      go (more {k' = q} s c) d' = absurd (never q s)

  pub ends_unique : {k : Config} {n n' : ℕ} {o o' : Outcome} → EndsAfter P t k n o → EndsAfter P t k n' o' → (n ≡ n') × (o ≡ o')
  ends_unique e e' =
      let l = front e.chain e' in
      let here = none_left e.no_more e.gives l.ends in
      (omega (arith, l.counted, here.0), here.1)

  -- ---- Chains and derivations

  chain-gives : {k k' : Config} {n : ℕ} {o : Outcome} → Chain P t k n k' → Gives P t k'.fun k'.args o → Gives P t k.fun k.args o
  chain-gives start d = d
  chain-gives {k} (more s c) d = comes-gives P t k.args k.fun.body s.comes s.is_fun (chain-gives c d)

  pub ends-gives : {k : Config} {n : ℕ} {o : Outcome} → EndsAfter P t k n o → Gives P t k.fun k.args o
  ends-gives e = chain-gives e.chain e.gives

  -- an expression that gives an outcome comes to no call, or to one from which the chain ends with it
  data Runs (env : List Value) (e : Expr) (o : Outcome) : Type 0 where
    stays : ((g : ℕ) (vs : List Value) → ¬ Comes P t env e g vs) → Runs env e o
    goes : (g : ℕ) (vs : List Value) (f : Function) (n : ℕ) → Comes P t env e g vs → get_elem? P g ≡ some f → EndsAfter P t (on f vs) n o → Runs env e o

  abbrev Ran : List Value → Expr → Outcome → Type 0
  Ran env e o = Derives P t env e o × Runs env e o

  pub step_ends : {k k' : Config} {n : ℕ} {o : Outcome} → Step P t k k' → EndsAfter P t k' n o → EndsAfter P t k (suc n) o
  step_ends s e = record { last = e.last; chain = more s e.chain; no_more = e.no_more; gives = e.gives }

  ran_ends : (k : Config) {o : Outcome} → Ran k.args k.fun.body o → (n : ℕ) × EndsAfter P t k n o
  ran_ends k (d, stays never) = (0, record { last = k; chain = start; no_more = λ k' s. never s.callee k'.args s.comes; gives = d })
  ran_ends k (d, goes g vs f n c q e) = (suc n, step_ends (record { callee = g; is_fun = q; comes = c }) e)

  then_runs : {env : List Value} {c a b : Expr} {o : Outcome} → Derives P t env c (Truth true) → Runs env a o → Runs env (ifte c a b) o
  then_runs {env} d (stays never) = stays (λ g vs. only_then P t env d (never g vs))
  then_runs d (goes g vs f n k q e) = goes g vs f n (in_then d k) q e

  else_runs : {env : List Value} {c a b : Expr} {o : Outcome} → Derives P t env c (Truth false) → Runs env b o → Runs env (ifte c a b) o
  else_runs {env} d (stays never) = stays (λ g vs. only_else P t env d (never g vs))
  else_runs d (goes g vs f n k q e) = goes g vs f n (in_else d k) q e

  ran : Kept P t Ran (DerivesAll P t)
  ran = record {
    k_constant = λ {env}. (r_constant, stays (λ g vs k. comes_spine P t env k));
    k_empty = λ {env}. (r_empty, stays (λ g vs k. comes_spine P t env k));
    k_param = λ {env} h. (r_param h, stays (λ g vs k. comes_spine P t env k));
    k_op = λ {env} u. (r_op u.0, stays (λ g vs k. comes_spine P t env k));
    k_op_error = λ {env} u. (r_op_error u.0, stays (λ g vs k. comes_spine P t env k));
    k_then = λ u w. (r_then u.0 w.0, then_runs u.0 w.1);
    k_else = λ u w. (r_else u.0 w.0, else_runs u.0 w.1);
    k_if_error = λ {env} u. (r_if_error u.0, stays (λ g vs. not_if P t env u.0));
    k_call = λ {env} {g} {xs} {vs} {f} ds h b. let e = ran_ends (on f vs) b in (r_call ds h b.0, goes g vs f e.0 (in_call ds) h e.1);
    k_call_error = λ {env} {g} {xs} ds. (r_call_error ds, stays (λ h vs. not_call P t env g xs ds));
    k_none = r_none;
    k_arg = λ u s. r_arg u.0 s;
    k_arg_error = λ u. r_arg_error u.0;
    k_later_error = λ v u s. r_later_error v u.0 s;
  }

  pub gives-ends : (k : Config) {o : Outcome} → Gives P t k.fun k.args o → (n : ℕ) × EndsAfter P t k n o
  gives-ends k d = ran_ends k (derived ran d)
