-- One visit, on any table:
--   lookup-held, lookup-held_at, lookup-kinds    a table read by configuration
--   held_at-place, held_at_zero                   a table read by cell
--   stored_open, stored-body                    what a visit stores
--   visit_none, visit-some, length-visit        what a visit leaves
--   stored_kind, stored_derives                 what is stored is of its function's kind, and has a derivation
--   Good, visit_good                            a table that only derived outcomes were stored in stays one
--   undecided, undecided_le, undecided-visit    each outcome stored leaves one undecided cell fewer
use Prim.Native.Nat.{ℕ, zero, suc, ◌+◌, ◌≤◌, ◌<◌}
use native.Mathlib.Omega.{arith}
use native.Mathlib.Decide.{ℕ_discrete}
use mathlib.Core.Path.{◌≡◌, refl, sym, ap, ◌∙◌}
use mathlib.Core.Logic.{◌≢◌}
use mathlib.Core.List.{List}
use mathlib.Core.Option.{Option, none, some}
use lib.ListN.{length, get_elem?, get_or, set, length-set}
use lib.Dec as dec
use lib.Seq.{get_or-set_same, get_or-set_other}
use Rattle.semantics.specs.declared.Outcome.{Outcome}
use Rattle.semantics.specs.declared.Demand.TheVariants.{Only as only}
use Rattle.semantics.specs.Language.{Function, Program, Traces, Value, InKinds, WellKinded}
use Rattle.semantics.specs.Rules.{Derives}
use Rattle.semantics.specs.Numbering.{cells, cell_of, Config, config_at}
use Rattle.semantics.specs.Cells.{code_of, of_kind, outcome_in}
use Rattle.semantics.specs.Bodies.{body_outcome}
use Rattle.semantics.specs.Visits.{Table, lookup, held_in, held_at, if_undecided, stored, stored_in, one_if, visit}
use Rattle.semantics.proofs.Bodies.{KindCalls, kinded, SoundCalls, sound}
use Rattle.semantics.proofs.Numbering.{config_cell, Place, place}
use Rattle.semantics.proofs.Cells.{held_code, code_held}

-- ---- A table, read by configuration and by cell

module _ (P : Program) (t : Traces) (T : Table) where
  pub lookup-held : (g : ℕ) (vs : List Value) (f : Function) → get_elem? P g ≡ some f
      → lookup P t T g vs ≡ outcome_in t f.result (get_or T (cell_of t P g vs) 0)
  unfolding lookup
  lookup-held g vs f e = rw e

  pub lookup-kinds : KindCalls P t (lookup P t T)
  lookup-kinds g vs f o e h = (code_held t f.result (get_or T (cell_of t P g vs) 0) o (sym (lookup-held g vs f e) ∙ h)).1

  pub held_at-place : (c : ℕ) (r : Place t P c) → held_at P t T c ≡ outcome_in t r.f.result (get_or T c 0)
  unfolding held_at
  held_at-place c r = rw r.config

  pub lookup-held_at : (g : ℕ) (vs : List Value) (f : Function) → get_elem? P g ≡ some f → InKinds t f.params vs
      → lookup P t T g vs ≡ held_at P t T (cell_of t P g vs)
  unfolding held_at
  lookup-held_at g vs f e h = lookup-held g vs f e ∙ rw (config_cell t P g f vs e h)

held_zero : (t : Traces) (k : Option Config) → held_in t k 0 ≡ none
unfolding outcome_in
held_zero t none = refl
held_zero t (some k) = refl

pub held_at_zero : (P : Program) (t : Traces) (T : Table) (c : ℕ) → get_or T c 0 ≡ 0 → held_at P t T c ≡ none
unfolding held_at
held_at_zero P t T c e = rw e (held_zero t (config_at t P c))

-- ---- What a visit stores and leaves

if_open : (old new : Option Outcome) (o : Outcome) → if_undecided old new ≡ some o → old ≡ none
if_open none new o e = refl
if_open (some a) new o e = cc

module _ (P : Program) (t : Traces) (T : Table) (c : ℕ) where
  pub stored_open : (o : Outcome) → stored P t T c ≡ some o → held_at P t T c ≡ none
  unfolding stored
  stored_open o e = if_open (held_at P t T c) _ o e

  pub stored-body : (r : Place t P c) → held_at P t T c ≡ none → stored P t T c ≡ body_outcome t (lookup P t T) r.vs r.f.body
  unfolding stored
  stored-body r h = rw (h, r.config)

  pub visit_none : stored P t T c ≡ none → visit P t c T ≡ T
  unfolding visit
  visit_none e = rw e

  pub visit-some : (o : Outcome) → stored P t T c ≡ some o → visit P t c T ≡ set T c (code_of o)
  unfolding visit
  visit-some o e = rw e

  length-stored : (s : Option Outcome) → length (stored_in T c s) ≡ length T
  length-stored none = refl
  length-stored (some o) = length-set T c (code_of o)

  pub length-visit : length (visit P t c T) ≡ length T
  unfolding visit
  length-visit = length-stored (stored P t T c)

-- ---- The cell stored, and the others

un_config : {a b : Config} {x : Option Config} → x ≡ some a → x ≡ some b → a ≡ b
un_config p q = cc

held-other : (P : Program) (t : Traces) (T : Table) (c : ℕ) (o : Outcome) (j : ℕ) → j ≢ c → held_at P t (set T c (code_of o)) j ≡ held_at P t T j
unfolding held_at
held-other P t T c o j h = rw (get_or-set_other T c j (code_of o) 0 h)

module _ (P : Program) (t : Traces) (wk : WellKinded P) (T : Table) (c : ℕ) (r : Place t P c) (o : Outcome) (s : stored P t T c ≡ some o) where
  gives : body_outcome t (lookup P t T) r.vs r.f.body ≡ some o
  gives = sym (stored-body P t T c r (stored_open P t T c o s)) ∙ s

  pub stored_kind : dec.T (of_kind t r.f.result o)
  stored_kind =
      kinded P t (lookup P t T) (lookup-kinds P t T) r.f.params r.vs r.are_in r.f.body (only r.f.result) o
      (wk r.g r.f r.is_fun) gives

  pub stored_derives : SoundCalls P t (lookup P t T) → Derives P t r.vs r.f.body o
  stored_derives ok =
      sound P t (lookup P t T) (lookup-kinds P t T) ok r.f.params r.vs r.are_in r.f.body (only r.f.result) o
      (wk r.g r.f r.is_fun) gives

  held_same : c < length T → held_at P t (set T c (code_of o)) c ≡ some o
  held_same lt = held_at-place P t (set T c (code_of o)) c r ∙ rw (get_or-set_same T c (code_of o) 0 lt) (held_code t r.f.result o stored_kind)

-- ---- The invariant of a filling

pub record Good (P : Program) (t : Traces) (T : Table) : Type 0 where
  pub long : cells t P ≤ length T
  pub clean : (c : ℕ) → c < cells t P → held_at P t T c ≡ none → get_or T c 0 ≡ 0
  pub sound : SoundCalls P t (lookup P t T)

module _ (P : Program) (t : Traces) (wk : WellKinded P) (T : Table) (c : ℕ) (r : Place t P c) (o : Outcome)
    (s : stored P t T c ≡ some o) (lt : c < length T) where
  sound-set : SoundCalls P t (lookup P t T) → SoundCalls P t (lookup P t (set T c (code_of o)))
  sound-set ok g vs f x e h l = go (ℕ_discrete (cell_of t P g vs) c)
    where
      l' : held_at P t (set T c (code_of o)) (cell_of t P g vs) ≡ some x
      l' = sym (lookup-held_at P t (set T c (code_of o)) g vs f e h) ∙ l

      go : Dec (cell_of t P g vs ≡ c) → Derives P t vs f.body x
      go (yes a) =
          let k : config_at t P c ≡ some (record { fun = f; args = vs }) = rw a at (config_cell t P g f vs e h) in
          let k' : ◌≡◌ {A = Config} (record { fun = f; args = vs }) (record { fun = r.f; args = r.vs }) = un_config k r.config in
          let same : x ≡ o = cc (held_same P t wk T c r o s lt, a, l') in
          rw (ap (λ (z : Config). z.fun) k', ap (λ (z : Config). z.args) k', same) (stored_derives P t wk T c r o s ok)
      go (no n) = ok g vs f x e h (lookup-held_at P t T g vs f e h ∙ (sym (held-other P t T c o (cell_of t P g vs) n) ∙ l'))

  clean_set : ((j : ℕ) → j < cells t P → held_at P t T j ≡ none → get_or T j 0 ≡ 0)
      → (j : ℕ) → j < cells t P → held_at P t (set T c (code_of o)) j ≡ none → get_or (set T c (code_of o)) j 0 ≡ 0
  clean_set ok j l h = go (ℕ_discrete j c)
    where
      go : Dec (j ≡ c) → get_or (set T c (code_of o)) j 0 ≡ 0
      go (yes a) = cc (held_same P t wk T c r o s lt, a, h)
      go (no n) = get_or-set_other T c j (code_of o) 0 n ∙ ok j l (sym (held-other P t T c o j n) ∙ h)

pub visit_good : (P : Program) (t : Traces) → WellKinded P → (T : Table) (c : ℕ) → c < cells t P → Good P t T → Good P t (visit P t c T)
visit_good P t wk T c lt ok = go (stored P t T c) refl
  where
    go : (s : Option Outcome) → stored P t T c ≡ s → Good P t (visit P t c T)
    go none e = rw (visit_none P t T c e) ok
    go (some o) e =
        let r = place t P c lt in
        let l : c < length T = omega (arith, ok.long) in
        rw (visit-some P t T c o e)
        (record {
          long = rw (length-set T c (code_of o)) ok.long;
          clean = clean_set P t wk T c r o e l ok.clean;
          sound = sound-set P t wk T c r o e l ok.sound;
        })

-- ---- The count of undecided cells

abbrev one_if_none : {A : Type 0} → Option A → ℕ
one_if_none none = 1
one_if_none (some a) = 0

-- how many of h 0, h 1, .., h (n - 1) are none
unfoldable pub count_none : {A : Type 0} → (ℕ → Option A) → ℕ → ℕ
count_none h zero = 0
count_none h (suc n) = one_if_none (h n) + count_none h n

one_le : {A : Type 0} (o : Option A) → one_if_none o ≤ 1
one_le none = omega arith
one_le (some a) = omega arith

count_le : {A : Type 0} (h : ℕ → Option A) (n : ℕ) → count_none h n ≤ n
unfolding count_none
count_le h zero = omega arith
count_le h (suc n) = omega (arith, one_le (h n), count_le h n)

count_same : {A : Type 0} (h k : ℕ → Option A) (n : ℕ) → ((j : ℕ) → j < n → k j ≡ h j) → count_none k n ≡ count_none h n
unfolding count_none
count_same h k zero e = refl
count_same h k (suc n) e = rw (e n (omega arith), count_same h k n (λ j l. e j (omega arith)))

count_falls : {A : Type 0} (h k : ℕ → Option A) (c : ℕ) (a : A) → h c ≡ none → k c ≡ some a → ((j : ℕ) → j ≢ c → k j ≡ h j) → (n : ℕ) → c < n
    → count_none k n + 1 ≡ count_none h n
unfolding count_none
count_falls h k c a p q e zero l = absurd (omega arith)
count_falls h k c a p q e (suc n) l = go (λ m. count_falls h k c a p q e n m) (ℕ_discrete n c)
  where
    go : (c < n → count_none k n + 1 ≡ count_none h n) → Dec (n ≡ c) → count_none k (suc n) + 1 ≡ count_none h (suc n)
    go ih (yes x) =
        let s : count_none k n ≡ count_none h n = count_same h k n (λ j m. e j (λ y. omega arith)) in
        let kn : k n ≡ some a = rw x q in
        let hn : h n ≡ none = rw x p in
        rw (kn, hn) (omega arith)
    go ih (no y) = let s = ih (omega arith) in rw (e n y) (omega arith)

-- how many cells hold no outcome
unfoldable pub undecided : Program → Traces → Table → ℕ
undecided P t T = count_none (held_at P t T) (cells t P)

pub undecided_le : (P : Program) (t : Traces) (T : Table) → undecided P t T ≤ cells t P
unfolding undecided
undecided_le P t T = count_le (held_at P t T) (cells t P)

pub undecided-visit : (P : Program) (t : Traces) → WellKinded P → (T : Table) (c : ℕ) → c < cells t P → cells t P ≤ length T
    → undecided P t (visit P t c T) + one_if (stored P t T c) ≡ undecided P t T
unfolding undecided
undecided-visit P t wk T c lt len = go (stored P t T c) refl
  where
    go : (s : Option Outcome) → stored P t T c ≡ s → undecided P t (visit P t c T) + one_if s ≡ undecided P t T
    go none e = rw (visit_none P t T c e) (omega arith)
    go (some o) e =
        let l : c < length T = omega arith in
        let same = held_same P t wk T c (place t P c lt) o e l in
        rw (visit-some P t T c o e)
        (count_falls (held_at P t T) (held_at P t (set T c (code_of o))) c o (stored_open P t T c o e) same (held-other P t T c o) (cells t P) lt)
