-- Laws of following over words, for each loop of the code its start, a turn, its end:
--   mapped                                          the words of bodies
--   spine_here, spine_on, spine_end                 the nodes along ifs
--   Put, put_start, put_fails, put_more, put_end    the arguments of a call
--   Following, following-start, following-plain,
--   following-stop, following-more, following_end   the calls
use Prim.Native.Nat.{ℕ, zero, suc, ◌+◌, ◌-◌, ◌/◌, ◌<◌, ◌≤◌}
use native.Mathlib.Omega.{arith}
use mathlib.Core.Path.{◌≡◌, refl, sym, ap, ◌∙◌}
use mathlib.Core.Bool.{Bool, true, false, cond}
use mathlib.Core.List.{List}
use lib.Dec.{ltb, eqb}
use Rattle.std.specs.Prelude.{Ok, Err}
use lib.ListN.{length, get_or, set, length-set}
use borrow.Author.Tests.{eq-eqb, ne_eqb, eqb-true, eqb-false, lt-ltb, le-ltb}
use Rattle.std.specs.Array.{MapsFrom}
use Rattle.std.specs.Fn.{Called}
use denote.Param.Members.{Mut}
use Rattle.semantics.specs.Cells.{undecided_code}
use Rattle.decoding.specs.Words.{call_sort, sort_of, callee_of}
use Rattle.decoding.specs.Decoding.{constant_by}
use Rattle.syntax.specs.Limits.{most_depth}
use Rattle.evaluator.specs.{eval_word}
use Rattle.follow.specs.declared.run.Ran.{Ran}
use Rattle.follow.specs.Mirror.{failing, is_if, condition_by, branch_word, spine_of, arg_by, arg_in, args_stop, args_put, args_left, args_stop_at, args_left_at, run_from, value_told, args_told}

-- ---- Bodies

-- calls of a closure that stays as it is, one for each element of an array
module _ {F : Type 0} (g : Mut F (ℕ × Unit {0}) ℕ) (f : F) (h : ℕ → ℕ) (told : (x y : ℕ) (q : F) → Called g f (x, tt) y q → (q ≡ f) × (y ≡ h x)) where
  pub mapped : (xs ys : List ℕ) (n i : ℕ) (p : F) → p ≡ f → MapsFrom g p xs ys i n → (k : ℕ) → i ≤ k → k < i + n → get_or ys k 0 ≡ h (get_or xs k 0)
  mapped xs ys zero i p e m k l l' = absurd (omega arith)
  mapped xs ys (suc n) i p e m k l l' =
      let call = told m.1 m.2 m.0 (rw e at m.5) in
      go (eqb k i) refl (m.4.1 0 ∙ call.1 ∙ ap h (sym (m.3.1 0))) (λ l''. mapped xs ys n (i + 1) m.0 call.0 m.6 k l'' (omega arith))
    where
      go : (b : Bool) → eqb k i ≡ b → get_or ys i 0 ≡ h (get_or xs i 0) → (i + 1 ≤ k → get_or ys k 0 ≡ h (get_or xs k 0)) → get_or ys k 0 ≡ h (get_or xs k 0)
      go true q here later = let same = eqb-true k i q in rw same here
      go false q here later = let other = eqb-false k i q in later (omega arith)

-- ---- Along ifs

module _ (W traces T env : List ℕ) where
  abbrev spine : ℕ → ℕ → ℕ
  spine left w = spine_of W traces T env left w

  abbrev condition : ℕ → ℕ
  condition w = condition_by W traces T env w

  -- so much depth is left, and the whole comes to z
  pub spine_end : (left w : ℕ) {z : ℕ} → spine left w ≡ z → left ≤ 0 → constant_by undecided_code ≡ z
  unfolding spine_of
  spine_end zero w e h = e
  spine_end (suc left) w e h = absurd (omega arith)

  pub spine_here : (left w : ℕ) {z : ℕ} → spine left w ≡ z → 0 < left → {b : Bool} → b ≡ is_if (sort_of w) → b ≡ false → w ≡ z
  unfolding spine_of
  spine_here zero w e h q n = absurd (omega arith)
  spine_here (suc left) w e h q n = simp (sym q ∙ n) at e

  pub spine_on : (left w next : ℕ) {z : ℕ} → spine left w ≡ z → left ≡ suc next → {b : Bool} → b ≡ is_if (sort_of w) → b ≡ true → {c w' : ℕ} → c ≡ condition w
      → w' ≡ branch_word W w c → spine next w' ≡ z
  unfolding spine_of
  spine_on left w next e h q y g p = simp (p, g) (simp (sym q ∙ y) at (rw h at e))

-- ---- Arguments

-- the number of an error is not that of undecided
failing-some : (c : ℕ) → failing c ≡ true → c ≡ undecided_code → ⊥
failing-some c e z = let y : failing undecided_code ≡ true = rw z at e in let clash : ◌≡◌ {A = ℕ} 0 1 = cc in omega arith

-- an error leaves the array as it was; where there is none the values are put in
pub left-stop : (eval : ℕ → ℕ) (count k rest : ℕ) (env : List ℕ) {v : ℕ} → failing v ≡ true → v ≡ args_stop eval count k 0 rest → env ≡ args_left eval count k rest env
unfolding args_left
left-stop eval count k rest env {v} y e = simp (ne_eqb _ _ (λ z. failing-some v y (e ∙ z)))

pub left-put : (eval : ℕ → ℕ) (count k rest : ℕ) (env : List ℕ) → undecided_code ≡ args_stop eval count k 0 rest → args_put eval count k 0 rest env ≡ args_left eval count k rest env
unfolding args_left
left-put eval count k rest env e = simp (eq-eqb _ _ (sym e))

-- what is told of an argument
told-ok : {v : ℕ} (c : ℕ) → Ok v ≡ value_told c → (v ≡ c) × (failing c ≡ false)
told-ok {v} c e = go (failing c) refl e
  where
    go : (b : Bool) → failing c ≡ b → Ok v ≡ cond b (Err c) (Ok c) → (v ≡ c) × (failing c ≡ false)
    go true q e' = let clash : ◌≡◌ {A = ℕ} 0 1 = cc in absurd (omega arith)
    go false q e' = (cc, q)

told-err : {v : ℕ} (c : ℕ) → Err v ≡ value_told c → (v ≡ c) × (failing c ≡ true)
told-err {v} c e = go (failing c) refl e
  where
    go : (b : Bool) → failing c ≡ b → Err v ≡ cond b (Err c) (Ok c) → (v ≡ c) × (failing c ≡ true)
    go true q e' = (cc, q)
    go false q e' = let clash : ◌≡◌ {A = ℕ} 0 1 = cc in absurd (omega arith)

module _ (eval : ℕ → ℕ) (count many rest₀ : ℕ) (env : List ℕ) where
  -- the arguments before i have values, which are in an array
  pub record Put (i rest : ℕ) (next : List ℕ) : Type 0 where
    pub long : length next ≡ length env
    pub stop : args_stop eval count many 0 rest₀ ≡ args_stop eval count (many - i) i rest
    pub put : args_put eval count many 0 rest₀ env ≡ args_put eval count (many - i) i rest next

  pub put_start : Put 0 rest₀ env
  put_start = let all : many - 0 ≡ many = omega arith in record { long = refl; stop = rw all; put = rw all }

  module _ {i rest : ℕ} {next : List ℕ} (u : Put i rest next) where
    pub put_end : many ≤ i → (Ok tt ≡ args_told (args_stop eval count many 0 rest₀)) × (next ≡ args_left eval count many rest₀ env)
    unfolding args_stop args_put
    put_end h =
        let none : many - i ≡ 0 = omega arith in
        let stop : args_stop eval count many 0 rest₀ ≡ undecided_code = rw none at u.stop in
        (rw stop, sym (rw none at u.put) ∙ left-put eval count many rest₀ env (sym stop))

    module _ (h : i < many) {v : ℕ} (g : v ≡ arg_by eval (ltb i count) rest) where
      more : many - i ≡ suc (many - (i + 1))
      more = omega arith

      pub put_fails : {w : ℕ} → Err w ≡ value_told v → (Err w ≡ args_told (args_stop eval count many 0 rest₀)) × (env ≡ args_left eval count many rest₀ env)
      unfolding args_stop
      put_fails {w} e =
          let t = told-err v e in
          let fails : failing (arg_in eval count i rest) ≡ true = rw g at t.1 in
          let stop : args_stop eval count many 0 rest₀ ≡ v = simp (more, fails) at u.stop ∙ sym g in
          let some : eqb v undecided_code ≡ false = ne_eqb _ _ (λ z. failing-some v t.1 z) in
          (rw (stop, some, t.0), left-stop eval count many rest₀ env t.1 (sym stop))

      pub put_more : {w : ℕ} → Ok w ≡ value_told v → Put (i + 1) (rest / 4096) (set next i w)
      unfolding args_stop args_put
      put_more {w} e =
          let t = told-ok v e in
          let fine : failing (arg_in eval count i rest) ≡ false = rw g at t.1 in
          record {
            long = length-set next i w ∙ u.long;
            stop = simp (more, fine) at u.stop;
            put = rw (t.0, g) (rw more at u.put);
          }

-- ---- Calls

-- what is told of all arguments
args-ok : {o : Unit {0}} (c : ℕ) → Ok o ≡ args_told c → eqb c undecided_code ≡ true
args-ok {o} c e = go (eqb c undecided_code) refl e
  where
    go : (b : Bool) → eqb c undecided_code ≡ b → Ok o ≡ cond b (Ok (tt {0})) (Err c) → eqb c undecided_code ≡ true
    go true q e' = q
    go false q e' = let clash : ◌≡◌ {A = ℕ} 0 1 = cc in absurd (omega arith)

args-err : {v : ℕ} (c : ℕ) → Err v ≡ args_told c → (v ≡ c) × (eqb c undecided_code ≡ false)
args-err {v} c e = go (eqb c undecided_code) refl e
  where
    go : (b : Bool) → eqb c undecided_code ≡ b → Err v ≡ cond b (Ok (tt {0})) (Err c) → (v ≡ c) × (eqb c undecided_code ≡ false)
    go true q e' = let clash : ◌≡◌ {A = ℕ} 0 1 = cc in absurd (omega arith)
    go false q e' = (cc, q)

module _ (W traces T bodies : List ℕ) (most : ℕ) (env₀ : List ℕ) (body₀ : ℕ) where
  abbrev whole : Ran
  whole = run_from W traces T bodies most 0 env₀ body₀

  -- so many calls were made, and have come to a body on some values
  pub record Following (env : List ℕ) (body calls : ℕ) : Type 0 where
    pub few : calls ≤ most
    pub same : run_from W traces T bodies (most - calls) calls env body ≡ whole

  pub following-start : Following env₀ body₀ 0
  following-start = let all : most - 0 ≡ most = omega arith in record { few = omega arith; same = rw all }

  module _ {env : List ℕ} {body calls : ℕ} (u : Following env body calls) where
    pub following_end : most ≤ calls → record { outcome = undecided_code; calls = most } ≡ whole
    unfolding run_from
    following_end h =
        let none : most - calls ≡ 0 = omega arith in
        let all : calls ≡ most = omega (arith, u.few) in
        rw all at (rw none at u.same)

    module _ (h : calls < most) {node : ℕ} (reached : node ≡ spine_of W traces T env most_depth body) {sort : ℕ} (sorted : sort ≡ sort_of node) where
      fuel_left : most - calls ≡ suc (most - (calls + 1))
      fuel_left = omega arith

      -- a node that is no call
      pub following-plain : sort < call_sort → {c : ℕ} → c ≡ eval_word W traces T env most_depth node → record { outcome = c; calls = calls } ≡ whole
      unfolding run_from
      following-plain low e =
          let plain : ltb (sort_of node) call_sort ≡ true = lt-ltb (sort_of node) call_sort (rw sorted at low) in
          ap (λ (c : ℕ). record { outcome = c; calls = calls }) e ∙ (simp (fuel_left, ← reached, plain) at u.same)

      module _ (high : call_sort ≤ sort) where
        call : ltb (sort_of node) call_sort ≡ false
        call = le-ltb (sort_of node) call_sort (rw sorted at high)

        pub following-stop : {error : ℕ} → Err error ≡ args_told (args_stop_at W traces T env node) → record { outcome = error; calls = calls } ≡ whole
        unfolding run_from
        following-stop stop =
            let told = args-err (args_stop_at W traces T env node) stop in
            ap (λ (c : ℕ). record { outcome = c; calls = calls }) told.0 ∙ (simp (fuel_left, ← reached, call, told.1) at u.same)

        pub following-more : {o : Unit {0}} → Ok o ≡ args_told (args_stop_at W traces T env node) → {env' : List ℕ} {body' : ℕ} → env' ≡ args_left_at W traces T env node → body' ≡ get_or bodies (callee_of node) 0
            → Following env' body' (calls + 1)
        unfolding run_from
        following-more stop e b =
            let none = args-ok (args_stop_at W traces T env node) stop in
            record { few = omega arith; same = rw (e, b) (simp (fuel_left, ← reached, call, none) at u.same) }
