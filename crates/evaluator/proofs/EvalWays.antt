-- Laws of the mirror, one for each way through the code:
--   Apart, apart_above                           a number that is none of the first so many
--   eval_deep, eval_sort, eval_other             a word: no depth left, a sort, none of those that nodes have
--   branch_taken, branch_kept                    the branch that an outcome chooses, or none
--   wraps                                        a difference that wraps round
--   lookup_is                                    the number of a configuration that needs no cutting
--   Along                                        a call that has gone past some of its arguments
--   function_at_lem, param_at_lem, first_param_at        the words of a function, by their places
--   args_count, one-stop, one_found, call_with_lem       a call, by the number of its arguments
--   working_plain, working_guard                 what a call gave, by its sort
--   lookup_past                                  what the table holds past its cells
use Rattle.std.proofs.Common.{◌≡◌, ℕ, zero, suc, ◌+◌, ◌-◌, ◌*◌, ◌/◌, ◌%◌, ◌^◌, ◌<◌, ◌≤◌, Option, Some, None, Bool, true, false, cond, eqb, ltb, leb, List, length, get_or, sym, refl, ap, ◌∙◌, mod-eq_of_lt, mul-le-mul, sub-one, arith, ltb-false, ltb-true, leb-false, ne_eqb, le-leb}
use lib.ListN.{get_or-eq_default}
use borrow.Author.Tests.{lt-leb}
use Rattle.codes.specs.{shifted_code, foreign}
use Rattle.decoding.specs.Words.{call_sort, call_guard_sort, sort_of, first_place, second_place, third_place, functions_from, stride, first_in, least_in, most_in, held_in, values_in, lowest_in}
use Rattle.evaluator.specs.{function_at, param_at, digit_bound, bound, most_index, next_index, Digit, lookup_by, passed_by, args_in, working_by, branch_word, call_by, sort_by, eval_word, eval_at, branch_at, call_with_at}

-- a number that is none of the first so many
abbrev pub Apart : ℕ → ℕ → Type 0
Apart zero n = Unit {0}
Apart (suc k) n = Apart k n × (n ≡ k → ⊥)

pub apart_above : (k n : ℕ) → Apart k n → k ≤ n
apart_above zero n h = omega arith
apart_above (suc k) n h = let l = apart_above k n h.0 in let z = h.1 in omega arith

module _ (W traces T env : List ℕ) (d w : ℕ) where
  pub eval_deep : d ≡ 0 → eval_word W traces T env d w ≡ 0
  unfolding eval_word
  eval_deep e = rw e

  pub eval_sort : (d ≡ 0 → ⊥) → {sort : ℕ} (k : ℕ) → sort ≡ sort_of w → sort ≡ k
      → eval_word W traces T env d w ≡ sort_by W traces T env (eval_at W traces T env (d - 1)) w k
  unfolding eval_word
  eval_sort z k e q = go d z
    where
      same : sort_of w ≡ k
      same = sym e ∙ q

      go : (d : ℕ) → (d ≡ 0 → ⊥) → eval_word W traces T env d w ≡ sort_by W traces T env (eval_at W traces T env (d - 1)) w k
      go zero z = absurd (z refl)
      go (suc d) z =
          ap (λ (j : ℕ). sort_by W traces T env (eval_at W traces T env d) w j) same
          ∙ ap (λ (j : ℕ). sort_by W traces T env (eval_at W traces T env j) w k) (sym (sub-one (suc d)))

  -- a sort that no node has
  pub eval_other : (d ≡ 0 → ⊥) → {sort : ℕ} → sort ≡ sort_of w → 16 ≤ sort → eval_word W traces T env d w ≡ 0
  eval_other z {sort} e h =
      let apart : (k : ℕ) → k < 16 → eqb sort k ≡ false = λ k l. ne_eqb sort k (λ q. omega arith) in
      eval_sort z sort e refl
      ∙ simp (
        apart 0 (omega arith),
        apart 1 (omega arith),
        apart 2 (omega arith),
        apart 3 (omega arith),
        apart 4 (omega arith),
        apart 5 (omega arith),
        apart 6 (omega arith),
        apart 7 (omega arith),
        apart 8 (omega arith),
        apart 9 (omega arith),
        apart 10 (omega arith),
        apart 11 (omega arith),
        apart 12 (omega arith),
        apart 13 (omega arith),
        apart 14 (omega arith),
        apart 15 (omega arith),
      )

  -- the branch chosen, by the word that stands for it
  pub branch_taken : (c : ℕ) {v : ℕ} → branch_word W w c ≡ Some v → branch_at W traces T env d w c ≡ eval_word W traces T env d v
  unfolding branch_at
  branch_taken c {v} e = go (eqb c 2) (eqb c 1) e
    where
      go : (yes other : Bool) → cond yes (Some (get_or W (second_place w) 0)) (cond other (Some (get_or W (third_place w) 0)) None) ≡ Some v
          → cond yes (eval_at W traces T env d (second_place w)) (cond other (eval_at W traces T env d (third_place w)) c) ≡ eval_word W traces T env d v
      go true other e = ap (eval_word W traces T env d) cc
      go false true e = ap (eval_word W traces T env d) cc
      go false false e = absurd cc

  pub branch_kept : (c : ℕ) → branch_word W w c ≡ None → branch_at W traces T env d w c ≡ c
  unfolding branch_at
  branch_kept c e = go (eqb c 2) (eqb c 1) e
    where
      go : (yes other : Bool) → ◌≡◌ {A = Option ℕ} (cond yes (Some (get_or W (second_place w) 0)) (cond other (Some (get_or W (third_place w) 0)) None)) None
          → cond yes (eval_at W traces T env d (second_place w)) (cond other (eval_at W traces T env d (third_place w)) c) ≡ c
      go true other e = absurd cc
      go false true e = absurd cc
      go false false e = refl

-- ---- Digits

-- a difference that wraps round is beyond every radix
pub wraps : (kind c r : ℕ) {low : ℕ} → c < digit_bound → r < 2 ^ 64 → low ≡ lowest_in kind → (r + low) % 2 ^ 64 ≡ c → Digit kind c r
wraps kind c r {low} h l e q = go (ltb c (lowest_in kind)) refl
  where
    back : (r + lowest_in kind) % 2 ^ 64 ≡ c
    back = ap (λ (k : ℕ). (r + k) % 2 ^ 64) (sym e) ∙ q

    go : (b : Bool) → ltb c (lowest_in kind) ≡ b → Digit kind c r
    go true t =
        let below = ltb-true c (lowest_in kind) t in
        let far : values_in kind ≤ r = omega arith in
        (simp (t, le-leb _ _ far), λ o. absurd (omega arith), back)
    go false t =
        let above = ltb-false c (lowest_in kind) t in
        let same : r ≡ c - lowest_in kind = omega arith in
        (simp (t, same), λ o. same, back)

-- a value that is not foreign to its kind has a digit
near : (kind v : ℕ) → foreign (lowest_in kind) (values_in kind) v ≡ false → (lowest_in kind ≤ v) × (v - lowest_in kind < values_in kind)
near kind v = go (ltb v (lowest_in kind)) refl
  where
    go : (b : Bool) → ltb v (lowest_in kind) ≡ b → cond b true (leb (values_in kind) (v - lowest_in kind)) ≡ false
        → (lowest_in kind ≤ v) × (v - lowest_in kind < values_in kind)
    go true t f = absurd cc
    go false t f = (ltb-false v (lowest_in kind) t, leb-false _ _ f)

next_index_small : (index radix digit : ℕ) → radix < digit_bound → digit < radix → next_index index radix digit < most_index
next_index_small index radix digit h k =
    let product : index % bound * radix ≤ 4294967295 * 65535 = mul-le-mul {n₂ = 4294967295} {m₂ = 65535} (omega arith) (omega arith) in
    omega arith

pub lookup_is : (function : ℕ) (T : List ℕ) (index : ℕ) {x : ℕ} → index < most_index → x ≡ lookup_by function T (index % most_index) → x ≡ lookup_by function T index
lookup_is function T index h e = e ∙ ap (lookup_by function T) (mod-eq_of_lt h)

-- the one argument of a call, by its digit
passed_stop : (kind v : ℕ) {digit : ℕ} → Digit kind v digit → values_in kind ≤ digit → passed_by kind 0 v ≡ None
passed_stop kind v d l = let far : foreign (lowest_in kind) (values_in kind) v ≡ true = sym d.0 ∙ le-leb _ _ l in
    rw far

passed_one : (kind v : ℕ) {digit : ℕ} → Digit kind v digit → digit < values_in kind → passed_by kind 0 v ≡ Some digit
passed_one kind v {digit} d l =
    let own : foreign (lowest_in kind) (values_in kind) v ≡ false = sym d.0 ∙ lt-leb _ _ l in
    let same : next_index 0 (values_in kind) (v - lowest_in kind) ≡ digit = omega (arith, d.1 (near kind v own).0) in
    rw (own, same)

-- ---- Calls
-- a call of `count` arguments that has gone past i of them; the places of the others stand in `rest`
pub record Along (W T : List ℕ) (eval : ℕ → ℕ) (g count places index rest i : ℕ) : Type 0 where
  pub below : i ≤ count
  pub most : count < 8
  pub small : index < most_index
  pub same : args_in W T eval g (count - i) i index rest ≡ args_in W T eval g count 0 0 places

pub along_start : (W T : List ℕ) (eval : ℕ → ℕ) (g count places : ℕ) → count < 8 → Along W T eval g count places 0 places 0
along_start W T eval g count places h =
    let all : count - 0 ≡ count = omega arith in
    record { below = omega arith; most = h; small = omega arith; same = rw all }

module _ {W T : List ℕ} {eval : ℕ → ℕ} {g count places index rest i : ℕ} (u : Along W T eval g count places index rest i) where
  pub along_end : count ≤ i → {f : ℕ} → f ≡ function_at W g → args_in W T eval g count 0 0 places ≡ lookup_by f T index
  unfolding args_in
  along_end h e =
      let none : count - i ≡ 0 = omega arith in
      sym u.same ∙ ap (λ (c : ℕ). args_in W T eval g c i index rest) none ∙ ap (λ (f : ℕ). lookup_by f T index) (sym e)

  module _ (h : i < count) {kind v : ℕ} (k : kind ≡ param_at W g i) (e : v ≡ eval (rest % 4096)) where
    next : args_in W T eval g count 0 0 places ≡ args_in W T eval g (suc (count - (i + 1))) i index rest
    next =
        let some : count - i ≡ suc (count - (i + 1)) = omega arith in
        sym u.same ∙ ap (λ (c : ℕ). args_in W T eval g c i index rest) some

    pub along_stop : passed_by kind index v ≡ None → args_in W T eval g count 0 0 places ≡ v
    unfolding args_in
    along_stop p = go (foreign (lowest_in kind) (values_in kind) v) refl p
      where
        go : (b : Bool) → foreign (lowest_in kind) (values_in kind) v ≡ b
            → ◌≡◌ {A = Option ℕ} (cond b None (Some (next_index index (values_in kind) (v - lowest_in kind)))) None
            → args_in W T eval g count 0 0 places ≡ v
        go true far p = next ∙ simp (sym k, sym e, far)
        go false own p = absurd cc

    turned : foreign (lowest_in kind) (values_in kind) v ≡ false
        → args_in W T eval g (suc (count - (i + 1))) i index rest
        ≡ args_in W T eval g (count - (i + 1)) (i + 1) (next_index index (values_in kind) (v - lowest_in kind)) (rest / 4096)
    unfolding args_in
    turned own = simp (sym k, sym e, own)

    pub along_more : {x : ℕ} → passed_by kind index v ≡ Some x → Along W T eval g count places x (rest / 4096) (i + 1)
    unfolding args_in
    along_more {x} p = go (foreign (lowest_in kind) (values_in kind) v) refl p
      where
        go : (b : Bool) → foreign (lowest_in kind) (values_in kind) v ≡ b
            → cond b None (Some (next_index index (values_in kind) (v - lowest_in kind))) ≡ Some x
            → Along W T eval g count places x (rest / 4096) (i + 1)
        go true far p = absurd cc
        go false own p =
            let same : next_index index (values_in kind) (v - lowest_in kind) ≡ x = cc in
            record {
              below = omega arith;
              most = u.most;
              small = rw (← same) (next_index_small index _ _ (omega arith) (near kind v own).1);
              same = sym (next ∙ turned own ∙ ap (λ (y : ℕ). args_in W T eval g (count - (i + 1)) (i + 1) y (rest / 4096)) same);
            }

-- ---- Words of functions

module _ (W : List ℕ) (g : ℕ) {place : ℕ} (e : place ≡ functions_from + stride * g) where
  pub function_at_lem : get_or W place 0 ≡ function_at W g
  function_at_lem = ap (λ (p : ℕ). get_or W p 0) e

  pub param_at_lem : (i : ℕ) → get_or W (place + 1 + i) 0 ≡ param_at W g i
  param_at_lem i = ap (λ (p : ℕ). get_or W (p + 1 + i) 0) e

  pub first_param_at : get_or W (place + 1) 0 ≡ param_at W g 0
  first_param_at = let none : place + 1 ≡ place + 1 + 0 = omega arith in ap (λ (p : ℕ). get_or W p 0) none ∙ param_at_lem 0

-- ---- Calls as they stand in words

pub args_count : (W T : List ℕ) (eval : ℕ → ℕ) (g places : ℕ) {count k : ℕ} → count ≡ k → args_in W T eval g count 0 0 places ≡ args_in W T eval g k 0 0 places
args_count W T eval g places e = ap (λ (c : ℕ). args_in W T eval g c 0 0 places) e

-- what a call gave, by its sort
pub working_plain : (number : ℕ) {sort x : ℕ} → sort ≡ call_sort → x ≡ working_by sort number → x ≡ number
working_plain number e q = q ∙ rw e

pub working_guard : (number : ℕ) {sort x : ℕ} → sort ≡ call_guard_sort → x ≡ working_by sort number → x ≡ shifted_code number
working_guard number e q = q ∙ rw e

-- one argument, by its value
module _ (W T : List ℕ) (g places v : ℕ) {kind : ℕ} (k : kind ≡ param_at W g 0) where
  start : Along W T (λ (place : ℕ). v) g 1 places 0 places 0
  start = along_start W T (λ (place : ℕ). v) g 1 places (omega arith)

  pub one-stop : {digit values : ℕ} → Digit kind v digit → values ≡ values_in kind → values ≤ digit → args_in W T (λ (place : ℕ). v) g 1 0 0 places ≡ v
  one-stop d q l = along_stop start (omega arith) k refl (passed_stop kind v d (rw q at l))

  pub one_found : {digit values f : ℕ} → Digit kind v digit → values ≡ values_in kind → digit < values → f ≡ function_at W g
      → args_in W T (λ (place : ℕ). v) g 1 0 0 places ≡ lookup_by f T digit
  one_found d q l e = along_end (along_more start (omega arith) k refl (passed_one kind v d (rw q at l))) (omega arith) e

pub call_with_lem : (W T : List ℕ) (eval : ℕ → ℕ) (w : ℕ) {v : ℕ} → v ≡ eval (first_place w) → call_with_at W T w v ≡ call_by W T eval w 1
unfolding call_with_at args_in
call_with_lem W T eval w e = rw e

-- ---- What the table holds

module _ (function : ℕ) (T : List ℕ) (index : ℕ) where
  held_none : held_in function 0 ≡ 0
  held_none = go (ltb 0 (least_in function)) (ltb (most_in function) 0)
    where
      go : (b c : Bool) → ◌≡◌ {A = ℕ} (cond b 0 (cond c 0 0)) 0
      go true c = refl
      go false true = refl
      go false false = refl

  pub lookup_past : {first : ℕ} → first ≡ first_in function → length T ≤ first + index → lookup_by function T index ≡ 0
  unfolding lookup_by
  lookup_past e h = ap (held_in function) (ap (λ (f : ℕ). get_or T (f + index) 0) (sym e) ∙ get_or-eq_default T 0 h) ∙ held_none
