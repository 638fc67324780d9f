-- Decoding and then reading gives the node's equation:
--   word-sort              a word, by its sort
--   constant-word, param-word
--   op-word                hd, tl and null, fused with a parameter or not
--   if_word                an if, fused with its condition or not
--   Stand, stand           the places of operands stand in a word
--   leaves_kept            whether they are leaves, by words that are the same from a place on
--   call-word              a call, by its callee's result kind
use Rattle.std.proofs.Common.{rules, ◌≡◌, ℕ, zero, suc, ◌+◌, ◌-◌, ◌*◌, ◌/◌, ◌%◌, ◌<◌, ◌≤◌, Some, None, Bool, true, false, cond, eqb, ltb, List, get_or, sym, refl, ap, ◌∙◌, mod-eq_of_lt, arith, ltb-true, ltb-false, eqb-true, ne_eqb}
use Rattle.std.specs.Option.{unwrap_or}
use borrow.Author.Tests.{eqb-false}
use Rattle.semantics.specs.Language.{is_guard, Op, hd, tl, null}
use Rattle.semantics.specs.declared.Kind.{Kind}
use Rattle.semantics.specs.Cells.{false_code, true_code}
use Rattle.codes.specs.{head_of, tail_of, null_of, shifted_code, foreign}
use Rattle.codes.proofs.CodeMeaning.{result_code}
use Rattle.rule.proofs.NodeBytes.{op_node}
use Rattle.decoding.specs.Words.{constant_sort, param_sort, head_sort, tail_sort, null_sort, head_param_sort, tail_param_sort, null_param_sort, if_sort, if_param_sort, if_null_sort, if_head_sort, call_sort, call_one_sort, call_guard_sort, call_leaves_sort}
use Rattle.decoding.specs.Words.{packed, sort_of, is_leaf, param_of, callee_of, count_of, places_of, constant_of, first_place, third_place, values_in, lowest_in}
use Rattle.decoding.specs.Decoding.{end_at, constant_by, unary_by, conditional_by, placed, leaves_in, call_sort_of, decoded_by}
use Rattle.decoding.proofs.Packing.{sort-packed, param-packed, callee-packed, count_packed, constant-packed, first-packed, second_packed, third_packed, places_alike, place_0, place_1, place_2, place_3}
use Rattle.evaluator.specs.{param_at, next_index, param_in, branch_by, args_in, leaf_by, leaf_of, param_leaf_of, constant_leaf_of, leaf_at, sort_by, eval_word, eval_at}

-- ---- Leaves

-- other words are taken as constants
leaf_other : (traces env : List ℕ) (w : ℕ) → is_leaf w ≡ false → leaf_by traces env w ≡ constant_of w
unfolding leaf_by is_leaf
leaf_other traces env w e = go (ltb (sort_of w) head_sort) refl (eqb (sort_of w) head_param_sort) refl (eqb (sort_of w) tail_param_sort) refl e
  where
    go : (low : Bool) → ltb (sort_of w) head_sort ≡ low → (head : Bool) → eqb (sort_of w) head_param_sort ≡ head
        → (tail : Bool) → eqb (sort_of w) tail_param_sort ≡ tail → cond low true (cond head true tail) ≡ false → leaf_by traces env w ≡ constant_of w
    go true l head h tail t e = absurd cc
    go false l true h tail t e = absurd cc
    go false l false h true t e = absurd cc
    go false l false h false t e = let other : eqb (sort_of w) param_sort ≡ false = ne_eqb _ _ (λ q. omega (arith, ltb-false _ _ l)) in
        rw (t, other, h)

-- a leaf that names a parameter is a leaf
pub param_leaf_found : (traces env : List ℕ) (w : ℕ) {v : ℕ} → param_leaf_of traces env w ≡ Some v → leaf_of traces env w ≡ Some v
param_leaf_found traces env w {v} e = go (eqb (sort_of w) constant_sort) e
  where
    go : (b : Bool) → cond b None (leaf_of traces env w) ≡ Some v → leaf_of traces env w ≡ Some v
    go true e = absurd (search rules)
    go false e = e

-- any other is a constant, if it is a leaf
pub constant_leaf_found : (traces env : List ℕ) (w : ℕ) → param_leaf_of traces env w ≡ None → constant_leaf_of w ≡ leaf_of traces env w
unfolding leaf_by is_leaf
constant_leaf_found traces env w e = go (eqb (sort_of w) constant_sort) refl e
  where
    go : (b : Bool) → eqb (sort_of w) constant_sort ≡ b → cond b None (leaf_of traces env w) ≡ None → cond b (Some (constant_of w)) None ≡ leaf_of traces env w
    go true q e = rw (eqb-true (sort_of w) constant_sort q) refl
    go false q e = sym e

pub leaf_or : (traces env : List ℕ) (w : ℕ) → unwrap_or (leaf_of traces env w) (constant_of w) ≡ leaf_by traces env w
leaf_or traces env w = go (is_leaf w) refl
  where
    go : (b : Bool) → is_leaf w ≡ b → unwrap_or (cond b (Some (leaf_by traces env w)) None) (constant_of w) ≡ leaf_by traces env w
    go true t = refl
    go false t = sym (leaf_other traces env w t)

-- ---- Places in a word

-- the places of so many operands stand in `rest`, the first of them at a place
abbrev pub Stand : List ℕ → ℕ → ℕ → ℕ → Type 0
Stand ends zero rest at = Unit {0}
Stand ends (suc k) rest at = (rest % 4096 ≡ at) × Stand ends k (rest / 4096) (end_at ends at)

-- so many operands from a place on stand at places that fit a word, none of them below `low`
abbrev pub Within : ℕ → List ℕ → ℕ → ℕ → Type 0
Within low ends zero at = Unit {0}
Within low ends (suc k) at = (low ≤ at) × (at < 4096) × Within low ends k (end_at ends at)

module _ (ends : List ℕ) (sort small first : ℕ) where
  abbrev second : ℕ
  second = end_at ends first

  abbrev third : ℕ
  third = end_at ends second

  abbrev fourth : ℕ
  fourth = end_at ends third

  pub stand : (low k : ℕ) → k ≤ 4 → Within low ends k first → Stand ends k (places_of (placed ends sort small first)) first
  stand low zero h w = tt
  stand low (suc zero) h w = (place_0 sort small first second third fourth ∙ mod-eq_of_lt w.1, tt)
  stand low (suc (suc zero)) h w =
      (place_0 sort small first second third fourth ∙ mod-eq_of_lt w.1, (place_1 sort small first second third fourth ∙ mod-eq_of_lt w.2.1, tt))
  stand low (suc (suc (suc zero))) h w = (
    place_0 sort small first second third fourth ∙ mod-eq_of_lt w.1,
    (place_1 sort small first second third fourth ∙ mod-eq_of_lt w.2.1, (place_2 sort small first second third fourth ∙ mod-eq_of_lt w.2.2.1, tt)),
  )
  stand low (suc (suc (suc (suc zero)))) h w = (
    place_0 sort small first second third fourth ∙ mod-eq_of_lt w.1,
    (
      place_1 sort small first second third fourth ∙ mod-eq_of_lt w.2.1,
      (place_2 sort small first second third fourth ∙ mod-eq_of_lt w.2.2.1, (place_3 sort small first second third fourth ∙ mod-eq_of_lt w.2.2.2.1, tt)),
    ),
  )
  stand low (suc (suc (suc (suc (suc k))))) h w = absurd (omega arith)

-- whether operands are leaves hangs on their words alone
pub leaves_kept : (low : ℕ) (ends later W : List ℕ) → ((p : ℕ) → low ≤ p → get_or later p 0 ≡ get_or W p 0) → (k rest at : ℕ)
    → Stand ends k rest at → Within low ends k at → leaves_in later k rest ≡ leaves_in W k rest
unfolding leaves_in
leaves_kept low ends later W same zero rest at st w = refl
leaves_kept low ends later W same (suc k) rest at st w =
    let here : get_or later (rest % 4096) 0 ≡ get_or W (rest % 4096) 0 = rw st.0 (same at w.0) in
    rw (here, leaves_kept low ends later W same k (rest / 4096) (end_at ends at) st.1 w.2)

-- what an operation makes of the number of its operand
abbrev pub op_by : List ℕ → List ℕ → Op → ℕ → ℕ
op_by traces env hd c = head_of traces env c
op_by traces env tl c = tail_of c
op_by traces env null c = null_of c

-- the branch that an outcome chooses, by the places of the branches
abbrev pub choice : (ℕ → ℕ) → ℕ → ℕ → ℕ → ℕ
choice eval then other c = cond (eqb c true_code) (eval then) (cond (eqb c false_code) (eval other) c)

param-small : (w : ℕ) → param_of w % 4 ≡ param_of w
param-small w = omega arith

-- ---- Words

module _ (W traces T env : List ℕ) where
  -- the outcome of the word at a place
  abbrev there : ℕ → ℕ → ℕ
  there d place = eval_at W traces T env d place

  pub word-sort : (d w k : ℕ) → sort_of w ≡ k → eval_word W traces T env (suc d) w ≡ sort_by W traces T env (there d) w k
  unfolding eval_word
  word-sort d w k e = ap (λ (j : ℕ). sort_by W traces T env (there d) w j) e

  pub constant-word : (d c : ℕ) → c < 65536 → eval_word W traces T env (suc d) (constant_by c) ≡ c
  constant-word d c h = word-sort d (constant_by c) 0 (sort-packed 0 0 (c % 4096) (c / 4096) 0 0) ∙ constant-packed c h

  pub param-word : (d i : ℕ) → i < 4 → eval_word W traces T env (suc d) (packed param_sort i 0 0 0 0) ≡ get_or env i 0
  param-word d i h =
      word-sort d (packed param_sort i 0 0 0 0) 1 (sort-packed param_sort i 0 0 0 0)
      ∙ ap (λ (j : ℕ). get_or env j 0) (param-packed param_sort i 0 0 0 0 ∙ mod-eq_of_lt h)

  -- ---- One operand

  -- an operation f that has the sort `plain`, and `fused` where its operand is a parameter
  module _ (plain fused : ℕ) (f : ℕ → ℕ)
      (by-plain : (eval : ℕ → ℕ) (w : ℕ) → sort_by W traces T env eval w (plain % 16) ≡ f (eval (first_place w)))
      (by-fused : (eval : ℕ → ℕ) (w : ℕ) → sort_by W traces T env eval w (fused % 16) ≡ f (param_in env w)) where
    unary_word : (d first : ℕ) → first < 4096 → eval_word W traces T env (suc (suc d)) (unary_by plain fused first (get_or W first 0)) ≡ f (there (suc d) first)
    unary_word d first h = go (eqb (sort_of (get_or W first 0)) param_sort) refl
      where
        go : (b : Bool) → eqb (sort_of (get_or W first 0)) param_sort ≡ b
            → eval_word W traces T env (suc (suc d)) (cond b (packed fused (param_of (get_or W first 0)) first 0 0 0) (packed plain 0 first 0 0 0))
            ≡ f (there (suc d) first)
        go true e =
            let next = get_or W first 0 in
            let w = packed fused (param_of next) first 0 0 0 in
            word-sort (suc d) w (fused % 16) (sort-packed fused (param_of next) first 0 0 0)
            ∙ by-fused (there (suc d)) w
            ∙ ap (λ (i : ℕ). f (get_or env i 0)) (param-packed fused (param_of next) first 0 0 0 ∙ param-small next)
            ∙ ap f (sym (word-sort d next 1 (eqb-true _ _ e)))
        go false e =
            let w = packed plain 0 first 0 0 0 in
            word-sort (suc d) w (plain % 16) (sort-packed plain 0 first 0 0 0)
            ∙ by-plain (there (suc d)) w
            ∙ ap (λ (p : ℕ). f (there (suc d) p)) (first-packed plain 0 first 0 0 0 ∙ mod-eq_of_lt h)

  pub op-word : (params functions ends later : List ℕ) (p : Op) (d first : ℕ) → first < 4096
      → eval_word W traces T env (suc (suc d)) (decoded_by params functions ends later first (get_or W first 0) (op_node p)) ≡ op_by traces env p (there (suc d) first)
  op-word params functions ends later hd = unary_word head_sort head_param_sort (λ (c : ℕ). head_of traces env c) (λ eval w. refl) (λ eval w. refl)
  op-word params functions ends later tl = unary_word tail_sort tail_param_sort (λ (c : ℕ). tail_of c) (λ eval w. refl) (λ eval w. refl)
  op-word params functions ends later null = unary_word null_sort null_param_sort (λ (c : ℕ). null_of c) (λ eval w. refl) (λ eval w. refl)

  -- ---- An if

  module _ (low : ℕ) (ends : List ℕ) (d first : ℕ) (inside : Within low ends 3 first) where
    abbrev then : ℕ
    then = end_at ends first

    abbrev other : ℕ
    other = end_at ends then

    abbrev condition : ℕ
    condition = get_or W first 0

    abbrev word : ℕ → ℕ
    word sort = placed ends sort (param_of condition) first

    abbrev eval : ℕ → ℕ
    eval = there (suc d)

    abbrev Chooses : ℕ → Type 0
    Chooses sort = eval_word W traces T env (suc (suc d)) (word sort) ≡ choice eval then other (eval first)

    -- a word of a sort that chooses by what the condition gives
    chosen : (sort : ℕ)
        → ((w : ℕ) → param_of w ≡ param_of condition → first_place w ≡ first → sort_by W traces T env eval w (sort % 16) ≡ branch_by eval w (eval first))
        → Chooses sort
    chosen sort by =
        let p = param_of condition in
        let fourth = end_at ends other in
        word-sort (suc d) (word sort) (sort % 16) (sort-packed sort p first then other fourth)
        ∙ by (word sort) (param-packed sort p first then other fourth ∙ param-small condition)
        (first-packed sort p first then other fourth ∙ mod-eq_of_lt inside.1)
        ∙ ap (λ (q : ℕ). choice eval q (third_place (word sort)) (eval first)) (second_packed sort p first then other fourth ∙ mod-eq_of_lt inside.2.1)
        ∙ ap (λ (q : ℕ). choice eval then q (eval first)) (third_packed sort p first then other fourth ∙ mod-eq_of_lt inside.2.2.1)

    -- a condition of the sort `below`, f of a parameter, fused with its if to the sort `sort`
    fused : (sort below : ℕ) (f : ℕ → ℕ) → sort_of condition ≡ below
        → ((w : ℕ) → sort_by W traces T env eval w (sort % 16) ≡ branch_by eval w (f (param_in env w)))
        → ((w : ℕ) → sort_by W traces T env (there d) w below ≡ f (param_in env w))
        → Chooses sort
    fused sort below f e above under =
        chosen sort
        (λ w i p. above w
        ∙ ap (λ (v : ℕ). branch_by eval w v) (ap (λ (a : ℕ). f (get_or env a 0)) i ∙ sym (word-sort d condition below e ∙ under condition)))

    plain : Chooses if_sort
    plain = chosen if_sort (λ w i p. ap (λ (q : ℕ). branch_by eval w (eval q)) p)

    by_head : (b : Bool) → eqb (sort_of condition) head_param_sort ≡ b → Chooses (cond b if_head_sort if_sort)
    by_head true e = fused if_head_sort head_param_sort (λ (v : ℕ). head_of traces env v) (eqb-true _ _ e) (λ w. refl) (λ w. refl)
    by_head false e = plain

    by_null : (b : Bool) → eqb (sort_of condition) null_param_sort ≡ b
        → Chooses (cond b if_null_sort (cond (eqb (sort_of condition) head_param_sort) if_head_sort if_sort))
    by_null true e = fused if_null_sort null_param_sort (λ (v : ℕ). null_of v) (eqb-true _ _ e) (λ w. refl) (λ w. refl)
    by_null false e = by_head (eqb (sort_of condition) head_param_sort) refl

    by_param : (b : Bool) → eqb (sort_of condition) param_sort ≡ b
        → Chooses (cond b if_param_sort (cond (eqb (sort_of condition) null_param_sort) if_null_sort (cond (eqb (sort_of condition) head_param_sort) if_head_sort if_sort)))
    by_param true e = fused if_param_sort param_sort (λ (v : ℕ). v) (eqb-true _ _ e) (λ w. refl) (λ w. refl)
    by_param false e = by_null (eqb (sort_of condition) null_param_sort) refl

    pub if_word : Chooses (conditional_by condition)
    if_word = by_param (eqb (sort_of condition) param_sort) refl

  -- ---- Leaves

  -- a leaf needs no evaluation of operands
  module _ (d w : ℕ) (leaf : is_leaf w ≡ true) where
    abbrev whole : ℕ
    whole = eval_word W traces T env (suc d) w

    -- a word that is a leaf's, but neither hd nor tl of a parameter
    plain-sort : (b : Bool) → ltb (sort_of w) head_sort ≡ b → cond b true (cond (eqb (sort_of w) head_param_sort) true (eqb (sort_of w) tail_param_sort)) ≡ true
        → eqb (sort_of w) head_param_sort ≡ false → eqb (sort_of w) tail_param_sort ≡ false → sort_of w < head_sort
    plain-sort true t e h l = ltb-true _ _ t
    plain-sort false t e h l = let z : ◌≡◌ {A = ℕ} 0 1 = cc in absurd (omega arith)

    none_other : eqb (sort_of w) tail_param_sort ≡ false → eqb (sort_of w) param_sort ≡ false → eqb (sort_of w) head_param_sort ≡ false → sort_of w ≡ constant_sort
    unfolding is_leaf
    none_other l p h = omega (arith, plain-sort (ltb (sort_of w) head_sort) refl leaf h l, eqb-false (sort_of w) param_sort p)

    head_leaf : (b : Bool) → eqb (sort_of w) tail_param_sort ≡ false → eqb (sort_of w) param_sort ≡ false → eqb (sort_of w) head_param_sort ≡ b
        → cond b (head_of traces env (param_in env w)) (constant_of w) ≡ whole
    head_leaf true l p h = sym (word-sort d w head_param_sort (eqb-true _ _ h))
    head_leaf false l p h = sym (word-sort d w constant_sort (none_other l p h))

    param-leaf : (b : Bool) → eqb (sort_of w) tail_param_sort ≡ false → eqb (sort_of w) param_sort ≡ b
        → cond b (param_in env w) (cond (eqb (sort_of w) head_param_sort) (head_of traces env (param_in env w)) (constant_of w)) ≡ whole
    param-leaf true l p = sym (word-sort d w param_sort (eqb-true _ _ p))
    param-leaf false l p = head_leaf (eqb (sort_of w) head_param_sort) l p refl

    tail-leaf : (b : Bool) → eqb (sort_of w) tail_param_sort ≡ b
        → cond b (tail_of (param_in env w))
        (cond (eqb (sort_of w) param_sort) (param_in env w) (cond (eqb (sort_of w) head_param_sort) (head_of traces env (param_in env w)) (constant_of w)))
        ≡ whole
    tail-leaf true l = sym (word-sort d w tail_param_sort (eqb-true _ _ l))
    tail-leaf false l = param-leaf (eqb (sort_of w) param_sort) l refl

    leaf-word : leaf_by traces env w ≡ whole
    unfolding leaf_by
    leaf-word = tail-leaf (eqb (sort_of w) tail_param_sort) refl

  -- what a leaf gives is the outcome, however much depth is left
  pub leaf_taken : (d w : ℕ) {v : ℕ} → (d ≡ 0 → ⊥) → leaf_of traces env w ≡ Some v → eval_word W traces T env d w ≡ v
  leaf_taken zero w z e = absurd (z refl)
  leaf_taken (suc d) w {v} z e = go (is_leaf w) refl e
    where
      go : (b : Bool) → is_leaf w ≡ b → cond b (Some (leaf_by traces env w)) None ≡ Some v → eval_word W traces T env (suc d) w ≡ v
      go true t e = sym (leaf-word d w t) ∙ cc
      go false t e = absurd cc

  -- arguments that are leaves
  args_leaves : (d g k i index rest : ℕ) → (0 < k → 0 < d) → leaves_in W k rest ≡ true
      → args_in W T (leaf_at W traces env) g k i index rest ≡ args_in W T (there d) g k i index rest
  unfolding args_in leaves_in
  args_leaves d g zero i index rest deep e = refl
  args_leaves zero g (suc k) i index rest deep e = absurd (omega (arith, deep (omega arith)))
  args_leaves (suc d) g (suc k) i index rest deep e =
      go (is_leaf (get_or W (rest % 4096) 0)) refl e (λ l next. args_leaves (suc d) g k (i + 1) next (rest / 4096) (λ p. omega arith) l)
    where
      go : (b : Bool) → is_leaf (get_or W (rest % 4096) 0) ≡ b → cond b (leaves_in W k (rest / 4096)) false ≡ true
          → (leaves_in W k (rest / 4096) ≡ true → (next : ℕ)
          → args_in W T (leaf_at W traces env) g k (i + 1) next (rest / 4096) ≡ args_in W T (there (suc d)) g k (i + 1) next (rest / 4096))
          → args_in W T (leaf_at W traces env) g (suc k) i index rest ≡ args_in W T (there (suc d)) g (suc k) i index rest
      go true t l more =
          let kind = param_at W g i in
          let value = there (suc d) (rest % 4096) in
          let here : leaf_at W traces env (rest % 4096) ≡ value = leaf-word d (get_or W (rest % 4096) 0) t in
          rw here
          (ap (λ (later : ℕ). cond (foreign (lowest_in kind) (values_in kind) value) value later)
          (more l (next_index index (values_in kind) (value - lowest_in kind))))
      go false t l more = let z : ◌≡◌ {A = ℕ} 0 1 = cc in absurd (omega arith)

  -- ---- A call

  module _ (ends : List ℕ) (d g count first : ℕ) (below : g < 32) (few : count ≤ 4) (deep : 0 < count → 0 < d) where
    abbrev small : ℕ
    small = g % 32 + 32 * count

    abbrev called : ℕ → ℕ
    called sort = placed ends sort small first

    abbrev args : ℕ → ℕ
    args sort = args_in W T (there d) g count 0 0 (places_of (called sort))

    -- the word names the callee, and how many arguments there are
    named : (sort : ℕ) → callee_of (called sort) ≡ g
    named sort =
        let same : small % 32 ≡ g = omega arith in
        callee-packed sort small first (end_at ends first) (end_at ends (end_at ends first)) (end_at ends (end_at ends (end_at ends first))) ∙ same

    counted : (sort : ℕ) → count_of (called sort) ≡ count
    counted sort =
        let same : small % 256 / 32 ≡ count = omega arith in
        count_packed sort small first (end_at ends first) (end_at ends (end_at ends first)) (end_at ends (end_at ends (end_at ends first))) ∙ same

    sorted : (sort : ℕ) → sort_of (called sort) ≡ sort % 16
    sorted sort = sort-packed sort small first (end_at ends first) (end_at ends (end_at ends first)) (end_at ends (end_at ends (end_at ends first)))

    abbrev Calls : ℕ → Type 0
    Calls sort = eval_word W traces T env (suc d) (called sort) ≡ args sort

    -- the callee and the number of arguments that the word says
    by_word : (eval : ℕ → ℕ) (sort : ℕ)
        → args_in W T eval (callee_of (called sort)) (count_of (called sort)) 0 0 (places_of (called sort)) ≡ args_in W T eval g count 0 0 (places_of (called sort))
    by_word eval sort =
        ap (λ (c : ℕ). args_in W T eval c (count_of (called sort)) 0 0 (places_of (called sort))) (named sort)
        ∙ ap (λ (c : ℕ). args_in W T eval g c 0 0 (places_of (called sort))) (counted sort)

    -- the places are the same, whatever the sort
    placed_alike : places_of (called call_sort) ≡ places_of (called call_leaves_sort)
    placed_alike = places_alike call_sort call_leaves_sort small first (end_at ends first) (end_at ends (end_at ends first)) (end_at ends (end_at ends (end_at ends first)))

    abbrev leaves : Bool
    leaves = leaves_in W count (places_of (called call_sort))

    by_leaves : (b : Bool) → leaves ≡ b → Calls (cond b call_leaves_sort call_sort)
    by_leaves true e =
        word-sort d (called call_leaves_sort) 15 (sorted call_leaves_sort)
        ∙ by_word (leaf_at W traces env) call_leaves_sort
        ∙ args_leaves d g count 0 0 (places_of (called call_leaves_sort)) deep (rw placed_alike at e)
    by_leaves false e = word-sort d (called call_sort) 12 (sorted call_sort) ∙ by_word (there d) call_sort

    by_count : (b : Bool) → eqb count 1 ≡ b → Calls (cond b call_one_sort (cond leaves call_leaves_sort call_sort))
    by_count true e =
        let one : count ≡ 1 = eqb-true _ _ e in
        word-sort d (called call_one_sort) 13 (sorted call_one_sort)
        ∙ ap (λ (c : ℕ). args_in W T (there d) c 1 0 0 (places_of (called call_one_sort))) (named call_one_sort)
        ∙ ap (λ (c : ℕ). args_in W T (there d) g c 0 0 (places_of (called call_one_sort))) (sym one)
    by_count false e = by_leaves leaves refl

    by_kind : (b : Bool)
        → let sort = cond b call_guard_sort (cond (eqb count 1) call_one_sort (cond leaves call_leaves_sort call_sort)) in
        eval_word W traces T env (suc d) (called sort) ≡ cond b (shifted_code (args sort)) (args sort)
    by_kind true = word-sort d (called call_guard_sort) 14 (sorted call_guard_sort) ∙ ap (λ (c : ℕ). shifted_code c) (by_word (there d) call_guard_sort)
    by_kind false = by_count (eqb count 1) refl

    pub call-word : (kind : Kind)
        → let small = g % 32 + 32 * count in
        let word = placed ends (call_sort_of kind count (leaves_in W count (places_of (placed ends call_sort small first)))) small first in
        eval_word W traces T env (suc d) word ≡ result_code kind (args_in W T (there d) g count 0 0 (places_of word))
    call-word kind = by_kind (is_guard kind)
