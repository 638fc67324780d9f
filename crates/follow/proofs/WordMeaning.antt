-- The words that following meets, by what they were decoded from:
--   taken_stop                     what a word that is no if's comes to
--   plain_kept, plain-taken       a word that is neither an if's nor a call's
--   constant_kept, constant-taken a constant with the number of an error
--   unary_plain                   hd, tl and null are such
--   if_told, condition_word       an if's, and what its condition gives
--   second_word, third_word       its branches
--   call_kept, call-callee, call_high, call_places,
--   call-stop, call-left, call-taken                a call's
use Prim.Native.Nat.{ℕ, suc, ◌+◌, ◌*◌, ◌/◌, ◌%◌, ◌≤◌, ◌<◌}
use native.Mathlib.Nat.{mod-eq_of_lt}
use native.Mathlib.Omega.{arith}
use mathlib.Core.Path.{◌≡◌, refl, sym, ap, ◌∙◌}
use mathlib.Core.Bool.{Bool, true, false, cond}
use mathlib.Core.List.{List}
use lib.Dec.{ltb, eqb}
use lib.ListN.{get_or}
use borrow.Author.Tests.{lt-ltb, le-ltb, eqb-true}
use Rattle.semantics.specs.Language.{is_guard}
use Rattle.semantics.specs.declared.Kind.{Kind}
use Rattle.syntax.specs.Limits.{most_depth}
use Rattle.codes.specs.{head_of, null_of}
use Rattle.decoding.specs.Words.{constant_sort, param_sort, head_param_sort, null_param_sort, if_sort, if_param_sort, if_null_sort, if_head_sort, call_sort, call_one_sort, call_guard_sort, call_leaves_sort, packed, sort_of, param_of, callee_of, count_of, places_of, second_place, third_place}
use Rattle.decoding.specs.Decoding.{end_at, constant_by, unary_by, conditional_by, placed, call_sort_of}
use Rattle.decoding.proofs.Packing.{sort-packed, param-packed, callee-packed, count_packed, first-packed, second_packed, third_packed}
use Rattle.evaluator.specs.{param_in, sort_by, eval_word, eval_at}
use Rattle.evaluator.proofs.NodeMeaning.{Within, word-sort, constant-word}
use Rattle.follow.specs.Mirror.{is_if, condition_by, spine_of, args_stop, args_left, arg_count, arg_places, args_stop_at, args_left_at}

-- ---- Sorts

unary_plain_by : (plain fused first operand : ℕ) → plain < if_sort → fused < if_sort → (b : Bool)
    → sort_of (cond b (packed fused (param_of operand) first 0 0 0) (packed plain 0 first 0 0 0)) < if_sort
unary_plain_by plain fused first operand p f true = omega (arith, sort-packed fused (param_of operand) first 0 0 0)
unary_plain_by plain fused first operand p f false = omega (arith, sort-packed plain 0 first 0 0 0)

pub unary_plain : (plain fused first operand : ℕ) → plain < if_sort → fused < if_sort → sort_of (unary_by plain fused first operand) < if_sort
unary_plain plain fused first operand p f = unary_plain_by plain fused first operand p f (eqb (sort_of operand) param_sort)

-- the sort of an if is one
if_sort_lem : (a b c : Bool) → is_if (cond a if_param_sort (cond b if_null_sort (cond c if_head_sort if_sort)) % 16) ≡ true
if_sort_lem true b c = refl
if_sort_lem false true c = refl
if_sort_lem false false true = refl
if_sort_lem false false false = refl

-- that of a call is none, and one of its own where there is one argument
call-sort : (a b c : Bool) → let sort = cond a call_guard_sort (cond b call_one_sort (cond c call_leaves_sort call_sort)) in
    (call_sort ≤ sort) × (sort < 16) × (eqb sort call_one_sort ≡ true → b ≡ true)
call-sort true b c = (omega arith, omega arith, λ e. let z : ◌≡◌ {A = ℕ} 0 1 = cc in absurd (omega arith))
call-sort false true c = (omega arith, omega arith, λ e. refl)
call-sort false false true = (omega arith, omega arith, λ e. let z : ◌≡◌ {A = ℕ} 0 1 = cc in absurd (omega arith))
call-sort false false false = (omega arith, omega arith, λ e. let z : ◌≡◌ {A = ℕ} 0 1 = cc in absurd (omega arith))

module _ (W traces T env : List ℕ) where
  -- what a word that is no if's comes to: the number of its outcome, or of the error in its arguments
  abbrev pub taken_stop : ℕ → ℕ
  taken_stop w = cond (ltb (sort_of w) call_sort) (eval_word W traces T env most_depth w) (args_stop_at W traces T env w)

  -- ---- Neither an if nor a call

  module _ (w : ℕ) (plain : sort_of w < if_sort) where
    pub plain_kept : (d : ℕ) → spine_of W traces T env (suc d) w ≡ w
    unfolding spine_of
    plain_kept d = simp (lt-ltb _ _ plain)

    pub plain-taken : taken_stop w ≡ eval_word W traces T env most_depth w
    plain-taken = let below : sort_of w < call_sort = omega arith in simp (lt-ltb _ _ below)

  constant-plain : (c : ℕ) → sort_of (constant_by c) < if_sort
  constant-plain c = omega (arith, sort-packed constant_sort 0 (c % 4096) (c / 4096) 0 0)

  pub constant_kept : (d c : ℕ) → spine_of W traces T env (suc d) (constant_by c) ≡ constant_by c
  constant_kept d c = plain_kept (constant_by c) (constant-plain c) d

  pub constant-taken : (c : ℕ) → c < 65536 → taken_stop (constant_by c) ≡ c
  constant-taken c h = plain-taken (constant_by c) (constant-plain c) ∙ constant-word W traces T env 63 c h

  -- ---- An if

  module _ (low : ℕ) (ends : List ℕ) (first : ℕ) (inside : Within low ends 3 first) where
    abbrev condition : ℕ
    condition = get_or W first 0

    abbrev then : ℕ
    then = end_at ends first

    abbrev other : ℕ
    other = end_at ends then

    abbrev word : ℕ → ℕ
    word sort = placed ends sort (param_of condition) first

    abbrev Gives : ℕ → Type 0
    Gives sort = condition_by W traces T env (word sort) ≡ eval_at W traces T env most_depth first

    sorted : (sort : ℕ) → sort_of (word sort) ≡ sort % 16
    sorted sort = sort-packed sort (param_of condition) first then other (end_at ends other)

    pub if_told : is_if (sort_of (word (conditional_by condition))) ≡ true
    if_told =
        rw (sorted (conditional_by condition))
        (if_sort_lem (eqb (sort_of condition) param_sort) (eqb (sort_of condition) null_param_sort) (eqb (sort_of condition) head_param_sort))

    pub second_word : (sort : ℕ) → second_place (word sort) ≡ then
    second_word sort = second_packed sort (param_of condition) first then other (end_at ends other) ∙ mod-eq_of_lt inside.2.1

    pub third_word : (sort : ℕ) → third_place (word sort) ≡ other
    third_word sort = third_packed sort (param_of condition) first then other (end_at ends other) ∙ mod-eq_of_lt inside.2.2.1

    -- a condition of the sort `below`, f of a parameter, fused with its if to the sort `sort`
    fused : (sort below : ℕ) (f : ℕ → ℕ) → sort_of condition ≡ below
        → ((w : ℕ) → sort_of w ≡ sort % 16 → condition_by W traces T env w ≡ f (param_in env w))
        → ((w : ℕ) → sort_by W traces T env (eval_at W traces T env 63) w below ≡ f (param_in env w)) → Gives sort
    fused sort below f e above under =
        let small : param_of condition % 4 ≡ param_of condition = omega arith in
        above (word sort) (sorted sort)
        ∙ ap (λ (i : ℕ). f (get_or env i 0)) (param-packed sort (param_of condition) first then other (end_at ends other) ∙ small)
        ∙ sym (word-sort W traces T env 63 condition below e ∙ under condition)

    plain_if : Gives if_sort
    unfolding condition_by
    plain_if =
        rw (sorted if_sort)
        (ap (eval_at W traces T env most_depth) (first-packed if_sort (param_of condition) first then other (end_at ends other) ∙ mod-eq_of_lt inside.1))

    by_head : (b : Bool) → eqb (sort_of condition) head_param_sort ≡ b → Gives (cond b if_head_sort if_sort)
    unfolding condition_by
    by_head true e = fused if_head_sort head_param_sort (λ (v : ℕ). head_of traces env v) (eqb-true _ _ e) (λ w q. rw q) (λ w. refl)
    by_head false e = plain_if

    by_null : (b : Bool) → eqb (sort_of condition) null_param_sort ≡ b
        → Gives (cond b if_null_sort (cond (eqb (sort_of condition) head_param_sort) if_head_sort if_sort))
    unfolding condition_by
    by_null true e = fused if_null_sort null_param_sort (λ (v : ℕ). null_of v) (eqb-true _ _ e) (λ w q. rw q) (λ w. refl)
    by_null false e = by_head (eqb (sort_of condition) head_param_sort) refl

    by_param : (b : Bool) → eqb (sort_of condition) param_sort ≡ b
        → Gives (cond b if_param_sort (cond (eqb (sort_of condition) null_param_sort) if_null_sort (cond (eqb (sort_of condition) head_param_sort) if_head_sort if_sort)))
    unfolding condition_by
    by_param true e = fused if_param_sort param_sort (λ (v : ℕ). v) (eqb-true _ _ e) (λ w q. rw q) (λ w. refl)
    by_param false e = by_null (eqb (sort_of condition) null_param_sort) refl

    pub condition_word : Gives (conditional_by condition)
    condition_word = by_param (eqb (sort_of condition) param_sort) refl

  -- ---- A call

  module _ (ends : List ℕ) (g count first : ℕ) (below : g < 32) (few : count ≤ 4) (kind : Kind) (leaves : Bool) where
    abbrev small : ℕ
    small = g % 32 + 32 * count

    abbrev called : ℕ
    called = placed ends (call_sort_of kind count leaves) small first

    sort_of_lem : (call_sort ≤ call_sort_of kind count leaves) × (call_sort_of kind count leaves < 16) × (eqb (call_sort_of kind count leaves) call_one_sort ≡ true → eqb count 1 ≡ true)
    sort_of_lem = call-sort (is_guard kind) (eqb count 1) leaves

    call_sorted : sort_of called ≡ call_sort_of kind count leaves
    call_sorted =
        sort-packed (call_sort_of kind count leaves) small first (end_at ends first) (end_at ends (end_at ends first)) (end_at ends (end_at ends (end_at ends first)))
        ∙ mod-eq_of_lt sort_of_lem.1

    pub call_high : call_sort ≤ sort_of called
    call_high = omega (arith, call_sorted, sort_of_lem.0)

    pub call_kept : (d : ℕ) → spine_of W traces T env (suc d) called ≡ called
    unfolding spine_of
    call_kept d =
        let above : if_sort ≤ sort_of called = omega (arith, call_high) in
        simp (le-ltb _ _ above, le-ltb _ _ call_high)

    pub call-callee : callee_of called ≡ g
    call-callee =
        let same : small % 32 ≡ g = omega arith in
        callee-packed (call_sort_of kind count leaves) small first (end_at ends first) (end_at ends (end_at ends first)) (end_at ends (end_at ends (end_at ends first))) ∙ same

    -- how many arguments and places there are
    call-args : (arg_count called ≡ count) × (count ≤ arg_places called) × (arg_places called ≤ 4)
    call-args = go (eqb (sort_of called) call_one_sort) refl
      where
        go : (b : Bool) → eqb (sort_of called) call_one_sort ≡ b → (cond b 1 (count_of called) ≡ count) × (count ≤ cond b 1 4) × (cond b 1 4 ≤ 4)
        go true e = let one = eqb-true _ _ (sort_of_lem.2 (rw call_sorted at e)) in (sym one, omega arith, omega arith)
        go false e =
            let same : small % 256 / 32 ≡ count = omega arith in (
              count_packed (call_sort_of kind count leaves) small first (end_at ends first) (end_at ends (end_at ends first)) (end_at ends (end_at ends (end_at ends first))) ∙ same,
              few,
              omega arith,
            )

    pub call_places : (count ≤ arg_places called) × (arg_places called ≤ 4)
    call_places = (call-args.1, call-args.2)

    pub call-stop : args_stop_at W traces T env called ≡ args_stop (eval_at W traces T env most_depth) count (arg_places called) 0 (places_of called)
    unfolding args_stop_at
    call-stop = ap (λ (k : ℕ). args_stop (eval_at W traces T env most_depth) k (arg_places called) 0 (places_of called)) call-args.0

    pub call-left : args_left_at W traces T env called ≡ args_left (eval_at W traces T env most_depth) count (arg_places called) (places_of called) env
    unfolding args_left_at
    call-left = ap (λ (k : ℕ). args_left (eval_at W traces T env most_depth) k (arg_places called) (places_of called) env) call-args.0

    pub call-taken : taken_stop called ≡ args_stop_at W traces T env called
    call-taken = simp (le-ltb _ _ call_high)
