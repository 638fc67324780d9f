-- Laws of the mirror for the nodes of a spine:
--   sort_at_lem            a node, by its sort
--   fused_at           an if that has its condition beside it, by what that gives
--   branch_long        the branch chosen where a list is not empty
--   call_leaves_at_lem, call_one_at_lem
use mathlib.Core.Path.{◌≡◌, refl, sym, ap, ◌∙◌}
use mathlib.Core.Bool.{true}
use mathlib.Core.List.{List}
use Prim.Native.Nat.{ℕ, ◌-◌, ◌<◌}
use native.Mathlib.Omega.{arith}
use lib.ListN.{get_or}
use Rattle.codes.specs.{has_samples, null_of}
use Rattle.decoding.specs.Words.{sort_of, third_place, call_one_sort, call_leaves_sort}
use Rattle.evaluator.specs.{param_in, branch_by, sort_by, eval_word, eval_at, branch_at, call_one_at, call_leaves_at}
use Rattle.bodies.specs.{sort_at}
use Rattle.evaluator.proofs.EvalWays.{eval_sort, branch_taken}

-- null of a list that is not empty
null_long : (v : ℕ) → has_samples v ≡ true → null_of v ≡ 1
null_long v h = simp h

module _ (W traces T env : List ℕ) (d w : ℕ) where
  pub sort_at_lem : 0 < d → {sort : ℕ} → sort ≡ sort_of w → eval_word W traces T env d w ≡ sort_at W traces T env (d - 1) w sort
  unfolding sort_at
  sort_at_lem h {sort} e = eval_sort W traces T env d w (λ z. omega arith) sort e refl

  -- f of the parameter chooses
  pub fused_at : (k : ℕ) (f : ℕ → ℕ) → ((eval : ℕ → ℕ) → sort_by W traces T env eval w k ≡ branch_by eval w (f (param_in env w))) → {sort value : ℕ}
      → sort ≡ k → value ≡ param_in env w → sort_at W traces T env d w sort ≡ branch_at W traces T env d w (f value)
  unfolding sort_at branch_at
  fused_at k f by e q =
      ap (λ (j : ℕ). sort_by W traces T env (eval_at W traces T env d) w j) e
      ∙ by (eval_at W traces T env d)
      ∙ ap (λ (v : ℕ). branch_by (eval_at W traces T env d) w (f v)) (sym q)

  -- where the list is not empty, the branch for False is chosen
  pub branch_long : (v : ℕ) {x : ℕ} → has_samples v ≡ true → x ≡ get_or W (third_place w) 0
      → branch_at W traces T env d w (null_of v) ≡ eval_word W traces T env d x
  branch_long v h q =
      let no : null_of v ≡ 1 = null_long v h in
      branch_taken W traces T env d w (null_of v) (rw (no, q))

  pub call_leaves_at_lem : 0 < d → {sort : ℕ} → sort ≡ sort_of w → sort ≡ call_leaves_sort → eval_word W traces T env d w ≡ call_leaves_at W traces T env w
  unfolding call_leaves_at
  call_leaves_at_lem h e q = eval_sort W traces T env d w (λ z. omega arith) call_leaves_sort e q

  pub call_one_at_lem : 0 < d → sort_of w ≡ call_one_sort → eval_word W traces T env d w ≡ call_one_at W traces T env (d - 1) w
  unfolding call_one_at
  call_one_at_lem h e = eval_sort W traces T env d w (λ z. omega arith) call_one_sort refl e
