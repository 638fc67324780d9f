-- A mirror of the code: the outcome of a body, taken along its spine. No reader need believe it: proofs/ shows that it comes to
-- what the evaluator's does.
use Rattle.std.specs.Prelude.{ℕ, List}
use Rattle.evaluator.specs.{sort_by, eval_at}

-- a word of a sort, with so much depth left below it
unfoldable pub sort_at : List ℕ → List ℕ → List ℕ → List ℕ → ℕ → ℕ → ℕ → ℕ
sort_at words traces table env d w sort = sort_by words traces table env (eval_at words traces table env d) w sort
