-- 'Rules that need no table' of document 02: 'each call is the whole body, or a branch of an if that itself is in such a place, and none
-- stands in a condition, operand or argument'.
use Rattle.std.specs.Prelude.{Bool, true, false, ◌&&◌, [], ◌∷◌}
use Rattle.semantics.specs.Language.{Expr, constant, empty, param, op, ifte, call, Args, no_args, arg, Program}

-- no call stands in an expression, or in arguments
unfoldable mutual
  pub no_call : Expr → Bool
  no_call (constant b) = true
  no_call (empty c) = true
  no_call (param i) = true
  no_call (op p e) = no_call e
  no_call (ifte c a b) = no_call c && (no_call a && no_call b)
  no_call (call g xs) = false

  pub no_call_among : Args → Bool
  no_call_among no_args = true
  no_call_among (arg e xs) = no_call e && no_call_among xs

-- an expression in such a place: a whole body, or a branch of an if in such a place
unfoldable pub loops_in : Expr → Bool
loops_in (constant b) = true
loops_in (empty c) = true
loops_in (param i) = true
loops_in (op p e) = no_call e
loops_in (ifte c a b) = no_call c && (loops_in a && loops_in b)
loops_in (call g xs) = no_call_among xs

-- the same of every function, reachable or not
unfoldable pub only_loops : Program → Bool
only_loops [] = true
only_loops (f ∷ fs) = loops_in f.body && only_loops fs
