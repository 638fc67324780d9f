-- A mirror of the code: whether a program only loops, by its bytes. No reader need believe it: proofs/ shows that it comes to
-- what `only_loops` of chains says of the program.
use Rattle.std.specs.Prelude.{ℕ, zero, suc, ◌+◌, ◌-◌, ◌%◌, min, Bool, true, false, ◌&&◌, cond, List, [], ◌∷◌, ltb, length, get_or, take, drop}
use Rattle.syntax.specs.declared.Node.{Node}
use Rattle.syntax.specs.declared.Node.TheVariants as node
use Rattle.syntax.specs.Limits.{most_functions}
use Rattle.syntax.specs.Bytes.{node_of}
use Rattle.rule.specs.declared.Outline.{Outline}
use Rattle.rule.specs.Walk.{at_most_four}
use Rattle.loops.specs.declared.Shape.{Shape}

-- ---- Nodes

-- a node with so many operands, in none of which a call may stand: hd, tl, null and leaves
abbrev pub plain : ℕ → Shape
plain n = record { call = false; operands = n; inner = n }

-- a call with so many arguments
abbrev pub called : ℕ → Shape
called n = record { call = true; operands = n; inner = n }

-- how many arguments a call of function g has; `params` are the functions' counts of parameters
abbrev pub arguments_of : List ℕ → ℕ → ℕ
arguments_of params g = at_most_four (get_or params (g % most_functions) 0)

-- what a node asks for; of an if that is in a place where a call may stand the condition is the one operand in which none may
abbrev pub shape_of : List ℕ → Node → Shape
shape_of params node.False = plain 0
shape_of params node.True = plain 0
shape_of params node.Empty = plain 0
shape_of params node.EmptyGuard = plain 0
shape_of params (node.Param i) = plain 0
shape_of params node.Head = plain 1
shape_of params node.Tail = plain 1
shape_of params node.Null = plain 1
shape_of params node.If = record { call = false; operands = 3; inner = 1 }
shape_of params node.Cons = plain 0
shape_of params (node.Call g) = called (arguments_of params g)
shape_of params node.Unknown = plain 0

-- ---- Bytes

-- the node at a byte before which so many expressions are due in which no call may stand; `next` is what the bytes after it come to, by
-- how many are due then
abbrev pub node_loops : (ℕ → Bool) → ℕ → Shape → Bool
node_loops next zero shape = next shape.inner
node_loops next (suc due) shape = cond shape.call false (next (due + shape.operands))

-- bytes before which so many are due
unfoldable pub loops_from : List ℕ → ℕ → List ℕ → Bool
loops_from params due [] = true
loops_from params due (b ∷ bs) = node_loops (λ n. loops_from params n bs) due (shape_of params (node_of b))

-- ---- Bodies

-- the body between two places of a program
unfoldable pub body_loops : List ℕ → List ℕ → ℕ → ℕ → Bool
body_loops bytes params start end =
    cond (ltb end start) false
    (cond (ltb (length bytes) end) false
    (loops_from params 0 (take (end - start) (drop start bytes))))

-- body i by an outline
abbrev pub body_by : List ℕ → List ℕ → List ℕ → List ℕ → ℕ → Bool
body_by bytes params starts ends i = body_loops bytes params (get_or starts i 0) (get_or ends i 0)

-- so many bodies, from body i on
unfoldable pub bodies_loop : (ℕ → Bool) → ℕ → ℕ → Bool
bodies_loop loops zero i = true
bodies_loop loops (suc n) i = loops i && bodies_loop loops n (i + 1)

-- all bodies by an outline
unfoldable pub loops_by : List ℕ → Outline → Bool
loops_by bytes o = bodies_loop (body_by bytes o.params o.starts o.ends) (min o.functions most_functions) 0
