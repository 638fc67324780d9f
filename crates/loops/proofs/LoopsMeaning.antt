-- The bytes of an accepted program tell whether it only loops:
--   Counts                 the counts of parameters that a program's functions have
--   inside, args-inside    an expression, and arguments, where no call may stand
--   outside, whole         an expression where one may, and a whole body
--   ends_at                where the body of a function ends
--   loops_mean             an accepted program
use mathlib.Core.Path.{◌≡◌, refl, sym, ap, ◌∙◌}
use mathlib.Core.Bool.{Bool, true, false, ◌&&◌, and-true, and_assoc}
use mathlib.Core.List.{List, [], ◌∷◌, ◌++◌, append_assoc, append-nil}
use mathlib.Core.Option.{some}
use Prim.Native.Nat.{ℕ, zero, suc, ◌+◌, ◌-◌, ◌%◌, ◌≤◌, min}
use native.Mathlib.Omega.{arith}
use lib.ListN.{length, get_elem?, get_or, take, drop, length-append, length-drop}
use lib.Seq.{take_at}
use borrow.Author.Tests.{le-ltb}
use Rattle.semantics.specs.declared.Contact.TheVariants.{Ram, Guard}
use Rattle.semantics.specs.declared.Sort.{Sort}
use Rattle.semantics.specs.declared.Kind.{Kind}
use Rattle.semantics.specs.declared.Kind.TheVariants.{Truth as truth}
use Rattle.semantics.specs.declared.Demand.{Demand}
use Rattle.semantics.specs.declared.Demand.TheVariants.{Only as only}
use Rattle.semantics.specs.Language.{Op, hd, tl, null, Expr, constant, empty, param, op, ifte, call, Args, no_args, arg, Function, Program, operand_demand, Meets, MeetAll}
use Rattle.syntax.specs.declared.Node.{Node}
use Rattle.syntax.specs.declared.Node.TheVariants as node
use Rattle.syntax.specs.Limits.{most_functions, most_params}
use Rattle.syntax.specs.Bytes.{node_of, header_bytes}
use Rattle.rule.specs.Form.{op_byte, encode_expr, encode_args, Accepted}
use Rattle.rule.specs.Outline.{starts_from, ends_from, outline_of}
use Rattle.rule.proofs.Padded.{get_or-padded}
use Rattle.rule.proofs.NodeBytes.{node_false, node_true, node_empty, node_empty_guard, node_if, node_op, node_param, node_call}
use Rattle.rule.proofs.Expressions.{place-below}
use Rattle.rule.proofs.FunctionBytes.{expr_bytes}
use Rattle.rule.proofs.Places.{body_at}
use Rattle.rule.proofs.OutlineMeaning.{params_at}
use Rattle.rule.proofs.WalkMeaning.{at_most_four_lem}
use Rattle.chains.specs.Loops.{no_call, no_call_among, loops_in, only_loops}
use Rattle.loops.specs.{arguments_of, shape_of, loops_from, body_loops, body_by, bodies_loop, loops_by}

-- ---- Expressions

-- `params` are the counts of parameters of a program's functions
pub record Counts (P : Program) (params : List ℕ) : Type 0 where
  pub few : length P ≤ most_functions
  pub arguments : (g : ℕ) (f : Function) → get_elem? P g ≡ some f → arguments_of params g ≡ length f.params

module _ (params : List ℕ) where
  -- a node where no call may stand, and where one may
  node_inside : (b : ℕ) {n : Node} (due next : ℕ) (bs : List ℕ) → node_of b ≡ n → (shape_of params n).call ≡ false → due + (shape_of params n).operands ≡ next
      → loops_from params (suc due) (b ∷ bs) ≡ loops_from params next bs
  unfolding loops_from
  node_inside b due next bs e c k = rw (e, c, k)

  node_outside : (b : ℕ) {n : Node} (next : ℕ) (bs : List ℕ) → node_of b ≡ n → (shape_of params n).inner ≡ next
      → loops_from params 0 (b ∷ bs) ≡ loops_from params next bs
  unfolding loops_from
  node_outside b next bs e k = rw (e, k)

  call-inside : (b : ℕ) {g : ℕ} (due : ℕ) (bs : List ℕ) → node_of b ≡ node.Call g → loops_from params (suc due) (b ∷ bs) ≡ false
  unfolding loops_from
  call-inside b due bs e = rw e

  op-inside : (p : Op) (due : ℕ) (bs : List ℕ) → loops_from params (suc due) (op_byte p ∷ bs) ≡ loops_from params (suc due) bs
  op-inside hd due bs = node_inside (op_byte hd) due (suc due) bs (node_op hd) refl (omega arith)
  op-inside tl due bs = node_inside (op_byte tl) due (suc due) bs (node_op tl) refl (omega arith)
  op-inside null due bs = node_inside (op_byte null) due (suc due) bs (node_op null) refl (omega arith)

  op_outside : (p : Op) (bs : List ℕ) → loops_from params 0 (op_byte p ∷ bs) ≡ loops_from params 1 bs
  op_outside hd bs = node_outside (op_byte hd) 1 bs (node_op hd) refl
  op_outside tl bs = node_outside (op_byte tl) 1 bs (node_op tl) refl
  op_outside null bs = node_outside (op_byte null) 1 bs (node_op null) refl

  -- the condition and the branches of an if, one after the other; so many expressions are due before each, and after all
  parts : (k₀ k₁ k₂ k₃ : ℕ) (c x y rest : List ℕ) (p q r : Bool) → loops_from params k₀ (c ++ (x ++ (y ++ rest))) ≡ (p && loops_from params k₁ (x ++ (y ++ rest)))
      → loops_from params k₁ (x ++ (y ++ rest)) ≡ (q && loops_from params k₂ (y ++ rest)) → loops_from params k₂ (y ++ rest) ≡ (r && loops_from params k₃ rest)
      → loops_from params k₀ ((c ++ (x ++ y)) ++ rest) ≡ ((p && (q && r)) && loops_from params k₃ rest)
  parts k₀ k₁ k₂ k₃ c x y rest p q r hc hx hy = simp (append_assoc, and_assoc) (rw (hc, hx, hy))

module _ (P : Program) (params : List ℕ) (u : Counts P params) (Γ : List Kind) (narrow : length Γ ≤ most_params) where
  param_node : (i : ℕ) (κ : Kind) → get_elem? Γ i ≡ some κ → node_of (0x10 + i) ≡ node.Param i
  param_node i κ e = node_param {i = i} (omega (arith, place-below Γ i κ e))

  call_node : (g : ℕ) (f : Function) → get_elem? P g ≡ some f → node_of (0x80 + g) ≡ node.Call g
  call_node g f e = node_call {g = g} (omega (arith, place-below P g f e, u.few))

  mutual
    unfolding encode_expr encode_args no_call no_call_among

    pub inside : (e : Expr) (d : Demand) (due : ℕ) (rest : List ℕ) → Meets P Γ d e
        → loops_from params (suc due) (encode_expr e ++ rest) ≡ (no_call e && loops_from params due rest)
    inside (constant false) d due rest m = node_inside params 0x00 due due rest node_false refl (omega arith)
    inside (constant true) d due rest m = node_inside params 0x01 due due rest node_true refl (omega arith)
    inside (empty Ram) d due rest m = node_inside params 0x02 due due rest node_empty refl (omega arith)
    inside (empty Guard) d due rest m = node_inside params 0x03 due due rest node_empty_guard refl (omega arith)
    inside (param i) d due rest m = node_inside params (0x10 + i) due due rest (param_node i m.0 m.1) refl (omega arith)
    inside (op p e) d due rest m = op-inside params p due (encode_expr e ++ rest) ∙ inside e (operand_demand p d) due rest m.1
    inside (ifte c x y) d due rest m =
        node_inside params 0x23 due (suc (suc (suc due))) ((encode_expr c ++ (encode_expr x ++ encode_expr y)) ++ rest) node_if refl (omega arith)
        ∙ parts params (suc (suc (suc due))) (suc (suc due)) (suc due) due (encode_expr c) (encode_expr x) (encode_expr y) rest (no_call c) (no_call x) (no_call y)
        (inside c (only truth) (suc (suc due)) (encode_expr x ++ (encode_expr y ++ rest)) m.0)
        (inside x d (suc due) (encode_expr y ++ rest) m.1)
        (inside y d due rest m.2)
    inside (call g xs) d due rest m = call-inside params (0x80 + g) due (encode_args xs ++ rest) (call_node g m.0 m.1)

    pub args-inside : (xs : Args) (κs : List Kind) (due : ℕ) (rest : List ℕ) → MeetAll P Γ κs xs
        → loops_from params (length κs + due) (encode_args xs ++ rest) ≡ (no_call_among xs && loops_from params due rest)
    args-inside no_args κs due rest m = let z : 0 + due ≡ due = omega arith in rw (m, z)
    args-inside (arg e xs) κs due rest m =
        let z : suc (length m.1) + due ≡ suc (length m.1 + due) = omega arith in
        let first = inside e (only m.0) (length m.1 + due) (encode_args xs ++ rest) m.3 in
        let others = args-inside xs m.1 due rest m.4 in
        rw (m.2, z, append_assoc (encode_expr e) (encode_args xs) rest, first, others) (sym (and_assoc (no_call e) (no_call_among xs) (loops_from params due rest)))

  pub outside : (e : Expr) (d : Demand) (rest : List ℕ) → Meets P Γ d e → loops_from params 0 (encode_expr e ++ rest) ≡ (loops_in e && loops_from params 0 rest)
  unfolding encode_expr loops_in
  outside (constant false) d rest m = node_outside params 0x00 0 rest node_false refl
  outside (constant true) d rest m = node_outside params 0x01 0 rest node_true refl
  outside (empty Ram) d rest m = node_outside params 0x02 0 rest node_empty refl
  outside (empty Guard) d rest m = node_outside params 0x03 0 rest node_empty_guard refl
  outside (param i) d rest m = node_outside params (0x10 + i) 0 rest (param_node i m.0 m.1) refl
  outside (op p e) d rest m = op_outside params p (encode_expr e ++ rest) ∙ inside e (operand_demand p d) 0 rest m.1
  outside (ifte c x y) d rest m =
      node_outside params 0x23 1 ((encode_expr c ++ (encode_expr x ++ encode_expr y)) ++ rest) node_if refl
      ∙ parts params 1 0 0 0 (encode_expr c) (encode_expr x) (encode_expr y) rest (no_call c) (loops_in x) (loops_in y)
      (inside c (only truth) 0 (encode_expr x ++ (encode_expr y ++ rest)) m.0)
      (outside x d (encode_expr y ++ rest) m.1)
      (outside y d rest m.2)
  outside (call g xs) d rest m =
      let z : arguments_of params g ≡ length m.0.params + 0 = u.arguments g m.0 m.1 ∙ omega arith in
      node_outside params (0x80 + g) (length m.0.params + 0) (encode_args xs ++ rest) (call_node g m.0 m.1) z ∙ args-inside xs m.0.params 0 rest m.3

  -- a whole body
  pub whole : (e : Expr) (d : Demand) → Meets P Γ d e → loops_from params 0 (encode_expr e) ≡ loops_in e
  unfolding loops_from
  whole e d m = ap (loops_from params 0) (sym (append-nil (encode_expr e))) ∙ outside e d [] m ∙ and-true (loops_in e)

-- ---- Bodies

-- where the body of a function ends; the first header stands at `at`
pub ends_at : (s : Sort) (P : Program) (at g : ℕ) (f : Function) → get_elem? P g ≡ some f
    → get_or (ends_from s at P) g 0 ≡ get_or (starts_from s at P) g 0 + length (encode_expr f.body)
unfolding starts_from ends_from
ends_at s [] at g f e = let z : ◌≡◌ {A = ℕ} 0 1 = cc in absurd (omega arith)
ends_at s (f' ∷ P) at zero f e = let same : f' ≡ f = cc in rw same
ends_at s (f' ∷ P) at (suc g) f e = ends_at s P (at + header_bytes s + length (encode_expr f'.body)) g f e

-- the bytes between two places, where those of an expression stand
part_is : (bytes : List ℕ) (start : ℕ) (e : Expr) (rest : List ℕ) → drop start bytes ≡ encode_expr e ++ rest
    → (start + length (encode_expr e) ≤ length bytes) × (take (start + length (encode_expr e) - start) (drop start bytes) ≡ encode_expr e)
part_is bytes start e rest d =
    let size : length (encode_expr e) ≡ start + length (encode_expr e) - start = omega arith in (
      omega (arith, ap length d, length-append (encode_expr e) rest, length-drop start bytes, expr_bytes e),
      ap (take (start + length (encode_expr e) - start)) d ∙ take_at (encode_expr e) rest _ size,
    )

-- the body of each function, as the outline says where it stands
module _ {bytes : List ℕ} {s : Sort} {P : Program} (a : Accepted bytes s P) where
  counts : Counts P (outline_of s P).params
  counts =
      record {
        few = a.few;
        arguments = λ g f e.
            let same : g % most_functions ≡ g = omega (arith, place-below P g f e, a.few) in
            rw (same, params_at s P g f e) (at_most_four_lem (length f.params) (a.fits g f e).params);
      }

  start_is : (g : ℕ) → get_or (outline_of s P).starts g 0 ≡ get_or (starts_from s 1 P) g 0
  unfolding outline_of
  start_is g = get_or-padded most_functions 0 (starts_from s 1 P) g

  end_is : (g : ℕ) (f : Function) → get_elem? P g ≡ some f → get_or (outline_of s P).ends g 0 ≡ get_or (starts_from s 1 P) g 0 + length (encode_expr f.body)
  unfolding outline_of
  end_is g f e = get_or-padded most_functions 0 (ends_from s 1 P) g ∙ ends_at s P 1 g f e

  -- a body between its places
  body_means : (g : ℕ) (f : Function) → get_elem? P g ≡ some f
      → body_by bytes (outline_of s P).params (outline_of s P).starts (outline_of s P).ends g ≡ loops_in f.body
  unfolding body_loops
  body_means g f e =
      let start = get_or (starts_from s 1 P) g 0 in
      let end = start + length (encode_expr f.body) in
      let part = part_is bytes start f.body _ (body_at bytes s P a g f e).1 in
      let ordered : start ≤ end = omega arith in
      rw (start_is g, end_is g f e, le-ltb end start ordered, le-ltb (length bytes) end part.0, part.1)
      (whole P (outline_of s P).params counts f.params (a.fits g f e).params f.body (only f.result) (a.kinds g f e))

-- bodies one after the other, from body i on
bodies_mean : (loops : ℕ → Bool) (P : Program) (i : ℕ) → ((g : ℕ) (f : Function) → get_elem? P g ≡ some f → loops (i + g) ≡ loops_in f.body)
    → bodies_loop loops (length P) i ≡ only_loops P
unfolding bodies_loop only_loops
bodies_mean loops [] i h = refl
bodies_mean loops (f ∷ P) i h =
    let here : i + 0 ≡ i = omega arith in
    let more = bodies_mean loops P (i + 1) (λ g f' e. let next : i + 1 + g ≡ i + suc g = omega arith in rw next (h (suc g) f' e)) in
    rw (rw here at (h 0 f refl), more)

-- the bytes of an accepted program tell whether it only loops
pub loops_mean : {bytes : List ℕ} {s : Sort} {P : Program} → Accepted bytes s P → loops_by bytes (outline_of s P) ≡ only_loops P
unfolding loops_by outline_of
loops_mean {bytes} {s} {P} a =
    let all : min (length P) most_functions ≡ length P = omega (arith, a.few) in
    rw all (bodies_mean _ P 0 (λ g f e. let z : 0 + g ≡ g = omega arith in rw z (body_means a g f e)))
