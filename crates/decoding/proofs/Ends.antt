-- Where the expressions of a program end:
--   Starts                       an expression starts at a place of a program
--   Ends                         the ends of the expressions that start at a place or after it, as far as a body reaches
--   After, after_operand         where an operand stands, and what stands after it
--   byte_here, byte_within,
--   bytes_after                  the first byte of some, its place, and the bytes after it
--   arguments_mean               how many arguments a call has
--   ends_mean                    the ends that are worked out from the last place down
use mathlib.Core.Path.{◌≡◌, refl, sym, ap, ◌∙◌}
use mathlib.Core.Logic.{⊎_elim}
use mathlib.Core.Bool.{true, false}
use mathlib.Core.List.{List, ◌∷◌, ◌++◌, append_assoc}
use mathlib.Core.Option.{some}
use Prim.Native.Nat.{ℕ, zero, suc, ◌+◌, ◌-◌, ◌%◌, ◌<◌, ◌≤◌}
use native.Mathlib.Nat.{eq-or-lt_of_le}
use native.Mathlib.Omega.{arith}
use lib.ListN.{length, get_elem?, get_or, set, drop, replicate, length-append, length-drop, length-set, length-replicate}
use lib.Seq.{drop-drop, drop-append_seam, get_or-drop, get_or-set_same, get_or-set_other}
use borrow.Author.Tests.{lt-ltb}
use Rattle.semantics.specs.declared.Contact.TheVariants.{Ram, Guard}
use Rattle.semantics.specs.declared.Sort.{Sort}
use Rattle.semantics.specs.declared.Kind.{Kind}
use Rattle.semantics.specs.declared.Kind.TheVariants.{Truth as truth}
use Rattle.semantics.specs.declared.Demand.{Demand}
use Rattle.semantics.specs.declared.Demand.TheVariants.{Only as only}
use Rattle.semantics.specs.Language.{Op, hd, tl, null, Expr, constant, empty, param, op, ifte, call, Args, no_args, arg, Function, Program, operand_demand, Meets, MeetAll}
use Rattle.syntax.specs.declared.Node.{Node}
use Rattle.syntax.specs.Limits.{most_params, most_body}
use Rattle.rule.specs.Form.{op_byte, encode_expr, encode_args, Accepted}
use Rattle.syntax.specs.Bytes.{node_of}
use Rattle.rule.specs.Outline.{outline_of}
use Rattle.rule.proofs.NodeBytes.{op_node, node_false, node_true, node_empty, node_empty_guard, node_if, node_op, node_param, node_call}
use Rattle.rule.proofs.Expressions.{place-below}
use Rattle.rule.proofs.FunctionBytes.{expr_bytes}
use Rattle.rule.proofs.WalkMeaning.{at_most_four_lem}
use Rattle.decoding.specs.Decoding.{end_at, ends_after, arguments_of, operands_of, end_by, ends_down}
use Rattle.rule.proofs.OutlineMeaning.{params_at}

-- an expression that meets a demand starts at a place; Γ are the kinds of its function's parameters
pub record Starts (P : Program) (bytes : List ℕ) (at : ℕ) (e : Expr) : Type 0 where
  pub Γ : List Kind
  pub demand : Demand
  pub narrow : length Γ ≤ most_params
  pub meets : Meets P Γ demand e
  pub rest : List ℕ
  pub here : drop at bytes ≡ encode_expr e ++ rest

pub record Ends (P : Program) (bytes : List ℕ) (at : ℕ) (ends : List ℕ) : Type 0 where
  pub long : length ends ≡ most_body
  pub right : (p : ℕ) (e : Expr) → at ≤ p → p + length (encode_expr e) ≤ at + most_body → Starts P bytes p e → end_at ends p ≡ p + length (encode_expr e)

-- ---- Places of a list

module _ (l : List ℕ) (at : ℕ) where
  -- the first byte, and those after it
  pub byte_here : {b : ℕ} {bs : List ℕ} → drop at l ≡ b ∷ bs → get_or l at 0 ≡ b
  byte_here e = let z : at + 0 ≡ at = omega arith in rw z at (sym (get_or-drop at l 0 0) ∙ ap (λ (bs : List ℕ). get_or bs 0 0) e)

  pub bytes_after : {b : ℕ} {bs : List ℕ} → drop at l ≡ b ∷ bs → drop (at + 1) l ≡ bs
  bytes_after e = sym (drop-drop 1 at l) ∙ ap (drop 1) e

  pub byte_within : {b : ℕ} {bs : List ℕ} → drop at l ≡ b ∷ bs → at < length l
  byte_within e = omega (arith, ap length e, length-drop at l)

  -- what stands after some bytes
  after : (front rest : List ℕ) → drop at l ≡ front ++ rest → drop (at + length front) l ≡ rest
  after front rest e = sym (drop-drop (length front) at l) ∙ ap (drop (length front)) e ∙ drop-append_seam front rest

-- where an expression starts is a place of the program
pub starts_within : {P : Program} (bytes : List ℕ) (at : ℕ) (e : Expr) → Starts P bytes at e → at < length bytes
starts_within bytes at e s =
    omega (arith, expr_bytes e, length-append (encode_expr e) s.rest, ap length s.here, length-drop at bytes)

-- ---- Operands, by the ends after a place

module _ (P : Program) (bytes : List ℕ) (low : ℕ) (ends : List ℕ) (u : Ends P bytes low ends) (Γ : List Kind) (narrow : length Γ ≤ most_params) where
  operand : (q : Demand) (e : Expr) (at : ℕ) (rest : List ℕ) → low ≤ at → at + length (encode_expr e) ≤ low + most_body → Meets P Γ q e
      → drop at bytes ≡ encode_expr e ++ rest → (end_at ends at ≡ at + length (encode_expr e)) × (drop (at + length (encode_expr e)) bytes ≡ rest)
  operand q e at rest h near m d =
      let s : Starts P bytes at e = record { Γ = Γ; demand = q; narrow = narrow; meets = m; rest = rest; here = d } in
      (u.right at e h near s, after bytes at (encode_expr e) rest d)

  -- an operand of so many bytes stands at a place of the program, and some bytes after it
  pub record After (at size : ℕ) (later : List ℕ) : Type 0 where
    pub within : at < length bytes
    pub end : end_at ends at ≡ at + size
    pub above : low ≤ end_at ends at
    pub rest : drop (end_at ends at) bytes ≡ later

  pub after_operand : (q : Demand) (e : Expr) (at : ℕ) (rest : List ℕ) → low ≤ at → at + length (encode_expr e) ≤ low + most_body → Meets P Γ q e
      → drop at bytes ≡ encode_expr e ++ rest → After at (length (encode_expr e)) rest
  after_operand q e at rest h near m d =
      let o = operand q e at rest h near m d in
      let s : Starts P bytes at e = record { Γ = Γ; demand = q; narrow = narrow; meets = m; rest = rest; here = d } in
      record { within = starts_within bytes at e s; end = o.0; above = omega (arith, o.0); rest = rw o.0 o.1 }

  operands : (xs : Args) (κs : List Kind) (at : ℕ) (rest : List ℕ) → low ≤ at → at + length (encode_args xs) ≤ low + most_body → MeetAll P Γ κs xs
      → drop at bytes ≡ encode_args xs ++ rest → ends_after ends (length κs) at ≡ at + length (encode_args xs)
  unfolding ends_after encode_args
  operands no_args κs at rest h near m d = rw m (omega arith)
  operands (arg e xs) κs at rest h near m d =
      let both = length-append (encode_expr e) (encode_args xs) in
      let first = operand (only m.0) e at (encode_args xs ++ rest) h (omega (arith, near, both)) m.3 (d ∙ append_assoc (encode_expr e) (encode_args xs) rest) in
      let later = operands xs m.1 (at + length (encode_expr e)) rest (omega arith) (omega (arith, near, both)) m.4 first.1 in
      let sum : at + length (encode_expr e) + length (encode_args xs) ≡ at + length (encode_expr e ++ encode_args xs) = omega (arith, both) in
      ap (λ (ks : List Kind). ends_after ends (length ks) at) m.2 ∙ ap (ends_after ends (length m.1)) first.0 ∙ later ∙ sum

-- ---- The expression at a place, by the ends after it

-- how many arguments a call has
pub arguments_mean : {bytes : List ℕ} {s : Sort} {P : Program} → Accepted bytes s P → (g : ℕ) (f : Function) → get_elem? P g ≡ some f
    → arguments_of (outline_of s P).params g ≡ length f.params
arguments_mean {s = s} {P = P} a g f e =
    rw (lt-ltb g 32 (omega (arith, place-below P g f e, a.few)), params_at s P g f e) (at_most_four_lem (length f.params) (a.fits g f e).params)

module _ {bytes : List ℕ} {s : Sort} {P : Program} (a : Accepted bytes s P) (ends : List ℕ) (at : ℕ) where
  -- by the node that stands there
  by_node : (b : ℕ) (bs : List ℕ) (n : Node) → drop at bytes ≡ b ∷ bs → node_of b ≡ n
      → end_by bytes (outline_of s P).params ends at ≡ ends_after ends (operands_of (outline_of s P).params n) (at + 1)
  unfolding end_by
  by_node b bs n d e =
      ap (λ (x : Node). ends_after ends (operands_of (outline_of s P).params x) (at + 1))
      (ap node_of (byte_here bytes at d) ∙ e)

  module _ (u : Ends P bytes (at + 1) ends) (Γ : List Kind) (narrow : length Γ ≤ most_params) (rest : List ℕ) where
    op_end : (p : Op) (q : Demand) (e : Expr) → length (encode_expr e) < most_body → Meets P Γ q e → drop at bytes ≡ op_byte p ∷ (encode_expr e ++ rest)
        → end_by bytes (outline_of s P).params ends at ≡ at + 1 + length (encode_expr e)
    unfolding ends_after
    op_end p q e near m d =
        by_node _ _ _ d (node_op p) ∙ one p
        ∙ (operand P bytes (at + 1) ends u Γ narrow q e (at + 1) rest (omega arith) (omega arith) m (bytes_after bytes at d)).0
      where
        one : (o : Op) → ends_after ends (operands_of (outline_of s P).params (op_node o)) (at + 1) ≡ end_at ends (at + 1)
        one hd = refl
        one tl = refl
        one null = refl

    if_end : (q : Demand) (c x y : Expr) → length (encode_expr c) + length (encode_expr x) + length (encode_expr y) < most_body → Meets P Γ (only truth) c → Meets P Γ q x → Meets P Γ q y
        → drop at bytes ≡ 0x23 ∷ (encode_expr c ++ (encode_expr x ++ (encode_expr y ++ rest)))
        → end_by bytes (outline_of s P).params ends at
        ≡ at + 1 + length (encode_expr c) + length (encode_expr x) + length (encode_expr y)
    unfolding ends_after
    if_end q c x y near mc mx my d =
        let at₁ = at + 1 in
        let at₂ = at₁ + length (encode_expr c) in
        let at₃ = at₂ + length (encode_expr x) in
        let first = operand P bytes (at + 1) ends u Γ narrow (only truth) c at₁ _ (omega arith) (omega arith) mc (bytes_after bytes at d) in
        let second = operand P bytes (at + 1) ends u Γ narrow q x at₂ _ (omega arith) (omega arith) mx first.1 in
        let third = operand P bytes (at + 1) ends u Γ narrow q y at₃ _ (omega arith) (omega arith) my second.1 in
        by_node _ _ _ d node_if
        ∙ ap (λ (p : ℕ). end_at ends (end_at ends p)) first.0
        ∙ ap (end_at ends) second.0
        ∙ third.0

    call_end : (g : ℕ) (f : Function) (xs : Args) → length (encode_args xs) < most_body → get_elem? P g ≡ some f → MeetAll P Γ f.params xs
        → drop at bytes ≡ (0x80 + g) ∷ (encode_args xs ++ rest)
        → end_by bytes (outline_of s P).params ends at ≡ at + 1 + length (encode_args xs)
    call_end g f xs near e m d =
        by_node _ _ _ d (node_call {g = g} (omega (arith, place-below P g f e, a.few)))
        ∙ ap (λ (n : ℕ). ends_after ends n (at + 1)) (arguments_mean a g f e)
        ∙ operands P bytes (at + 1) ends u Γ narrow xs f.params (at + 1) rest (omega arith) (omega arith) m (bytes_after bytes at d)

  node_end : Ends P bytes (at + 1) ends → (e : Expr) → length (encode_expr e) ≤ most_body → Starts P bytes at e
      → end_by bytes (outline_of s P).params ends at ≡ at + length (encode_expr e)
  unfolding ends_after encode_expr
  node_end u (constant false) near z = by_node _ _ _ z.here node_false
  node_end u (constant true) near z = by_node _ _ _ z.here node_true
  node_end u (empty Ram) near z = by_node _ _ _ z.here node_empty
  node_end u (empty Guard) near z = by_node _ _ _ z.here node_empty_guard
  node_end u (param i) near z =
      by_node _ _ _ z.here (node_param {i = i} (omega (arith, place-below z.Γ i z.meets.0 z.meets.1, z.narrow)))
  node_end u (op p e) near z =
      op_end u z.Γ z.narrow z.rest p (operand_demand p z.demand) e (omega (arith, near)) z.meets.1 z.here ∙ omega arith
  node_end u (ifte c x y) near z =
      let all : length (encode_expr c ++ (encode_expr x ++ encode_expr y)) ≡ length (encode_expr c) + (length (encode_expr x) + length (encode_expr y)) = simp length-append in
      let sum : at + 1 + length (encode_expr c) + length (encode_expr x) + length (encode_expr y)
      ≡ at + suc (length (encode_expr c ++ (encode_expr x ++ encode_expr y)))
      = omega (arith, all) in
      if_end u z.Γ z.narrow z.rest z.demand c x y (omega (arith, near, all)) z.meets.0 z.meets.1 z.meets.2 (simp append_assoc at z.here)
      ∙ sum
  node_end u (call g xs) near z =
      call_end u z.Γ z.narrow z.rest g z.meets.0 xs (omega (arith, near)) z.meets.1 z.meets.3 z.here ∙ omega arith

-- ---- From the last place down

-- one more end, in the place of one that no body reaches any more
ends-one : {bytes : List ℕ} {s : Sort} {P : Program} → Accepted bytes s P → (at : ℕ) (later : List ℕ) → Ends P bytes (at + 1) later
    → Ends P bytes at (set later (at % most_body) (end_by bytes (outline_of s P).params later at))
unfolding end_at
ends-one {bytes} {s} {P} a at later u =
    let end = end_by bytes (outline_of s P).params later at in
    record {
      long = length-set later (at % most_body) end ∙ u.long;
      right = λ p e l near z. ⊎_elim
          (λ q. rw (← q)
          (get_or-set_same later (at % most_body) end 0 (omega (arith, u.long)) ∙ node_end a later at u e (omega (arith, near, q)) (rw (← q) at z)))
          (λ q. get_or-set_other later (at % most_body) (p % most_body) end 0 (λ same. omega (arith, same, near, expr_bytes e))
          ∙ u.right p e (omega arith) (omega (arith, near)) z)
          (eq-or-lt_of_le l);
    }

module _ {bytes : List ℕ} {s : Sort} {P : Program} (a : Accepted bytes s P) (z : List ℕ) (long : length z ≡ most_body) where
  -- the ends that the first k turns leave
  ends_upto : (k at : ℕ) → at + k ≡ length bytes → Ends P bytes at (ends_down bytes (outline_of s P).params k at z)
  unfolding ends_down
  ends_upto zero at e = record { long = long; right = λ p x h near y. absurd (omega (arith, starts_within bytes p x y)) }
  ends_upto (suc k) at e =
      let later = ends_down bytes (outline_of s P).params k (at + 1) z in
      ends-one a at later (ends_upto k (at + 1) (omega arith))

pub ends_mean : {bytes : List ℕ} {s : Sort} {P : Program} → Accepted bytes s P → (at : ℕ) → at ≤ length bytes
    → Ends P bytes at (ends_down bytes (outline_of s P).params (length bytes - at) at (replicate most_body 0))
ends_mean {bytes} a at h = ends_upto a (replicate most_body 0) (length-replicate {A = ℕ} most_body 0) (length bytes - at) at (omega arith)
