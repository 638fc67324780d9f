-- Laws of the table of expression bytes:
--   node_false, node_true, node_empty, node_empty_guard, node_if, node_op
--                          what the bytes of constants, the if and the operations stand for
--   node_param, node_call  what the bytes of parameters and calls stand for
--   node_inv               a byte that stands for a node is the byte of that node
use mathlib.Core.Path.{◌≡◌, refl}
use mathlib.Core.Bool.{Bool, true, false, ◌&&◌, cond}
use Prim.Native.Nat.{ℕ, suc, ◌+◌, ◌-◌, ◌<◌, ◌≤◌}
use native.Mathlib.Omega.{arith}
use lib.Dec.{leb, eqb}
use borrow.Author.Tests.{eqb-true, leb-true, ne_eqb, le-leb, lt-leb}
use Rattle.semantics.specs.Language.{Op, hd, tl, null}
use Rattle.syntax.specs.declared.Node.{Node}
use Rattle.syntax.specs.declared.Node.TheVariants as node
use Rattle.rule.specs.Form.{op_byte}
use Rattle.syntax.specs.Bytes.{node_of}
use Rattle.rule.proofs.Tests.{both}

-- ---- From the byte to the node

pub node_false : node_of 0x00 ≡ node.False
unfolding node_of
node_false = refl

pub node_true : node_of 0x01 ≡ node.True
unfolding node_of
node_true = refl

pub node_empty : node_of 0x02 ≡ node.Empty
unfolding node_of
node_empty = refl

pub node_empty_guard : node_of 0x03 ≡ node.EmptyGuard
unfolding node_of
node_empty_guard = refl

pub node_if : node_of 0x23 ≡ node.If
unfolding node_of
node_if = refl

-- the node of an operation
abbrev pub op_node : Op → Node
op_node hd = node.Head
op_node tl = node.Tail
op_node null = node.Null

pub node_op : (p : Op) → node_of (op_byte p) ≡ op_node p
unfolding node_of
node_op hd = refl
node_op tl = refl
node_op null = refl

other : (b k : ℕ) → k < b → eqb b k ≡ false
other b k h = ne_eqb b k (λ e. omega arith)

within : (b low high : ℕ) → low ≤ b → b ≤ high → (leb low b && leb b high) ≡ true
within b low high l h = simp (le-leb _ _ l, le-leb _ _ h)

above : (b low high : ℕ) → low ≤ b → high < b → (leb low b && leb b high) ≡ false
above b low high l h = simp (le-leb _ _ l, lt-leb _ _ h)

pub node_param : {i : ℕ} → i < 4 → node_of (0x10 + i) ≡ node.Param i
unfolding node_of
node_param {i} h =
    let b = 0x10 + i in
    let n : b - 0x10 ≡ i = omega arith in
    let params = within b 0x10 0x13 (omega arith) (omega arith) in
    simp (other b 0x00 (omega arith), other b 0x01 (omega arith), other b 0x02 (omega arith), other b 0x03 (omega arith), params, n)

pub node_call : {g : ℕ} → g < 32 → node_of (0x80 + g) ≡ node.Call g
unfolding node_of
node_call {g} h =
    let b = 0x80 + g in
    let n : b - 0x80 ≡ g = omega arith in
    simp (
      other b 0x00 (omega arith),
      other b 0x01 (omega arith),
      other b 0x02 (omega arith),
      other b 0x03 (omega arith),
      above b 0x10 0x13 (omega arith) (omega arith),
      other b 0x20 (omega arith),
      other b 0x21 (omega arith),
      other b 0x22 (omega arith),
      other b 0x23 (omega arith),
      other b 0x24 (omega arith),
      within b 0x80 0x9F (omega arith) (omega arith),
      n,
    )

-- ---- From the node to the byte

-- what is known of a byte that stands for a node
abbrev pub ByteOf : Node → ℕ → Type 0
ByteOf node.False b = b ≡ 0x00
ByteOf node.True b = b ≡ 0x01
ByteOf node.Empty b = b ≡ 0x02
ByteOf node.EmptyGuard b = b ≡ 0x03
ByteOf (node.Param i) b = (b ≡ 0x10 + i) × (i < 4)
ByteOf node.Head b = b ≡ op_byte hd
ByteOf node.Tail b = b ≡ op_byte tl
ByteOf node.Null b = b ≡ op_byte null
ByteOf node.If b = b ≡ 0x23
ByteOf node.Cons b = b ≡ 0x24
ByteOf (node.Call g) b = (b ≡ 0x80 + g) × (g < 32)
ByteOf node.Unknown b = Unit {0}

picked : (t : Bool) (m n : Node) (b : ℕ) → (t ≡ true → ByteOf m b) → (t ≡ false → ByteOf n b) → ByteOf (cond t m n) b
picked true m n b holds fails = holds refl
picked false m n b holds fails = fails refl

offset : (b low high : ℕ) → (leb low b && leb b high) ≡ true → (b ≡ low + (b - low)) × (b - low < suc high - low)
offset b low high e =
    let h = both (leb low b) (leb b high) e in
    let l = leb-true low b h.0 in
    let m = leb-true b high h.1 in
    (omega arith, omega arith)

byte_of : (b : ℕ) → ByteOf (node_of b) b
unfolding node_of
byte_of b =
    picked (eqb b 0x00) _ _ b (λ e. eqb-true b _ e) (λ e.
    picked (eqb b 0x01) _ _ b (λ e. eqb-true b _ e) (λ e.
    picked (eqb b 0x02) _ _ b (λ e. eqb-true b _ e) (λ e.
    picked (eqb b 0x03) _ _ b (λ e. eqb-true b _ e) (λ e.
    picked (leb 0x10 b && leb b 0x13) _ _ b (λ e. offset b 0x10 0x13 e) (λ e.
    picked (eqb b 0x20) _ _ b (λ e. eqb-true b _ e) (λ e.
    picked (eqb b 0x21) _ _ b (λ e. eqb-true b _ e) (λ e.
    picked (eqb b 0x22) _ _ b (λ e. eqb-true b _ e) (λ e.
    picked (eqb b 0x23) _ _ b (λ e. eqb-true b _ e) (λ e.
    picked (eqb b 0x24) _ _ b (λ e. eqb-true b _ e) (λ e.
    picked (leb 0x80 b && leb b 0x9F) _ _ b (λ e. offset b 0x80 0x9F e) (λ e. tt)))))))))))

pub node_inv : (b : ℕ) (n : Node) → node_of b ≡ n → ByteOf n b
node_inv b n e = rw e at (byte_of b)
