-- `node_of` meets its contract: an arm with one byte computes; the others know that the byte is none of those.
use mathlib.Core.Path.{◌≡◌, sym, ap, ◌∙◌}
use mathlib.Core.Bool.{true, false, ◌&&◌, cond}
use Prim.Native.Nat.{ℕ, suc, ◌-◌, ◌≤◌}
use native.Mathlib.Omega.{arith}
use lib.Dec.{leb}
use borrow.Author.Tests.{le-leb, lt-leb, ne_eqb}
use Rattle.syntax.specs.declared.Node.{Node}
use Rattle.syntax.specs.declared.Node.TheVariants.{Param, Call, Unknown}
use Rattle.syntax.specs.Bytes.{node_of}
use Rattle.syntax.proofs.nodes.node_of.Goals as goal

-- a byte that no arm names alone is in one of the two ranges or unknown
ranged : ℕ → Node
ranged b = cond (leb 0x10 b && leb b 0x13) (Param (b - 0x10)) (cond (leb 0x80 b && leb b 0x9F) (Call (b - 0x80)) Unknown)

others : (b : ℕ) → (b ≡ 0x00 → ⊥) → (b ≡ 0x01 → ⊥) → (b ≡ 0x02 → ⊥) → (b ≡ 0x03 → ⊥) → (b ≡ 0x20 → ⊥) → (b ≡ 0x21 → ⊥) → (b ≡ 0x22 → ⊥)
    → (b ≡ 0x23 → ⊥) → (b ≡ 0x24 → ⊥) → node_of b ≡ ranged b
unfolding node_of ranged
others b h0 h1 h2 h3 h4 h5 h6 h7 h8 =
    simp (ne_eqb _ _ h0, ne_eqb _ _ h1, ne_eqb _ _ h2, ne_eqb _ _ h3, ne_eqb _ _ h4, ne_eqb _ _ h5, ne_eqb _ _ h6, ne_eqb _ _ h7, ne_eqb _ _ h8)

in-first : (b : ℕ) → 0x10 ≤ b → b ≤ 0x13 → Param (b - 0x10) ≡ ranged b
unfolding ranged
in-first b l h = simp (le-leb _ _ l, le-leb _ _ h)

in-second : (b : ℕ) → 0x80 ≤ b → b ≤ 0x9F → Call (b - 0x80) ≡ ranged b
unfolding ranged
in-second b l h =
    let past : leb b 0x13 ≡ false = lt-leb b 0x13 (omega arith) in
    let from : leb 0x10 b ≡ true = le-leb 0x10 b (omega arith) in
    simp (from, past, le-leb _ _ l, le-leb _ _ h)

below : (b : ℕ) → suc b ≤ 0x10 → Unknown ≡ ranged b
unfolding ranged
below b h =
    let first : leb 0x10 b ≡ false = lt-leb 0x10 b h in
    let second : leb 0x80 b ≡ false = lt-leb 0x80 b (omega arith) in
    simp (first, second)

between : (b : ℕ) → 0x14 ≤ b → suc b ≤ 0x80 → Unknown ≡ ranged b
unfolding ranged
between b l h =
    let from : leb 0x10 b ≡ true = le-leb 0x10 b (omega arith) in
    let past : leb b 0x13 ≡ false = lt-leb b 0x13 l in
    let second : leb 0x80 b ≡ false = lt-leb 0x80 b h in
    simp (from, past, second)

above : (b : ℕ) → 0xA0 ≤ b → Unknown ≡ ranged b
unfolding ranged
above b l =
    let from : leb 0x10 b ≡ true = le-leb 0x10 b (omega arith) in
    let past : leb b 0x13 ≡ false = lt-leb b 0x13 (omega arith) in
    let again : leb 0x80 b ≡ true = le-leb 0x80 b (omega arith) in
    let end : leb b 0x9F ≡ false = lt-leb b 0x9F l in
    simp (from, past, again, end)

pub returns-in-0 : goal.returns-in-0
unfolding node_of
returns-in-0 c = sym (ap node_of c.in-0.is)

pub returns-in-1 : goal.returns-in-1
unfolding node_of
returns-in-1 c = sym (ap node_of c.in-1.is)

pub returns-in-2 : goal.returns-in-2
unfolding node_of
returns-in-2 c = sym (ap node_of c.in-2.is)

pub returns-in-3 : goal.returns-in-3
unfolding node_of
returns-in-3 c = sym (ap node_of c.in-3.is)

pub returns-in-32 : goal.returns-in-32
unfolding node_of
returns-in-32 c = sym (ap node_of c.in-32.is)

pub returns-in-33 : goal.returns-in-33
unfolding node_of
returns-in-33 c = sym (ap node_of c.in-33.is)

pub returns-in-34 : goal.returns-in-34
unfolding node_of
returns-in-34 c = sym (ap node_of c.in-34.is)

pub returns-in-35 : goal.returns-in-35
unfolding node_of
returns-in-35 c = sym (ap node_of c.in-35.is)

pub returns-in-36 : goal.returns-in-36
unfolding node_of
returns-in-36 c = sym (ap node_of c.in-36.is)

pub returns-in-16-to-19 : goal.returns-in-16-to-19
returns-in-16-to-19 c =
    in-first _ (omega arith) (omega arith)
    ∙ sym (others _ (λ e. omega arith) (λ e. omega arith) (λ e. omega arith) (λ e. omega arith) (λ e. omega arith) (λ e. omega arith) (λ e. omega arith) (λ e. omega arith) (λ e. omega arith))

pub returns-in-128-to-159 : goal.returns-in-128-to-159
returns-in-128-to-159 c =
    in-second _ (omega arith) (omega arith)
    ∙ sym (others _ (λ e. omega arith) (λ e. omega arith) (λ e. omega arith) (λ e. omega arith) (λ e. omega arith) (λ e. omega arith) (λ e. omega arith) (λ e. omega arith) (λ e. omega arith))

pub returns-in_default : goal.returns-in_default
returns-in_default c = below _ (omega arith) ∙ sym (others _ (λ e. omega arith) (λ e. omega arith) (λ e. omega arith) (λ e. omega arith) (λ e. omega arith) (λ e. omega arith) (λ e. omega arith) (λ e. omega arith) (λ e. omega arith))

pub returns-in_default-2 : goal.returns-in_default-2
returns-in_default-2 c = between _ (omega arith) (omega arith) ∙ sym (others _ (λ e. omega arith) (λ e. omega arith) (λ e. omega arith) (λ e. omega arith) (λ e. omega arith) (λ e. omega arith) (λ e. omega arith) (λ e. omega arith) (λ e. omega arith))

pub returns-in_default-3 : goal.returns-in_default-3
returns-in_default-3 c = above _ (omega arith) ∙ sym (others _ (λ e. omega arith) (λ e. omega arith) (λ e. omega arith) (λ e. omega arith) (λ e. omega arith) (λ e. omega arith) (λ e. omega arith) (λ e. omega arith) (λ e. omega arith))
