-- Laws of the lengths of a listing's lines, of numbers below 10 ^ 5:
--   record_line_short      the line of a record, at most 34, with a guard trace at most 39
--   stop_line_short        the line of a refused record, at most 64
--   end_line_short         the line after the last record, at most 64
use Prim.Native.Nat.{ℕ, zero, suc, ◌+◌, ◌^◌, ◌<◌, ◌≤◌}
use native.Mathlib.Omega.{arith}
use lib.ListN.{length, length-append}
use Rattle.refusal.specs.declared.Refusal.{Refusal}
use Rattle.refusal.specs.{number_of}
use Rattle.refusal.proofs.Numbers.{number_small}
use Rattle.encoding.specs.{decimal}
use Rattle.encoding.proofs.Decimal.{length-decimal}
use Rattle.layout.specs.declared.GuardTrace.{GuardTrace}
use Rattle.std.specs.Prelude.{Option, Some, None, Result, Ok, Err}
use Rattle.layout.specs.declared.Parts.{Parts}
use Rattle.record.specs.declared.Checked.{Checked}
use Rattle.record.specs.declared.Checked.TheVariants as checked
use Rattle.archive.specs.Listing.{space, guard_field, verdict_word, answer_word, check_word, record_line, stop_line, end_line}

-- ---- Fields

number_short : (f : Refusal) → length (decimal (number_of f)) ≤ 2
number_short f = length-decimal 2 (number_of f) (omega arith) (omega (arith, number_small f))

decimal-short : (n : ℕ) → n < 10 ^ 5 → length (decimal n) ≤ 5
decimal-short n h = length-decimal 5 n (omega arith) h

verdict-short : (v : ℕ) → length (verdict_word v) ≤ 7
unfolding verdict_word
verdict-short zero = omega arith
verdict-short (suc zero) = omega arith
verdict-short (suc (suc zero)) = omega arith
verdict-short (suc (suc (suc zero))) = omega arith
verdict-short (suc (suc (suc (suc v)))) = omega arith

check_short : (c : Result Checked Refusal) → length (check_word c) ≤ 7
unfolding check_word answer_word
check_short (Ok (checked.Agrees v)) = omega arith
check_short (Ok (checked.Differs v)) = omega arith
check_short (Err f) = omega (arith, number_short f)

-- ---- Lines

-- of a record, with a guard trace five more
abbrev pub most_line : Option GuardTrace → ℕ
most_line None = 34
most_line (Some g) = 39

-- the guard trace's samples, if there is one
abbrev pub GuardBelow : Option GuardTrace → ℕ → Type 0
GuardBelow None k = Unit {0}
GuardBelow (Some g) k = g.samples < k

guard-short : (g : Option GuardTrace) → GuardBelow g (10 ^ 4) → 34 + length (guard_field g) ≤ most_line g
unfolding guard_field
guard-short None few = omega arith
guard-short (Some g) few = omega (arith, length-append (decimal g.samples) space, length-decimal 4 g.samples (omega arith) few)

pub record_line_short : (ordinal size : ℕ) (p : Parts) (c : Result Checked Refusal) → ordinal < 10 ^ 5 → size < 10 ^ 5 → p.n < 10 ^ 5 → GuardBelow p.guard (10 ^ 4)
    → length (record_line ordinal size p c) ≤ most_line p.guard
unfolding record_line
record_line_short ordinal size p c o s n m =
    simp length-append
    (omega (
      arith,
      decimal-short ordinal o,
      decimal-short size s,
      decimal-short p.n n,
      guard-short p.guard m,
      verdict-short p.verdict,
      check_short c,
    ))

pub stop_line_short : (ordinal : ℕ) (f : Refusal) → ordinal < 10 ^ 5 → length (stop_line ordinal f) ≤ 64
unfolding stop_line
stop_line_short ordinal f o = simp length-append (omega (arith, decimal-short ordinal o, number_short f))

pub end_line_short : (listed : ℕ) → listed < 10 ^ 5 → length (end_line listed) ≤ 64
unfolding end_line
end_line_short listed h = simp length-append (omega (arith, decimal-short listed h))
