-- `parts` meets its contract: its tests are those of 23, of either trace, and of 4, in this order.
use mathlib.Core.Path.{◌≡◌, refl, sym, ap, ◌∙◌}
use mathlib.Core.Bool.{Bool, true, false, ◌||◌}
use mathlib.Core.List.{List}
use Prim.Native.Nat.{ℕ, ◌+◌, ◌-◌, ◌<◌, ◌≤◌}
use native.Mathlib.Omega.{arith}
use lib.ListN.{get_or}
use borrow.Author.Tests.{lt-ltb, le-ltb, eq-eqb, ne_eqb}
use Rattle.std.specs.Prelude.{Option, Ok, Err}
use Rattle.refusal.specs.declared.Refusal.TheVariants.{VerdictOrPasses, PaddingSet}
use Rattle.trace.specs.{bytes_for, padding_set}
use Rattle.layout.specs.declared.Format.{Format}
use Rattle.layout.specs.declared.Span.{Span}
use Rattle.layout.specs.declared.GuardTrace.{GuardTrace}
use Rattle.layout.specs.declared.trailer.Fields.{Fields}
use Rattle.layout.specs.Form.{result_bytes, after_trace, most_verdict}
use Rattle.layout.specs.Trailer.{part_of, span, number_at, label_place, guard_place}
use Rattle.layout.specs.Steps.{parts_stored}
use Rattle.layout.proofs.trailer.Fields.parts.Goals.{then-padding_in-via-then-padding_in, then-padding_in-via-else-padding_in+then-padding_in-2, then-verdict-gt-MOST_VERDICT-via-then-verdict-gt-MOST_VERDICT, then-verdict-gt-MOST_VERDICT-via-else-verdict-gt-MOST_VERDICT+then-passes-eq0}
use Rattle.layout.proofs.trailer.Fields.parts.Goals as goal

either : (b : Bool) → (b || true) ≡ true
either true = refl
either false = refl

-- by how many bytes the traces take, and what was asked of them
module _ (bytes : List ℕ) (F : Format) (f : Fields) {k j : ℕ} (e : k ≡ bytes_for f.n) (d : j ≡ bytes_for f.m) where
  abbrev Asked : Bool → Type 0
  Asked r = r ≡ padding_set (part_of bytes (span (f.at - f.second) k)) f.n

  abbrev AskedGuard : Bool → Type 0
  AskedGuard s = s ≡ padding_set (part_of bytes (span (f.at - f.second + k) j)) f.m

  set : {r : Bool} → Asked r → r ≡ true → Err PaddingSet ≡ parts_stored bytes F f
  unfolding parts_stored
  set t h = simp (sym e, sym t, h)

  set-guard : {s : Bool} → AskedGuard s → s ≡ true → Err PaddingSet ≡ parts_stored bytes F f
  unfolding parts_stored
  set-guard u h = simp (sym e, sym d, sym u, h, either)

  module _ {r s : Bool} (t : Asked r) (u : AskedGuard s) (h : r ≡ false) (g : s ≡ false) {passes : ℕ} (p : passes ≡ number_at 4 (f.at - 4) bytes) where
    abbrev verdict : ℕ
    verdict = get_or bytes (f.at - result_bytes) 0

    too_high : most_verdict < verdict → Err VerdictOrPasses ≡ parts_stored bytes F f
    unfolding parts_stored
    too_high v = simp (sym e, sym d, sym t, sym u, h, g, lt-ltb _ _ v)

    no_passes : verdict ≤ most_verdict → passes ≡ 0 → Err VerdictOrPasses ≡ parts_stored bytes F f
    unfolding parts_stored
    no_passes v z = simp (sym e, sym d, sym t, sym u, h, g, le-ltb _ _ v, sym p, eq-eqb _ _ z)

    stored : {guard : Option GuardTrace} {label : Option Span} → verdict ≤ most_verdict → (passes ≡ 0 → ⊥)
        → guard ≡ guard_place F (span (f.at - f.second + k) j) f.m → label ≡ label_place F (f.at - after_trace F)
        → Ok (record {
          format = F.number;
          program = span (f.at - f.first) (f.first - f.second);
          trace = span (f.at - f.second) k;
          n = f.n;
          guard = guard;
          label = label;
          verdict = verdict;
          passes = passes;
        }) ≡ parts_stored bytes F f
    unfolding parts_stored
    stored v z a b = rw (a, b) (simp (sym e, sym d, sym t, sym u, h, g, le-ltb _ _ v, sym p, ne_eqb _ _ z))

pub overflow_add-guard : goal.overflow_add-guard
unfolding bytes_for
overflow_add-guard c = omega (arith, c.bytes_for.ensures, c.requires.trailer, c.well_formed.0.1)

pub returns-then-padding_in : goal.returns-then-padding_in
returns-then-padding_in c =
    elim c.then-padding_in.branch [
      | then-padding_in-via-then-padding_in w ↦ set _ _ _ c.bytes_for.ensures c.bytes_for-2.ensures c.padding_in.ensures w.if-padding_in.true
      | then-padding_in-via-else-padding_in+then-padding_in-2 w ↦
          set-guard _ _ _ c.bytes_for.ensures c.bytes_for-2.ensures w.padding_in-else-padding_in.ensures w.if-padding_in-2.true
    ]

pub returns-then-verdict-gt-MOST_VERDICT : goal.returns-then-verdict-gt-MOST_VERDICT
returns-then-verdict-gt-MOST_VERDICT c =
    elim c.then-verdict-gt-MOST_VERDICT.branch [
      | then-verdict-gt-MOST_VERDICT-via-then-verdict-gt-MOST_VERDICT w ↦
          too_high _ _ _ c.bytes_for.ensures c.bytes_for-2.ensures c.padding_in.ensures c.padding_in-else-padding_in.ensures c.if-padding_in.false c.if-padding_in-2.false
          c.thirty_two-passes.ensures w.if-verdict-gt-MOST_VERDICT.true
      | then-verdict-gt-MOST_VERDICT-via-else-verdict-gt-MOST_VERDICT+then-passes-eq0 w ↦
          no_passes _ _ _ c.bytes_for.ensures c.bytes_for-2.ensures c.padding_in.ensures c.padding_in-else-padding_in.ensures c.if-padding_in.false c.if-padding_in-2.false
          c.thirty_two-passes.ensures w.if-verdict-gt-MOST_VERDICT.false w.if-passes-eq0.true
    ]

pub returns : goal.returns
returns c =
    stored _ _ _ c.bytes_for.ensures c.bytes_for-2.ensures c.padding_in.ensures c.padding_in-else-padding_in.ensures c.if-padding_in.false c.if-padding_in-2.false
    c.thirty_two-passes.ensures c.if-verdict-gt-MOST_VERDICT.false (λ z. c.if-passes-eq0.false z) c.guard_place.ensures
    (c.label_place.ensures ∙ ap (λ (k : ℕ). label_place c.args.format (c.args.self.at - k)) c.after_trace.ensures)
