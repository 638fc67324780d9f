-- Laws of the functions of a program of a sort, one for each way through the code:
--   scan_stopped          a header was refused
--   bytes_after           10
--   wrong_main            11
--   bodies_refused        a body was refused
--   all_passed            nothing was refused
use Rattle.std.specs.Prelude.{Result, Ok, Err}
use Rattle.refusal.specs.{Check, passed}
use mathlib.Core.Path.{◌≡◌, refl, sym, ap, subst, ◌∙◌}
use mathlib.Core.Bool.{Bool, true, false}
use mathlib.Core.List.{List}
use Prim.Native.Nat.{ℕ, ◌-◌, ◌<◌, ◌≤◌}
use native.Mathlib.Omega.{arith}
use lib.Dec.{eqb}
use lib.ListN.{length, drop, get_or}
use borrow.Author.Tests.{eq-eqb, ne_eqb}
use Rattle.refusal.specs.declared.Refusal.{Refusal}
use Rattle.refusal.specs.declared.Refusal.TheVariants.{BytesAfterFunctions, MainKind}
use Rattle.refusal.proofs.Numbers.{refused_same}
use Rattle.refusal.proofs.Numbers as numbers
use Rattle.semantics.specs.declared.Sort.{Sort}
use Rattle.semantics.specs.Language.{Program}
use Rattle.rule.specs.declared.Outline.{Outline}
use Rattle.rule.specs.declared.functions.Scan.{Scan}
use Rattle.rule.specs.Reading.{Parsed, got, refused, onward, Raw, raws_from, headers, main_first, functions_from, bodies_from, check_from, apart}
use Rattle.rule.specs.Outline.{judged_from}
use Rattle.rule.specs.Walk.{Counted, Placed, raw_outline, scan_from, main_bits, bodies_at, frame_at}
use Rattle.rule.proofs.CheckMeaning.{CheckMeans, check_means}

-- headers that were read: none was refused
pub record Read (s : Sort) (bytes : List ℕ) (count : ℕ) (scan : Scan) : Type 0 where
  pub xs : List Raw
  pub rest : List ℕ
  pub raws : raws_from s count (drop 1 bytes) ≡ got xs rest
  pub outline : scan.outline ≡ raw_outline s xs
  pub end : scan.end ≡ length bytes - length rest
  pub means : CheckMeans s bytes count xs rest

-- the scan that an answer has
abbrev scan_in : Scan → Result Scan Refusal → Scan
scan_in z (Ok scan) = scan
scan_in z (Err f) = z

module _ (s : Sort) (bytes : List ℕ) (count : ℕ) (answer : Result Scan Refusal)
    (e : answer ≡ scan_from s (length bytes) (raws_from s count (drop 1 bytes))) where
  pub scan_stopped : {f : Refusal} → answer ≡ Err f → judged_from s (onward (raws_from s count (drop 1 bytes)) (bodies_from apart s)) ≡ Err f
  scan_stopped {f} q = go (raws_from s count (drop 1 bytes)) (sym e ∙ q)
    where
      go : (p : Parsed (List Raw)) → scan_from s (length bytes) p ≡ Err f → judged_from s (onward p (bodies_from apart s)) ≡ Err f
      go (got xs rest) q = absurd (numbers.refused (sym q))
      go (refused g) q = ap (λ (x : Refusal). Err x) (refused_same q)

  pub scan_read : Counted bytes count → {scan : Scan} → answer ≡ Ok scan → Read s bytes count scan
  scan_read c {scan} q = go (raws_from s count (drop 1 bytes)) refl
    where
      go : (p : Parsed (List Raw)) → raws_from s count (drop 1 bytes) ≡ p → Read s bytes count scan
      go (got xs rest) r =
          let same : scan ≡ record { outline = raw_outline s xs; end = length bytes - length rest } =
          ap (scan_in scan) (sym q ∙ e ∙ ap (scan_from s (length bytes)) r) in
          record {
            xs = xs;
            rest = rest;
            raws = r;
            outline = ap (λ (x : Scan). x.outline) same;
            end = ap (λ (x : Scan). x.end) same;
            means = check_means s bytes count xs rest c.few c.some c.short r;
          }
      go (refused f) r = absurd (numbers.refused (sym (sym q ∙ e ∙ ap (scan_from s (length bytes)) r)))

module _ {s : Sort} {bytes : List ℕ} {count : ℕ} {scan : Scan} (r : Read s bytes count scan) where
  pub bytes_after : scan.end < length bytes
      → judged_from s (onward (raws_from s count (drop 1 bytes)) (bodies_from apart s)) ≡ Err BytesAfterFunctions
  bytes_after h =
      let some : length r.rest ≡ 0 → ⊥ = λ z. omega (arith, r.end) in
      rw (r.raws, ne_eqb _ _ some)

  module _ (h : length bytes ≤ scan.end) where
    none : eqb (length r.rest) 0 ≡ true
    none = let all : length r.rest ≡ 0 = omega (arith, r.end, r.means.after, r.means.within) in eq-eqb _ _ all

    pub main_bits_lem : {b : Bool} → b ≡ main_bits s (get_or scan.outline.params 0 0) (get_or scan.outline.kinds 0 0)
        (get_or scan.outline.guards 0 0) → b ≡ main_first s (headers r.xs)
    main_bits_lem q = q ∙ ap (λ (l : Outline). main_bits s (get_or l.params 0 0) (get_or l.kinds 0 0) (get_or l.guards 0 0)) r.outline ∙ r.means.main

    pub wrong_main : main_first s (headers r.xs) ≡ false
        → judged_from s (onward (raws_from s count (drop 1 bytes)) (bodies_from apart s)) ≡ Err MainKind
    wrong_main m = rw (r.raws, none, m)

    bodies_left : main_first s (headers r.xs) ≡ true → onward (raws_from s count (drop 1 bytes)) (bodies_from apart s) ≡ functions_from apart s
        (headers r.xs) r.xs
    bodies_left m = rw (r.raws, none, m)

    bodies_are : {k : Check} → k ≡ bodies_at (frame_at bytes s scan.outline) scan.outline.functions 0
        → k ≡ check_from (functions_from apart s (headers r.xs) r.xs)
    bodies_are q = q ∙ ap (λ (l : Outline). bodies_at (frame_at bytes s l) l.functions 0) r.outline ∙ r.means.bodies

    pub bodies_placed : Placed (length bytes) scan.outline
    bodies_placed = subst (λ (l : Outline). Placed (length bytes) l) (sym r.outline) r.means.placed

    module _ (m : main_first s (headers r.xs) ≡ true) {k : Check} (q : k ≡ bodies_at (frame_at bytes s scan.outline) scan.outline.functions 0) where
      pub bodies_refused : {f : Refusal} → k ≡ Err f → judged_from s (onward (raws_from s count (drop 1 bytes)) (bodies_from apart s)) ≡ Err f
      bodies_refused {f} e = ap (judged_from s) (bodies_left m) ∙ go (functions_from apart s (headers r.xs) r.xs) (sym (bodies_are q) ∙ e)
        where
          go : (p : Parsed Program) → check_from p ≡ Err f → judged_from s p ≡ Err f
          go (got P rest) z = absurd (numbers.refused (sym z))
          go (refused g) z = ap (λ (x : Refusal). Err x) (refused_same z)

      pub all_passed : k ≡ passed
          → Ok scan.outline ≡ (judged_from s (onward (raws_from s count (drop 1 bytes)) (bodies_from apart s)))
      all_passed e = go (functions_from apart s (headers r.xs) r.xs) refl (sym (bodies_are q) ∙ e) ∙ sym (ap (judged_from s) (bodies_left m))
        where
          go : (p : Parsed Program) → functions_from apart s (headers r.xs) r.xs ≡ p → check_from p ≡ passed
              → Ok scan.outline ≡ judged_from s p
          go (got P rest) w z = ap (λ (x : Outline). Ok x) (r.outline ∙ r.means.outline P rest w)
          go (refused g) w z = absurd (numbers.refused z)
