-- Laws of writing a record part after part:
--   packed-size, none_packed                the bytes of n samples, and of none
--   is_packing_lem, packing_size,
--   packing_few, packing_same               bytes that are a packing: their number, and that they are it
--   low_bits                                two bytes of a number, by its low 16 bits
--   length-layout, size-recorded,
--   part-one, part-two                      how long a record is, and what is recorded, with the guard trace in it
--   in_pieces                               that in its pieces
--   no_packing, no_verdict, no_space,
--   put_whole                               an output, by what was tested and put
--   filled-begins                           an output that is filled begins with the record
--   too_high, no_room_for                   where the traces are packings: a verdict above 4, an output with no room
--   written                                 and one that the pieces were put to, one after the other
use mathlib.Core.Path.{◌≡◌, refl, sym, ap, subst, ◌∙◌}
use mathlib.Core.Bool.{Bool, true, false, cond, not, ◌&&◌}
use mathlib.Core.List.{List, [], ◌∷◌, ◌++◌, append_assoc}
use Prim.Native.Nat.{ℕ, ◌+◌, ◌*◌, ◌/◌, ◌%◌, ◌<◌, ◌≤◌}
use native.Mathlib.Omega.{arith}
use lib.Arith.{mod-mul}
use lib.Dec.{eqb, leb}
use lib.ListN.{length, length-append}
use borrow.Author.Tests.{le-leb, lt-leb, eq-eqb, eqb-true, not-true}
use Rattle.trace.specs.{bytes_for, samples, packed, pack, padding_set}
use Rattle.trace.proofs.Packing.{length-samples, length-pack}
use Rattle.trace.proofs.Padding.{clean_packed}
use Rattle.rule.specs.Form.{AreBytes}
use Rattle.rule.proofs.Tests.{both}
use Rattle.semantics.specs.declared.Verdict.{Verdict}
use Rattle.semantics.specs.declared.Sort.{Sort}
use Rattle.semantics.specs.declared.Sort.TheVariants.{One, Two}
use Rattle.semantics.specs.Handed.{Handed, handed}
use Rattle.semantics.specs.Verdicts.{verdict_number}
use Rattle.encoding.specs.{low_first, begins, put, place_after}
use Rattle.encoding.proofs.Low.{length_low, low_two}
use Rattle.encoding.proofs.Putting.{Left, no_room, front_put, left-put, left_end, left_front}
use Rattle.layout.specs.declared.Format.{Format}
use Rattle.layout.specs.Form.{Contents, format_of, mark, least_trailer, trailer_bytes, result_bytes, label_size, guard_part, guard_count, trailer, label_part, trace_distance, program_distance, layout_in, layout, most_verdict}
use Rattle.layout.specs.Steps.{format_filled, kept, trailer_end}
use Rattle.layout.specs.Filling.{recorded, is_packing, are_packings, filled}
use Rattle.layout.proofs.FormatLaws.{trailer-size}

-- ---- A trace

-- the bytes of n samples, and of none
packed-size : (trace : List ℕ) (n : ℕ) → length (pack (samples trace n)) ≡ bytes_for n
packed-size trace n = length-pack (samples trace n) ∙ ap bytes_for (length-samples trace n)

none_packed : pack [] ≡ []
unfolding pack packed bytes_for
none_packed = refl

module _ (trace : List ℕ) (n : ℕ) where
  pub is_packing_lem : length trace ≡ bytes_for n → padding_set trace n ≡ false → is_packing trace n ≡ true
  unfolding is_packing
  is_packing_lem e clean = rw (eq-eqb (length trace) (bytes_for n) e, clean)

  module _ (p : is_packing trace n ≡ true) where
    tests : (eqb (length trace) (bytes_for n) ≡ true) × (not (padding_set trace n) ≡ true)
    unfolding is_packing
    tests = both (eqb (length trace) (bytes_for n)) (not (padding_set trace n)) p

    pub packing_size : length trace ≡ bytes_for n
    packing_size = eqb-true (length trace) (bytes_for n) tests.0

    -- n / 8 rounded up, for any n of 16 bits
    pub packing_few : n < 65536 → length trace ≤ 8192
    unfolding bytes_for
    packing_few h = omega (arith, packing_size)

    pub packing_same : AreBytes trace → trace ≡ pack (samples trace n)
    packing_same are = clean_packed trace n are packing_size (not-true (padding_set trace n) tests.1)

-- ---- The trailer, and the whole

pub low_bits : (x : ℕ) → low_first 2 (x % 65536) ≡ low_first 2 x
unfolding low_first
low_bits x =
    let digits : x % 65536 ≡ x / 256 % 256 * 256 + x % 256 = mod-mul x {m = 256} {c = 256} (omega arith) (omega arith) in
    let low : x % 65536 % 256 ≡ x % 256 = omega arith in
    let high : x % 65536 / 256 ≡ x / 256 % 256 = omega arith in
    sym (low_two (x % 65536) (omega arith)) ∙ rw (low, high)

length-trailer : (F : Format) (c : Contents) → length (trailer F c) ≡ least_trailer + length (guard_count c.guard)
length-trailer F c = simp (length-append, length_low) (omega arith)

pub length-layout : (c : Contents)
    → length (layout c)
    ≡ length c.program
    + (length (pack c.samples) + (length (guard_part c.guard) + (length (label_part c.label) + (result_bytes + trailer_bytes (format_of c)))))
unfolding layout_in
length-layout c =
    let size : length (trailer (format_of c) c) ≡ trailer_bytes (format_of c) = length-trailer (format_of c) c ∙ trailer-size c.guard c.label in
    rw (length-append, length-append, length-append, length-append, length-append, length_low 4 c.passes, size)

-- what is recorded of traces of a sort: its format, what stands between its ram trace and the trailer, and its length
module _ (program ram : List ℕ) (n : ℕ) (guard : List ℕ) (m : ℕ) (v : Verdict) where
  abbrev pub contents : Sort → Contents
  contents sort = recorded program (handed sort ram n guard m) v

  format-filled : (sort : Sort) → format_of (contents sort) ≡ format_filled sort
  unfolding recorded
  format-filled One = refl
  format-filled Two = refl

  no_label : (sort : Sort) → label_size (format_filled sort) ≡ 0
  unfolding label_size
  no_label One = refl
  no_label Two = refl

  pub part-one : length (guard_part (contents One).guard) ≡ 0
  unfolding recorded
  part-one = ap length none_packed

  pub part-two : length (guard_part (contents Two).guard) ≡ bytes_for m
  unfolding recorded
  part-two = packed-size guard m

  kept-size : (sort : Sort) → length guard ≡ bytes_for m → length (kept sort guard) ≡ length (guard_part (contents sort).guard)
  kept-size One e = sym part-one
  kept-size Two e = e ∙ sym part-two

  kept_packed : (sort : Sort) → guard ≡ pack (samples guard m) → kept sort guard ≡ guard_part (contents sort).guard
  unfolding recorded
  kept_packed One e = sym none_packed
  kept_packed Two e = e

  pub size-recorded : (sort : Sort) {k j : ℕ} → k ≡ bytes_for n → j ≡ length (guard_part (contents sort).guard)
      → length program + (k + j + result_bytes) + trailer_bytes (format_filled sort) ≡ length (layout (contents sort))
  unfolding recorded
  size-recorded sort e d = omega (arith, length-layout (contents sort), packed-size ram n, ap trailer_bytes (format-filled sort))

  -- the two distances
  abbrev pub second : Sort → ℕ
  second sort = length ram + length (kept sort guard) + result_bytes

  abbrev pub first : Sort → ℕ
  first sort = length program + second sort

  -- what its trailer begins with
  abbrev pub start : Sort → List ℕ
  start sort = low_first 2 (first sort) ++ (low_first 2 (second sort) ++ low_first 2 n)

  ends : (sort : Sort) → guard_count (contents sort).guard ++ ((format_filled sort).number ∷ mark ∷ []) ≡ trailer_end sort m
  unfolding recorded
  ends One = refl
  ends Two = rw (length-samples guard m)

  pub in_pieces : (sort : Sort) → length ram ≡ bytes_for n → length guard ≡ bytes_for m
      → layout (contents sort)
      ≡ program
      ++ (pack (samples ram n)
      ++ (guard_part (contents sort).guard ++ ((verdict_number v.decision ∷ low_first 4 v.passes) ++ (start sort ++ trailer_end sort m))))
  unfolding layout_in recorded
  in_pieces sort e d =
      let behind : trace_distance (format_filled sort) (contents sort) ≡ second sort = omega (arith, packed-size ram n, kept-size sort d, no_label sort) in
      let before : program_distance (format_filled sort) (contents sort) ≡ first sort = omega (arith, behind) in
      rw (format-filled sort, before, behind, length-samples ram n, ends sort, append_assoc, append_assoc)

-- ---- The output

module _ (program : List ℕ) (h : Handed) (v : Verdict) (out : List ℕ) where
  abbrev c : Contents
  c = recorded program h v

  pub no_packing : are_packings h ≡ false → out ≡ filled program h v out
  unfolding filled
  no_packing e = rw e

  pub no_space : length out < length (layout c) → out ≡ filled program h v out
  unfolding filled
  no_space l = go (are_packings h && leb c.verdict most_verdict)
    where
      go : (b : Bool) → out ≡ cond b (put 0 (layout c) out) out
      go true = (no_room 0 (layout c) out (omega arith)).1
      go false = refl

  module _ (p : are_packings h ≡ true) where
    pub no_verdict : most_verdict < c.verdict → out ≡ filled program h v out
    unfolding filled
    no_verdict l = rw (p, lt-leb c.verdict most_verdict l)

    module _ (small : c.verdict ≤ most_verdict) where
      whole-filled : put 0 (layout c) out ≡ filled program h v out
      unfolding filled
      whole-filled = rw (p, le-leb c.verdict most_verdict small)

      pub put_whole : {out' : List ℕ} → out' ≡ put 0 (layout c) out → out' ≡ filled program h v out
      put_whole e = e ∙ whole-filled

      pub filled-begins : length (layout c) ≤ length out → filled program h v out ≡ begins (layout c) out
      filled-begins l = sym whole-filled ∙ front_put (layout c) out l

-- ---- A record written part after part

-- what an answer of put tells: the place after a text put at a place of an output, and the output then
abbrev Put : ℕ → List ℕ → List ℕ → ℕ → List ℕ → Type 0
Put at text out at' out' = (at' ≡ place_after at text out) × (out' ≡ put at text out)

-- both traces are packings
module _ (program ram : List ℕ) (n : ℕ) (guard : List ℕ) (m : ℕ) (v : Verdict) (out : List ℕ) (sort : Sort) (r : is_packing ram n ≡ true)
    (g : is_packing guard m ≡ true) where
  abbrev traces : Handed
  traces = handed sort ram n guard m

  abbrev C : Contents
  C = contents program ram n guard m v sort

  packings : are_packings traces ≡ true
  packings = rw (r, g)

  sized : length program + (length ram + length (kept sort guard) + result_bytes) + trailer_bytes (format_filled sort) ≡ length (layout C)
  sized = size-recorded program ram n guard m v sort (packing_size ram n r) (kept-size program ram n guard m v sort (packing_size guard m g))

  -- by the guard trace's bytes that are written, and the size of the trailer
  module _ {k : ℕ} {guard' : List ℕ} (w : guard' ≡ kept sort guard) (e : k ≡ trailer_bytes (format_filled sort)) where
    pub no_room_for : length out < length program + (length ram + length guard' + result_bytes) + k → out ≡ filled program traces v out
    no_room_for h = no_space program traces v out (omega (arith, sized, ap length w))

    module _ {number : ℕ} (told : number ≡ verdict_number v.decision) (low : number ≤ most_verdict) where
      small : C.verdict ≤ most_verdict
      unfolding recorded
      small = rw (← told) low

      -- the pieces were put to it one after the other
      pub written : AreBytes ram → AreBytes guard
          → length program + (length ram + length guard' + result_bytes) + k ≤ length out
          → {p₁ p₂ p₃ p₄ p₅ p₆ : ℕ} {o₁ o₂ o₃ o₄ o₅ o₆ text front : List ℕ}
          → Put 0 program out p₁ o₁ → Put p₁ ram o₁ p₂ o₂ → Put p₂ guard' o₂ p₃ o₃
          → text ≡ number ∷ low_first 4 v.passes → Put p₃ text o₃ p₄ o₄
          → front
          ≡ low_first 2 (length program + (length ram + length guard' + result_bytes))
          ++ (low_first 2 (length ram + length guard' + result_bytes) ++ low_first 2 n)
          → Put p₄ front o₄ p₅ o₅ → Put p₅ (trailer_end sort m) o₅ p₆ o₆ → o₆ ≡ filled program traces v out
      written are are-guard room first second third t fourth f fifth sixth =
          let whole = layout C in
          let result = verdict_number v.decision ∷ low_first 4 v.passes in
          let begun = subst (λ (l : List ℕ). Left out 0 whole out 0 l)
          (in_pieces program ram n guard m v sort (packing_size ram n r) (packing_size guard m g))
          (left_front out whole (omega (arith, sized, ap length w))) in
          let to-ram = left-put program begun first in
          let to-guard = left-put (pack (samples ram n)) to-ram (rw (packing_same ram n r are) at second) in
          let to-result = left-put (guard_part C.guard) to-guard
          (rw (w ∙ kept_packed program ram n guard m v sort (packing_same guard m g are-guard)) at third) in
          let to-trailer = left-put result to-result (rw (t, told) at fourth) in
          let to-end = left-put (start program ram n guard m v sort) to-trailer (rw (rw w at f) at fifth) in
          put_whole program traces v out packings small (left_end to-end sixth).1

  pub too_high : {number : ℕ} → number ≡ verdict_number v.decision → most_verdict < number → out ≡ filled program traces v out
  unfolding recorded
  too_high told h = no_verdict program traces v out packings (rw (← told) h)
