-- Reading a program and writing it:
--   read-encoded           accepted bytes are read as their program, where their sort is taken
--   read-accepted          bytes that are read as a program are accepted as that program, of the sort that they say, which is
--                          taken, and no bytes remain
--   read_both              what is read where one sort is taken is read where both are
--   passed_accepted, accepted_passed     the check passes exactly the accepted bytes of a sort that is taken
--   takes-own, takes-only  where one sort is taken, it is that sort
--   accepted-sort          accepted bytes say their sort
--   same_bytes             accepted bytes have one sort and one program
use Rattle.std.specs.Prelude.{None, Some}
use Rattle.refusal.specs.{passed}
use mathlib.Core.Path.{◌≡◌, refl, sym, ap, ◌∙◌}
use mathlib.Core.Bool.{Bool, true, false, not, ◌||◌, cond}
use mathlib.Core.List.{List, [], ◌∷◌, map, append-nil}
use mathlib.Core.Option.{some}
use Prim.Native.Nat.{ℕ, suc, ◌+◌, ◌-◌, ◌≤◌}
use native.Mathlib.Omega.{arith}
use lib.Dec.{eqb, ltb}
use lib.ListN.{length, get_elem?, get_or, drop, drop_of_length-le}
use borrow.Author.Tests.{ne_eqb, lt-ltb, le-ltb, eqb-true, eqb-false, ltb-false, not-false}
use Rattle.refusal.specs.declared.Refusal.{Refusal}
use Rattle.refusal.proofs.Numbers.{refused}
use Rattle.semantics.specs.declared.Sort.{Sort}
use Rattle.semantics.specs.declared.Sort.TheVariants.{One, Two}
use Rattle.semantics.specs.declared.Kind.{Kind}
use Rattle.semantics.specs.declared.Kind.TheVariants.{Truth as truth, List as list}
use Rattle.semantics.specs.declared.Demand.TheVariants.{Only as only}
use Rattle.semantics.specs.Language.{Function, Program, main_params, IsMain, allows}
use Rattle.semantics.proofs.Demands.{same_contact_lem, allows-only}
use Rattle.syntax.specs.declared.Header.{Header}
use Rattle.syntax.specs.Limits.{most_functions, most_bytes}
use Rattle.syntax.specs.Bytes.{two_mark, count_byte, sort_in, count_in, count_fault}
use Rattle.rule.specs.Wanted.{Wanted}
use Rattle.rule.specs.Form.{AreBytes, encode, encode_functions, Accepted}
use Rattle.rule.specs.Reading as reading
use Rattle.rule.specs.Wanted.{takes}
use Rattle.rule.specs.Reading.{Parsed, got, unless_fault, param_kinds, result_kind, raws_from, same_kinds, main_first, headers, bodies_from, program_sort, program_by, program_for, check_from, program_check, apart}
use Rattle.rule.proofs.Tests.{both, neither}
use Rattle.rule.proofs.Parsing.{not-got, got_inv, refused_inv, Onward, by, onward_inv}
use Rattle.rule.proofs.Expressions.{Heads, no_heads, one_head, place-below}
use Rattle.rule.proofs.FunctionBytes.{raw_for, raws_read, heads_for_lem, functions-read, bytes_drop, functions_inv}

-- ---- The count byte

sort_back : (s : Sort) (n : ℕ) → n ≤ most_functions → sort_in (count_byte s n) ≡ s
sort_back One n h = rw (lt-ltb n two_mark (omega arith))
sort_back Two n h = rw (le-ltb (two_mark + n) two_mark (omega arith))

count_back : (s : Sort) (n : ℕ) → n ≤ most_functions → count_in (count_byte s n) ≡ n
count_back One n h = rw (lt-ltb n two_mark (omega arith))
count_back Two n h = rw (le-ltb (two_mark + n) two_mark (omega arith)) (omega arith)

byte_back : (b : ℕ) → count_byte (sort_in b) (count_in b) ≡ b
byte_back b = go (ltb b two_mark) refl
  where
    go : (t : Bool) → ltb b two_mark ≡ t → count_byte (cond t One Two) (cond t b (b - two_mark)) ≡ b
    go true e = refl
    go false e = omega (arith, ltb-false b two_mark e)

-- ---- The sort that is taken

pub takes-own : (s : Sort) → takes (Some s) s ≡ true
takes-own One = refl
takes-own Two = refl

pub takes-only : (s s' : Sort) → takes (Some s) s' ≡ true → s' ≡ s
takes-only One One e = refl
takes-only One Two e = let z : ◌≡◌ {A = ℕ} 0 1 = cc in absurd (omega arith)
takes-only Two One e = let z : ◌≡◌ {A = ℕ} 0 1 = cc in absurd (omega arith)
takes-only Two Two e = refl

-- ---- Main

allows_same : (κ : Kind) → allows (only κ) κ ≡ true
allows_same truth = refl
allows_same (list c) = same_contact_lem c

same_kinds_lem : (κs : List Kind) → same_kinds κs κs ≡ true
same_kinds_lem [] = refl
same_kinds_lem (κ ∷ κs) = rw (allows_same κ, same_kinds_lem κs)

kinds_same : (κs κs' : List Kind) → same_kinds κs κs' ≡ true → κs' ≡ κs
kinds_same [] [] e = refl
kinds_same [] (κ ∷ κs) e = let z : ◌≡◌ {A = ℕ} 0 1 = cc in absurd (omega arith)
kinds_same (κ ∷ κs) [] e = let z : ◌≡◌ {A = ℕ} 0 1 = cc in absurd (omega arith)
kinds_same (κ ∷ κs) (κ' ∷ κs') e =
    let h = both (allows (only κ) κ') (same_kinds κs κs') e in rw (allows-only κ κ' (rw h.0 tt), kinds_same κs κs' h.1)

main-found : (s : Sort) {P : Program} {H : List Header} → Heads P H → main_first s H ≡ true → (f : Function) × (get_elem? P 0 ≡ some f) × IsMain s f
main-found s no_heads e = let z : ◌≡◌ {A = ℕ} 0 1 = cc in absurd (omega arith)
main-found s (one_head {f = f} {h = h} is more) e =
    let m = both (same_kinds (main_params s) (param_kinds h)) (allows (only truth) (result_kind h)) e in (
      f,
      refl,
      record {
        params = is.params ∙ kinds_same (main_params s) (param_kinds h) m.0;
        result = is.result ∙ sym (allows-only truth (result_kind h) (rw m.1 tt));
      },
    )

main-first : (s : Sort) {P : Program} {H : List Header} → Heads P H → (f : Function) → get_elem? P 0 ≡ some f → IsMain s f → main_first s H ≡ true
main-first s no_heads f e m = let z : ◌≡◌ {A = ℕ} 0 1 = cc in absurd (omega arith)
main-first s (one_head {f = f'} {h = h} is more) f e m =
    let same : f' ≡ f = cc in
    let params : param_kinds h ≡ main_params s = sym is.params ∙ ap (λ (x : Function). x.params) same ∙ m.params in
    let result : result_kind h ≡ truth = sym is.result ∙ ap (λ (x : Function). x.result) same ∙ m.result in
    rw (params, result, same_kinds_lem (main_params s))

-- ---- Written, then read

pub read-encoded : (bytes : List ℕ) (s : Sort) (P : Program) → Accepted bytes s P → (wanted : Wanted) → takes wanted s ≡ true
    → program_for wanted bytes ≡ got P []
unfolding program_by encode
read-encoded bytes s P a wanted taken =
    let written = encode_functions s P in
    let size : length bytes ≡ suc (length written) = ap length a.encoded in
    let main = a.main in
    let heads = heads_for_lem s P a.fits in
    let filled : eqb (suc (length written)) 0 ≡ false = ne_eqb (suc (length written)) 0 (λ e. omega arith) in
    let short : ltb most_bytes (suc (length written)) ≡ false = le-ltb most_bytes (suc (length written)) (omega (arith, a.short)) in
    let counted : eqb (length P) 0 ≡ false = ne_eqb (length P) 0 (λ e. omega (arith, place-below P 0 main.0 main.1)) in
    let few : ltb most_functions (length P) ≡ false = le-ltb most_functions (length P) a.few in
    let raws : raws_from s (length P) written ≡ got (map raw_for P) [] = rw append-nil at (raws_read s P [] a.fits) in
    let first = main-first s heads main.0 main.1 main.2 in
    let functions = functions-read s P (headers (map raw_for P)) heads a.few P (λ g f e. (a.fits g f e, a.kinds g f e)) in
    rw (a.encoded, filled, short, count_back s (length P) a.few, sort_back s (length P) a.few, counted, few, taken, raws, first, functions)

-- ---- Read, then written

first_byte : (bs : List ℕ) → (length bs ≡ 0 → ⊥) → bs ≡ get_or bs 0 0 ∷ drop 1 bs
first_byte [] filled = absurd (filled refl)
first_byte (b ∷ bs) filled = refl

-- bytes whose length and count are not refused, and whose sort is taken, are read by their functions
record Started (wanted : Wanted) (bytes : List ℕ) (P : Program) (rest : List ℕ) : Type 0 where
  filled : length bytes ≡ 0 → ⊥
  short : length bytes ≤ most_bytes
  few : count_in (get_or bytes 0 0) ≤ most_functions
  taken : takes wanted (program_sort bytes) ≡ true
  functions : Onward (raws_from (program_sort bytes) (count_in (get_or bytes 0 0)) (drop 1 bytes)) (bodies_from apart (program_sort bytes)) P rest

started : (wanted : Wanted) (bytes : List ℕ) (P : Program) (rest : List ℕ) → program_for wanted bytes ≡ got P rest → Started wanted bytes P rest
unfolding program_by
started wanted bytes P rest q =
    let b = get_or bytes 0 0 in
    let s = program_sort bytes in
    let size = refused_inv (eqb (length bytes) 0 || ltb most_bytes (length bytes)) _ _ P rest q in
    let count = refused_inv (count_fault b || not (takes wanted s)) _ _ P rest size.1 in
    let long = neither (eqb (length bytes) 0) (ltb most_bytes (length bytes)) size.0 in
    let sort = neither (count_fault b) (not (takes wanted s)) count.0 in
    let many = neither (eqb (count_in b) 0) (ltb most_functions (count_in b)) sort.0 in
    record {
      filled = eqb-false _ _ long.0;
      short = ltb-false _ _ long.1;
      few = ltb-false _ _ many.1;
      taken = not-false _ sort.1;
      functions = onward_inv (raws_from s (count_in b) (drop 1 bytes)) (bodies_from apart s) P rest count.1;
    }

-- bytes whose functions were read, as many and of the sort that the first byte says
accepted : (bytes : List ℕ) (s : Sort) (n : ℕ) (P : Program) (rest : List ℕ) → AreBytes bytes → (length bytes ≡ 0 → ⊥) → length bytes ≤ most_bytes
    → count_byte s n ≡ get_or bytes 0 0 → n ≤ most_functions → Onward (raws_from s n (drop 1 bytes)) (bodies_from apart s) P rest
    → Accepted bytes s P × (rest ≡ [])
unfolding encode
accepted bytes s n P rest are filled short says few (by xs after p q) =
    let ends = refused_inv (not (eqb (length after) 0)) _ _ P rest q in
    let main = refused_inv (not (main_first s (headers xs))) _ _ P rest ends.1 in
    let w = functions_inv s n (drop 1 bytes) xs after P rest (bytes_drop 1 bytes are) p main.1 in
    let none : after ≡ [] = drop_of_length-le after {i = 0} (omega (arith, eqb-true (length after) 0 (not-false _ ends.0))) in
    let whole : bytes ≡ encode s P = first_byte bytes filled ∙ rw (← says, ← w.count, w.bytes, none, append-nil) in
    let is_main_lem = main-found s w.heads (not-false _ main.0) in
    (record { encoded = whole; short = short; few = rw w.count few; fits = w.fits; main = is_main_lem; kinds = w.kinds }, w.none)

pub read-accepted : (wanted : Wanted) (bytes : List ℕ) (P : Program) (rest : List ℕ) → AreBytes bytes → program_for wanted bytes ≡ got P rest
    → Accepted bytes (program_sort bytes) P × (takes wanted (program_sort bytes) ≡ true) × (rest ≡ [])
read-accepted wanted bytes P rest are q =
    let w = started wanted bytes P rest q in
    let b = get_or bytes 0 0 in
    let a = accepted bytes (program_sort bytes) (count_in b) P rest are w.filled w.short (byte_back b) w.few w.functions in
    (a.0, w.taken, a.1)

-- what is read where two tests refuse is read where one does
one_test_less : (t c k : Bool) (f f' : Refusal) (p : Parsed Program) (P : Program) (rest : List ℕ)
    → unless_fault t f (unless_fault (c || not k) f' p) ≡ got P rest → unless_fault t f (unless_fault (c || false) f' p) ≡ got P rest
one_test_less true c k f f' p P rest q = absurd (not-got q)
one_test_less false true k f f' p P rest q = absurd (not-got q)
one_test_less false false true f f' p P rest q = q
one_test_less false false false f f' p P rest q = absurd (not-got q)

pub read_both : (wanted : Wanted) (bytes : List ℕ) (P : Program) (rest : List ℕ) → program_for wanted bytes ≡ got P rest
    → program_for None bytes ≡ got P rest
unfolding program_by
read_both wanted bytes P rest q =
    let long = eqb (length bytes) 0 || ltb most_bytes (length bytes) in
    one_test_less long (count_fault (get_or bytes 0 0)) (takes wanted (program_sort bytes)) _ _ _ P rest q

-- ---- The check

pub accepted_passed : (bytes : List ℕ) (s : Sort) (P : Program) → Accepted bytes s P → (wanted : Wanted) → takes wanted s ≡ true
    → program_check wanted bytes ≡ passed
unfolding program_check
accepted_passed bytes s P a wanted taken = rw (read-encoded bytes s P a wanted taken)

passed_read : (p : Parsed Program) → check_from p ≡ passed → (P : Program) × (rest : List ℕ) × (p ≡ got P rest)
passed_read (got P rest) e = (P, rest, refl)
passed_read (reading.refused f) e = absurd (refused e)

pub passed_accepted : (wanted : Wanted) (bytes : List ℕ) → AreBytes bytes → program_check wanted bytes ≡ passed
    → (P : Program) × Accepted bytes (program_sort bytes) P × (takes wanted (program_sort bytes) ≡ true)
unfolding program_check
passed_accepted wanted bytes are e =
    let w = passed_read (program_for wanted bytes) e in
    let a = read-accepted wanted bytes w.0 w.1 are w.2 in
    (w.0, a.0, a.1)

pub accepted-sort : (bytes : List ℕ) (s : Sort) (P : Program) → Accepted bytes s P → program_sort bytes ≡ s
unfolding encode
accepted-sort bytes s P a = rw a.encoded (sort_back s (length P) a.few)

pub same_bytes : (bytes : List ℕ) (s s' : Sort) (P Q : Program) → Accepted bytes s P → Accepted bytes s' Q → (s ≡ s') × (P ≡ Q)
same_bytes bytes s s' P Q a b = (
  sym (accepted-sort bytes s P a) ∙ accepted-sort bytes s' Q b,
  (got_inv (sym (read-encoded bytes s' Q b None refl) ∙ read-encoded bytes s P a None refl)).0,
)
