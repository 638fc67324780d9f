-- Laws of the kinds byte and the guard byte of a header:
--   flags_below                a byte that says something of the kinds is below 32
--   kinds_back                 the kinds that both bytes were made of are read from them
--   kinds-sound, guard-sound   nothing of them is refused
--   kinds-few                  where a kinds byte is not refused there are at most four parameters
--   kinds_again, guard_again   bytes that are not refused are made of the kinds that are read from them
--   GuardOfSort, guard_of_sort, kind_of_sort, kinds_of_sort
--                              of one contact the guard byte is 0, and where it is, all lists are of the ram
--   length-kinds               as many kinds are read as asked for
use mathlib.Core.Path.{◌≡◌, refl, sym, ap, ◌∙◌}
use mathlib.Core.Bool.{Bool, true, false, not, ◌&&◌, ◌||◌, cond}
use mathlib.Core.List.{List, [], ◌∷◌, ◌++◌, map, append_assoc, map-append}
use Prim.Native.Nat.{ℕ, zero, suc, ◌+◌, ◌*◌, ◌-◌, ◌/◌, ◌%◌, ◌^◌, ◌<◌, ◌≤◌}
use native.Mathlib.Nat.{mod-lt, zero-add, add-zero}
use native.Mathlib.Omega.{arith}
use lib.Dec.{T, eqb, leb, ltb, leb→le, ltb→lt}
use lib.ListN.{length, get_or, replicate, length-append, length-map, get_or-append, get_or-map}
use lib.Seq.{get_or_at}
use borrow.Author.Tests.{le-ltb, lt-leb, ltb-true, ltb-false, leb-false}
use Rattle.trace.specs.{bit_of, digit, binary}
use Rattle.trace.proofs.Bits.{bit_past, bit-binary, binary-bound, binary_snoc}
use Rattle.semantics.specs.declared.Contact.TheVariants.{Ram, Guard}
use Rattle.semantics.specs.declared.Sort.{Sort}
use Rattle.semantics.specs.declared.Sort.TheVariants.{One, Two}
use Rattle.semantics.specs.declared.Kind.{Kind}
use Rattle.semantics.specs.declared.Kind.TheVariants.{Truth as truth, List as list}
use Rattle.semantics.specs.Language.{is_list, is_guard}
use Rattle.syntax.specs.Limits.{most_params}
use Rattle.rule.specs.Form.{padded, flags_byte, kinds_byte, guard_byte, KindOfSort, KindsOfSort}
use Rattle.syntax.specs.Bytes.{kinds_fault, no_list_below, guard_fault}
use Rattle.rule.specs.Reading.{kind_at, kinds_from}
use Rattle.rule.proofs.Tests.{neither}
use Rattle.rule.proofs.Padded.{length-padded}

pub length-kinds : (k g i n : ℕ) → length (kinds_from k g i n) ≡ n
unfolding kinds_from
length-kinds k g i zero = refl
length-kinds k g i (suc n) = ap suc (length-kinds k g (suc i) n)

-- the kinds that a header's bits speak of: at 0 to 3 the parameters, where there are any, at 4 the result
unfoldable slots : List Kind → Kind → List Kind
slots params result = padded most_params truth params ++ (result ∷ [])

-- zeros at the high end say nothing
binary_zeros : (bits : List Bool) (m : ℕ) → binary (bits ++ replicate m false) ≡ binary bits
unfolding binary
binary_zeros [] zero = refl
binary_zeros [] (suc m) = omega (arith, binary_zeros [] m)
binary_zeros (b ∷ bits) m = rw (binary_zeros bits m)

low_four : (x : ℕ) (b : Bool) → x < 16 → (x + digit b * 16) % 16 ≡ x
low_four x false h = omega arith
low_four x true h = omega arith

-- ---- A byte that says something of the kinds

module _ (said : Kind → Bool) (params : List Kind) (result : Kind) where
  module _ (none : said truth ≡ false) where
    map_truths : (n : ℕ) → map said (replicate n truth) ≡ replicate n false
    map_truths zero = refl
    map_truths (suc n) = rw (none, map_truths n)

    flags_map : flags_byte said params result ≡ binary (map said (slots params result))
    unfolding flags_byte padded slots
    flags_map =
        let left = most_params - length params in
        let pad = replicate left truth in
        rw (length-map params said, map-append said (params ++ pad) (result ∷ []), map-append said params pad, map_truths left)

    flag_at : (i : ℕ) → bit_of i (flags_byte said params result) ≡ said (get_or (slots params result) i truth)
    flag_at i = rw (flags_map, bit-binary (map said (slots params result)) i) (rw none at (get_or-map said (slots params result) i truth))

  module _ (few : length params ≤ most_params) where
    four : length (padded most_params false (map said params)) ≡ 4
    four = length-padded most_params false (map said params) (rw (length-map params said) few)

    pub flags_below : flags_byte said params result < 32
    unfolding flags_byte
    flags_below =
        let low = padded most_params false (map said params) in
        let five : length (low ++ (said result ∷ [])) ≡ 5 = omega (arith, length-append low (said result ∷ []), four) in
        rw five at (binary-bound (low ++ (said result ∷ [])))

    -- the low four bits are those of the parameters
    flags_low : flags_byte said params result % 16 < 2 ^ length params
    unfolding flags_byte padded
    flags_low =
        let own = map said params in
        let low = padded most_params false own in
        let same : binary low ≡ binary own = binary_zeros own (4 - length own) in
        let small : binary low < 16 = rw four at (binary-bound low) in
        let bound : binary own < 2 ^ length params = rw (length-map params said) at (binary-bound own) in
        let split : binary (low ++ (said result ∷ [])) ≡ binary low + digit (said result) * 16 = rw four at (binary_snoc low (said result)) in
        rw (split, low_four (binary low) (said result) small, same) bound

-- ---- From the kinds to the bytes and back

kind_of_lem : (κ : Kind) → cond (is_list κ) (list (cond (is_guard κ) Guard Ram)) truth ≡ κ
kind_of_lem truth = refl
kind_of_lem (list Ram) = refl
kind_of_lem (list Guard) = refl

guard_listed : (κ : Kind) → (is_guard κ && not (is_list κ)) ≡ false
guard_listed truth = refl
guard_listed (list Ram) = refl
guard_listed (list Guard) = refl

-- kinds that are read one by one
kinds-read : (k g i : ℕ) (κs : List Kind) → ((j : ℕ) → j < length κs → kind_at k g (i + j) ≡ get_or κs j truth) → kinds_from k g i (length κs) ≡ κs
unfolding kinds_from
kinds-read k g i [] is = refl
kinds-read k g i (κ ∷ κs) is =
    let here : kind_at k g i ≡ κ = rw (add-zero i) at (is 0 (omega arith)) in
    rw (here, kinds-read k g (suc i) κs (λ j h. rw (moved j) (is (suc j) (omega arith))))
  where
    moved : (j : ℕ) → suc i + j ≡ i + suc j
    moved j = omega arith

module _ (params : List Kind) (result : Kind) where
  kind_back : (i : ℕ) → kind_at (kinds_byte params result) (guard_byte params result) i ≡ get_or (slots params result) i truth
  kind_back i = rw (flag_at is_list params result refl i, flag_at is_guard params result refl i) (kind_of_lem (get_or (slots params result) i truth))

  param_back : (i : ℕ) → i < length params → get_or (slots params result) i truth ≡ get_or params i truth
  unfolding slots padded
  param_back i h =
      let pad = replicate (most_params - length params) truth in
      rw (append_assoc params pad (result ∷ []), get_or-append params (pad ++ (result ∷ [])) truth i h)

  no_list : (n : ℕ) → no_list_below n (kinds_byte params result) (guard_byte params result) ≡ false
  unfolding no_list_below
  no_list zero = refl
  no_list (suc i) =
      rw (no_list i, flag_at is_list params result refl i, flag_at is_guard params result refl i) (guard_listed (get_or (slots params result) i truth))

  module _ (few : length params ≤ most_params) where
    pub kinds_back : (kinds_from (kinds_byte params result) (guard_byte params result) 0 (length params) ≡ params)
        × (kind_at (kinds_byte params result) (guard_byte params result) 4 ≡ result)
    unfolding slots
    kinds_back = (
      kinds-read _ _ 0 params (λ i h. rw (zero-add i) (kind_back i ∙ param_back i h)),
      kind_back 4 ∙ get_or_at (padded most_params truth params) result [] truth 4 (length-padded most_params truth params few),
    )

    pub kinds-sound : kinds_fault (length params) (kinds_byte params result) ≡ false
    kinds-sound = simp (le-ltb _ _ few, lt-leb _ _ (flags_low is_list params result few), lt-leb _ _ (flags_below is_list params result few))

    pub guard-sound : guard_fault (kinds_byte params result) (guard_byte params result) ≡ false
    guard-sound = simp (lt-leb _ _ (flags_below is_guard params result few), no_list 5)

-- ---- From the bytes to the kinds and back

digit_of_lem : (m : ℕ) → m < 2 → digit (eqb m 1) ≡ m
digit_of_lem zero h = refl
digit_of_lem (suc zero) h = refl
digit_of_lem (suc (suc m)) h = absurd (omega arith)

digit_at : (b i : ℕ) → digit (bit_of i b) ≡ b / 2 ^ i % 2
unfolding bit_of
digit_at b i = digit_of_lem (b / 2 ^ i % 2) (mod-lt (b / 2 ^ i) (omega arith))

-- a number below 32 by its five digits
five_digits : (b : ℕ) → b < 32 → b / 1 % 2 + 2 * (b / 2 % 2 + 2 * (b / 4 % 2 + 2 * (b / 8 % 2 + 2 * (b / 16 % 2 + 2 * 0)))) ≡ b
five_digits b h =
    let p : b / 1 % 2 + 2 * (b / 2) ≡ b = omega arith in
    let q : b / 2 % 2 + 2 * (b / 4) ≡ b / 2 = omega arith in
    let r : b / 4 % 2 + 2 * (b / 8) ≡ b / 4 = omega arith in
    let s : b / 8 % 2 + 2 * (b / 16) ≡ b / 8 = omega arith in
    let t : b / 16 % 2 + 2 * 0 ≡ b / 16 = omega arith in
    rw (t, s, r, q, p)

five_bits : (b : ℕ) → b < 32 → binary (bit_of 0 b ∷ bit_of 1 b ∷ bit_of 2 b ∷ bit_of 3 b ∷ bit_of 4 b ∷ []) ≡ b
unfolding binary
five_bits b h = rw (digit_at b 0, digit_at b 1, digit_at b 2, digit_at b 3, digit_at b 4) (five_digits b h)

low_bit : (i b : ℕ) → i < 4 → bit_of i b ≡ bit_of i (b % 16)
unfolding bit_of
low_bit zero b h = let e : b / 1 % 2 ≡ b % 16 / 1 % 2 = omega arith in rw e
low_bit (suc zero) b h = let e : b / 2 % 2 ≡ b % 16 / 2 % 2 = omega arith in rw e
low_bit (suc (suc zero)) b h = let e : b / 4 % 2 ≡ b % 16 / 4 % 2 = omega arith in rw e
low_bit (suc (suc (suc zero))) b h = let e : b / 8 % 2 ≡ b % 16 / 8 % 2 = omega arith in rw e
low_bit (suc (suc (suc (suc i)))) b h = absurd (omega arith)

-- a byte below 32 with no bit for an absent parameter
record Bits (n b : ℕ) : Type 0 where
  few : n ≤ 4
  below : b < 32
  absent : (i : ℕ) → T (leb n i) → T (ltb i 4) → bit_of i b ≡ false

-- a byte that says of the kinds at each place what its bit there says is made of those kinds
again : (said : Kind → Bool) (n b k g : ℕ) → Bits n b → ((i : ℕ) → T (ltb i 5) → bit_of i b ≡ said (kind_at k g i))
    → flags_byte said (kinds_from k g 0 n) (kind_at k g 4) ≡ b
unfolding flags_byte padded kinds_from
again said zero b k g l is =
    rw (l.absent 0 tt tt, l.absent 1 tt tt, l.absent 2 tt tt, l.absent 3 tt tt, is 4 tt) at (five_bits b l.below)
again said (suc zero) b k g l is =
    rw (is 0 tt, l.absent 1 tt tt, l.absent 2 tt tt, l.absent 3 tt tt, is 4 tt) at (five_bits b l.below)
again said (suc (suc zero)) b k g l is = rw (is 0 tt, is 1 tt, l.absent 2 tt tt, l.absent 3 tt tt, is 4 tt) at (five_bits b l.below)
again said (suc (suc (suc zero))) b k g l is = rw (is 0 tt, is 1 tt, is 2 tt, l.absent 3 tt tt, is 4 tt) at (five_bits b l.below)
again said (suc (suc (suc (suc zero)))) b k g l is = rw (is 0 tt, is 1 tt, is 2 tt, is 3 tt, is 4 tt) at (five_bits b l.below)
again said (suc (suc (suc (suc (suc n))))) b k g l is = absurd (omega (arith, l.few))

-- what is known of a number of parameters and a kinds byte that are not refused
limits : (n k : ℕ) → kinds_fault n k ≡ false → Bits n k
limits n k e =
    let outer = neither (ltb most_params n) (leb (2 ^ n) (k % 16) || leb 32 k) e in
    let inner = neither (leb (2 ^ n) (k % 16)) (leb 32 k) outer.1 in
    record {
      few = ltb-false _ _ outer.0;
      below = leb-false _ _ inner.1;
      absent = λ i past low. low_bit i k (ltb→lt i 4 low) ∙ bit_past n i (k % 16) (leb-false _ _ inner.0) (leb→le n i past);
    }

pub kinds-few : (n k : ℕ) → kinds_fault n k ≡ false → n ≤ most_params
kinds-few n k e = (limits n k e).few

list-bit : (a b : Bool) → a ≡ is_list (cond a (list (cond b Guard Ram)) truth)
list-bit true b = refl
list-bit false b = refl

guard-bit : (a b : Bool) → (b && not a) ≡ false → b ≡ is_guard (cond a (list (cond b Guard Ram)) truth)
guard-bit true true e = refl
guard-bit true false e = refl
guard-bit false true e = e
guard-bit false false e = refl

pub kinds_again : (n k g : ℕ) → kinds_fault n k ≡ false → kinds_byte (kinds_from k g 0 n) (kind_at k g 4) ≡ k
kinds_again n k g e = again is_list n k k g (limits n k e) (λ i h. list-bit (bit_of i k) (bit_of i g))

-- below n, each bit of the guard byte is one of the kinds byte
guards_are : (n k g : ℕ) → no_list_below n k g ≡ false → (i : ℕ) → i < n → bit_of i g ≡ is_guard (kind_at k g i)
unfolding no_list_below
guards_are zero k g e i h = absurd (omega arith)
guards_are (suc n) k g e i h =
    let p = neither (no_list_below n k g) (bit_of n g && not (bit_of n k)) e in
    go (ltb i n) refl (guards_are n k g p.0 i) (guard-bit (bit_of n k) (bit_of n g) p.1)
  where
    go : (t : Bool) → ltb i n ≡ t → (i < n → bit_of i g ≡ is_guard (kind_at k g i)) → bit_of n g ≡ is_guard (kind_at k g n)
        → bit_of i g ≡ is_guard (kind_at k g i)
    go true q lower here = lower (ltb-true _ _ q)
    go false q lower here = let last : i ≡ n = omega (arith, ltb-false i n q) in rw last here

pub guard_again : (n k g : ℕ) → kinds_fault n k ≡ false → guard_fault k g ≡ false → guard_byte (kinds_from k g 0 n) (kind_at k g 4) ≡ g
guard_again n k g e f =
    let p = neither (leb 32 g) (no_list_below 5 k g) f in
    let l = limits n k e in
    let is : (i : ℕ) → T (ltb i 5) → bit_of i g ≡ is_guard (kind_at k g i) = λ i h. guards_are 5 k g p.1 i (ltb→lt i 5 h) in
    let absent : (i : ℕ) → T (leb n i) → T (ltb i 4) → bit_of i g ≡ false =
    λ i past low. guards_are 5 k g p.1 i (omega (arith, ltb→lt i 4 low)) ∙ rw (l.absent i past low) in
    again is_guard n g k g (record { few = l.few; below = leb-false _ _ p.0; absent = absent }) is

-- ---- Of one contact

-- a guard byte that a header of a sort can have
abbrev pub GuardOfSort : Sort → ℕ → Type 0
GuardOfSort One g = g ≡ 0
GuardOfSort Two g = Unit {0}

no_guard : (κ : Kind) → KindOfSort One κ → is_guard κ ≡ false
no_guard truth h = refl
no_guard (list Ram) h = refl
no_guard (list Guard) h = absurd h

no_guards : (κs : List Kind) → KindsOfSort One κs → (i : ℕ) → is_guard (get_or κs i truth) ≡ false
no_guards [] h i = refl
no_guards (κ ∷ κs) h zero = no_guard κ h.0
no_guards (κ ∷ κs) h (suc i) = no_guards κs h.1 i

kinds-append : (s : Sort) (κs κs' : List Kind) → KindsOfSort s κs → KindsOfSort s κs' → KindsOfSort s (κs ++ κs')
kinds-append s [] κs' h h' = h'
kinds-append s (κ ∷ κs) κs' h h' = (h.0, kinds-append s κs κs' h.1 h')

truths_of : (s : Sort) (n : ℕ) → KindsOfSort s (replicate n truth)
truths_of s zero = tt
truths_of s (suc n) = (tt, truths_of s n)

pub guard_of_sort : (s : Sort) (params : List Kind) (result : Kind) → length params ≤ most_params → KindsOfSort s params → KindOfSort s result
    → GuardOfSort s (guard_byte params result)
unfolding slots padded binary
guard_of_sort One params result few h r =
    let pad = replicate (most_params - length params) truth in
    let all : KindsOfSort One (slots params result) =
    kinds-append One (params ++ pad) (result ∷ []) (kinds-append One params pad h (truths_of One (most_params - length params))) (r, tt) in
    let zero-at : (i : ℕ) → bit_of i (guard_byte params result) ≡ false =
    λ i. flag_at is_guard params result refl i ∙ no_guards (slots params result) all i in
    sym (rw (zero-at 0, zero-at 1, zero-at 2, zero-at 3, zero-at 4) at (five_bits (guard_byte params result) (flags_below is_guard params result few)))
guard_of_sort Two params result few h r = tt

pub kind_of_sort : (s : Sort) (k g : ℕ) → GuardOfSort s g → (i : ℕ) → KindOfSort s (kind_at k g i)
kind_of_sort One k g h i = rw (h, bit_past 0 i 0 (omega arith) (omega arith)) (ram_kind_lem (bit_of i k))
  where
    ram_kind_lem : (a : Bool) → KindOfSort One (cond a (list Ram) truth)
    ram_kind_lem true = tt
    ram_kind_lem false = tt
kind_of_sort Two k g h i = either_kind (bit_of i k)
  where
    either_kind : (a : Bool) → KindOfSort Two (cond a (list (cond (bit_of i g) Guard Ram)) truth)
    either_kind true = tt
    either_kind false = tt

pub kinds_of_sort : (s : Sort) (k g : ℕ) → GuardOfSort s g → (i n : ℕ) → KindsOfSort s (kinds_from k g i n)
unfolding kinds_from
kinds_of_sort s k g h i zero = tt
kinds_of_sort s k g h i (suc n) = (kind_of_sort s k g h i, kinds_of_sort s k g h (suc i) n)
