-- Laws of numbers in decimal:
--   decimal-few            a number below 10 is one figure
--   decimal-more           any other is the figures of its tenth, and its last figure
--   length-decimal         a number below 10 ^ k has at most k figures
-- and of the loop that writes a number's figures from the last to the first: with a rest whose last figure is
-- written, the figures `above` it are to go
--   figures_start          before the first turn
--   figures_room           there is a place for the next figure
--   figures_more           a turn
--   figures_end            after the last turn
use mathlib.Core.Path.{◌≡◌, refl, sym, ◌∙◌}
use mathlib.Core.Bool.{Bool, true, false, cond}
use mathlib.Core.List.{List, [], ◌∷◌, ◌++◌}
use Prim.Native.Nat.{ℕ, zero, suc, ◌+◌, ◌-◌, ◌*◌, ◌/◌, ◌%◌, ◌^◌, ◌<◌, ◌≤◌}
use native.Mathlib.Nat.{pow-succ'}
use native.Mathlib.Numerals.{add-one}
use native.Mathlib.Omega.{arith}
use borrow.Author.Tests.{ltb-true, ltb-false, lt-ltb, le-ltb}
use lib.Dec.{ltb}
use lib.ListN.{length, drop, set, length-append, length-set, drop_of_length-le}
use lib.Seq.{append_snoc, drop-cons, get_or-set_same, drop-set-lt}
use Rattle.encoding.specs.{figure, decimal_in, decimal}

-- more room than a number's figures take changes nothing
enough : (k l n : ℕ) → n < k → n < l → decimal_in k n ≡ decimal_in l n
unfolding decimal_in
enough zero l n h g = absurd (omega arith)
enough (suc k) zero n h g = absurd (omega arith)
enough (suc k) (suc l) n h g = go (ltb n 10) refl (λ many. enough k l (n / 10) (omega arith) (omega arith))
  where
    go : (b : Bool) → ltb n 10 ≡ b → (10 ≤ n → decimal_in k (n / 10) ≡ decimal_in l (n / 10))
        → cond (ltb n 10) (figure n ∷ []) (decimal_in k (n / 10) ++ (figure (n % 10) ∷ []))
        ≡ cond (ltb n 10) (figure n ∷ []) (decimal_in l (n / 10) ++ (figure (n % 10) ∷ []))
    go true e ih = rw e
    go false e ih = rw (e, ih (ltb-false n 10 e))

pub decimal-few : (n : ℕ) → n < 10 → decimal n ≡ figure n ∷ []
unfolding decimal decimal_in
decimal-few n h = rw (lt-ltb n 10 h)

pub decimal-more : (n : ℕ) → 10 ≤ n → decimal n ≡ decimal (n / 10) ++ (figure (n % 10) ∷ [])
unfolding decimal decimal_in
decimal-more n h = rw (le-ltb n 10 h, enough n (suc (n / 10)) (n / 10) (omega arith) (omega arith))

pub length-decimal : (k n : ℕ) → 1 ≤ k → n < 10 ^ k → length (decimal n) ≤ k
length-decimal zero n some h = absurd (omega arith)
length-decimal (suc zero) n some h = rw (decimal-few n (omega arith)) (omega arith)
length-decimal (suc (suc k)) n some h = go (ltb n 10) refl (length-decimal (suc k) (n / 10) (omega arith) tenth)
  where
    tenth : n / 10 < 10 ^ suc k
    tenth = let below : n < 10 * 10 ^ suc k = rw (pow-succ' 10 (suc k)) at h in omega arith

    go : (b : Bool) → ltb n 10 ≡ b → length (decimal (n / 10)) ≤ suc k → length (decimal n) ≤ suc (suc k)
    go true e ih = rw (decimal-few n (ltb-true n 10 e)) (omega arith)
    go false e ih = rw (decimal-more n (ltb-false n 10 e), length-append) (omega arith)

-- ---- The loop

-- the figures above a number's last
unfoldable pub above : ℕ → List ℕ
above n = cond (ltb n 10) [] (decimal (n / 10))

above_few : (n : ℕ) → n < 10 → above n ≡ []
unfolding above
above_few n h = rw (lt-ltb n 10 h)

above_more : (n : ℕ) → 10 ≤ n → above n ≡ decimal (n / 10)
unfolding above
above_more n h = rw (le-ltb n 10 h)

decimal-last : (n : ℕ) → decimal n ≡ above n ++ (figure (n % 10) ∷ [])
decimal-last n = go (ltb n 10) refl
  where
    go : (b : Bool) → ltb n 10 ≡ b → decimal n ≡ above n ++ (figure (n % 10) ∷ [])
    go true e =
        let few : n < 10 = ltb-true n 10 e in
        let same : n % 10 ≡ n = omega arith in
        rw (decimal-few n few, above_few n few, same)
    go false e = let many : 10 ≤ n = ltb-false n 10 e in rw (decimal-more n many, above_more n many)

-- a figure is written before those that are there
drop-set : (l : List ℕ) (i a : ℕ) → i < length l → drop i (set l i a) ≡ a ∷ drop (suc i) l
drop-set l i a h =
    drop-cons (set l i a) i 0 (omega (arith, length-set l i a))
    ∙ rw (get_or-set_same l i a 0 h, drop-set-lt (suc i) l i a (omega arith))

-- of a number, the rest whose last figure stands at `first`, and the figures from there on
pub record Writing (n : ℕ) (figures : List ℕ) (rest first : ℕ) : Type 0 where
  pub size : length figures ≡ 10
  pub within : first ≤ 9
  pub few : rest < 10 ^ (first + 1)
  pub written : above rest ++ drop first figures ≡ decimal n

pub figures_start : (n : ℕ) (figures : List ℕ) {last : ℕ} → length figures ≡ 10 → n < 10 ^ 10 → last ≡ figure (n % 10)
    → Writing n (set figures 9 last) n 9
figures_start n figures {last} size few e =
    record {
      size = length-set figures 9 last ∙ size;
      within = omega arith;
      few = few;
      written = rw (drop-set figures 9 last (omega arith), drop_of_length-le figures {i = 10} (omega arith), e) (sym (decimal-last n));
    }

module _ {n rest first : ℕ} {figures : List ℕ} (w : Writing n figures rest first) where
  pub figures_room : 10 ≤ rest → 1 ≤ first
  figures_room many = go first w.few
    where
      go : (k : ℕ) → rest < 10 ^ (k + 1) → 1 ≤ k
      go zero h = absurd (omega arith)
      go (suc k) h = omega arith

  pub figures_more : {next : ℕ} → 10 ≤ rest → next ≡ figure (rest / 10 % 10) → Writing n (set figures (first - 1) next) (rest / 10) (first - 1)
  figures_more {next} many e =
      let some : 1 ≤ first = figures_room many in
      let after : suc (first - 1) ≡ first = omega arith in
      let below : rest < 10 * 10 ^ first = rw (add-one first, pow-succ' 10 first) at w.few in
      record {
        size = length-set figures (first - 1) next ∙ w.size;
        within = omega (arith, w.within);
        few = rw (add-one (first - 1), after) (omega arith);
        written =
            rw (
              drop-set figures (first - 1) next (omega (arith, w.size, w.within)),
              after,
              e,
              ← append_snoc,
              ← decimal-last (rest / 10),
              ← above_more rest many,
            ) w.written;
      }

  pub figures_end : rest < 10 → (first ≤ 9) × (drop first figures ≡ decimal n)
  figures_end h = (w.within, rw (above_few rest h) at w.written)
