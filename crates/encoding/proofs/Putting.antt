-- Laws of texts put into an output one after the other:
--   length-put, length-begins     an output keeps its length
--   begins-within                 it is at least as long as the text that it begins with
--   begins-start, begins-more     a loop that copies a text to the front of an output
--   no_room                       putting a text where there is no room for it
--   room-place, room-put, put_known, put_part     and where there is
--   part_rest                     the part of a list from a place to its end
--   left-start, left-room, left-more, left-put, left_end     a text put in pieces, by what is left of it
--   left_front, front_put, front_end     and one put at the front
use mathlib.Core.Path.{◌≡◌, refl, sym, ap, ◌∙◌}
use mathlib.Core.Bool.{Bool, true, false}
use mathlib.Core.List.{List, [], ◌++◌, append_assoc, append-nil}
use Prim.Native.Nat.{ℕ, suc, ◌+◌, ◌-◌, ◌<◌, ◌≤◌}
use native.Mathlib.Numerals.{add-one}
use native.Mathlib.Omega.{arith}
use borrow.Author.Tests.{leb-true, leb-false, le-leb, lt-leb}
use lib.Dec.{leb}
use lib.ListN.{length, get_or, take, drop, set, length-append, length-drop, drop_of_length-le}
use lib.Seq.{length-take-le, take-suc, take_all, take-append_seam, drop-append_seam, take-append-add, drop-append-add, drop-cons, drop-drop, set_at, append_snoc}
use Rattle.encoding.specs.{begins, put, place_after}

pub length-begins : (text out : List ℕ) → length text ≤ length out → length (begins text out) ≡ length out
unfolding begins
length-begins text out h = omega (arith, length-append text (drop (length text) out), length-drop (length text) out)

pub begins-within : (text out : List ℕ) → length text ≤ length (begins text out)
unfolding begins
begins-within text out = omega (arith, length-append text (drop (length text) out))

-- ---- Copying a text to the front

pub begins-start : (out : List ℕ) → out ≡ begins [] out
unfolding begins
begins-start out = refl

pub begins-more : (text out : List ℕ) (i : ℕ) → i < length text → length text ≤ length out
    → set (begins (take i text) out) i (get_or text i 0) ≡ begins (take (i + 1) text) out
unfolding begins
begins-more text out i h fits =
    let n : length (take i text) ≡ i = length-take-le i text (omega arith) in
    let m : length (take (suc i) text) ≡ suc i = length-take-le (suc i) text (omega arith) in
    rw (add-one i, m, n, drop-cons out i 0 (omega arith))
    (set_at (take i text) (get_or out i 0) (drop (suc i) out) (get_or text i 0) i n
    ∙ sym (append_snoc (take i text) (get_or text i 0) (drop (suc i) out))
    ∙ ap (λ (l : List ℕ). l ++ drop (suc i) out) (sym (take-suc text i 0 h)))

-- a text, and one more put after it
begins_after : (text more out : List ℕ)
    → take (length text) (begins text out) ++ begins more (drop (length text) (begins text out)) ≡ begins (text ++ more) out
unfolding begins
begins_after text more out =
    rw (
      take-append_seam text (drop (length text) out),
      drop-append_seam text (drop (length text) out),
      drop-drop (length more) (length text) out,
      length-append text more,
      append_assoc text more (drop (length text + length more) out),
    )

-- ---- Putting a text at a place

pub no_room : (at : ℕ) (text out : List ℕ) → length out < at + length text → (at ≡ place_after at text out) × (out ≡ put at text out)
unfolding place_after put
no_room at text out h = (rw (lt-leb (at + length text) (length out) h), rw (lt-leb (at + length text) (length out) h))

pub room-place : (at : ℕ) (text out : List ℕ) → at + length text ≤ length out → place_after at text out ≡ at + length text
unfolding place_after
room-place at text out h = rw (le-leb (at + length text) (length out) h)

pub room-put : (at : ℕ) (text out : List ℕ) → at + length text ≤ length out → put at text out ≡ take at out ++ begins text (drop at out)
unfolding put begins
room-put at text out h = rw (le-leb (at + length text) (length out) h, drop-drop (length text) at out)

-- what was put is the text, by another name
pub put_known : (at : ℕ) (out : List ℕ) {text known out' : List ℕ} {at' : ℕ} → text ≡ known → at + length text ≤ length out
    → (at' ≡ place_after at known out) × (out' ≡ put at known out) → (at' ≡ at + length text) × (out' ≡ put at text out)
put_known at out {text} e h (p, o) = (p ∙ rw (← e) (room-place at text out h), o ∙ rw (← e))

pub part_rest : (i : ℕ) (l : List ℕ) {k : ℕ} → length l ≡ k → take (k - i) (drop i l) ≡ drop i l
part_rest i l {k} e = take_all (k - i) (drop i l) (omega (arith, length-drop i l))

-- a text was copied to the front of the part of an output that starts at a place
pub put_part : (at : ℕ) (text out : List ℕ) {part : List ℕ} → at ≤ length out → length text ≤ length out - at
    → part ≡ begins text (take (length out - at) (drop at out))
    → (at + length text ≡ place_after at text out) × (take at out ++ (part ++ drop (length out - at) (drop at out)) ≡ put at text out)
put_part at text out {part} h fits e =
    let rest : length (drop at out) ≡ length out - at = length-drop at out in
    let whole : take (length out - at) (drop at out) ≡ drop at out = part_rest at out refl in
    let none : drop (length out - at) (drop at out) ≡ [] = drop_of_length-le (drop at out) {i = length out - at} (omega arith) in
    let room : at + length text ≤ length out = omega arith in
    (sym (room-place at text out room), rw (e, none, whole, append-nil (begins text (drop at out))) (sym (room-put at text out room)))

pub length-put : (at : ℕ) (text out : List ℕ) → length (put at text out) ≡ length out
length-put at text out = go (leb (at + length text) (length out)) refl
  where
    go : (b : Bool) → leb (at + length text) (length out) ≡ b → length (put at text out) ≡ length out
    go true e =
        let room : at + length text ≤ length out = leb-true (at + length text) (length out) e in
        let rest : length (drop at out) ≡ length out - at = length-drop at out in
        rw (room-put at text out room, length-append, length-take-le at out (omega arith), length-begins text (drop at out) (omega arith))
        (omega arith)
    go false e = ap length (sym (no_room at text out (leb-false (at + length text) (length out) e)).1)

-- ---- A text put in pieces: what is left of it, and the place for that

-- what stands before a place stays where a text is put at the front of what stands after it
past : (front ys more : List ℕ) (at n : ℕ) → length front ≡ at
    → take (at + n) (front ++ ys) ++ begins more (drop (at + n) (front ++ ys)) ≡ front ++ (take n ys ++ begins more (drop n ys))
past front ys more at n e =
    rw (← e, take-append-add front ys n, drop-append-add front ys n) (append_assoc front (take n ys) (begins more (drop n ys)))

-- a text put at a place, and one more put after it
put-append : (at : ℕ) (text more out : List ℕ) → at + length (text ++ more) ≤ length out
    → put (at + length text) more (put at text out) ≡ put at (text ++ more) out
put-append at text more out h =
    let both : length (text ++ more) ≡ length text + length more = length-append text more in
    let front : length (take at out) ≡ at = length-take-le at out (omega arith) in
    let size : length (put at text out) ≡ length out = length-put at text out in
    rw (room-put (at + length text) more (put at text out) (omega arith), room-put at text out (omega arith), room-put at (text ++ more) out h)
    (past (take at out) (begins text (drop at out)) more at (length text) front
    ∙ ap (λ (l : List ℕ). take at out ++ l) (begins_after text more (drop at out)))

-- to put the rest of a text at a place is to put the whole of it into the output of the start
pub record Left (out₀ : List ℕ) (at₀ : ℕ) (whole out : List ℕ) (at : ℕ) (rest : List ℕ) : Type 0 where
  pub room : at + length rest ≤ length out
  pub place : at + length rest ≡ at₀ + length whole
  pub content : put at rest out ≡ put at₀ whole out₀

pub left-start : (out : List ℕ) (at : ℕ) (whole : List ℕ) → at + length whole ≤ length out → Left out at whole out at whole
left-start out at whole h = record { room = h; place = refl; content = refl }

module _ {out₀ whole out : List ℕ} {at₀ at : ℕ} where
  pub left-room : (piece rest : List ℕ) → Left out₀ at₀ whole out at (piece ++ rest) → at + length piece ≤ length out
  left-room piece rest l = omega (arith, length-append piece rest)

  pub left-more : (piece : List ℕ) {rest out' : List ℕ} {at' : ℕ} → Left out₀ at₀ whole out at (piece ++ rest)
      → (at' ≡ at + length piece) × (out' ≡ put at piece out) → Left out₀ at₀ whole out' at' rest
  left-more piece {rest} l (p, o) =
      let both : length (piece ++ rest) ≡ length piece + length rest = length-append piece rest in
      record {
        room = rw (p, o, length-put at piece out) (omega arith);
        place = rw p (omega arith);
        content = rw (p, o) (put-append at piece rest out l.room ∙ l.content);
      }

  pub left-put : (piece : List ℕ) {rest out' : List ℕ} {at' : ℕ} → Left out₀ at₀ whole out at (piece ++ rest)
      → (at' ≡ place_after at piece out) × (out' ≡ put at piece out) → Left out₀ at₀ whole out' at' rest
  left-put piece {rest} l e = left-more piece l (put_known at out {text = piece} refl (left-room piece rest l) e)

  pub left_end : {rest out' : List ℕ} {at' : ℕ} → Left out₀ at₀ whole out at rest
      → (at' ≡ place_after at rest out) × (out' ≡ put at rest out) → (at' ≡ at₀ + length whole) × (out' ≡ put at₀ whole out₀)
  left_end {rest} l (p, o) = (p ∙ room-place at rest out l.room ∙ l.place, o ∙ l.content)

-- ---- A text put at the front

pub left_front : (out whole : List ℕ) → length whole ≤ length out → Left out 0 whole out 0 whole
left_front out whole h = left-start out 0 whole (omega arith)

pub front_put : (whole out : List ℕ) → length whole ≤ length out → put 0 whole out ≡ begins whole out
front_put whole out h = room-put 0 whole out (omega arith)

pub front_end : {out₀ whole out rest out' : List ℕ} {at at' : ℕ} → Left out₀ 0 whole out at rest → length whole ≤ length out₀
    → (at' ≡ at + length rest) × (out' ≡ put at rest out) → (at' ≡ length whole) × (out' ≡ begins whole out₀)
front_end {out₀} {whole} l h (p, o) = (omega (arith, p, l.place), o ∙ l.content ∙ front_put whole out₀ h)
