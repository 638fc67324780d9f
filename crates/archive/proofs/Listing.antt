-- Laws of the loop that lists an archive:
--   lines_record, lines_refused    the lines of some bytes, by what they end in
--   lines_short                    there is room for the lines of an archive
--   Turn, turn_start               what holds before each turn
--   reading-told, checked_told     what is examined in a turn
--   turn_record, turn_room,
--   turn_next                      a turn that finds a record
--   turn_stop, turn_end            the last line
--   too_long, listed_whole         the whole listing
use mathlib.Core.Path.{◌≡◌, refl, sym, ap, ◌∙◌}
use mathlib.Core.List.{List, [], ◌∷◌, ◌++◌}
use Prim.Native.Nat.{ℕ, zero, suc, ◌+◌, ◌-◌, ◌*◌, ◌^◌, ◌<◌, ◌≤◌}
use native.Mathlib.Numerals.{add-one}
use native.Mathlib.Omega.{arith}
use borrow.Author.Tests.{lt-ltb, le-ltb}
use lib.ListN.{length, take, length-append}
use lib.Seq.{length-take-le, take_all, take-take}
use Rattle.refusal.specs.declared.Refusal.{Refusal}
use Rattle.encoding.specs.{put}
use Rattle.encoding.proofs.Putting.{Left, left-room, left-more, left_front}
use Rattle.layout.specs.declared.GuardTrace.{GuardTrace}
use Rattle.std.specs.Prelude.{Option, Some, None, Result, Ok, Err}
use Rattle.layout.specs.declared.Parts.{Parts}
use Rattle.record.specs.Reading.{reading}
use Rattle.record.specs.declared.Checked.{Checked}
use Rattle.record.specs.declared.Examined.{Examined}
use Rattle.record.specs.Checking.{checking, examining}
use Rattle.rule.specs.Form.{AreBytes}
use Rattle.rule.proofs.FunctionBytes.{bytes_take}
use Rattle.record.proofs.Answers.{parts_within}
use Rattle.layout.proofs.Places.{GuardWithin}
use Rattle.record.proofs.Ends.{least_bytes, record_least}
use Rattle.archive.specs.Walk.{walk}
use Rattle.archive.specs.Listing.{most_archive, listing_cells, listing_bytes, newline, too_long_words, record_line, stop_line, end_line, lines_of, listing}
use Rattle.archive.proofs.Walking.{before-short, walk_end, walk_record, walk_refused}
use Rattle.archive.proofs.Lengths.{most_line, GuardBelow, record_line_short, stop_line_short, end_line_short}

-- ---- The lines of some bytes, by what they end in

lines_end : (listed : ℕ) → lines_of listed (walk []) ≡ end_line listed
unfolding lines_of
lines_end listed = rw walk_end

pub lines_record : (listed : ℕ) (bytes : List ℕ) (p : Parts) → reading bytes ≡ Ok p
    → lines_of listed (walk bytes) ≡ record_line (suc listed) (length bytes - p.program.start) p (checking bytes listing_cells)
    ++ lines_of (suc listed) (walk (take p.program.start bytes))
unfolding lines_of
lines_record listed bytes p e = rw (walk_record bytes p e)

pub lines_refused : (listed : ℕ) (bytes : List ℕ) (f : Refusal) → 0 < length bytes → reading bytes ≡ Err f
    → lines_of listed (walk bytes) ≡ stop_line (suc listed) f
unfolding lines_of
lines_refused listed bytes f h e = rw (walk_refused bytes f h e)

-- ---- Their length

-- a line takes at most two bytes for each of its record's
line_few : (bytes : List ℕ) (g : Option GuardTrace) → GuardWithin bytes g → GuardBelow g (10 ^ 4) × (most_line g ≤ 2 * least_bytes g)
line_few bytes None w = (tt, omega arith)
line_few bytes (Some g) w = (omega arith, omega arith)

-- a turn
record_short : (listed : ℕ) (bytes : List ℕ) (p : Parts) → AreBytes bytes → listed + length bytes ≤ most_archive → reading bytes ≡ Ok p
    → length (lines_of (suc listed) (walk (take p.program.start bytes))) ≤ 2 * length (take p.program.start bytes) + 64
    → length (lines_of listed (walk bytes)) ≤ 2 * length bytes + 64
record_short listed bytes p are few e more =
    let w = parts_within bytes p e in
    let size = length bytes - p.program.start in
    let rest = lines_of (suc listed) (walk (take p.program.start bytes)) in
    let line = record_line (suc listed) size p (checking bytes listing_cells) in
    let before : length (take p.program.start bytes) ≡ p.program.start = length-take-le p.program.start bytes (omega (arith, w.some)) in
    let least = line_few bytes p.guard w.guard in
    let one : length line ≤ most_line p.guard =
    record_line_short (suc listed) size p (checking bytes listing_cells) (omega arith) (omega arith) (omega (arith, w.few)) least.0 in
    rw (lines_record listed bytes p e) (omega (arith, length-append line rest, record_least bytes p are e, least.1))

by_reading : (listed : ℕ) (bytes : List ℕ) (r : Result Parts Refusal) → AreBytes bytes → 0 < length bytes → listed + length bytes ≤ most_archive → reading bytes ≡ r
    → ((p : Parts) → reading bytes ≡ Ok p
    → length (lines_of (suc listed) (walk (take p.program.start bytes))) ≤ 2 * length (take p.program.start bytes) + 64)
    → length (lines_of listed (walk bytes)) ≤ 2 * length bytes + 64
by_reading listed bytes (Ok p) are h few e more = record_short listed bytes p are few e (more p e)
by_reading listed bytes (Err f) are h few e more =
    rw (lines_refused listed bytes f h e) (omega (arith, stop_line_short (suc listed) f (omega arith)))

short_in : (k listed : ℕ) (bytes : List ℕ) → AreBytes bytes → length bytes ≤ k → listed + length bytes ≤ most_archive
    → length (lines_of listed (walk bytes)) ≤ 2 * length bytes + 64
short_in zero listed [] are h few = rw (lines_end listed) (end_line_short listed (omega arith))
short_in (suc k) listed [] are h few = rw (lines_end listed) (end_line_short listed (omega arith))
short_in zero listed (b ∷ bs) are h few = absurd (omega arith)
short_in (suc k) listed (b ∷ bs) are h few =
    by_reading listed (b ∷ bs) (reading (b ∷ bs)) are (omega arith) few refl
    (λ p e. let short = before-short (b ∷ bs) p e in short_in k (suc listed) (take p.program.start (b ∷ bs)) (bytes_take p.program.start (b ∷ bs) are) (omega arith) (omega arith))

pub lines_short : (archive out : List ℕ) → AreBytes archive → length archive ≤ most_archive → length out ≡ listing_bytes → length (lines_of 0 (walk archive)) ≤ length out
lines_short archive out are few size = omega (arith, short_in (length archive) 0 archive are (omega arith) (omega arith))

-- ---- The loop

-- before each turn: so many bytes are left, so many records are listed, and so much of the text is left to put
pub record Turn (archive out₀ out table : List ℕ) (left listed at : ℕ) : Type 0 where
  pub within : left ≤ length archive
  pub few : listed + left ≤ most_archive
  pub cells : length table ≡ listing_cells
  pub text : Left out₀ 0 (lines_of 0 (walk archive)) out at (lines_of listed (walk (take left archive)))

pub turn_start : (archive out table : List ℕ) → AreBytes archive → length archive ≤ most_archive → length out ≡ listing_bytes → length table ≡ listing_cells
    → Turn archive out out table (length archive) 0 0
turn_start archive out table are few size cells =
    record {
      within = omega arith;
      few = omega arith;
      cells = cells;
      text = rw (take_all (length archive) archive (omega arith)) (left_front out (lines_of 0 (walk archive)) (lines_short archive out are few size));
    }

module _ {archive out₀ out table : List ℕ} {left listed at : ℕ} (t : Turn archive out₀ out table left listed at) where
  abbrev bytes : List ℕ
  bytes = take left archive

  size : length bytes ≡ left
  size = length-take-le left archive t.within

  -- what examining the bytes that are left answers
  pub reading-told : {r : Examined} → r ≡ examining bytes (length table) → reading bytes ≡ r.reading
  unfolding examining
  reading-told e = sym (ap (λ (x : Examined). x.reading) e)

  pub checked_told : {r : Examined} → r ≡ examining bytes (length table) → r.checked ≡ checking bytes listing_cells
  unfolding examining
  checked_told e = ap (λ (x : Examined). x.checked) e ∙ rw t.cells

  pub turn_stop : {f : Refusal} → 0 < left → reading bytes ≡ Err f → Left out₀ 0 (lines_of 0 (walk archive)) out at (stop_line (listed + 1) f)
  turn_stop {f} h e = rw (add-one listed) (rw (lines_refused listed bytes f (omega (arith, size)) e) at t.text)

  pub turn_end : left ≤ 0 → Left out₀ 0 (lines_of 0 (walk archive)) out at (end_line listed)
  turn_end h =
      let none : left ≡ 0 = omega arith in
      rw (none, lines_end listed) at t.text

  module _ {p : Parts} (e : reading bytes ≡ Ok p) where
    pub start-below : p.program.start < left
    start-below = omega (arith, (parts_within bytes p e).some, size)

    pub turn_record : {c : Result Checked Refusal} → c ≡ checking bytes listing_cells
        → Left out₀ 0 (lines_of 0 (walk archive)) out at (record_line (listed + 1) (left - p.program.start) p c
        ++ lines_of (listed + 1) (walk (take p.program.start archive)))
    turn_record c =
        let before : take p.program.start bytes ≡ take p.program.start archive =
        take-take p.program.start left archive (omega (arith, start-below)) in
        rw (add-one listed, c) (rw (lines_record listed bytes p e, before, size) at t.text)

    pub turn_room : {c : Result Checked Refusal} → c ≡ checking bytes listing_cells
        → at + length (record_line (listed + 1) (left - p.program.start) p c) ≤ length out
    turn_room {c} same =
        left-room (record_line (listed + 1) (left - p.program.start) p c) (lines_of (listed + 1) (walk (take p.program.start archive)))
        (turn_record same)

    pub turn_next : {out' table' : List ℕ} {at' : ℕ} {c : Result Checked Refusal} → c ≡ checking bytes listing_cells → length table' ≡ listing_cells
        → (at' ≡ at + length (record_line (listed + 1) (left - p.program.start) p c))
        × (out' ≡ put at (record_line (listed + 1) (left - p.program.start) p c) out)
        → Turn archive out₀ out' table' p.program.start (listed + 1) at'
    turn_next {c = c} same cells w =
        record {
          within = omega (arith, start-below, t.within);
          few = omega (arith, start-below, t.few);
          cells = cells;
          text = left-more (record_line (listed + 1) (left - p.program.start) p c) (turn_record same) w;
        }

-- ---- The whole listing

-- an archive that is too long is told in nine bytes
pub too_long : (archive : List ℕ) → most_archive < length archive → listing archive ≡ too_long_words ++ newline
unfolding listing
too_long archive h = rw (lt-ltb most_archive (length archive) h)

pub listed_whole : (archive : List ℕ) → length archive ≤ most_archive → listing archive ≡ lines_of 0 (walk archive)
unfolding listing
listed_whole archive h = rw (le-ltb most_archive (length archive) h)
