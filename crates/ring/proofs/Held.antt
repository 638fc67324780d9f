-- Laws of what a ring holds, of any slots and any state that is sound:
--   length-held                  as many samples as the state counts
--   last_slots, held_bytes       the bytes that they are read from
--   held_new                     a new ring holds none
--   held_step                    adding a sample: the last of what was held and the new one
use mathlib.Core.Path.{◌≡◌, refl, sym, ap, ◌∙◌}
use mathlib.Core.Bool.{Bool, true, false}
use mathlib.Core.List.{List, [], ◌∷◌, ◌++◌, map}
use Prim.Native.Nat.{ℕ, ◌-◌, ◌<◌, min}
use native.Mathlib.Omega.{arith}
use lib.ListN.{length, set, take, drop, length-map, length-append, length-take, length-drop}
use Rattle.std.proofs.lemmas.List.{take_rest, take-map, drop-map, map-append, map-set}
use lib.Seq.{drop-length}
use Rattle.trace.specs.{digit}
use Rattle.ring.specs.declared.Ring.{Ring}
use Rattle.ring.specs.{new_ring, reads, around, last_of, held, sample_byte, stepped}
use Rattle.ring.specs.Place.{Sound}
use Rattle.ring.proofs.Round.{part_taken, drop_parted, length_last, length-around, around-set, last_step}

reads-digit : (b : Bool) → reads (digit b) ≡ b
reads-digit false = refl
reads-digit true = refl

pub held_new : (slots : List ℕ) → held slots new_ring ≡ []
unfolding held last_of
held_new slots =
    let l = around (map reads slots) 0 in
    let e : length l - 0 ≡ length l = omega arith in
    ap (λ (n : ℕ). drop n l) e ∙ drop-length l

-- the slots from the next place on, and how many of them hold nothing
abbrev pub later : List ℕ → Ring → List ℕ
later slots ring = take (length slots - ring.next) (drop ring.next slots)

abbrev pub passed_over : List ℕ → Ring → ℕ
passed_over slots ring = min (length slots - ring.count) (length (later slots ring))

-- the first place before the next that is held
abbrev pub first_before : List ℕ → Ring → ℕ
first_before slots ring = length slots - ring.count - passed_over slots ring

-- the bytes that are held, oldest first: those that stand from the next place on, and then those before it
unfoldable pub oldest_first : List ℕ → Ring → List ℕ
oldest_first slots ring =
    take (length (later slots ring) - passed_over slots ring) (drop (passed_over slots ring) (later slots ring))
    ++ take (ring.next - first_before slots ring) (drop (first_before slots ring) slots)

-- they are the last of all slots, going round from the next place
pub last_slots : (slots : List ℕ) (ring : Ring) → drop (length slots - ring.count) (later slots ring ++ take ring.next slots) ≡ oldest_first slots ring
unfolding oldest_first
last_slots slots ring =
    drop_parted (length slots - ring.count) (later slots ring) (take ring.next slots)
    ∙ rw (take_rest (later slots ring) (passed_over slots ring), part_taken (first_before slots ring) ring.next slots) refl

pub held_bytes : (slots : List ℕ) (ring : Ring) → ring.next < length slots → held slots ring ≡ map reads (oldest_first slots ring)
unfolding held last_of around
held_bytes slots ring h =
    let l = drop ring.next slots ++ take ring.next slots in
    let size : length l ≡ length slots = omega (arith, length-append (drop ring.next slots) (take ring.next slots), length-drop ring.next slots, length-take ring.next slots) in
    rw (take-map, drop-map, ← map-append, length-map, size, drop-map)
    (ap (λ (x : List ℕ). map reads (drop (length slots - ring.count) (x ++ take ring.next slots))) (sym (take_rest slots ring.next)) ∙ ap (map reads) (last_slots slots ring))

module _ (slots : List ℕ) (ring : Ring) (sound : Sound (length slots) ring) where
  len : length (map reads slots) ≡ length slots
  len = length-map slots reads

  size : length (around (map reads slots) ring.next) ≡ length slots
  size = length-around (map reads slots) ring.next (omega (arith, len, sound.within)) ∙ len

  pub length-held : length (held slots ring) ≡ ring.count
  unfolding held
  length-held = omega (arith, length_last ring.count (around (map reads slots) ring.next), size, sound.fits)

  pub held_step : (sample : ℕ)
      → held (set slots ring.next (sample_byte sample)) (stepped (length slots) ring)
      ≡ last_of (length slots) (held slots ring ++ (reads sample ∷ []))
  unfolding held sample_byte stepped
  held_step sample =
      let m = map reads slots in
      let b = reads sample in
      let l = around m ring.next in
      rw (map-set reads slots ring.next (digit b), reads-digit b, rw len at (around-set m ring.next b (omega (arith, len, sound.within))))
      (rw size at (last_step ring.count l b (omega (arith, size, sound.within)) (omega (arith, size, sound.fits))))
