-- The ring of document 01, 'Ring and trace': what it holds, what adding a sample and taking the trace
-- do, and what the ring owes over any list of samples (`YieldsLast`).
pub mod Place
use Rattle.std.specs.Prelude.{ℕ, ◌+◌, ◌-◌, ◌≤◌, min, ◌≡◌, Bool, true, false, not, ◌||◌, List, [], ◌∷◌, ◌++◌, map, eqb, leb, ltb, length, take, drop, set, Result, Ok, Err}
use Rattle.refusal.specs.declared.Refusal.TheVariants.{RingLength, RingState, OutputShort}
use Rattle.refusal.specs.declared.Refusal.{Refusal}
use Rattle.refusal.specs.{Check, passed, number_of, refuse_if, ◌then◌, changed_if, Answer, answered, refused_as}
use Rattle.trace.specs.{most_samples, digit, bytes_for, packed_into}
use Rattle.ring.specs.declared.Ring.{Ring}
use Rattle.ring.specs.declared.NotAdded.{NotAdded}

-- ---- What a ring holds

-- 'a new ring has both 0'
abbrev pub new_ring : Ring
new_ring = record { next = 0; count = 0 }

-- 'a byte other than 0 reads as 1'
abbrev pub reads : ℕ → Bool
reads byte = not (eqb byte 0)

-- all of a list, going round from a place to the one before it
unfoldable pub around : {A : Type 0} → List A → ℕ → List A
around l place = drop place l ++ take place l

-- the last k of a list
unfoldable pub last_of : {A : Type 0} → ℕ → List A → List A
last_of k l = drop (length l - k) l

-- 'held are the count bytes before that place, going round, oldest first', read as samples
unfoldable pub held : List ℕ → Ring → List Bool
held slots ring = last_of ring.count (around (map reads slots) ring.next)

-- ---- Adding a sample

-- 18: the slice is empty or longer than 4,095; 19: the next place is not below its length, or the count is above it
unfoldable pub ring_check : ℕ → Ring → Check
ring_check len ring =
    refuse_if (eqb len 0 || ltb most_samples len) RingLength
    then refuse_if (leb len ring.next || ltb len ring.count) RingState

-- 'a new sample is stored as 0 or 1'
unfoldable pub sample_byte : ℕ → ℕ
sample_byte sample = digit (reads sample)

-- the place after a place, going round
abbrev pub following : Bool → ℕ → ℕ
following true after = 0
following false after = after

-- the state after a sample was stored; 'when full, the oldest is replaced'
unfoldable pub stepped : ℕ → Ring → Ring
stepped len ring =
    record { next = following (eqb (ring.next + 1) len) (ring.next + 1); count = min (ring.count + 1) len }

-- the slots and the state after adding a sample
unfoldable pub slots_after : List ℕ → Ring → ℕ → List ℕ
slots_after slots ring sample = changed_if (ring_check (length slots) ring) (set slots ring.next (sample_byte sample)) slots

unfoldable pub ring_after : ℕ → Ring → Ring
ring_after len ring = changed_if (ring_check len ring) (stepped len ring) ring

abbrev pub added_by : Check → Ring → Ring → Result Ring NotAdded
added_by (Ok u) new old = Ok new
added_by (Err f) new old = Err (record { refusal = f; ring = old })

-- what adding a sample answers: the new state, or the refusal with the state as it was
unfoldable pub adding : ℕ → Ring → Result Ring NotAdded
adding len ring = added_by (ring_check len ring) (stepped len ring) ring

-- the answer in numbers: either way the state that the ring now has
abbrev pub ring_values : Ring → List ℕ
ring_values ring = ring.next ∷ ring.count ∷ []

abbrev pub added_answer : Result Ring NotAdded → Answer
added_answer (Ok ring) = answered (ring_values ring)
added_answer (Err kept) = record { number = number_of kept.refusal; values = ring_values kept.ring }

-- ---- Taking the trace

-- 18 and 19 as above; 22: the output is shorter than what is to be written
unfoldable pub take_check : ℕ → Ring → ℕ → Check
take_check len ring room = ring_check len ring then refuse_if (ltb room (bytes_for ring.count)) OutputShort

-- the output after it: the samples held, packed
unfoldable pub output_after : List ℕ → Ring → List ℕ → List ℕ
output_after slots ring out =
    changed_if (take_check (length slots) ring (length out)) (packed_into out (held slots ring)) out

abbrev pub taken_by : Check → ℕ → Result ℕ Refusal
taken_by (Ok u) n = Ok n
taken_by (Err f) n = Err f

-- what taking the trace answers: how many samples it has
unfoldable pub taking : ℕ → Ring → ℕ → Result ℕ Refusal
taking len ring room = taken_by (take_check len ring room) ring.count

-- the answer in numbers
abbrev pub taken_answer : Result ℕ Refusal → Answer
taken_answer (Ok n) = answered (n ∷ [])
taken_answer (Err f) = refused_as f

-- ---- Adding samples one after the other

-- a ring with its slots
pub record Lent : Type 0 where
  pub slots : List ℕ
  pub ring : Ring

-- the ring after adding each of a list of samples
unfoldable pub add_all : Lent → List ℕ → Lent
add_all l [] = l
add_all l (sample ∷ samples) =
    add_all (record { slots = slots_after l.slots l.ring sample; ring = ring_after (length l.slots) l.ring }) samples

-- taking the trace of a ring into an output is not refused, tells so many samples and packs them
pub record TakenAs (lent : Lent) (out : List ℕ) (bits : List Bool) : Type 0 where
  pub accepted : take_check (length lent.slots) lent.ring (length out) ≡ passed
  pub told : taking (length lent.slots) lent.ring (length out) ≡ Ok (length bits)
  pub packs : output_after lent.slots lent.ring out ≡ packed_into out bits

-- the ring after adding samples to a new one over some slots, and the last of them, as many as fit
abbrev pub filled : List ℕ → List ℕ → Lent
filled slots samples = add_all (record { slots = slots; ring = new_ring }) samples

abbrev pub last_added : List ℕ → List ℕ → List Bool
last_added slots samples = last_of (length slots) (map reads samples)

-- Demand 2, 'the ring yields the last samples, oldest first': samples were added, one after the other, to
-- a new ring. It is sound, so adding to it is not refused; it holds the last of them, as many as fit; and
-- its trace, taken into any output with room for it, is those samples packed
pub record YieldsLast (slots samples : List ℕ) : Type 0 where
  pub sound : ring_check (length (filled slots samples).slots) (filled slots samples).ring ≡ passed
  pub holds : held (filled slots samples).slots (filled slots samples).ring ≡ last_added slots samples
  pub taken : (out : List ℕ) → bytes_for (length (last_added slots samples)) ≤ length out → TakenAs (filled slots samples) out (last_added slots samples)
