-- Laws of the loop that packs what a ring holds: after k turns, the output holds the first k samples
--   going_round        what the loop goes over
--   written_more       a turn
--   written_end        after the last turn
use mathlib.Core.Path.{◌≡◌, sym, ap, ◌∙◌}
use mathlib.Core.Bool.{false}
use mathlib.Core.List.{List}
use Prim.Native.Nat.{ℕ, ◌+◌, ◌-◌, ◌<◌, ◌≤◌}
use native.Mathlib.Omega.{arith}
use lib.ListN.{length, get_or, take, drop, length-map}
use lib.Seq.{take_all}
use Rattle.std.specs.declared.iter.Enumerate.{Enumerate}
use Rattle.std.specs.declared.iter.Chain.{Chain}
use Rattle.std.specs.declared.slice.Iter.{Iter}
use Rattle.std.specs.Slice.Iter.{iter_rest}
use Rattle.std.specs.Iterator.Adapters.{enumerate_source, enumerate_count, enumerate_steps, chain_first, chain_second, chain_first_done, chain_second_done, chain_steps}
use Rattle.std.specs.List.{enumerate_from}
use Rattle.std.proofs.iter.Yields.{fronts}
use Rattle.std.proofs.lemmas.Iterator.{YieldsList, YieldsList-from_slice}
use Rattle.std.proofs.lemmas.Iterator.Consumers.{YieldsList-from_enumerate, YieldsList-from_chain}
use Rattle.std.proofs.lemmas.List.{get_or-map}
use Rattle.std.proofs.lemmas.List.FromFn.{length-enumerate_from, get_or-enumerate_from}
use Rattle.trace.specs.{bytes_for, packed_into, with_sample}
use Rattle.trace.proofs.Packing.{into_more}
use Rattle.ring.specs.declared.Ring.{Ring}
use Rattle.ring.specs.{reads, held}
use Rattle.ring.specs.Place.{Sound}
use Rattle.ring.proofs.Held.{length-held, later, passed_over, first_before, oldest_first, held_bytes}

pub going_round : (slots : List ℕ) (ring : Ring) (s : Enumerate (Chain (Iter ℕ) (Iter ℕ))) → enumerate_count s ≡ 0
    → iter_rest (chain_first (enumerate_source s)) ≡ take (length (later slots ring) - passed_over slots ring) (drop (passed_over slots ring) (later slots ring))
    → iter_rest (chain_second (enumerate_source s)) ≡ take (ring.next - first_before slots ring) (drop (first_before slots ring) slots)
    → chain_first_done (enumerate_source s) ≡ false → chain_second_done (enumerate_source s) ≡ false
    → YieldsList {B = ℕ × ℕ} (enumerate_steps (chain_steps fronts fronts)) (λ p. (p.0, p.1.now)) s (enumerate_from 0 (oldest_first slots ring))
unfolding oldest_first
going_round slots ring s n a b more others =
    YieldsList-from_enumerate (YieldsList-from_chain (YieldsList-from_slice _ a) (YieldsList-from_slice _ b) more others) n

module _ (slots : List ℕ) (ring : Ring) (out₀ : List ℕ) (pre : Sound (length slots) ring × (bytes_for ring.count ≤ length out₀)) where
  size : length (held slots ring) ≡ ring.count
  size = length-held slots ring pre.0

  room : bytes_for (length (held slots ring)) ≤ length out₀
  room = rw size pre.1

  pub written_more : {out out' : List ℕ} {k i byte : ℕ} → out ≡ packed_into out₀ (take k (held slots ring))
      → (k < length (enumerate_from 0 (oldest_first slots ring))) × ((i, byte) ≡ get_or (enumerate_from 0 (oldest_first slots ring)) k (i, byte))
      → out' ≡ with_sample out i (reads byte) → out' ≡ packed_into out₀ (take (k + 1) (held slots ring))
  written_more {k = k} {i = i} {byte = byte} e t w =
      let bytes = oldest_first slots ring in
      let h : k < length bytes = rw length-enumerate_from at t.0 in
      let at = t.1 ∙ get_or-enumerate_from 0 bytes k (i, byte) h in
      let first : i ≡ 0 + k = ap (λ (p : ℕ × ℕ). p.0) at in
      let place : i ≡ k = omega arith in
      let bits = held_bytes slots ring pre.0.within in
      let bit : reads byte ≡ get_or (held slots ring) k false =
      ap reads (ap (λ (p : ℕ × ℕ). p.1) at) ∙ sym (rw bits (get_or-map reads bytes k byte false h)) in
      w ∙ rw (e, place, bit) (into_more out₀ (held slots ring) k (rw (bits, length-map bytes reads) h) room)

  pub written_end : {out : List ℕ} {k : ℕ} → k ≡ length (enumerate_from 0 (oldest_first slots ring)) → out ≡ packed_into out₀ (take k (held slots ring))
      → out ≡ packed_into out₀ (held slots ring)
  written_end {k = k} h e = e ∙ ap (packed_into out₀) (take_all k (held slots ring) (rw (h, length-enumerate_from, held_bytes slots ring pre.0.within, length-map) (omega arith)))
