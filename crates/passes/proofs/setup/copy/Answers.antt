-- The goal that is left.
use borrow.Rule.Slice.PartMut.{Post-is}
use Rattle.std.proofs.Common.{◌≡◌, ℕ, ◌+◌, List, ◌++◌, length, take, drop, refl, sym, ap, ◌∙◌, arith, length-take}
use Rattle.std.proofs.lemmas.List.{take_min}
use Rattle.std.proofs.lemmas.List.Edits.{paste_all}
use Rattle.passes.proofs.setup.copy.Goals as goal

pub returns : goal.returns
returns c = let trace = c.args.trace.now in
    let bytes = c.args.bytes.now in
    let at = c.args.at in
    let count = c.min-count.result in
    let copied : c.copy_from_slice.new.self ≡ take 512 trace =
    c.copy_from_slice.ensures.after ∙ ap (λ (k : ℕ). take k trace) c.min-count.ensures ∙ take_min 512 trace in
    let many : count ≡ length (take 512 trace) = c.min-count.ensures ∙ sym (length-take 512 trace) in
    rw copied
    (ap (λ (l : List ℕ). take at bytes ++ (take 512 trace ++ l)) (Post-is at (at + count) bytes (omega arith))
    ∙ ap (λ (k : ℕ). take at bytes ++ (take 512 trace ++ drop (at + k) bytes)) many
    ∙ sym (paste_all bytes at (take 512 trace) (length (take 512 trace)) refl))
