-- Archives and walks, both ways:
--   walk_after                 bytes that end in a record: that record, and then the walk of the bytes before it
--   walk_onto                  records end to end after any bytes: those records, the last first, and then the walk of those bytes
--   walk_archive               an archive of stated records, in any number: exactly those, the last first, and then the end
--   walk-whole                 a walk that ends with no refusal has found records whose layouts, in order, are the whole archive
--   walks_exactly              both in one
use mathlib.Core.Path.{◌≡◌, refl, sym, ap, ◌∙◌}
use mathlib.Core.List.{List, [], ◌∷◌, ◌++◌, append_assoc, append-nil, reverse, reverse_aux, reverse-cons, reverse-reverse}
use Prim.Native.Nat.{ℕ, zero, suc, ◌≤◌}
use native.Mathlib.Omega.{arith}
use lib.ListN.{length, take}
use Rattle.std.specs.Prelude.{Result, Ok, Err}
use Rattle.refusal.specs.declared.Refusal.{Refusal}
use Rattle.refusal.specs.{Check, passed}
use Rattle.refusal.proofs.Numbers.{refused}
use Rattle.rule.specs.Form.{AreBytes}
use Rattle.layout.specs.declared.Parts.{Parts}
use Rattle.layout.specs.Form.{Contents, layout, Stated}
use Rattle.layout.specs.Trailer.{contents_at}
use Rattle.rule.proofs.FunctionBytes.{bytes_take}
use Rattle.record.specs.Reading.{reading}
use Rattle.record.proofs.Inverse.{read_back}
use Rattle.record.proofs.Ends.{ends_in}
use Rattle.archive.specs.Walk.{archive_of, found, walk, records, ending, AllStated, IsArchive, WalksExactly}
use Rattle.archive.proofs.Walking.{before-short, walk_end, walk_record, walk_refused}

-- ---- An archive is walked into its records

pub walk_after : (before : List ℕ) (c : Contents) (s : Stated c)
    → walk (before ++ layout c) ≡ found (before ++ layout c) (read_back before c s).parts (walk before)
walk_after before c s =
    let r = read_back before c s in
    walk_record (before ++ layout c) r.parts r.accepted ∙ rw r.left

pub walk_onto : (before : List ℕ) (cs : List Contents) → AllStated cs
    → (records (walk (before ++ archive_of cs)) ≡ reverse_aux cs (records (walk before)))
    × (ending (walk (before ++ archive_of cs)) ≡ ending (walk before))
unfolding archive_of
walk_onto before [] h = rw (append-nil before) (refl, refl)
walk_onto before (c ∷ cs) h =
    let r = read_back before c h.0 in
    let more = walk_onto (before ++ layout c) cs h.1 in
    rw (append_assoc before (layout c) (archive_of cs), walk_after before c h.0, r.contents) at more

pub walk_archive : (cs : List Contents) → AllStated cs → (records (walk (archive_of cs)) ≡ reverse cs) × (ending (walk (archive_of cs)) ≡ passed)
walk_archive cs h = rw walk_end at (walk_onto [] cs h)

-- ---- The records that a walk found are the whole archive

-- one more record at the end
archive_snoc : (cs : List Contents) (c : Contents) → archive_of (cs ++ (c ∷ [])) ≡ archive_of cs ++ layout c
unfolding archive_of
archive_snoc [] c = append-nil (layout c)
archive_snoc (d ∷ cs) c = rw (archive_snoc cs c) (sym (append_assoc (layout d) (archive_of cs) (layout c)))

stated_snoc : (cs : List Contents) (c : Contents) → AllStated cs → Stated c → AllStated (cs ++ (c ∷ []))
stated_snoc [] c h s = (s, tt)
stated_snoc (d ∷ cs) c h s = (h.0, stated_snoc cs c h.1 s)

-- an archive with a record after it
archive_more : {before bytes : List ℕ} (cs : List Contents) (c : Contents) → IsArchive before cs → Stated c → bytes ≡ before ++ layout c
    → IsArchive bytes (cs ++ (c ∷ []))
archive_more cs c w s e = (stated_snoc cs c w.0 s, e ∙ ap (λ (l : List ℕ). l ++ layout c) w.1 ∙ sym (archive_snoc cs c))

whole_in : (k : ℕ) (bytes : List ℕ) → length bytes ≤ k → AreBytes bytes → ending (walk bytes) ≡ passed
    → IsArchive bytes (reverse (records (walk bytes)))
unfolding archive_of
whole_in zero [] h are e = rw walk_end (tt, refl)
whole_in zero (b ∷ bs) h are e = absurd (omega arith)
whole_in (suc k) [] h are e = rw walk_end (tt, refl)
whole_in (suc k) (b ∷ bs) h are e = go (λ before l bs' q. whole_in k before l bs' q) (reading bytes) refl
  where
    bytes : List ℕ
    bytes = b ∷ bs

    go : ((before : List ℕ) → length before ≤ k → AreBytes before → ending (walk before) ≡ passed
        → IsArchive before (reverse (records (walk before))))
        → (r : Result Parts Refusal) → reading bytes ≡ r → IsArchive bytes (reverse (records (walk bytes)))
    go shorter (Err f) q = let stops : ◌≡◌ {A = Check} (Err f) passed =
        rw (walk_refused bytes f (omega arith) q) at e in absurd (refused stops)
    go shorter (Ok p) q =
        let before = take p.program.start bytes in
        let c = contents_at bytes p in
        let w = ends_in bytes p are q in
        let short = before-short bytes p q in
        let goes : ending (walk before) ≡ passed = rw (walk_record bytes p q) at e in
        let first = shorter before (omega arith) (bytes_take p.program.start bytes are) goes in
        rw (walk_record bytes p q, reverse-cons c (records (walk before)))
        (archive_more (reverse (records (walk before))) c first w.stated w.whole)

pub walk-whole : (bytes : List ℕ) → AreBytes bytes → ending (walk bytes) ≡ passed → IsArchive bytes (reverse (records (walk bytes)))
walk-whole bytes = whole_in (length bytes) bytes (omega arith)

pub walks_exactly : (bytes : List ℕ) → AreBytes bytes → WalksExactly bytes
walks_exactly bytes are cs = (
  λ f. rw (f.0, reverse-reverse cs) at (walk-whole bytes are f.1),
  λ a. rw a.1 (walk_archive cs a.0),
)
