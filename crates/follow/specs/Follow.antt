-- 'Rules that need no table' of document 02: what following refuses (5 to 17 with 25 and 26, 24, 20, 23, 21), what it answers, and what it owes.
use Rattle.std.specs.Prelude.{ℕ, ◌≡◌, not, List, ltb, Result, Ok, Err, Some}
use Rattle.std.proofs.Math.Option.{some}
use Rattle.std.proofs.Math.ListN.{get_elem?}
use Rattle.refusal.specs.declared.Refusal.{Refusal}
use Rattle.refusal.specs.declared.Refusal.TheVariants.{TableShort, CallElsewhere}
use Rattle.refusal.specs.{Check, passed, refuse_if, ◌then◌, Answer, answered, refused_as}
use Rattle.semantics.specs.declared.Decision.{Decision}
use Rattle.semantics.specs.declared.Verdict.{Verdict}
use Rattle.semantics.specs.Language.{Function, Program}
use Rattle.semantics.specs.Handed.{Handed, samples_of}
use Rattle.semantics.specs.Numbering.{cells, most_cells}
use Rattle.rule.specs.Form.{Accepted}
use Rattle.rule.specs.Reading.{Parsed, got, refused, program_for, program_of}
use Rattle.prepare.specs.Checks.{trace_check}
use Rattle.evaluate.specs.Evaluate.{evaluation}
use Rattle.chains.specs.declared.Followed.{Followed}
use Rattle.chains.specs.Loops.{only_loops}
use Rattle.chains.specs.Following.{followed, followed_values}
use Rattle.chains.specs.Owed.{Follows}

-- ---- What is refused

-- 24: 'a call stands elsewhere'
abbrev pub loops_check : Program → Check
loops_check P = refuse_if (not (only_loops P)) CallElsewhere

-- 21: 'here 21 keeps only its limit of 16,777,216'
abbrev pub limit_check : ℕ → Check
limit_check needed = refuse_if (ltb most_cells needed) TableShort

-- 5 to 17 with 25 and 26, 24, 20, 23, 21, in this order; the program is what its bytes are read as, of the sort that the traces say
abbrev pub follow_read : Parsed Program → Handed → Check
follow_read (got P rest) h = loops_check P then (trace_check h then limit_check (cells (samples_of h) P))
follow_read (refused f) h = Err f

unfoldable pub follow_check : List ℕ → Handed → Check
follow_check program h = follow_read (program_for (Some h.sort) program) h

-- ---- What is answered

abbrev pub ended_by : Check → Followed → Result Followed Refusal
ended_by (Ok u) r = Ok r
ended_by (Err f) r = Err f

unfoldable pub following_of : List ℕ → Handed → Result Followed Refusal
following_of program h = ended_by (follow_check program h) (followed h.sort (program_of program) (samples_of h))

-- the answer in numbers: the verdict's, and 'the calls made'
abbrev pub following_answer : Result Followed Refusal → Answer
following_answer (Ok r) = answered (followed_values r)
following_answer (Err f) = refused_as f

-- ---- What is owed

-- for the program that the bytes are accepted as, of the sort that the traces say, if it only loops, traces that 20 and 23 leave and a number of
-- configurations that 21 leaves: a decision and calls are told, and they are what they should be
abbrev pub FollowDemand : List ℕ → Handed → (Followed → Type 0) → Type 0
FollowDemand program h Told =
    (P : Program) → Accepted program h.sort P → loops_check P ≡ passed → trace_check h ≡ passed
    → limit_check (cells (samples_of h) P) ≡ passed
    → (r : Followed) × Told r × ((f : Function) → get_elem? P 0 ≡ some f → Follows P h.sort (samples_of h) f r)

-- 'the verdict equals the table's for every such rule and trace', in whatever table evaluating answers one
abbrev pub AsTable : List ℕ → Handed → (Decision → Type 0) → Type 0
AsTable program h Told =
    (P : Program) → Accepted program h.sort P → loops_check P ≡ passed → (lent : ℕ) (v : Verdict)
    → evaluation program h lent ≡ Ok v → Told v.decision

-- such a decision is told, with some number of calls
abbrev pub ToldDecision : Result Followed Refusal → Decision → Type 0
ToldDecision r d = (calls : ℕ) × (r ≡ Ok (record { decision = d; calls = calls }))
