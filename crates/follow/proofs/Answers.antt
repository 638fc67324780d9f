-- What following answers, one law for each way through the code, and check_means, which no way goes through:
--   check_means                      the whole check is that of an evaluation, with 24 between a program and its traces
--   program_refused                  the program is refused
--   elsewhere_refused                a call stands elsewhere
--   places_agree                     the checks that are left where none does
--   settled_here                     what is left then
--   follow_owes                      what is owed of the answer
--   follow_as_table                  its decision is that of an evaluation in a table
--   follow_refused, follow_passed, follow_prepared    following
use Prim.Native.Nat.{ℕ}
use native.Mathlib.Omega.{arith}
use mathlib.Core.Path.{◌≡◌, refl, sym, ap, ◌∙◌}
use mathlib.Core.Bool.{Bool, true, false, not, cond, or_self}
use mathlib.Core.List.{List, [], ◌++◌}
use mathlib.Core.Option.{some}
use lib.Dec.{T, ltb}
use Rattle.std.specs.Prelude.{Result, Ok, Err, None, Some}
use lib.ListN.{length, get_elem?}
use borrow.Author.Tests.{not-false, le-ltb, ne_eqb}
use Rattle.refusal.specs.declared.Refusal.{Refusal}
use Rattle.refusal.specs.declared.Refusal.TheVariants.{CallElsewhere}
use Rattle.refusal.specs.{Check, passed, refuse_if, ◌then◌, answer_if}
use Rattle.refusal.proofs.Numbers.{refused}
use Rattle.refusal.proofs.Checks.{then_passed, refuse_passed}
use Rattle.semantics.specs.declared.Sort.{Sort}
use Rattle.semantics.specs.declared.Decision.{Decision}
use Rattle.semantics.specs.declared.Verdict.{Verdict}
use Rattle.semantics.specs.Language.{Function, Program, IsMain, Traces}
use Rattle.semantics.specs.Handed.{Handed, samples_of}
use Rattle.semantics.specs.Numbering.{cells, most_cells}
use Rattle.semantics.specs.Passes.{final_table}
use Rattle.semantics.specs.Verdicts.{verdict_of}
use Rattle.semantics.proofs.Theorem.{decides}
use Rattle.rule.specs.declared.Outline.{Outline}
use Rattle.rule.specs.Form.{AreBytes, Accepted}
use Rattle.rule.specs.Outline.{outline_of, outline_from}
use Rattle.rule.specs.Reading as reading
use Rattle.rule.specs.Reading.{Parsed, got, program_sort, program_for, program_of}
use Rattle.rule.proofs.Expressions.{place-below}
use Rattle.rule.proofs.Programs.{read-encoded, read-accepted, takes-only, accepted-sort}
use Rattle.prepare.specs.Checks.{handed_in, trace_check, table_check, check_read, evaluate_check}
use Rattle.prepare.proofs.Preparing.{read-own, table_passed_lem, Own, checks_agree, settled_own, cells_left, traces_placed, IsSettled-placed}
use Rattle.evaluate.specs.Evaluate.{answer_by, evaluation}
use Rattle.chains.specs.declared.Followed.{Followed}
use Rattle.chains.specs.Loops.{only_loops}
use Rattle.chains.specs.Following.{followed, followed_values}
use Rattle.chains.specs.Owed.{Follows}
use Rattle.chains.proofs.Theorem.{follows, as_decided}
use Rattle.loops.proofs.LoopsMeaning.{loops_mean}
use Rattle.follow.specs.Mirror.{check_by}
use Rattle.follow.specs.Follow.{loops_check, limit_check, follow_read, follow_check, following_of, following_answer, FollowDemand, AsTable, ToldDecision}
use Rattle.loops.specs.{loops_by}
use Rattle.prepare.specs.Settled.{places_check, PlacedBy, IsSettled}
use Rattle.prepare.specs.declared.Prepared.{Prepared}
use Rattle.rule.specs.Reading.{check_from, program_check, program_in}

-- ---- The check

-- in a table of all cells that there can be, 21 keeps only its limit
limit_only : (needed : ℕ) → table_check needed most_cells ≡ limit_check needed
limit_only needed = rw (or_self (ltb most_cells needed))

-- 24 is not the case
loops_passed : (P : Program) → loops_check P ≡ passed → only_loops P ≡ true
loops_passed P e = not-false (only_loops P) (refuse_passed (not (only_loops P)) _ e)

pub program_refused : (bytes : List ℕ) (h : Handed) {f : Refusal} → Err f ≡ program_check (Some h.sort) bytes → Err f ≡ follow_check bytes h
unfolding follow_check program_check
program_refused bytes h {f} e = go (program_for (Some h.sort) bytes) e
  where
    go : (p : Parsed Program) → Err f ≡ check_from p → Err f ≡ follow_read p h
    go (got P rest) k = absurd (refused k)
    go (reading.refused g) k = k

-- 24, and then another check
loops_then : (b : Bool) (c : Check) → cond b c (Err CallElsewhere) ≡ (refuse_if (not b) CallElsewhere then c)
loops_then true c = refl
loops_then false c = refl

-- the check by the outline of an accepted program, which has main, and by that of no functions
accepted_by : {bytes : List ℕ} {s : Sort} {P : Program} → Accepted bytes s P → (c : Check) → check_by bytes c (outline_of s P) ≡ (loops_check P then c)
unfolding check_by outline_of
accepted_by {bytes} {s} {P} a c =
    let filled : length P ≡ 0 → ⊥ = λ z. omega (arith, place-below P 0 a.main.0 a.main.1) in
    rw (ne_eqb (length P) 0 filled, loops_mean a) (loops_then (only_loops P) c)

refused_by_lem : (bytes : List ℕ) (s : Sort) (c : Check) → check_by bytes c (outline_of s []) ≡ c
unfolding check_by outline_of
refused_by_lem bytes s c = refl

-- following is checked as an evaluation is, with 24 between a program and its traces
module _ (bytes : List ℕ) (h : Handed) where
  read_means : AreBytes bytes → (p : Parsed Program) → program_for (Some h.sort) bytes ≡ p
      → check_by bytes (check_read p h most_cells) (outline_from (program_sort bytes) p) ≡ follow_read p h
  read_means are (got P rest) q =
      let read = read-accepted (Some h.sort) bytes P rest are q in
      let a : Accepted bytes h.sort P = rw (takes-only h.sort (program_sort bytes) read.1) at read.0 in
      rw (accepted-sort bytes h.sort P a, accepted_by a, limit_only (cells (samples_of h) P))
  read_means are (reading.refused f) q = refused_by_lem bytes (program_sort bytes) (Err f)

  pub check_means : AreBytes bytes → {c : Check} {outline : Outline} → c ≡ evaluate_check bytes h most_cells
      → outline ≡ outline_from (program_sort bytes) (program_for (Some h.sort) bytes) → check_by bytes c outline ≡ follow_check bytes h
  unfolding evaluate_check follow_check
  check_means are e l = rw (e, l) (read_means are (program_for (Some h.sort) bytes) refl)

-- an accepted program, by what its outline tells of its calls
module _ {bytes : List ℕ} (h : Handed) {outline : Outline} (o : Own bytes h.sort outline) {b : Bool} (e : b ≡ loops_by bytes outline) where
  abbrev P : Program
  P = o.program

  same : b ≡ only_loops P
  same = rw o.laid at e ∙ loops_mean o.accepted

  pub elsewhere_refused : b ≡ false → Err CallElsewhere ≡ follow_check bytes h
  unfolding follow_check
  elsewhere_refused n = rw (read-own bytes h.sort P o.accepted, sym same ∙ n)

  pub places_agree : b ≡ true → {c : Check} → c ≡ places_check outline h most_cells → c ≡ follow_check bytes h
  unfolding follow_check evaluate_check
  places_agree y {c} p =
      let checks : c ≡ evaluate_check bytes h most_cells = p ∙ checks_agree h o most_cells in
      rw (read-own bytes h.sort P o.accepted, sym same ∙ y) (rw (read-own bytes h.sort P o.accepted, limit_only (cells (samples_of h) P)) at checks)

  loops_here : b ≡ true → only_loops (program_of bytes) ≡ true
  loops_here y = rw (ap program_in (read-encoded bytes h.sort P o.accepted None refl)) (sym same ∙ y)

  pub settled_here : b ≡ true → {p : Prepared} → passed ≡ places_check outline h most_cells → PlacedBy bytes outline h p
      → IsSettled p most_cells × (only_loops (program_of p.program.now) ≡ true)
  settled_here y {p} e u =
      let placed : PlacedBy bytes p.outline h p = cells_left bytes h outline (Ok p) u in
      (IsSettled-placed placed (settled_own h o most_cells (Ok p) e u), rw u.program (loops_here y))

-- ---- What is owed

-- function 0 of an accepted program is main
is_main_lem : {bytes : List ℕ} {s : Sort} {P : Program} → Accepted bytes s P → (f : Function) → get_elem? P 0 ≡ some f → IsMain s f
is_main_lem a f q = let m = a.main in let same : m.0 ≡ f = cc in rw same at m.2

-- a decision as it is owed is that of all passes
passes_decision : {bytes : List ℕ} {s : Sort} {P : Program} → Accepted bytes s P → (t : Traces) (r : Followed)
    → ((f : Function) → get_elem? P 0 ≡ some f → Follows P s t f r) → r.decision ≡ (verdict_of P t).decision
passes_decision {s = s} {P = P} a t r owed =
    let m = a.main in
    as_decided P t s m.0 m.1 m.2 r (owed m.0 m.1) (verdict_of P t) (final_table P t ++ []) (decides P t a.kinds [])

-- evaluating answers a verdict only where nothing is refused
verdict_passed : (c : Check) (w v : Verdict) → answer_by c w ≡ Ok v → (c ≡ passed) × (w ≡ v)
verdict_passed (Ok u) w v e = (refl, cc)
verdict_passed (Err f) w v e = let z : ◌≡◌ {A = ℕ} 0 1 = cc in absurd (omega arith)

module _ (bytes : List ℕ) (h : Handed) {r : Result Followed Refusal} (told : r ≡ following_of bytes h) where
  -- the program is the one that is read, so nothing is refused, and its calls are followed
  pub follow_owes : FollowDemand bytes h (λ q. r ≡ Ok q)
  unfolding following_of follow_check
  follow_owes P a loops fits room =
      let t = samples_of h in
      let ended : r ≡ Ok (followed h.sort P t) = rw (read-own bytes h.sort P a, read-encoded bytes h.sort P a None refl, loops, fits, room) at told in
      let only : T (only_loops P) = rw (loops_passed P loops) tt in
      (followed h.sort P t, ended, λ f q. follows P t a.kinds only h.sort f q (is_main_lem a f q))

  -- where an evaluation gives a verdict nothing is refused here either, and both decide what is right
  pub follow_as_table : AsTable bytes h (ToldDecision r)
  unfolding evaluation evaluate_check
  follow_as_table P a loops lent v e =
      let t = samples_of h in
      let given = rw (read-own bytes h.sort P a, read-encoded bytes h.sort P a None refl) at e in
      let w = verdict_passed (trace_check h then table_check (cells t P) lent) (verdict_of P t) v given in
      let checks = then_passed (trace_check h) _ w.0 in
      let few = (table_passed_lem (cells t P) lent refl checks.1).1 in
      let owed = follow_owes P a loops checks.0 (rw (le-ltb most_cells (cells t P) few)) in
      let same = passes_decision a t owed.0 owed.2 ∙ ap (λ (x : Verdict). x.decision) w.1 in
      (owed.0.calls, owed.1 ∙ ap (λ (d : Decision). Ok (record { decision = d; calls = owed.0.calls })) same)

-- ---- Answers

module _ (bytes : List ℕ) (h : Handed) where
  -- what is owed of an answer
  pub record FollowOwed (r : Result Followed Refusal) : Type 0 where
    pub answer : r ≡ following_of bytes h
    pub numbers : following_answer r ≡ answer_if (follow_check bytes h) (followed_values (followed h.sort (program_of bytes) (samples_of h)))
    pub owed : FollowDemand bytes h (λ q. r ≡ Ok q)
    pub table : AsTable bytes h (ToldDecision r)

  pub follow_refused : {f : Refusal} → Err f ≡ follow_check bytes h → FollowOwed (Err f)
  unfolding following_of
  follow_refused {f} e =
      let told : Err f ≡ following_of bytes h = rw (← e) in
      record { answer = told; numbers = rw (← e); owed = follow_owes bytes h told; table = follow_as_table bytes h told }

  pub follow_passed : {r : Followed} → passed ≡ follow_check bytes h → r ≡ followed h.sort (program_of bytes) (samples_of h) → FollowOwed (Ok r)
  unfolding following_of
  follow_passed {r} e d =
      let told : Ok r ≡ following_of bytes h = rw (← e, d) in
      record { answer = told; numbers = rw (← e, d); owed = follow_owes bytes h told; table = follow_as_table bytes h told }

  -- of what was prepared from these bytes and traces
  pub follow_prepared : {r : Followed} → passed ≡ follow_check bytes h → {outline : Outline} {p : Prepared} → PlacedBy bytes outline h p
      → r ≡ followed p.handed.sort (program_of p.program.now) (samples_of (handed_in p.handed)) → FollowOwed (Ok r)
  follow_prepared e {outline} {p} u d =
      let placed : PlacedBy bytes p.outline h p = cells_left bytes h outline (Ok p) u in
      follow_passed e (rw (u.program, u.sort, ap samples_of (traces_placed placed)) at d)
