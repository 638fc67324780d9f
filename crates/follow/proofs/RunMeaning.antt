-- Following over words comes to following by the rules:
--   calls-few             no more calls are made than are left
--   run_means             from any function on values of its kinds
--   settled_calls         a settled program makes few calls
--   settled_followed      what following it comes to
use Prim.Native.Nat.{ℕ, zero, suc, ◌+◌, ◌≤◌, ◌<◌}
use native.Mathlib.Numerals.{add-one}
use native.Mathlib.Nat.{mod-eq_of_lt}
use native.Mathlib.Omega.{arith}
use mathlib.Core.Path.{◌≡◌, refl, sym, ap, ◌∙◌}
use mathlib.Core.Bool.{Bool, true, false, cond}
use mathlib.Core.List.{List, []}
use mathlib.Core.Option.{Option, some}
use lib.Dec as dec
use lib.Dec.{ltb, eqb}
use lib.ListN.{length, get_elem?, get_or, replicate, length-append, length-drop}
use borrow.Author.Tests.{eq-eqb, ne_eqb, le-ltb}
use Rattle.semantics.specs.declared.Contact.TheVariants.{Ram, Guard}
use Rattle.semantics.specs.declared.Sort.{Sort}
use Rattle.semantics.specs.declared.Sort.TheVariants.{One, Two}
use Rattle.semantics.specs.declared.Error.TheVariants.{Head, Tail}
use Rattle.semantics.specs.declared.Outcome.{Outcome}
use Rattle.semantics.specs.declared.Outcome.TheVariants.{Truth, Suffix, Failed}
use Rattle.semantics.specs.declared.Decision.{Decision}
use Rattle.semantics.specs.declared.Decision.TheVariants.{Forever, Decided}
use Rattle.semantics.specs.declared.Kind.TheVariants.{Truth as truth}
use Rattle.semantics.specs.declared.Demand.TheVariants.{Only as only}
use Rattle.semantics.specs.Language.{Expr, Function, Program, Traces, Value, suffix, given, InKinds, whole_traces}
use Rattle.semantics.specs.Handed.{Handed, samples_of}
use Rattle.semantics.specs.Numbering.{cells, most_cells}
use Rattle.semantics.specs.Cells.{undecided_code, outcome_in, of_kind}
use Rattle.semantics.specs.Verdicts.{main_decision}
use Rattle.semantics.proofs.Demands.{whole_in, allows-only}
use Rattle.syntax.specs.Limits.{most_bytes, most_depth}
use Rattle.rule.specs.declared.Outline.{Outline}
use Rattle.rule.specs.Form.{encode_expr}
use Rattle.rule.specs.Reading.{program_of}
use Rattle.rule.proofs.FunctionBytes.{expr_bytes}
use Rattle.rule.proofs.Expressions.{place-below}
use Rattle.codes.specs.declared.Lengths.{Lengths}
use Rattle.codes.specs.{working_of}
use Rattle.codes.proofs.CodeMeaning.{LengthsOf, working_not_zero}
use Rattle.decoding.specs.Words.{most_words, call_sort, sort_of, callee_of}
use Rattle.decoding.specs.Decoding.{words_filled}
use Rattle.evaluator.specs.{eval_word}
use Rattle.evaluator.proofs.Sets.{EnvOf}
use Rattle.passes.specs.declared.setup.Cells.{Cells}
use Rattle.passes.specs.Mirror.{Setup, traces_of}
use Rattle.passes.proofs.PassMeaning.{Runs}
use Rattle.passes.proofs.SetupMeaning.{lengths_are}
use Rattle.prepare.specs.Settled.{Settled, lengths_of}
use Rattle.evaluate.proofs.Settling.{program_is, run_here}
use Rattle.chains.specs.declared.Followed.{Followed}
use Rattle.chains.specs.Loops.{only_loops}
use Rattle.chains.specs.Following.{Turn, ends, calls, turn_of, follow_from, followed}
use Rattle.chains.proofs.Turns as turns
use Rattle.chains.proofs.Turns.{Turned}
use Rattle.chains.proofs.Chains.{on}
use Rattle.chains.proofs.InTime.{loops_each, proper_turned}
use Rattle.follow.specs.declared.run.Ran.{Ran}
use Rattle.follow.specs.Mirror.{spine_of, args_stop_at, args_left_at, BodiesUpto, run_from, whole_values}
use Rattle.follow.proofs.WordMeaning.{taken_stop}
use Rattle.follow.proofs.SpineMeaning.{Came, ended, called, Comes, came}

-- the number of an outcome of main
working_decision : (t : Traces) (o : Outcome) → dec.T (of_kind t truth o) → main_decision (working_of o) ≡ Decided o
unfolding main_decision outcome_in
working_decision t (Truth false) h = refl
working_decision t (Truth true) h = refl
working_decision t (Suffix c k) h = absurd h
working_decision t (Failed Head) h = refl
working_decision t (Failed Tail) h = refl

none_decided : main_decision undecided_code ≡ Forever
unfolding main_decision outcome_in
none_decided = refl

module _ (W traces T bodies : List ℕ) where
  pub calls-few : (left made : ℕ) (env : List ℕ) (body : ℕ) → (run_from W traces T bodies left made env body).calls ≤ made + left
  unfolding run_from
  calls-few zero made env body = omega arith
  calls-few (suc left) made env body = go (ltb (sort_of w) call_sort) (eqb stop undecided_code) (λ env' body'. calls-few left (made + 1) env' body')
    where
      w : ℕ
      w = spine_of W traces T env most_depth body

      stop : ℕ
      stop = args_stop_at W traces T env w

      go : (a b : Bool) → ((env' : List ℕ) (body' : ℕ) → (run_from W traces T bodies left (made + 1) env' body').calls ≤ made + 1 + left)
          → (cond a (record { outcome = eval_word W traces T env most_depth w; calls = made })
          (cond b (run_from W traces T bodies left (made + 1) (args_left_at W traces T env w) (get_or bodies (callee_of w) 0)) (record { outcome = stop; calls = made }))).calls
          ≤ made + suc left
      go true b more = omega arith
      go false true more = omega (arith, more (args_left_at W traces T env w) (get_or bodies (callee_of w) 0))
      go false false more = omega arith

-- what was followed over words, and by the rules
abbrev Same : Ran → Followed → Type 0
Same r q = (main_decision r.outcome ≡ q.decision) × (r.calls ≡ q.calls)

module _ (P : Program) (t : Traces) (n : Lengths) (bytes : List ℕ) (S : Setup) (starts : List ℕ) (r : Runs P t n bytes S starts) (loops : dec.T (only_loops P))
    (bodies : List ℕ) (bs : BodiesUpto S.words starts 32 bodies) where
  abbrev W : List ℕ
  W = S.words

  abbrev run : ℕ → ℕ → List ℕ → ℕ → Ran
  run left made env body = run_from W S.traces [] bodies left made env body

  -- the turn that a body takes
  body-comes : (g : ℕ) (f : Function) (e : get_elem? P g ≡ some f) (vs : List Value) (hs : InKinds t f.params vs) (env : List ℕ) (en : EnvOf t env vs) (long : length env ≡ 6)
      → Comes P t n bytes W S.traces r.sets f.params vs hs (r.sets.params g f e) env en long (only f.result) f.body
      (spine_of W S.traces [] env most_depth (get_or bodies g 0))
  body-comes g f e vs hs env en long =
      let start = get_or starts g 0 in
      let here = r.bodies g f e in
      let inside : start < most_bytes =
      omega (arith, ap length here.1, length-drop start bytes, length-append (encode_expr f.body) here.0, expr_bytes f.body, r.sets.short) in
      let below : g < 32 = omega (arith, place-below P g f e, r.sets.functions) in
      rw (bs.each g below, mod-eq_of_lt inside)
      (came P t n bytes W S.traces r.sets f.params vs hs (r.sets.params g f e) env en long f.body (only f.result) most_depth start here.0
      (loops_each P loops g f e) (r.kinds g f e) (r.deep g f e) (omega arith) (r.fits g f e) here.1)

  -- the values of a call that a body comes to are of their kinds
  call-kinds : {vs : List Value} {b : Expr} {u : Option Turn} → Turned P t vs b u → (g : ℕ) (us : List Value) (f' : Function) → u ≡ some (calls g us)
      → get_elem? P g ≡ some f' → InKinds t f'.params us
  call-kinds (turns.ended o q d never) g us f' e e' = let z : ◌≡◌ {A = ℕ} 0 1 = cc in absurd (omega arith)
  call-kinds (turns.called g₀ us₀ f₀ q k e₀ i) g us f' e e' =
      let same : us₀ ≡ us = cc in
      let fun : f₀ ≡ f' = cc in
      rw (same, fun) at i

  -- a turn on both sides
  module _ (left made : ℕ) (env : List ℕ) (body : ℕ) where
    abbrev reached : ℕ
    reached = spine_of W S.traces [] env most_depth body

    run_plain : ltb (sort_of reached) call_sort ≡ true → run (suc left) made env body ≡ record { outcome = eval_word W S.traces [] env most_depth reached; calls = made }
    unfolding run_from
    run_plain e = simp e

    run_error : ltb (sort_of reached) call_sort ≡ false → (args_stop_at W S.traces [] env reached ≡ undecided_code → ⊥)
        → run (suc left) made env body ≡ record { outcome = args_stop_at W S.traces [] env reached; calls = made }
    unfolding run_from
    run_error e k = simp (e, ne_eqb _ _ k)

    run_stop : {c : ℕ} → taken_stop W S.traces [] env reached ≡ c → (c ≡ undecided_code → ⊥) → run (suc left) made env body ≡ record { outcome = c; calls = made }
    run_stop {c} q k = go (ltb (sort_of reached) call_sort) refl q
      where
        told : ℕ
        told = eval_word W S.traces [] env most_depth reached

        stop : ℕ
        stop = args_stop_at W S.traces [] env reached

        go : (a : Bool) → ltb (sort_of reached) call_sort ≡ a → cond a told stop ≡ c → run (suc left) made env body ≡ record { outcome = c; calls = made }
        go true e r = run_plain e ∙ ap (λ (x : ℕ). record { outcome = x; calls = made }) r
        go false e r = run_error e (λ z. k (sym r ∙ z)) ∙ ap (λ (x : ℕ). record { outcome = x; calls = made }) r

    run_call : call_sort ≤ sort_of reached → args_stop_at W S.traces [] env reached ≡ undecided_code
        → run (suc left) made env body ≡ run left (suc made) (args_left_at W S.traces [] env reached) (get_or bodies (callee_of reached) 0)
    unfolding run_from
    run_call h q = simp (le-ltb _ _ h, eq-eqb _ _ q, add-one made)

  module _ (left made g : ℕ) (f : Function) (e : get_elem? P g ≡ some f) (vs : List Value) where
    follow_stop : (o : Outcome) → turn_of t vs f.body ≡ some (ends o) → follow_from P t (suc left) made g vs ≡ record { decision = Decided o; calls = made }
    unfolding follow_from
    follow_stop o q = rw (e, q)

    follow_call : (g' : ℕ) (us : List Value) → turn_of t vs f.body ≡ some (calls g' us) → follow_from P t (suc left) made g vs ≡ follow_from P t left (suc made) g' us
    unfolding follow_from
    follow_call g' us q = rw (e, q)

  -- what is known of all that is left
  abbrev More : ℕ → ℕ → Type 0
  More left made = (g : ℕ) (f : Function) → get_elem? P g ≡ some f → f.result ≡ truth → (vs : List Value) → InKinds t f.params vs
      → (env : List ℕ) → EnvOf t env vs → length env ≡ 6 → Same (run left made env (get_or bodies g 0)) (follow_from P t left made g vs)

  module _ (left made g : ℕ) (f : Function) (e : get_elem? P g ≡ some f) (kind : f.result ≡ truth) (vs : List Value) (hs : InKinds t f.params vs)
      (env : List ℕ) (en : EnvOf t env vs) (long : length env ≡ 6) where
    abbrev body : ℕ
    body = get_or bodies g 0

    by_turn : (u : Turn) → turn_of t vs f.body ≡ some u
        → Came P t n bytes W S.traces r.sets f.params vs hs (r.sets.params g f e) env en long (only f.result) (reached left made env body) u
        → More left (suc made) → Same (run (suc left) made env body) (follow_from P t (suc left) made g vs)
    by_turn (ends o) q (ended _ stops meets) more =
        rw (run_stop left made env body stops (working_not_zero o), follow_stop left made g f e vs o q) (working_decision t o (rw kind at meets), refl)
    by_turn (calls g' us) q (called _ _ f' high stops named en' long' e' allowed) more =
        let kinds = call-kinds (proper_turned P t r.kinds loops (on f vs) (record { g = g; is_fun = e; are_in = hs })) g' us f' q e' in
        let result : truth ≡ f'.result = allows-only truth f'.result (rw kind at allowed) in
        rw (run_call left made env body high stops, named, follow_call left made g f e vs g' us q)
        (more g' f' e' (sym result) us kinds (args_left_at W S.traces [] env (reached left made env body)) en' long')

  pub run_means : (left made : ℕ) → More left made
  unfolding run_from follow_from
  run_means zero made g f e kind vs hs env en long = (none_decided, refl)
  run_means (suc left) made g f e kind vs hs env en long =
      let c = body-comes g f e vs hs env en long in
      by_turn left made g f e kind vs hs env en long c.turn c.taken c.came (λ g' f'. run_means left (suc made) g' f')

-- ---- A settled program

same_followed : (r : Followed) {d : Decision} {c : ℕ} → d ≡ r.decision → c ≡ r.calls → record { decision = d; calls = c } ≡ r
same_followed r {d} {c} p q = ap (λ (x : Decision). record { decision = x; calls = c }) p ∙ ap (λ (x : ℕ). record { decision = r.decision; calls = x }) q

-- the array of the whole traces
whole-values : (s : Sort) (t : Traces) (n : Lengths) → LengthsOf t n → EnvOf t (whole_values n) (whole_traces s t)
whole-values s t n ls = record {
  value = value s;
  origins = record { ram = omega (arith, ls.ram); guard = omega (arith, ls.guard) };
}
  where
    value : (s : Sort) (i : ℕ) (v : Value) → get_elem? (whole_traces s t) i ≡ some v → get_or (whole_values n) i 0 ≡ working_of (given v)
    value One zero v e = let is : suffix Ram (length t.of_ram) ≡ v = cc in rw (← is) (omega (arith, ls.ram))
    value One (suc i) v e = let z : ◌≡◌ {A = ℕ} 0 1 = cc in absurd (omega arith)
    value Two zero v e = let is : suffix Ram (length t.of_ram) ≡ v = cc in rw (← is) (omega (arith, ls.ram))
    value Two (suc zero) v e = let is : suffix Guard (length t.of_guard) ≡ v = cc in rw (← is) (omega (arith, ls.guard))
    value Two (suc (suc i)) v e = let z : ◌≡◌ {A = ℕ} 0 1 = cc in absurd (omega arith)

module _ {bytes : List ℕ} {h : Handed} {outline : Outline} {places : Cells} {lent : ℕ} (u : Settled bytes h outline places lent) {n : Lengths} (l : n ≡ lengths_of h)
    {words bytes_of : List ℕ} (w : words ≡ words_filled bytes outline.params places.functions outline.functions n (replicate most_words 0))
    (z : bytes_of ≡ traces_of h.ram h.guard) {bodies : List ℕ} (b : BodiesUpto words outline.starts 32 bodies)
    {first : List ℕ} (f : first ≡ whole_values n) {ran : Ran}
    (e : ran ≡ run_from words bytes_of [] bodies places.total 0 first (get_or bodies 0 0)) where
  pub settled_calls : ran.calls ≤ most_cells
  settled_calls = rw e (omega (arith, calls-few words bytes_of [] bodies places.total 0 first (get_or bodies 0 0), u.total, u.fits))

  pub settled_followed : only_loops (program_of bytes) ≡ true → {d : Decision} → d ≡ main_decision ran.outcome
      → record { decision = d; calls = ran.calls } ≡ followed h.sort (program_of bytes) (samples_of h)
  unfolding followed
  settled_followed loops q =
      let P = u.program in
      let t = samples_of h in
      let m = u.accepted.main in
      let each : only_loops P ≡ true = rw (program_is u l) at loops in
      let kinds : InKinds t m.0.params (whole_traces h.sort t) = rw m.2.params (whole_in h.sort t) in
      let same = run_means P t n bytes _ outline.starts (run_here u l w z) (rw each tt) bodies b (cells t P) 0 0 m.0 m.1 m.2.result
      (whole_traces h.sort t) kinds (whole_values n) (whole-values h.sort t n (rw l (lengths_are h.ram h.guard (lengths_of h)))) refl in
      let whole : ran ≡ run_from words bytes_of [] bodies (cells t P) 0 (whole_values n) (get_or bodies 0 0) = rw (← f, ← u.total) e in
      rw (program_is u l) (same_followed _ (q ∙ ap (λ (x : Ran). main_decision x.outcome) whole ∙ same.0) (ap (λ (x : Ran). x.calls) whole ∙ same.1))
