-- Taking a body by its words comes to what taking it by the rules does:
--   lookup_none         no call is found in a table of no cells
--   Came, came          an expression in a place where calls may stand: its outcome, or the call that it comes to
use Prim.Native.Nat.{ℕ, zero, suc, ◌+◌, ◌*◌, ◌/◌, ◌%◌, ◌≤◌, ◌<◌}
use native.Mathlib.Nat.{zero-add}
use native.Mathlib.Omega.{arith}
use mathlib.Core.Path.{◌≡◌, refl, ap, ◌∙◌}
use mathlib.Core.Bool.{true, false}
use mathlib.Core.List.{List, [], ◌∷◌, ◌++◌, append_assoc}
use mathlib.Core.Option.{Option, none, some}
use lib.ListN.{length, get_elem?, get_or, set, drop, length-append, length-set}
use lib.Dec as dec
use borrow.Author.Tests.{eq-eqb}
use Rattle.semantics.specs.declared.Contact.TheVariants.{Ram, Guard}
use Rattle.semantics.specs.declared.Error.{Error}
use Rattle.semantics.specs.declared.Error.TheVariants.{Head, Tail}
use Rattle.semantics.specs.declared.Outcome.{Outcome}
use Rattle.semantics.specs.declared.Outcome.TheVariants.{Truth, Suffix, Failed}
use Rattle.semantics.specs.declared.Kind.{Kind}
use Rattle.semantics.specs.declared.Kind.TheVariants.{Truth as truth}
use Rattle.semantics.specs.declared.Demand.{Demand}
use Rattle.semantics.specs.declared.Demand.TheVariants.{Only as only}
use Rattle.semantics.specs.Language.{Op, hd, tl, null, Expr, constant, empty, param, op, ifte, call, Args, no_args, arg, Function, Program, Traces, Value, bit, suffix, given, InKinds, allows, Meets, MeetAll}
use Rattle.semantics.specs.Rules.{Arguments, values, failed}
use Rattle.semantics.specs.Cells.{undecided_code, true_code, false_code, suffix_code, outcome_in}
use Rattle.semantics.specs.Bodies.{with_value, with_values, body_outcome, args_outcome}
use Rattle.semantics.specs.Visits.{lookup, held_by}
use Rattle.semantics.proofs.Demands.{of_demand, demand_error}
use Rattle.semantics.proofs.Bodies.{same_body}
use Rattle.semantics.proofs.Visits.{lookup-kinds}
use Rattle.syntax.specs.Limits.{most_params, most_body, most_depth}
use Rattle.rule.specs.Form.{encode_expr, encode_args, depth, depth_all}
use Rattle.rule.proofs.NodeBytes.{node_false, node_true, node_empty, node_empty_guard, node_if, node_op, node_param, node_call, op_node}
use Rattle.rule.proofs.Expressions.{place-below}
use Rattle.codes.specs.declared.Lengths.{Lengths}
use Rattle.codes.specs.{working_of, guard_code}
use Rattle.codes.proofs.CodeMeaning.{working_content}
use Rattle.decoding.specs.Words.{sort_of, param_of, callee_of, places_of, if_sort, param_sort, constant_sort, head_sort, tail_sort, null_sort, head_param_sort, tail_param_sort, null_param_sort, second_place, third_place, call_sort}
use Rattle.decoding.specs.Decoding.{end_at, conditional_by, placed, leaves_in, call_sort_of, decoded_by, constant_by}
use Rattle.decoding.proofs.Ends.{Ends, after_operand, bytes_after}
use Rattle.decoding.proofs.Packing.{sort-packed}
use Rattle.evaluator.specs.{eval_at}
use Rattle.evaluator.proofs.Sets.{EnvOf, Sets}
use Rattle.evaluator.proofs.NodeMeaning.{Stand, Within, stand}
use Rattle.evaluator.proofs.EvalMeaning.{append_four, depth_pos, decoded, called_by_lem, args-within, eval_means}
use Rattle.chains.specs.Loops.{no_call, no_call_among, loops_in}
use Rattle.chains.specs.Following.{Turn, ends, calls, no_table, ends_with, turn_of}
use Rattle.chains.proofs.Outcomes.{both, both_three, outcome, of_demand_lem}
use Rattle.follow.specs.Mirror.{failing, is_if, condition_by, branch_word, spine_of, arg_in, args_stop, args_put, args_left, arg_places, args_stop_at, args_left_at}
use Rattle.follow.proofs.WordMeaning.{unary_plain, taken_stop, plain_kept, plain-taken, constant_kept, constant-taken, if_told, condition_word, second_word, third_word, call_kept, call-callee, call_high, call_places, call-stop, call-left, call-taken}
use Rattle.follow.proofs.ArgsMeaning.{value_passes, error_fails, length-put, put_other, put_first, arg_there, stop_after}

held_none : (t : Traces) (f : Option Function) → held_by t f 0 ≡ none
unfolding outcome_in
held_none t none = refl
held_none t (some f) = refl

pub lookup_none : (P : Program) (t : Traces) (g : ℕ) (vs : List Value) → lookup P t [] g vs ≡ none
unfolding lookup
lookup_none P t g vs = held_none t (get_elem? P g)

-- the numbers of errors are small, and not those of Bools
error_small : (x : Error) → working_of (Failed x) < 65536
error_small Head = omega arith
error_small Tail = omega arith

error_branch : (W : List ℕ) (w : ℕ) (x : Error) → branch_word W w (working_of (Failed x)) ≡ constant_by (working_of (Failed x))
unfolding branch_word
error_branch W w Head = refl
error_branch W w Tail = refl

module _ (P : Program) (t : Traces) (n : Lengths) (bytes W traces : List ℕ) (s : Sets P t n bytes W traces)
    (Γ : List Kind) (vs : List Value) (hs : InKinds t Γ vs) (narrow : length Γ ≤ most_params) (env : List ℕ) (en : EnvOf t env vs) (long : length env ≡ 6) where
  abbrev eval : ℕ → ℕ
  eval place = eval_at W traces [] env most_depth place

  -- what an expression with no call gives
  plain_means : (e : Expr) (δ : Demand) (at : ℕ) (rest : List ℕ) (o : Outcome) → Meets P Γ δ e → depth e ≤ most_depth → length (encode_expr e) ≤ most_body
      → drop at bytes ≡ encode_expr e ++ rest → body_outcome t no_table vs e ≡ some o → eval at ≡ working_of o
  plain_means e δ at rest o m deep fits here q =
      eval_means P t n bytes W traces s [] Γ vs hs narrow env en e δ most_depth at rest m deep fits here
      ∙ ap working_content
      (same_body P t (lookup P t []) no_table (lookup-kinds P t []) (λ g us f e' h. lookup_none P t g us) Γ vs hs e δ m ∙ q)

  -- what a word that an expression comes to is taken to be, where its place has a demand
  pub data Came (δ : Demand) (w : ℕ) : Turn → Type 0 where
    ended : (o : Outcome) → taken_stop W traces [] env w ≡ working_of o → dec.T (of_demand t δ o) → Came δ w (ends o)
    called : (g : ℕ) (us : List Value) (f : Function) → call_sort ≤ sort_of w → args_stop_at W traces [] env w ≡ undecided_code → callee_of w ≡ g
        → EnvOf t (args_left_at W traces [] env w) us → length (args_left_at W traces [] env w) ≡ 6 → get_elem? P g ≡ some f → dec.T (allows δ f.result)
        → Came δ w (calls g us)

  -- the turn that an expression takes, and the word that it comes to
  pub record Comes (δ : Demand) (e : Expr) (w : ℕ) : Type 0 where
    pub turn : Turn
    pub taken : turn_of t vs e ≡ some turn
    pub came : Came δ w turn

  -- ---- Neither an if nor a call

  plain_came : (e : Expr) (δ : Demand) (d at : ℕ) (rest : List ℕ) → dec.T (no_call e) → Meets P Γ δ e → depth e ≤ most_depth → length (encode_expr e) ≤ most_body
      → drop at bytes ≡ encode_expr e ++ rest → turn_of t vs e ≡ ends_with (body_outcome t no_table vs e) → sort_of (get_or W at 0) < if_sort
      → Comes δ e (spine_of W traces [] env (suc d) (get_or W at 0))
  plain_came e δ d at rest free m deep fits here turns low =
      let o = outcome P t Γ vs hs e δ free m in
      record {
        turn = ends o.0;
        taken = turns ∙ ap ends_with o.1;
        came = rw (plain_kept W traces [] env (get_or W at 0) low d)
            (ended o.0 (plain-taken W traces [] env (get_or W at 0) low ∙ plain_means e δ at rest o.0 m deep fits here o.1)
            (of_demand_lem P t Γ vs hs e δ o.0 m o.1));
      }

  -- ---- Arguments

  -- what arguments come to, of so many from argument i on, by so many places: they have values, which are put into an array, or one fails
  data ArgsCame (count k i places : ℕ) (next : List ℕ) : Arguments → Type 0 where
    have : (us : List Value) → args_stop eval count k i places ≡ undecided_code
        → ((j : ℕ) (v : Value) → get_elem? us j ≡ some v → get_or (args_put eval count k i places next) (i + j) 0 ≡ working_of (given v))
        → ArgsCame count k i places next (values us)
    fails : (x : Error) → args_stop eval count k i places ≡ working_of (Failed x) → ArgsCame count k i places next (failed x)

  -- one that is there, before the others
  module _ (count k i places : ℕ) (next : List ℕ) (there : i < count) (room : i < length next) where
    abbrev value : ℕ
    value = eval (places % 4096)

    abbrev Later : Arguments → Type 0
    Later r = ArgsCame count k (i + 1) (places / 4096) (set next i (arg_in eval count i places)) r

    -- what arguments give, and that they come to it
    abbrev Whole : Option Arguments → Type 0
    Whole given-all = (r : Arguments) × (given-all ≡ some r) × ArgsCame count (suc k) i places next r

    here_is : {c : ℕ} → value ≡ c → arg_in eval count i places ≡ c
    here_is q = arg_there eval count i places there ∙ q

    value_first : (v : Value) → value ≡ working_of (given v) → (r : Arguments) → Later r → Whole (with_values failed (some r) (λ us. some (values (v ∷ us))))
    unfolding args_stop args_put
    value_first v q (values us) (have _ stop put) = (values (v ∷ us), refl, have (v ∷ us) (simp (ap failing (here_is q) ∙ value_passes v) stop) at_place)
      where
        at_place : (j : ℕ) (u : Value) → get_elem? (v ∷ us) j ≡ some u → get_or (args_put eval count (suc k) i places next) (i + j) 0 ≡ working_of (given u)
        at_place zero u h =
            let here : i + 0 ≡ i = omega arith in
            let is : v ≡ u = cc in
            rw here (put_first eval count k i places next room ∙ here_is q ∙ ap (λ (x : Value). working_of (given x)) is)
        at_place (suc j) u h = let later : i + suc j ≡ i + 1 + j = omega arith in rw later (put j u h)
    value_first v q (failed x) (fails _ stop) = (failed x, refl, fails x (simp (ap failing (here_is q) ∙ value_passes v) stop))

    -- by what it gives
    arg-first : (o : Outcome) → value ≡ working_of o → (r : Arguments) → Later r
        → Whole (with_value failed (some o) (λ v. with_values failed (some r) (λ us. some (values (v ∷ us)))))
    unfolding args_stop
    arg-first (Truth b) q r c = value_first (bit b) q r c
    arg-first (Suffix a m) q r c = value_first (suffix a m) q r c
    arg-first (Failed x) q r c = (failed x, refl, fails x (simp (ap failing (here_is q) ∙ error_fails x) (here_is q)))

  args_come : (low : ℕ) (E : List ℕ) (u : Ends P bytes low E) (xs : Args) (κs : List Kind) (at : ℕ) (rest : List ℕ) (count k places i : ℕ) (next : List ℕ)
      → dec.T (no_call_among xs) → MeetAll P Γ κs xs → depth_all xs ≤ most_depth → low ≤ at → at + length (encode_args xs) ≤ low + most_body
      → Stand E (length κs) places at → drop at bytes ≡ encode_args xs ++ rest → i + length κs ≡ count → length κs ≤ k → count ≤ length next
      → (r : Arguments) × (args_outcome t no_table vs xs ≡ some r) × ArgsCame count k i places next r
  unfolding body_outcome no_call depth_all encode_args
  args_come low E u no_args κs at rest count k places i next free m deep l near st here counted many room =
      let none : length κs ≡ 0 = rw m in
      (values [], refl, have [] (stop_after eval count k i places (omega arith)) (λ j v e. let z : ◌≡◌ {A = ℕ} 0 1 = cc in absurd (omega arith)))
  args_come low E u (arg e xs) κs at rest count zero places i next free m deep l near st here counted many room =
      let some-due : length κs ≡ suc (length m.1) = rw m.2 in
      absurd (omega arith)
  args_come low E u (arg e xs) κs at rest count (suc k) places i next free m deep l near st here counted many room =
      let κ = m.0 in
      let κs' = m.1 in
      let due : length κs ≡ suc (length κs') = rw m.2 in
      let free' = both (no_call e) (no_call_among xs) free in
      let st' : Stand E (length (κ ∷ κs')) places at = rw m.2 at st in
      let here' : drop at bytes ≡ encode_expr e ++ (encode_args xs ++ rest) = here ∙ append_assoc (encode_expr e) (encode_args xs) rest in
      let size = length-append (encode_expr e) (encode_args xs) in
      let first = after_operand P bytes low E u Γ narrow (only κ) e at (encode_args xs ++ rest) l (omega (arith, near, size)) m.3 here' in
      let o = outcome P t Γ vs hs e (only κ) free'.0 m.3 in
      let value = plain_means e (only κ) at (encode_args xs ++ rest) o.0 m.3 (omega arith) (omega (arith, near, size)) here' o.1 in
      let next' = set next i (arg_in eval count i places) in
      let later = args_come low E u xs κs' (end_at E at) rest count k (places / 4096) (i + 1) next' free'.1 m.4 (omega arith)
      first.above (omega (arith, near, size, first.end)) st'.1 first.rest (omega arith) (omega arith) (rw (length-set next i (arg_in eval count i places)) room) in
      rw (o.1, later.1)
      (arg-first count k i places next (omega arith) (omega arith) o.0 (rw st'.0 value) later.0 later.2)

  -- ---- A call

  call_came : (g : ℕ) (xs : Args) (δ : Demand) (d at : ℕ) (rest : List ℕ) → dec.T (no_call_among xs) → Meets P Γ δ (call g xs) → depth (call g xs) ≤ most_depth
      → length (encode_expr (call g xs)) ≤ most_body → drop at bytes ≡ encode_expr (call g xs) ++ rest
      → Comes δ (call g xs) (spine_of W traces [] env (suc d) (get_or W at 0))
  unfolding turn_of depth encode_expr encode_args args_left
  call_came g xs δ d at rest free m deep fits here =
      let f = m.0 in
      let κs = f.params in
      let count = length κs in
      let below : g < 32 = omega (arith, place-below P g f m.1, s.functions) in
      let few : count ≤ 4 = s.params g f m.1 in
      let x = decoded P t n bytes W traces s [] Γ vs hs narrow env en at _ _ _ here (node_call below) in
      let after = bytes_after bytes at here in
      let inside = args-within P t n bytes W traces s [] Γ vs hs narrow env en eval (at + 1) x.ends x.right xs κs (at + 1) rest (omega arith) (omega (arith, fits)) m.3 after in
      let word = x.word ∙ called_by_lem P t n bytes W traces s [] Γ vs hs narrow env en (at + 1) x.ends x.later g f (at + 1) m.1 below few inside x.kept in
      let small = g % 32 + 32 * count in
      let leaves = leaves_in W count (places_of (placed x.ends call_sort small (at + 1))) in
      let w = placed x.ends (call_sort_of f.result count leaves) small (at + 1) in
      let kind = f.result in
      let slots = call_places W traces [] env x.ends g count (at + 1) below few kind leaves in
      let args = args_come (at + 1) x.ends x.right xs κs (at + 1) rest count (arg_places w) (places_of w) 0 env free m.3 (omega arith) (omega arith) (omega (arith, fits))
      (stand x.ends _ small (at + 1) (at + 1) count few inside) after (zero-add count) slots.0 (omega (arith, few)) in
      rw (word, call_kept W traces [] env x.ends g count (at + 1) below few kind leaves d)
      (by_arguments w (call-callee W traces [] env x.ends g count (at + 1) below few kind leaves)
      (call_high W traces [] env x.ends g count (at + 1) below few kind leaves) slots.1
      (call-taken W traces [] env x.ends g count (at + 1) below few kind leaves)
      (call-stop W traces [] env x.ends g count (at + 1) below few kind leaves) (call-left W traces [] env x.ends g count (at + 1) below few kind leaves)
      args.0 args.1 args.2)
    where
      by_arguments : (w : ℕ) → callee_of w ≡ g → call_sort ≤ sort_of w → arg_places w ≤ 4 → taken_stop W traces [] env w ≡ args_stop_at W traces [] env w
          → args_stop_at W traces [] env w ≡ args_stop eval (length m.0.params) (arg_places w) 0 (places_of w)
          → args_left_at W traces [] env w ≡ args_left eval (length m.0.params) (arg_places w) (places_of w) env
          → (r : Arguments) → args_outcome t no_table vs xs ≡ some r → ArgsCame (length m.0.params) (arg_places w) 0 (places_of w) env r → Comes δ (call g xs) w
      by_arguments w named high slots stops stop_is left (values us) q (have _ stop put) =
          let all : args_left_at W traces [] env w ≡ args_put eval (length m.0.params) (arg_places w) 0 (places_of w) env = left ∙ simp (eq-eqb _ _ stop) in
          record {
            turn = calls g us;
            taken = rw q;
            came = called g us m.0 high (stop_is ∙ stop) named
                (rw all (record {
                  value = λ i v e. rw (zero-add i) at (put i v e);
                  origins = record {
                    ram = put_other eval (length m.0.params) (arg_places w) 0 (places_of w) env 4 (λ p l k z. omega arith) ∙ en.origins.ram;
                    guard = put_other eval (length m.0.params) (arg_places w) 0 (places_of w) env 5 (λ p l k z. omega arith) ∙ en.origins.guard;
                  };
                })) (ap length all ∙ length-put eval (length m.0.params) (arg_places w) 0 (places_of w) env ∙ long) m.1 m.2;
          }
      by_arguments w named high slots stops stop_is left (failed x) q (fails _ stop) =
          record { turn = ends (Failed x); taken = rw q; came = ended (Failed x) (stops ∙ stop_is ∙ stop) (demand_error t δ x) }

  -- ---- An if, and all expressions

  -- by what its condition gives: the branches come to words of their own
  if_came : (c a b : Expr) (δ : Demand) (d w then other : ℕ) → branch_word W w true_code ≡ then → branch_word W w false_code ≡ other → (o : Outcome)
      → body_outcome t no_table vs c ≡ some o → dec.T (of_demand t (only truth) o)
      → Comes δ a (spine_of W traces [] env (suc d) then) → Comes δ b (spine_of W traces [] env (suc d) other)
      → Comes δ (ifte c a b) (spine_of W traces [] env (suc d) (branch_word W w (working_of o)))
  unfolding turn_of
  if_came c a b δ d w then other to-then to-other (Truth true) q h ca cb = record { turn = ca.turn; taken = rw q ca.taken; came = rw to-then ca.came }
  if_came c a b δ d w then other to-then to-other (Truth false) q h ca cb = record { turn = cb.turn; taken = rw q cb.taken; came = rw to-other cb.came }
  if_came c a b δ d w then other to-then to-other (Suffix k i) q h ca cb = absurd h
  if_came c a b δ d w then other to-then to-other (Failed x) q h ca cb = record {
    turn = ends (Failed x);
    taken = rw q;
    came = rw (error_branch W w x, constant_kept W traces [] env d (working_of (Failed x)))
        (ended (Failed x) (constant-taken W traces [] env (working_of (Failed x)) (error_small x)) (demand_error t δ x));
  }

  -- one step along an if
  spine_if : (d w : ℕ) → is_if (sort_of w) ≡ true → {c : ℕ} → condition_by W traces [] env w ≡ c
      → spine_of W traces [] env (suc d) w ≡ spine_of W traces [] env d (branch_word W w c)
  unfolding spine_of
  spine_if d w told e = simp (told, e)

  then_word : (w p : ℕ) → second_place w ≡ p → branch_word W w true_code ≡ get_or W p 0
  unfolding branch_word
  then_word w p e = ap (λ (q : ℕ). get_or W q 0) e

  else_word : (w p : ℕ) → third_place w ≡ p → branch_word W w false_code ≡ get_or W p 0
  unfolding branch_word
  else_word w p e = ap (λ (q : ℕ). get_or W q 0) e

  -- an if whose branches come to words of their own
  if_node : (c a b : Expr) (δ : Demand) (d at : ℕ) (rest : List ℕ) → dec.T (no_call c) → Meets P Γ δ (ifte c a b) → depth c ≤ most_depth
      → length (encode_expr c) + (length (encode_expr a) + length (encode_expr b)) < most_body → drop at bytes ≡ encode_expr (ifte c a b) ++ rest
      → ((to : ℕ) (r : List ℕ) → drop to bytes ≡ encode_expr a ++ r → Comes δ a (spine_of W traces [] env (suc d) (get_or W to 0)))
      → ((to : ℕ) (r : List ℕ) → drop to bytes ≡ encode_expr b ++ r → Comes δ b (spine_of W traces [] env (suc d) (get_or W to 0)))
      → Comes δ (ifte c a b) (spine_of W traces [] env (suc (suc d)) (get_or W at 0))
  unfolding encode_expr
  if_node c a b δ d at rest free m deep fits here ca cb =
      let x = decoded P t n bytes W traces s [] Γ vs hs narrow env en at _ _ _ here node_if in
      let after = bytes_after bytes at here ∙ append_four (encode_expr c) (encode_expr a) (encode_expr b) rest in
      let low = at + 1 in
      let first = after_operand P bytes low x.ends x.right Γ narrow (only truth) c low _ (omega arith) (omega arith) m.0 after in
      let second = after_operand P bytes low x.ends x.right Γ narrow δ a (end_at x.ends low) _ first.above (omega (arith, first.end)) m.1 first.rest in
      let third = after_operand P bytes low x.ends x.right Γ narrow δ b (end_at x.ends (end_at x.ends low)) rest second.above
      (omega (arith, first.end, second.end)) m.2 second.rest in
      let inside : Within low x.ends 3 low = (
        omega arith,
        omega (arith, first.within, s.short),
        (first.above, omega (arith, second.within, s.short), (second.above, omega (arith, third.within, s.short), tt)),
      ) in
      let sort = conditional_by (get_or W low 0) in
      let w = placed x.ends sort (param_of (get_or W low 0)) low in
      let o = outcome P t Γ vs hs c (only truth) free m.0 in
      let chosen = condition_word W traces [] env low x.ends low inside
      ∙ plain_means c (only truth) low _ o.0 m.0 deep (omega arith) after o.1 in
      rw (x.word, spine_if (suc d) w (if_told W traces [] env low x.ends low inside) chosen)
      (if_came c a b δ d w _ _
      (then_word w _ (second_word W traces [] env low x.ends low inside sort)) (else_word w _ (third_word W traces [] env low x.ends low inside sort))
      o.0 o.1 (of_demand_lem P t Γ vs hs c (only truth) o.0 m.0 o.1)
      (ca (end_at x.ends low) _ first.rest) (cb (end_at x.ends (end_at x.ends low)) rest second.rest))

  op-plain : (p : Op) (at : ℕ) (counts array E later : List ℕ) → get_or W at 0 ≡ decoded_by counts array E later (at + 1) (get_or W (at + 1) 0) (op_node p) → sort_of (get_or W at 0) < if_sort
  op-plain hd at counts array E later e = rw e (unary_plain head_sort head_param_sort (at + 1) (get_or W (at + 1) 0) (omega arith) (omega arith))
  op-plain tl at counts array E later e = rw e (unary_plain tail_sort tail_param_sort (at + 1) (get_or W (at + 1) 0) (omega arith) (omega arith))
  op-plain null at counts array E later e = rw e (unary_plain null_sort null_param_sort (at + 1) (get_or W (at + 1) 0) (omega arith) (omega arith))

  constant_low : (at c : ℕ) → get_or W at 0 ≡ constant_by c → sort_of (get_or W at 0) < if_sort
  constant_low at c e = rw e (omega (arith, sort-packed constant_sort 0 (c % 4096) (c / 4096) 0 0))

  pub came : (e : Expr) (δ : Demand) (d at : ℕ) (rest : List ℕ) → dec.T (loops_in e) → Meets P Γ δ e → depth e ≤ d → d ≤ most_depth → length (encode_expr e) ≤ most_body
      → drop at bytes ≡ encode_expr e ++ rest → Comes δ e (spine_of W traces [] env d (get_or W at 0))
  unfolding turn_of loops_in no_call depth encode_expr
  came (constant b) δ zero at rest free m deep most fits here = absurd (omega arith)
  came (constant false) δ (suc d) at rest free m deep most fits here =
      plain_came (constant false) δ d at rest tt m (omega arith) fits here refl
      (constant_low at 1 (decoded P t n bytes W traces s [] Γ vs hs narrow env en at _ _ _ here node_false).word)
  came (constant true) δ (suc d) at rest free m deep most fits here =
      plain_came (constant true) δ d at rest tt m (omega arith) fits here refl
      (constant_low at 2 (decoded P t n bytes W traces s [] Γ vs hs narrow env en at _ _ _ here node_true).word)
  came (empty c) δ zero at rest free m deep most fits here = absurd (omega arith)
  came (empty Ram) δ (suc d) at rest free m deep most fits here =
      plain_came (empty Ram) δ d at rest tt m (omega arith) fits here refl
      (constant_low at suffix_code (decoded P t n bytes W traces s [] Γ vs hs narrow env en at _ _ _ here node_empty).word)
  came (empty Guard) δ (suc d) at rest free m deep most fits here =
      plain_came (empty Guard) δ d at rest tt m (omega arith) fits here refl
      (constant_low at guard_code (decoded P t n bytes W traces s [] Γ vs hs narrow env en at _ _ _ here node_empty_guard).word)
  came (param i) δ zero at rest free m deep most fits here = absurd (omega arith)
  came (param i) δ (suc d) at rest free m deep most fits here =
      let l : i < 4 = omega (arith, place-below Γ i m.0 m.1, narrow) in
      let word = (decoded P t n bytes W traces s [] Γ vs hs narrow env en at _ _ _ here (node_param l)).word in
      plain_came (param i) δ d at rest tt m (omega arith) fits here refl (rw word (omega (arith, sort-packed param_sort i 0 0 0 0)))
  came (op p e) δ zero at rest free m deep most fits here = absurd (omega arith)
  came (op p e) δ (suc d) at rest free m deep most fits here =
      let x = decoded P t n bytes W traces s [] Γ vs hs narrow env en at _ _ _ here (node_op p) in
      plain_came (op p e) δ d at rest free m (omega arith) fits here refl (op-plain p at s.counts s.array x.ends x.later x.word)
  came (ifte c a b) δ zero at rest free m deep most fits here = absurd (omega arith)
  came (ifte c a b) δ (suc zero) at rest free m deep most fits here = absurd (omega (arith, depth_pos c))
  came (ifte c a b) δ (suc (suc d)) at rest free m deep most fits here =
      let free' = both_three (no_call c) (loops_in a) (loops_in b) free in
      let all : length (encode_expr c ++ (encode_expr a ++ encode_expr b)) ≡ length (encode_expr c) + (length (encode_expr a) + length (encode_expr b)) = simp length-append in
      if_node c a b δ d at rest free'.0 m (omega arith) (omega (arith, fits, all)) here
      (λ to r q. came a δ (suc d) to r free'.1.0 m.1 (omega arith) (omega arith) (omega (arith, fits, all)) q)
      (λ to r q. came b δ (suc d) to r free'.1.1 m.2 (omega arith) (omega arith) (omega (arith, fits, all)) q)
  came (call g xs) δ zero at rest free m deep most fits here = absurd (omega arith)
  came (call g xs) δ (suc d) at rest free m deep most fits here = call_came g xs δ d at rest free m (omega arith) fits here
