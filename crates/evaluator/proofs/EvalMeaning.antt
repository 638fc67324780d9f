-- The evaluation of the words of an expression, by places and numbers, comes to what the rules say of it:
--   Decoded, decoded       the word of a node
--   called_by_lem              the word of a call
--   args-within            the places of arguments
--   eval_means             the working number of what the body of a function, or a part of it, gives
use Rattle.std.proofs.Common.{◌≡◌, ℕ, zero, suc, ◌+◌, ◌*◌, ◌/◌, ◌%◌, ◌<◌, ◌≤◌, true, false, List, ◌∷◌, ◌++◌, length, get_or, drop, refl, ap, ◌∙◌, append_assoc, mod-eq_of_lt, arith, length-append}
use mathlib.Core.Option.{Option, none, some}
use lib.ListN.{get_elem?}
use Rattle.semantics.specs.declared.Contact.TheVariants.{Ram, Guard}
use Rattle.semantics.specs.declared.Error.TheVariants.{Head, Tail}
use Rattle.semantics.specs.declared.Outcome.{Outcome}
use Rattle.semantics.specs.declared.Outcome.TheVariants.{Truth, Suffix, Failed}
use Rattle.semantics.specs.declared.Kind.{Kind}
use Rattle.semantics.specs.declared.Kind.TheVariants.{Truth as truth}
use Rattle.semantics.specs.declared.Demand.{Demand}
use Rattle.semantics.specs.declared.Demand.TheVariants.{Only as only, AnyList as any_list}
use Rattle.semantics.specs.Language.{Op, hd, tl, null, Expr, constant, empty, param, op, ifte, call, Args, no_args, arg, Function, Program, Traces, Value, InKinds, operand_demand, Meets, MeetAll}
use Rattle.semantics.specs.Cells.{false_code, true_code, suffix_code, content_of}
use Rattle.semantics.specs.Bodies.{param_value, body_outcome, args_outcome, with_value, with_values, operated, chosen}
use Rattle.semantics.specs.Visits.{Table, lookup}
use Rattle.semantics.proofs.Demands.{allows-own}
use Rattle.semantics.proofs.Bodies.{value_there, kinded}
use Rattle.semantics.proofs.Visits.{lookup-kinds}
use Rattle.syntax.specs.declared.Node.{Node}
use Rattle.syntax.specs.Limits.{most_params, most_body}
use Rattle.syntax.specs.Kinds.{kind_in}
use Rattle.rule.specs.Form.{encode_expr, encode_args, depth, depth_all}
use Rattle.syntax.specs.Bytes.{node_of}
use Rattle.rule.proofs.NodeBytes.{node_false, node_true, node_empty, node_empty_guard, node_if, node_op, node_param, node_call}
use Rattle.rule.proofs.Expressions.{place-below}
use Rattle.codes.specs.declared.Lengths.{Lengths}
use Rattle.codes.specs.{guard_code}
use Rattle.codes.proofs.CodeMeaning.{OfDemand, any_list_lem, working_content, head_means, tail_means, null_means, result_code, result_means}
use Rattle.decoding.specs.Words.{call_sort, places_of}
use Rattle.decoding.specs.Decoding.{end_at, arguments_of, signature_in, placed, leaves_in, call_sort_of, called_by, decoded_by, word_by}
use Rattle.decoding.proofs.Ends.{Ends, after_operand, byte_here, bytes_after, byte_within}
use Rattle.evaluator.specs.{args_in, eval_word, eval_at}
use Rattle.evaluator.proofs.Sets.{EnvOf, Sets}
use Rattle.evaluator.proofs.NodeMeaning.{Stand, Within, stand, leaves_kept, constant-word, param-word, op_by, op-word, choice, if_word, call-word}
use Rattle.evaluator.proofs.CallMeaning.{Due, due_first, due_next, args_one, args_none}

pub append_four : (a b c d : List ℕ) → (a ++ (b ++ c)) ++ d ≡ a ++ (b ++ (c ++ d))
append_four a b c d = simp append_assoc

-- an expression is at least one node deep
pub depth_pos : (e : Expr) → 0 < depth e
unfolding depth
depth_pos (constant b) = omega arith
depth_pos (empty c) = omega arith
depth_pos (param i) = omega arith
depth_pos (op p e) = omega arith
depth_pos (ifte c a b) = omega arith
depth_pos (call g xs) = omega arith

-- a call that has arguments is more than one node deep
args-deep : (P : Program) (Γ : List Kind) (xs : Args) (κs : List Kind) (d : ℕ) → MeetAll P Γ κs xs → depth_all xs ≤ d → 0 < length κs → 0 < d
unfolding depth_all
args-deep P Γ no_args κs d m h l = let none : length κs ≡ 0 = rw m in absurd (omega arith)
args-deep P Γ (arg e xs) κs d m h l = omega (arith, depth_pos e)

-- the if, by the numbers of what its parts give
branch_means : (t : Traces) (eval : ℕ → ℕ) (at then other : ℕ) (c a b : Option Outcome) → OfDemand t (only truth) c → eval at ≡ working_content c
    → eval then ≡ working_content a → eval other ≡ working_content b
    → choice eval then other (eval at) ≡ working_content (with_value Failed c (chosen a b))
branch_means t eval at then other none a b h p q r = rw p
branch_means t eval at then other (some (Truth true)) a b h p q r = rw p q
branch_means t eval at then other (some (Truth false)) a b h p q r = rw p r
branch_means t eval at then other (some (Suffix w k)) a b h p q r = absurd (h (Suffix w k) refl)
branch_means t eval at then other (some (Failed Head)) a b h p q r = rw p
branch_means t eval at then other (some (Failed Tail)) a b h p q r = rw p

module _ (P : Program) (t : Traces) (n : Lengths) (bytes W traces : List ℕ) (s : Sets P t n bytes W traces) (T : Table)
    (Γ : List Kind) (vs : List Value) (hs : InKinds t Γ vs) (narrow : length Γ ≤ most_params) (env : List ℕ) (en : EnvOf t env vs) where
  abbrev calls : ℕ → List Value → Option Outcome
  calls = lookup P t T

  -- the outcome of the word at a place
  abbrev eval : ℕ → ℕ → ℕ
  eval d place = eval_at W traces T env d place

  -- what an expression gives meets the demand of its place
  of_demand_lem : (e : Expr) (δ : Demand) → Meets P Γ δ e → OfDemand t δ (body_outcome t calls vs e)
  of_demand_lem e δ m o q = kinded P t calls (lookup-kinds P t T) Γ vs hs e δ o m q

  param_value_lem : (i : ℕ) (κ : Kind) → get_elem? Γ i ≡ some κ → get_or env i 0 ≡ working_content (param_value (get_elem? vs i))
  param_value_lem i κ m =
      let v = value_there t Γ vs hs i κ m in
      rw v.1 (en.value i v.0 v.1)

  -- ---- The node at a place

  pub record Decoded (at : ℕ) (k : Node) : Type 0 where
    pub ends : List ℕ
    pub right : Ends P bytes (at + 1) ends
    pub later : List ℕ
    pub kept : (p : ℕ) → at + 1 ≤ p → get_or later p 0 ≡ get_or W p 0
    pub word : get_or W at 0 ≡ decoded_by s.counts s.array ends later (at + 1) (get_or W (at + 1) 0) k

  pub decoded : (at b : ℕ) (bs : List ℕ) (k : Node) → drop at bytes ≡ b ∷ bs → node_of b ≡ k → Decoded at k
  unfolding word_by
  decoded at b bs k h e =
      let x = s.nodes at (byte_within bytes at h) in
      record {
        ends = x.ends;
        right = x.right;
        later = x.later;
        kept = λ p l. x.kept p (omega arith);
        word = x.word
            ∙ ap (λ (y : ℕ). decoded_by s.counts s.array x.ends x.later (at + 1) y (node_of (get_or bytes at 0))) (x.kept (at + 1) (omega arith))
            ∙ ap (λ (y : Node). decoded_by s.counts s.array x.ends x.later (at + 1) (get_or W (at + 1) 0) y) (ap node_of (byte_here bytes at h) ∙ e);
      }

  -- the word of a call, by the callee's result kind and its parameters
  pub called_by_lem : (low : ℕ) (ends later : List ℕ) (g : ℕ) (f : Function) (first : ℕ) → get_elem? P g ≡ some f → g < 32
      → length f.params ≤ 4 → Within low ends (length f.params) first → ((p : ℕ) → low ≤ p → get_or later p 0 ≡ get_or W p 0)
      → let small = g % 32 + 32 * length f.params in
      called_by s.array ends later (arguments_of s.counts g) g first
      ≡ placed ends (call_sort_of f.result (length f.params) (leaves_in W (length f.params) (places_of (placed ends call_sort small first)))) small first
  called_by_lem low ends later g f first e below few inside kept =
      let kind : kind_in (signature_in s.array (g % 32)) 4 ≡ f.result =
      ap (λ (k : ℕ). kind_in (signature_in s.array k) 4) (mod-eq_of_lt below) ∙ s.results g f e in
      let small = g % 32 + 32 * length f.params in
      rw (s.arguments g f e, kind, leaves_kept low ends later W kept (length f.params) _ first (stand ends call_sort small first low (length f.params) few inside) inside)

  -- its outcome is that of the word there
  at_word : (d at : ℕ) {w : ℕ} → get_or W at 0 ≡ w → eval d at ≡ eval_word W traces T env d w
  at_word d at e = ap (eval_word W traces T env d) e

  -- ---- Nodes, over an evaluation of operands that comes to it

  module _ (ev : ℕ → ℕ) where
    abbrev Means : Expr → Type 0
    Means e = (δ : Demand) (at : ℕ) (rest : List ℕ) → Meets P Γ δ e → drop at bytes ≡ encode_expr e ++ rest
        → ev at ≡ working_content (body_outcome t calls vs e)

    op_node_lem : (p : Op) (e : Expr) (δ : Demand) (at : ℕ) (rest : List ℕ) → Means e → Meets P Γ δ (op p e) → drop at bytes ≡ encode_expr e ++ rest
        → op_by traces env p (ev at) ≡ working_content (body_outcome t calls vs (op p e))
    unfolding body_outcome
    op_node_lem p e δ at rest ih m h = rw (ih (operand_demand p δ) at rest m.1 h) (applies p)
      where
        list : OfDemand t any_list (body_outcome t calls vs e)
        list = any_list_lem t p δ (body_outcome t calls vs e) m.0 (of_demand_lem e (operand_demand p δ) m.1)

        applies : (o : Op) → op_by traces env o (working_content (body_outcome t calls vs e))
            ≡ working_content (with_value Failed (body_outcome t calls vs e) (operated t o))
        applies hd = head_means t s.samples traces env s.says en.origins (body_outcome t calls vs e) list
        applies tl = tail_means t s.samples (body_outcome t calls vs e) list
        applies null = null_means t s.samples (body_outcome t calls vs e) list

    module _ (low : ℕ) (ends : List ℕ) (u : Ends P bytes low ends) where
      if_node : (c a b : Expr) (δ : Demand) (at : ℕ) (rest : List ℕ) → low ≤ at
          → at + length (encode_expr c) + length (encode_expr a) + length (encode_expr b) ≤ low + most_body → Means c → Means a → Means b → Meets P Γ δ (ifte c a b)
          → drop at bytes ≡ encode_expr c ++ (encode_expr a ++ (encode_expr b ++ rest))
          → Within low ends 3 at
          × (choice ev (end_at ends at) (end_at ends (end_at ends at)) (ev at) ≡ working_content (body_outcome t calls vs (ifte c a b)))
      unfolding body_outcome
      if_node c a b δ at rest l near hc ha hb m h =
          let first = after_operand P bytes low ends u Γ narrow (only truth) c at _ l (omega arith) m.0 h in
          let second = after_operand P bytes low ends u Γ narrow δ a (end_at ends at) _ first.above (omega (arith, near, first.end)) m.1 first.rest in
          let third = after_operand P bytes low ends u Γ narrow δ b (end_at ends (end_at ends at)) rest second.above (omega (arith, near, first.end, second.end)) m.2
          second.rest in (
            (
              l,
              omega (arith, first.within, s.short),
              (first.above, omega (arith, second.within, s.short), (second.above, omega (arith, third.within, s.short), tt)),
            ),
            branch_means t ev at (end_at ends at) (end_at ends (end_at ends at)) (body_outcome t calls vs c) (body_outcome t calls vs a)
                (body_outcome t calls vs b) (of_demand_lem c (only truth) m.0) (hc (only truth) at _ m.0 h)
                (ha δ (end_at ends at) _ m.1 first.rest) (hb δ (end_at ends (end_at ends at)) rest m.2 second.rest),
          )

      -- arguments stand at places that fit a word
      pub args-within : (xs : Args) (κs : List Kind) (at : ℕ) (rest : List ℕ) → low ≤ at → at + length (encode_args xs) ≤ low + most_body → MeetAll P Γ κs xs
          → drop at bytes ≡ encode_args xs ++ rest → Within low ends (length κs) at
      unfolding encode_args
      args-within no_args κs at rest l near m h = rw m tt
      args-within (arg e xs) κs at rest l near m h =
          let here : drop at bytes ≡ encode_expr e ++ (encode_args xs ++ rest) = h ∙ append_assoc (encode_expr e) (encode_args xs) rest in
          let both = length-append (encode_expr e) (encode_args xs) in
          let first = after_operand P bytes low ends u Γ narrow (only m.0) e at (encode_args xs ++ rest) l (omega (arith, near, both)) m.3 here in
          rw m.2 (
            l,
            omega (arith, first.within, s.short),
            args-within xs m.1 (end_at ends at) rest first.above (omega (arith, near, both, first.end)) m.4 first.rest,
          )

      abbrev MeansAll : Args → Type 0
      MeansAll xs = (g : ℕ) (κs : List Kind) (i index places at : ℕ) (rest : List ℕ) (k : List Value → Option Outcome)
          → MeetAll P Γ κs xs → Due t n W T g κs i index k → low ≤ at → at + length (encode_args xs) ≤ low + most_body → Stand ends (length κs) places at
          → drop at bytes ≡ encode_args xs ++ rest
          → args_in W T ev g (length κs) i index places ≡ content_of (with_values Failed (args_outcome t calls vs xs) k)

      arg_node : (e : Expr) (xs : Args) → Means e → MeansAll xs → MeansAll (arg e xs)
      unfolding body_outcome encode_args
      arg_node e xs he ih g κs i index places at rest k m due l near st h =
          let due' : Due t n W T g (m.0 ∷ m.1) i index k = rw m.2 at due in
          let st' : Stand ends (length (m.0 ∷ m.1)) places at = rw m.2 at st in
          let here : drop at bytes ≡ encode_expr e ++ (encode_args xs ++ rest) = h ∙ append_assoc (encode_expr e) (encode_args xs) rest in
          let both = length-append (encode_expr e) (encode_args xs) in
          let first = after_operand P bytes low ends u Γ narrow (only m.0) e at (encode_args xs ++ rest) l (omega (arith, near, both)) m.3 here in
          rw m.2
          (args_one t n W T g i index k m.0 m.1 due' s.samples s.lengths ev at places (body_outcome t calls vs e) (args_outcome t calls vs xs)
          (of_demand_lem e (only m.0) m.3) st'.0 (he (only m.0) at (encode_args xs ++ rest) m.3 here)
          (λ v hv. ih g m.1 (suc i) _ (places / 4096) (end_at ends at) rest _ m.4 (due_next t n W T g i index k m.0 m.1 due' v hv)
          first.above (omega (arith, near, both, first.end)) st'.1 first.rest))

  -- ---- Expressions

  mutual
    unfolding body_outcome encode_expr encode_args depth depth_all

    pub eval_means : (e : Expr) (δ : Demand) (d at : ℕ) (rest : List ℕ) → Meets P Γ δ e → depth e ≤ d → length (encode_expr e) ≤ most_body → drop at bytes ≡ encode_expr e ++ rest
        → eval_at W traces T env d at ≡ working_content (body_outcome t (lookup P t T) vs e)
    eval_means (constant b) δ zero at rest m h fits q = absurd (omega arith)
    eval_means (constant false) δ (suc d) at rest m h fits q =
        at_word (suc d) at (decoded at _ _ _ q node_false).word ∙ constant-word W traces T env d false_code (omega arith)
    eval_means (constant true) δ (suc d) at rest m h fits q =
        at_word (suc d) at (decoded at _ _ _ q node_true).word ∙ constant-word W traces T env d true_code (omega arith)
    eval_means (empty c) δ zero at rest m h fits q = absurd (omega arith)
    eval_means (empty Ram) δ (suc d) at rest m h fits q =
        at_word (suc d) at (decoded at _ _ _ q node_empty).word ∙ constant-word W traces T env d suffix_code (omega arith)
    eval_means (empty Guard) δ (suc d) at rest m h fits q =
        at_word (suc d) at (decoded at _ _ _ q node_empty_guard).word ∙ constant-word W traces T env d guard_code (omega arith)
    eval_means (param i) δ zero at rest m h fits q = absurd (omega arith)
    eval_means (param i) δ (suc d) at rest m h fits q =
        let l : i < 4 = omega (arith, place-below Γ i m.0 m.1, narrow) in
        at_word (suc d) at (decoded at _ _ _ q (node_param l)).word ∙ param-word W traces T env d i l ∙ param_value_lem i m.0 m.1
    eval_means (op p e) δ zero at rest m h fits q = absurd (omega arith)
    eval_means (op p e) δ (suc zero) at rest m h fits q = absurd (omega (arith, depth_pos e))
    eval_means (op p e) δ (suc (suc d)) at rest m h fits q =
        let l : depth e ≤ suc d = omega arith in
        let x = decoded at _ _ _ q (node_op p) in
        let after = bytes_after bytes at q in
        let place = after_operand P bytes (at + 1) x.ends x.right Γ narrow (operand_demand p δ) e (at + 1) rest (omega arith) (omega (arith, fits)) m.1 after in
        at_word (suc (suc d)) at x.word
        ∙ op-word W traces T env s.counts s.array x.ends x.later p d (at + 1) (omega (arith, place.within, s.short))
        ∙ op_node_lem (eval (suc d)) p e δ (at + 1) rest (λ δ' to r k w. eval_means e δ' (suc d) to r k l (omega (arith, fits)) w) m after
    eval_means (ifte c a b) δ zero at rest m h fits q = absurd (omega arith)
    eval_means (ifte c a b) δ (suc zero) at rest m h fits q = absurd (omega (arith, depth_pos c))
    eval_means (ifte c a b) δ (suc (suc d)) at rest m h fits q =
        let lc : depth c ≤ suc d = omega arith in
        let la : depth a ≤ suc d = omega arith in
        let lb : depth b ≤ suc d = omega arith in
        let all : length (encode_expr c ++ (encode_expr a ++ encode_expr b)) ≡ length (encode_expr c) + (length (encode_expr a) + length (encode_expr b)) = simp length-append in
        let x = decoded at _ _ _ q node_if in
        let node = if_node (eval (suc d)) (at + 1) x.ends x.right c a b δ (at + 1) rest (omega arith) (omega (arith, fits, all))
        (λ δ' to r k w. eval_means c δ' (suc d) to r k lc (omega (arith, fits, all)) w)
        (λ δ' to r k w. eval_means a δ' (suc d) to r k la (omega (arith, fits, all)) w)
        (λ δ' to r k w. eval_means b δ' (suc d) to r k lb (omega (arith, fits, all)) w) m
        (bytes_after bytes at q ∙ append_four (encode_expr c) (encode_expr a) (encode_expr b) rest) in
        at_word (suc (suc d)) at x.word ∙ if_word W traces T env (at + 1) x.ends d (at + 1) node.0 ∙ node.1
    eval_means (call g xs) δ zero at rest m h fits q = absurd (omega arith)
    eval_means (call g xs) δ (suc d) at rest m h fits q =
        let l : depth_all xs ≤ d = omega arith in
        let f = m.0 in
        let below : g < 32 = omega (arith, place-below P g f m.1, s.functions) in
        let few : length f.params ≤ 4 = s.params g f m.1 in
        let x = decoded at _ _ _ q (node_call below) in
        let after = bytes_after bytes at q in
        let inside = args-within (eval d) (at + 1) x.ends x.right xs f.params (at + 1) rest (omega arith) (omega (arith, fits)) m.3 after in
        at_word (suc d) at (x.word ∙ called_by_lem (at + 1) x.ends x.later g f (at + 1) m.1 below few inside x.kept)
        ∙ call-word W traces T env x.ends d g (length f.params) (at + 1) below few (args-deep P Γ xs f.params d m.3 l) f.result
        ∙ ap (λ (k : ℕ). result_code f.result k)
        (args_mean xs d l (at + 1) x.ends x.right g f.params 0 0 _ (at + 1) rest
        (calls g) m.3 (due_first P t n bytes W traces s T g f m.1) (omega arith) (omega (arith, fits)) (stand x.ends _ _ (at + 1) (at + 1) (length f.params) few inside) after)
        ∙ result_means t s.samples f.result (body_outcome t calls vs (call g xs)) (of_demand_lem (call g xs) (only f.result) (f, m.1, allows-own f.result, m.3))

    args_mean : (xs : Args) (d : ℕ) → depth_all xs ≤ d → (low : ℕ) (ends : List ℕ) (u : Ends P bytes low ends) → MeansAll (eval d) low ends u xs
    args_mean no_args d h low ends u g κs i index places at rest k m due l near st w =
        rw m (args_none t n W T g i index k (rw m at due) (eval d) places)
    args_mean (arg e xs) d h low ends u g κs i index places at rest k m due l near st w =
        let both = length-append (encode_expr e) (encode_args xs) in
        let le : depth e ≤ d = omega arith in
        let lx : depth_all xs ≤ d = omega arith in
        arg_node (eval d) low ends u e xs (λ δ' to r y w'. eval_means e δ' d to r y le (omega (arith, near, both)) w')
        (λ g' κs' i' index' places' to r k' y due' l' near' st' w'. args_mean xs d lx low ends u g' κs' i' index' places' to r k' y due' l' near' st' w')
        g κs i index places at rest k m due l near st w
