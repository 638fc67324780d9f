-- Kind faults told apart, and told by one number:
--   told_as_one            the same programs are read, and the same bytes refused, by the same numbers but for kind faults
--   kind_faults            16, 25 or 26 is met exactly where 16 was met when it was the number of all kind faults
use Rattle.std.specs.Prelude.{Err, Ok}
use Prim.Native.Nat.{ℕ, zero, suc, ◌-◌}
use mathlib.Core.Path.{◌≡◌, refl, sym}
use mathlib.Core.Bool.{Bool, true, false, not, ◌&&◌, ◌||◌, cond}
use mathlib.Core.List.{List, [], ◌∷◌}
use mathlib.Core.Option.{Option, none, some}
use lib.Dec.{T, ltb, eqb}
use lib.ListN.{length, get_elem?, get_or, drop}
use Rattle.refusal.specs.declared.Refusal.{Refusal}
use Rattle.refusal.specs.declared.Refusal.TheVariants.{ProgramLength, FunctionCount, HeaderCut, ParameterKinds, BodyLength, BytesAfterFunctions, MainKind, BodyEnds, TooDeep, ListConstructor, UnknownByte, WrongKind, OperandKind, ArgumentKind, BytesAfterExpression}
use Rattle.refusal.specs.{number_of}
use Rattle.refusal.proofs.Numbers as numbers
use Rattle.semantics.specs.declared.Contact.TheVariants.{Ram, Guard}
use Rattle.semantics.specs.declared.Sort.{Sort}
use Rattle.semantics.specs.declared.Sort.TheVariants.{One, Two}
use Rattle.semantics.specs.declared.Kind.{Kind}
use Rattle.semantics.specs.declared.Kind.TheVariants.{Truth as truth, List as list}
use Rattle.semantics.specs.Language.{Op, hd, tl, null, Expr, op, ifte, call, arg, Program, allows, op_allowed}
use Rattle.syntax.specs.declared.Node.{Node}
use Rattle.syntax.specs.declared.Node.TheVariants as node
use Rattle.syntax.specs.declared.Header.{Header}
use Rattle.syntax.specs.Limits.{most_depth, most_bytes}
use Rattle.syntax.specs.Bytes.{count_in, count_fault, header_bytes, guard_byte_in, kinds_fault, guard_fault, length_fault, body_length, header_of, node_of}
use Rattle.rule.specs.Wanted.{Wanted}
use Rattle.rule.specs.declared.expression.Fault.{Fault}
use Rattle.rule.specs.declared.expression.Fault.TheVariants.{InResult as in_result, InOperand as in_operand, InArgument as in_argument}
use Rattle.rule.specs.declared.expression.Place.{Place}
use Rattle.rule.specs.Reading.{Parsed, got, refused, onward, unless_fault, param_kinds, result_kind, Raw, raw_from, raws_from, body_place, condition_place, operand_place, argument_place, Reader, args_from, if_from}
use Rattle.rule.specs.Wanted.{takes}
use Rattle.rule.specs.Reading.{apart, guard_empty_from, param_from, call_from, op_from, node_from, expr_from, whole_body, functions_from, main_first, headers, bodies_from, program_sort, program_by, program_for, check_from, program_check}
use Rattle.rule.specs.OneNumber.{alike, program_before, NoKindFault, Told, read, kind_fault, other, SameFaults}

-- ---- Refusals that are no kind faults

-- by their numbers
abbrev apart_from : Refusal → Bool
apart_from f =
    not (eqb (number_of f) (number_of WrongKind))
    && (not (eqb (number_of f) (number_of OperandKind)) && not (eqb (number_of f) (number_of ArgumentKind)))

no_fault : (f : Refusal) → T (apart_from f) → NoKindFault f
no_fault f h φ e = go φ (rw e at h)
  where
    go : (φ : Fault) → T (apart_from (apart φ)) → ⊥
    go in_result h = h
    go in_operand h = h
    go in_argument h = h

-- ---- Readings one after the other

told-other : {A : Type 0} (f : Refusal) → T (apart_from f) → Told {A = A} (refused f) (refused f)
told-other f h = other f (no_fault f h)

told-onward : {A B : Type 0} {p q : Parsed A} {k l : A → List ℕ → Parsed B} → Told p q → ((a : A) (rest : List ℕ) → Told (k a rest) (l a rest))
    → Told (onward p k) (onward q l)
told-onward (read a rest) more = more a rest
told-onward (kind_fault φ) more = kind_fault φ
told-onward (other f h) more = other f h

-- the same done with what was read
told_part : {A B : Type 0} {p q : Parsed A} (f : A → B) → Told p q → Told (onward p (λ a rest. got (f a) rest)) (onward q (λ a rest. got (f a) rest))
told_part f t = told-onward t (λ a rest. read (f a) rest)

-- the same test refuses both, by a kind fault or by the same number
told-fault : {A : Type 0} {p q : Parsed A} (t : Bool) (φ : Fault) → Told p q → Told (unless_fault t (apart φ) p) (unless_fault t (alike φ) q)
told-fault true φ h = kind_fault φ
told-fault false φ h = h

told_unless : {A : Type 0} {p q : Parsed A} (t : Bool) (f : Refusal) → T (apart_from f) → Told p q → Told (unless_fault t f p) (unless_fault t f q)
told_unless true f o h = told-other f o
told_unless false f o h = h

-- ---- Expressions

module _ (s : Sort) (H : List Header) (Γ : List Kind) where
  module _ (now before : Reader) (agree : (π : Place) (bs : List ℕ) → Told (now π bs) (before π bs)) where
    args-told : (κs : List Kind) (bs : List ℕ) → Told (args_from now κs bs) (args_from before κs bs)
    unfolding args_from
    args-told [] bs = read _ bs
    args-told (κ ∷ κs) bs = told-onward (agree (argument_place κ) bs) (λ e rest. told_part (arg e) (args-told κs rest))

    guard_told : (s : Sort) (π : Place) (bs : List ℕ) → Told (guard_empty_from apart s π bs) (guard_empty_from alike s π bs)
    guard_told One π bs = told-other UnknownByte tt
    guard_told Two π bs = told-fault (not (allows π.demand (list Guard))) π.fault (read _ bs)

    param-told : (kind : Option Kind) (π : Place) (i : ℕ) (bs : List ℕ) → Told (param_from apart kind π i bs) (param_from alike kind π i bs)
    param-told none π i bs = told-other UnknownByte tt
    param-told (some κ) π i bs = told-fault (not (allows π.demand κ)) π.fault (read _ bs)

    call-told : (head : Option Header) (π : Place) (g : ℕ) (bs : List ℕ)
        → Told (call_from apart head now π g bs) (call_from alike head before π g bs)
    call-told none π g bs = told-other UnknownByte tt
    call-told (some h) π g bs =
        told-fault (not (allows π.demand (result_kind h))) π.fault (told_part (call g) (args-told (param_kinds h) bs))

    op-told : (p : Op) (π : Place) (bs : List ℕ) → Told (op_from apart p now π bs) (op_from alike p before π bs)
    op-told p π bs = told-fault (not (op_allowed p π.demand)) π.fault (told_part (op p) (agree (operand_place p π) bs))

    if_told : (π : Place) (bs : List ℕ) → Told (if_from now π bs) (if_from before π bs)
    if_told π bs =
        told-onward (agree condition_place bs) (λ c rest.
        told-onward (agree π rest) (λ a rest'.
        told_part (ifte c a) (agree π rest')))

    node_told : (π : Place) (n : Node) (bs : List ℕ) → Told (node_from apart s H Γ now π n bs) (node_from alike s H Γ before π n bs)
    node_told π node.False bs = told-fault (not (allows π.demand truth)) π.fault (read _ bs)
    node_told π node.True bs = told-fault (not (allows π.demand truth)) π.fault (read _ bs)
    node_told π node.Empty bs = told-fault (not (allows π.demand (list Ram))) π.fault (read _ bs)
    node_told π node.EmptyGuard bs = guard_told s π bs
    node_told π (node.Param i) bs = param-told (get_elem? Γ i) π i bs
    node_told π node.Head bs = op-told hd π bs
    node_told π node.Tail bs = op-told tl π bs
    node_told π node.Null bs = op-told null π bs
    node_told π node.If bs = if_told π bs
    node_told π node.Cons bs = told-other ListConstructor tt
    node_told π (node.Call g) bs = call-told (get_elem? H g) π g bs
    node_told π node.Unknown bs = told-other UnknownByte tt

  expr_told : (d : ℕ) (π : Place) (bs : List ℕ) → Told (expr_from apart s H Γ d π bs) (expr_from alike s H Γ d π bs)
  unfolding expr_from
  expr_told zero π [] = told-other BodyEnds tt
  expr_told zero π (b ∷ bs) = told-other TooDeep tt
  expr_told (suc d) π [] = told-other BodyEnds tt
  expr_told (suc d) π (b ∷ bs) =
      node_told (λ π' rest. expr_from apart s H Γ d π' rest) (λ π' rest. expr_from alike s H Γ d π' rest) (λ π' rest. expr_told d π' rest) π (node_of b) bs

-- ---- Functions and programs

whole-told : (h : Header) {p q : Parsed Expr} → Told p q → Told (whole_body h p) (whole_body h q)
whole-told h (read e []) = read _ []
whole-told h (read e (b ∷ bs)) = told-other BytesAfterExpression tt
whole-told h (kind_fault φ) = kind_fault φ
whole-told h (other f o) = other f o

functions-told : (s : Sort) (H : List Header) (xs : List Raw) → Told (functions_from apart s H xs) (functions_from alike s H xs)
unfolding functions_from
functions-told s H [] = read [] []
functions-told s H (x ∷ xs) =
    told-onward (whole-told x.header (expr_told s H (param_kinds x.header) most_depth (body_place (result_kind x.header)) x.body))
    (λ f rest. told_part (λ (fs : Program). f ∷ fs) (functions-told s H xs))

-- a header is refused by 7 to 9
raw_told : (s : Sort) (bs : List ℕ) → Told (raw_from s (header_of s bs) bs) (raw_from s (header_of s bs) bs)
unfolding header_of
raw_told s bs =
    go (ltb (length bs) (header_bytes s)) (kinds_fault (get_or bs 0 0) (get_or bs 1 0) || guard_fault (get_or bs 1 0) (guard_byte_in s bs))
    (length_fault (body_length s bs) (length bs - header_bytes s))
  where
    said : Bool → Bool → Bool → Parsed Raw
    said a b c =
        raw_from s
        (cond a (Err HeaderCut)
        (cond b (Err ParameterKinds)
        (cond c (Err BodyLength)
        (Ok (record { params = get_or bs 0 0; kinds = get_or bs 1 0; guard = guard_byte_in s bs; length = body_length s bs })))))
        bs

    go : (a b c : Bool) → Told (said a b c) (said a b c)
    go true b c = told-other HeaderCut tt
    go false true c = told-other ParameterKinds tt
    go false false true = told-other BodyLength tt
    go false false false = read _ _

raws_told : (s : Sort) (n : ℕ) (bs : List ℕ) → Told (raws_from s n bs) (raws_from s n bs)
unfolding raws_from
raws_told s zero bs = read [] bs
raws_told s (suc n) bs = told-onward (raw_told s bs) (λ x rest. told_part (λ (xs : List Raw). x ∷ xs) (raws_told s n rest))

bodies_told : (s : Sort) (xs : List Raw) (rest : List ℕ) → Told (bodies_from apart s xs rest) (bodies_from alike s xs rest)
bodies_told s xs rest =
    told_unless (not (eqb (length rest) 0)) BytesAfterFunctions tt
    (told_unless (not (main_first s (headers xs))) MainKind tt
    (functions-told s (headers xs) xs))

pub told_as_one : (wanted : Wanted) (bs : List ℕ) → Told (program_for wanted bs) (program_before wanted bs)
unfolding program_by
told_as_one wanted bs =
    let s = program_sort bs in
    told_unless (eqb (length bs) 0 || ltb most_bytes (length bs)) ProgramLength tt
    (told_unless (count_fault (get_or bs 0 0) || not (takes wanted s)) FunctionCount tt
    (told-onward (raws_told s (count_in (get_or bs 0 0)) (drop 1 bs)) (bodies_told s)))

-- ---- Where kind faults are met

fault-before : {p q : Parsed Program} → Told p q → check_from q ≡ Err WrongKind → (φ : Fault) × (check_from p ≡ Err (apart φ))
fault-before (read P rest) e = absurd (numbers.refused (sym e))
fault-before (kind_fault φ) e = (φ, refl)
fault-before (other f o) e = absurd (o in_result (numbers.refused_same e))

fault_now : {p q : Parsed Program} → Told p q → (φ : Fault) → check_from p ≡ Err (apart φ) → check_from q ≡ Err WrongKind
fault_now (read P rest) φ e = absurd (numbers.refused (sym e))
fault_now (kind_fault φ') φ e = refl
fault_now (other f o) φ e = absurd (o φ (numbers.refused_same e))

pub kind_faults : SameFaults
unfolding program_check
kind_faults wanted bs = (
  λ w. fault_now (told_as_one wanted bs) w.0 w.1,
  λ e. fault-before (told_as_one wanted bs) e,
)
