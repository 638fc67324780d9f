-- 'What is refused', 5 to 17, 25 and 26, of documents 01 and 02: any bytes are read as a program, or refused by the first
-- number that applies. 'In 7 to 9 the first function at fault decides; in 12 to 17 the first function, and in it the
-- first byte'; at one byte the lowest number, 25 and 26 'in the place of 16'.
use Rattle.std.specs.Prelude.{ℕ, zero, suc, Bool, true, false, not, ◌&&◌, ◌||◌, List, [], ◌∷◌, map, length, get_or, take, drop, ltb, eqb, Result, Ok, Err, None}
use Rattle.std.proofs.Math.Option.{Option, none, some}
use Rattle.std.proofs.Math.ListN.{get_elem?}
use Rattle.refusal.specs.declared.Refusal.{Refusal}
use Rattle.refusal.specs.declared.Refusal.TheVariants.{ProgramLength, FunctionCount, BytesAfterFunctions, MainKind, BodyEnds, TooDeep, ListConstructor, UnknownByte, WrongKind, OperandKind, ArgumentKind, BytesAfterExpression}
use Rattle.refusal.specs.{Check, passed}
use Rattle.trace.specs.{bit_of}
use Rattle.semantics.specs.declared.Contact.TheVariants.{Ram, Guard}
use Rattle.semantics.specs.declared.Sort.{Sort}
use Rattle.semantics.specs.declared.Sort.TheVariants.{One, Two}
use Rattle.semantics.specs.declared.Kind.{Kind}
use Rattle.semantics.specs.declared.Kind.TheVariants.{Truth as truth, List as list}
use Rattle.semantics.specs.Language.{Op, hd, tl, null, Expr, constant, empty, param, op, ifte, call, Args, no_args, arg, Function, Program, main_params}
use Rattle.semantics.specs.declared.Demand.TheVariants.{Only as only}
use Rattle.semantics.specs.Language.{allows, op_allowed, operand_demand}
use Rattle.rule.specs.Wanted.{Wanted, takes}
use Rattle.syntax.specs.declared.Node.{Node}
use Rattle.syntax.specs.declared.Node.TheVariants as node
use Rattle.syntax.specs.declared.Header.{Header}
use Rattle.syntax.specs.Limits.{most_depth, most_bytes}
use Rattle.syntax.specs.Bytes.{sort_in, count_in, count_fault, header_bytes, header_of, node_of}
use Rattle.syntax.specs.Kinds.{kind_by}
use Rattle.rule.specs.declared.expression.Fault.{Fault}
use Rattle.rule.specs.declared.expression.Fault.TheVariants.{InResult as in_result, InOperand as in_operand, InArgument as in_argument}
use Rattle.rule.specs.declared.expression.Place.{Place}

-- what was read and the bytes after it, or the refusal
pub data Parsed (A : Type 0) : Type 0 where
  got : A → List ℕ → Parsed A
  refused : Refusal → Parsed A

-- go on after what was read
abbrev pub onward : {A B : Type 0} → Parsed A → (A → List ℕ → Parsed B) → Parsed B
onward (got a rest) k = k a rest
onward (refused f) k = refused f

-- a refusal where a test holds, else go on
abbrev pub unless_fault : {A : Type 0} → Bool → Refusal → Parsed A → Parsed A
unless_fault true f p = refused f
unless_fault false f p = p

-- ---- Headers; their refusals, 7 to 9, are those of `header_of`

-- the kind that bits i of a kinds byte and of a guard byte say
abbrev pub kind_at : ℕ → ℕ → ℕ → Kind
kind_at kinds guard i = kind_by (bit_of i kinds) (bit_of i guard)

-- the kinds that n bits of both say, from bit i on
unfoldable pub kinds_from : ℕ → ℕ → ℕ → ℕ → List Kind
kinds_from kinds guard i zero = []
kinds_from kinds guard i (suc n) = kind_at kinds guard i ∷ kinds_from kinds guard (suc i) n

abbrev pub param_kinds : Header → List Kind
param_kinds h = kinds_from h.kinds h.guard 0 h.params

abbrev pub result_kind : Header → Kind
result_kind h = kind_at h.kinds h.guard 4

-- a function whose body is not read yet
pub record Raw : Type 0 where
  pub header : Header
  pub body : List ℕ

-- the header and body at the front of some bytes
abbrev pub raw_from : Sort → Result Header Refusal → List ℕ → Parsed Raw
raw_from s (Err f) bs = refused f
raw_from s (Ok h) bs =
    let body = drop (header_bytes s) bs in
    got (record { header = h; body = take h.length body }) (drop h.length body)

unfoldable pub raws_from : Sort → ℕ → List ℕ → Parsed (List Raw)
raws_from s zero bs = got [] bs
raws_from s (suc n) bs = onward (raw_from s (header_of s bs) bs) (λ x rest. onward (raws_from s n rest) (λ xs rest'. got (x ∷ xs) rest'))

-- ---- Places of an expression

-- a Fault is where a node of the wrong kind stands: in 'a body's or branch's result where a whole body demands it', 'in an operand
-- of hd, tl, null or a condition', 'in an argument'; a Place is what is demanded there, and which fault a node of another kind is

-- a whole body, of its function's result kind
abbrev pub body_place : Kind → Place
body_place κ = record { demand = only κ; fault = in_result }

-- a condition
abbrev pub condition_place : Place
condition_place = record { demand = only truth; fault = in_operand }

-- the operand of hd, tl or null, which stands in a place itself
abbrev pub operand_place : Op → Place → Place
operand_place p place = record { demand = operand_demand p place.demand; fault = in_operand }

-- an argument, of its parameter's kind
abbrev pub argument_place : Kind → Place
argument_place κ = record { demand = only κ; fault = in_argument }

-- a reader of the expression at a place
abbrev pub Reader : Type 0
Reader = Place → List ℕ → Parsed Expr

-- the arguments of a call
unfoldable pub args_from : Reader → List Kind → List ℕ → Parsed Args
args_from read [] bs = got no_args bs
args_from read (κ ∷ κs) bs = onward (read (argument_place κ) bs) (λ e rest. onward (args_from read κs rest) (λ xs rest'. got (arg e xs) rest'))

-- an if hands its own place, the demand and the fault, to both branches; so 'the nearest such place around the node decides'
abbrev pub if_from : Reader → Place → List ℕ → Parsed Expr
if_from read place bs =
    onward (read condition_place bs)
    (λ c rest. onward (read place rest)
    (λ a rest'. onward (read place rest') (λ b rest''. got (ifte c a b) rest'')))

-- ---- Expressions: 12 to 16, 25, 26

-- the number of a fault: 16, 25 or 26
abbrev pub apart : Fault → Refusal
apart in_result = WrongKind
apart in_operand = OperandKind
apart in_argument = ArgumentKind

-- the reading is said for any telling of faults: for `apart` in what is promised, and for one number for all of them in OneNumber
module _ (told : Fault → Refusal) where
  -- 16, 25, 26: 'the node's kind is not the one its place demands'
  abbrev pub demanded : {A : Type 0} → Place → Kind → Parsed A → Parsed A
  demanded place kind p = unless_fault (not (allows place.demand kind)) (told place.fault) p

  -- 15: 0x03 in a program of one contact
  abbrev pub guard_empty_from : Sort → Place → List ℕ → Parsed Expr
  guard_empty_from One place bs = refused UnknownByte
  guard_empty_from Two place bs = demanded place (list Guard) (got (empty Guard) bs)

  -- 15: a parameter or a function that is absent
  abbrev pub param_from : Option Kind → Place → ℕ → List ℕ → Parsed Expr
  param_from none place i bs = refused UnknownByte
  param_from (some kind) place i bs = demanded place kind (got (param i) bs)

  abbrev pub call_from : Option Header → Reader → Place → ℕ → List ℕ → Parsed Expr
  call_from none read place g bs = refused UnknownByte
  call_from (some h) read place g bs =
      demanded place (result_kind h) (onward (args_from read (param_kinds h) bs) (λ xs rest. got (call g xs) rest))

  -- hd, tl and null; 16, 25, 26: where it may not stand
  abbrev pub op_from : Op → Reader → Place → List ℕ → Parsed Expr
  op_from p read place bs =
      unless_fault (not (op_allowed p place.demand)) (told place.fault)
      (onward (read (operand_place p place) bs) (λ e rest. got (op p e) rest))

  -- a node, its operands read by `read`; H are the headers of the program, Γ the kinds of the parameters;
  -- 14: 'the byte is 0x24', 15: 'the byte is not in the table'
  abbrev pub node_from : Sort → List Header → List Kind → Reader → Place → Node → List ℕ → Parsed Expr
  node_from s H Γ read place node.False bs = demanded place truth (got (constant false) bs)
  node_from s H Γ read place node.True bs = demanded place truth (got (constant true) bs)
  node_from s H Γ read place node.Empty bs = demanded place (list Ram) (got (empty Ram) bs)
  node_from s H Γ read place node.EmptyGuard bs = guard_empty_from s place bs
  node_from s H Γ read place (node.Param i) bs = param_from (get_elem? Γ i) place i bs
  node_from s H Γ read place node.Head bs = op_from hd read place bs
  node_from s H Γ read place node.Tail bs = op_from tl read place bs
  node_from s H Γ read place node.Null bs = op_from null read place bs
  node_from s H Γ read place node.If bs = if_from read place bs
  node_from s H Γ read place node.Cons bs = refused ListConstructor
  node_from s H Γ read place (node.Call g) bs = call_from (get_elem? H g) read place g bs
  node_from s H Γ read place node.Unknown bs = refused UnknownByte

  -- an expression that meets what its place demands, at most d nodes deep, in a program of a sort;
  -- 12: 'the body ends where a node is due', 13: 'a node would be the 65th in depth'
  unfoldable pub expr_from : Sort → List Header → List Kind → ℕ → Reader
  expr_from s H Γ zero place [] = refused BodyEnds
  expr_from s H Γ zero place (b ∷ bs) = refused TooDeep
  expr_from s H Γ (suc d) place [] = refused BodyEnds
  expr_from s H Γ (suc d) place (b ∷ bs) = node_from s H Γ (λ π rest. expr_from s H Γ d π rest) place (node_of b) bs

-- ---- Functions: 17

-- 'bytes remain in the body after its expression'
abbrev pub whole_body : Header → Parsed Expr → Parsed Function
whole_body h (got e []) = got (record { params = param_kinds h; result = result_kind h; body = e }) []
whole_body h (got e (b ∷ bs)) = refused BytesAfterExpression
whole_body h (refused f) = refused f

module _ (told : Fault → Refusal) where
  abbrev pub function_from : Sort → List Header → Raw → Parsed Function
  function_from s H x =
      whole_body x.header (expr_from told s H (param_kinds x.header) most_depth (body_place (result_kind x.header)) x.body)

  unfoldable pub functions_from : Sort → List Header → List Raw → Parsed Program
  functions_from s H [] = got [] []
  functions_from s H (x ∷ xs) = onward (function_from s H x) (λ f rest. onward (functions_from s H xs) (λ fs rest'. got (f ∷ fs) rest'))

-- ---- Programs: 5, 6, 10, 11

-- 11: 'function 0 is not of main's kind'
abbrev pub same_kinds : List Kind → List Kind → Bool
same_kinds [] [] = true
same_kinds [] (κ ∷ κs) = false
same_kinds (κ ∷ κs) [] = false
same_kinds (κ ∷ κs) (κ' ∷ κs') = allows (only κ) κ' && same_kinds κs κs'

abbrev pub main_first : Sort → List Header → Bool
main_first s [] = false
main_first s (h ∷ hs) = same_kinds (main_params s) (param_kinds h) && allows (only truth) (result_kind h)

abbrev pub headers : List Raw → List Header
headers xs = map (λ (x : Raw). x.header) xs

-- 10: 'bytes remain after the last function'
abbrev pub bodies_from : (Fault → Refusal) → Sort → List Raw → List ℕ → Parsed Program
bodies_from told s xs rest =
    unless_fault (not (eqb (length rest) 0)) BytesAfterFunctions
    (unless_fault (not (main_first s (headers xs))) MainKind
    (functions_from told s (headers xs) xs))

-- the sort of a program's bytes
abbrev pub program_sort : List ℕ → Sort
program_sort bs = sort_in (get_or bs 0 0)

-- 5: 'the program is empty or longer than 4,096 bytes', 6: the function count, and 'a program of the wrong sort for the format or
-- the traces given'
unfoldable pub program_by : (Fault → Refusal) → Wanted → List ℕ → Parsed Program
program_by told wanted bs =
    unless_fault (eqb (length bs) 0 || ltb most_bytes (length bs)) ProgramLength
    (unless_fault (count_fault (get_or bs 0 0) || not (takes wanted (program_sort bs))) FunctionCount
    (onward (raws_from (program_sort bs) (count_in (get_or bs 0 0)) (drop 1 bs)) (bodies_from told (program_sort bs))))

-- with the numbers of the list
abbrev pub program_for : Wanted → List ℕ → Parsed Program
program_for wanted bs = program_by apart wanted bs

-- the program that bytes of either sort are read as; of refused bytes, one of no functions
abbrev pub program_in : Parsed Program → Program
program_in (got P rest) = P
program_in (refused f) = []

abbrev pub program_of : List ℕ → Program
program_of bs = program_in (program_for None bs)

-- the check of a program, 5 to 17, 25 and 26
abbrev pub check_from : {A : Type 0} → Parsed A → Check
check_from (got a rest) = passed
check_from (refused f) = Err f

unfoldable pub program_check : Wanted → List ℕ → Check
program_check wanted bs = check_from (program_for wanted bs)
