-- A mirror of the code: expressions checked by positions in a body; functions by their places. What a walk comes to is a position
-- in the body, or a refusal. No reader need believe it: proofs/ shows that it comes to what Reading says.
use Rattle.std.specs.Prelude.{ℕ, zero, suc, ◌+◌, ◌-◌, ◌<◌, ◌≤◌, Bool, ◌&&◌, cond, List, [], ◌∷◌, map, ltb, leb, eqb, length, get_or, take, drop, Result, Ok, Err}
use Rattle.refusal.specs.declared.Refusal.{Refusal}
use Rattle.refusal.specs.declared.Refusal.TheVariants.{BodyEnds, TooDeep, ListConstructor, UnknownByte, BytesAfterExpression}
use Rattle.refusal.specs.{Check, passed, ◌then◌}
use Rattle.semantics.specs.declared.Contact.TheVariants.{Ram, Guard}
use Rattle.semantics.specs.declared.Sort.{Sort}
use Rattle.semantics.specs.declared.Sort.TheVariants.{One, Two}
use Rattle.semantics.specs.declared.Kind.{Kind}
use Rattle.semantics.specs.declared.Kind.TheVariants.{Truth as truth, List as list}
use Rattle.semantics.specs.declared.Demand.TheVariants.{Only as only}
use Rattle.semantics.specs.Language.{hd, tl, allows}
use Rattle.syntax.specs.declared.Node.{Node}
use Rattle.syntax.specs.declared.Node.TheVariants as node
use Rattle.rule.specs.declared.Outline.{Outline}
use Rattle.rule.specs.declared.expression.Place.{Place}
use Rattle.rule.specs.declared.expression.Frame.{Frame as Lent}
use Rattle.rule.specs.declared.functions.Scan.{Scan}
use Rattle.syntax.specs.Limits.{most_functions, most_params, most_depth, most_bytes}
use Rattle.rule.specs.Form.{padded}
use Rattle.syntax.specs.Bytes.{header_bytes, node_of}
use Rattle.rule.specs.Reading.{Parsed, got, refused, Raw, kind_at, body_place, condition_place, operand_place, argument_place, apart}

abbrev pub at_most_four : ℕ → ℕ
at_most_four count = cond (ltb count 5) count 4

-- ---- Expressions

-- what a check of a body works on: its bytes, the program's functions and which of them it is of
pub record Frame : Type 0 where
  pub body : List ℕ
  pub sort : Sort
  pub outline : Outline
  pub own : ℕ

-- what the code's frame lends
abbrev pub frame_of : Lent → Frame
frame_of lent = record { body = lent.body.now; sort = lent.sort; outline = lent.outline.now; own = lent.own }

-- the header of the body's function
abbrev pub own_params : Frame → ℕ
own_params F = get_or F.outline.params F.own 0

abbrev pub own_kinds : Frame → ℕ
own_kinds F = get_or F.outline.kinds F.own 0

abbrev pub own_guard : Frame → ℕ
own_guard F = get_or F.outline.guards F.own 0

-- a frame within the limits of a program
pub record Sized (F : Frame) : Type 0 where
  pub short : length F.body ≤ most_bytes
  pub few : F.outline.functions ≤ most_functions
  pub there : F.own < F.outline.functions
  pub own : own_params F ≤ most_params

-- what a part of an expression comes to: the position after it, or a refusal
abbrev pub Walked : Type 0
Walked = Result ℕ Refusal

-- go on after it
abbrev pub after : Walked → (ℕ → Walked) → Walked
after (Ok at) walk = walk at
after (Err f) walk = Err f

-- what comes of a node of a kind, where it meets the demand of its place
abbrev pub where_met : Place → Kind → Walked → Walked
where_met place kind w = cond (allows place.demand kind) w (Err (apart place.fault))

unfoldable pub leaf_walked : Place → Kind → ℕ → Walked
leaf_walked place kind next = where_met place kind (Ok next)

unfoldable pub param_walked : Frame → Place → ℕ → ℕ → Walked
param_walked F place i next =
    cond (ltb i (own_params F)) (leaf_walked place (kind_at (own_kinds F) (own_guard F) i) next) (Err UnknownByte)

-- the empty guard list, where there are two contacts
unfoldable pub guard_empty_walked : Sort → Place → ℕ → Walked
guard_empty_walked One place next = Err UnknownByte
guard_empty_walked Two place next = leaf_walked place (list Guard) next

-- so many arguments, from argument i on
unfoldable pub args_walked : (Place → ℕ → Walked) → ℕ → ℕ → ℕ → ℕ → ℕ → Walked
args_walked walk kinds guard zero i at = Ok at
args_walked walk kinds guard (suc n) i at = after (walk (argument_place (kind_at kinds guard i)) at) (args_walked walk kinds guard n (i + 1))

abbrev pub arms_walked : (Place → ℕ → Walked) → Place → ℕ → Walked
arms_walked walk place at = after (walk condition_place at) (λ second. after (walk place second) (walk place))

abbrev pub call_walked : Frame → (Place → ℕ → Walked) → Place → ℕ → ℕ → Walked
call_walked F walk place at g =
    let kinds = get_or F.outline.kinds g 0 in
    let guard = get_or F.outline.guards g 0 in
    cond (leb F.outline.functions g) (Err UnknownByte)
    (where_met place (kind_at kinds guard 4) (args_walked walk kinds guard (at_most_four (get_or F.outline.params g 0)) 0 at))

-- hd or null: a Bool, of a list of either contact
abbrev pub read_walked : (Place → ℕ → Walked) → Place → ℕ → Walked
read_walked walk place at = where_met place truth (walk (operand_place hd place) at)

-- tl: a list of the contact that is demanded
abbrev pub tail_walked : (Place → ℕ → Walked) → Place → ℕ → Walked
tail_walked walk place at = cond (allows place.demand truth) (Err (apart place.fault)) (walk (operand_place tl place) at)

abbrev pub node_walked : Frame → (Place → ℕ → Walked) → Place → ℕ → Node → Walked
node_walked F walk place at node.False = leaf_walked place truth at
node_walked F walk place at node.True = leaf_walked place truth at
node_walked F walk place at node.Empty = leaf_walked place (list Ram) at
node_walked F walk place at node.EmptyGuard = guard_empty_walked F.sort place at
node_walked F walk place at (node.Param i) = param_walked F place i at
node_walked F walk place at node.Head = read_walked walk place at
node_walked F walk place at node.Tail = tail_walked walk place at
node_walked F walk place at node.Null = read_walked walk place at
node_walked F walk place at node.If = arms_walked walk place at
node_walked F walk place at node.Cons = Err ListConstructor
node_walked F walk place at (node.Call g) = call_walked F walk place at g
node_walked F walk place at node.Unknown = Err UnknownByte

-- the expression at a position, with so much depth left
unfoldable pub check_at : Frame → ℕ → Place → ℕ → Walked
check_at F zero place at = cond (leb (length F.body) at) (Err BodyEnds) (Err TooDeep)
check_at F (suc d) place at =
    cond (leb (length F.body) at) (Err BodyEnds)
    (node_walked F (check_at F d) place (at + 1) (node_of (get_or F.body at 0)))

unfoldable pub call_walked_at : Frame → ℕ → Place → ℕ → ℕ → Walked
call_walked_at F d place at g = call_walked F (check_at F d) place at g

-- ---- Bodies

-- what the walk over a body of so many bytes comes to
abbrev pub body_end : ℕ → Walked → Check
body_end len (Ok at) = cond (eqb at len) passed (Err BytesAfterExpression)
body_end len (Err f) = Err f

-- a whole body
unfoldable pub body_at : Frame → Check
body_at F = body_end (length F.body) (check_at F most_depth (body_place (kind_at (own_kinds F) (own_guard F) 4)) 0)

-- what the check of body i works on
abbrev pub frame_at : List ℕ → Sort → Outline → ℕ → Frame
frame_at bytes s l i =
    record {
      body = take (get_or l.ends i 0 - get_or l.starts i 0) (drop (get_or l.starts i 0) bytes);
      sort = s;
      outline = l;
      own = i;
    }

-- so many bodies, from body i on
unfoldable pub bodies_at : (ℕ → Frame) → ℕ → ℕ → Check
bodies_at frames zero i = passed
bodies_at frames (suc n) i = body_at (frames i) then bodies_at frames n (i + 1)

-- each body lies within the program, and has at most four parameters
pub record Placed (len : ℕ) (l : Outline) : Type 0 where
  pub short : len ≤ most_bytes
  pub few : l.functions ≤ most_functions
  pub ordered : (i : ℕ) → i < l.functions → get_or l.starts i 0 ≤ get_or l.ends i 0
  pub within : (i : ℕ) → i < l.functions → get_or l.ends i 0 ≤ len
  pub small : (i : ℕ) → i < l.functions → get_or l.params i 0 ≤ most_params

-- ---- Headers

-- a header of main's kind
abbrev pub main_bits : Sort → ℕ → ℕ → ℕ → Bool
main_bits One params kinds guard = eqb params 1 && (allows (only (list Ram)) (kind_at kinds guard 0) && allows (only truth) (kind_at kinds guard 4))
main_bits Two params kinds guard =
    eqb params 2
    && (allows (only (list Ram)) (kind_at kinds guard 0)
    && (allows (only (list Guard)) (kind_at kinds guard 1) && allows (only truth) (kind_at kinds guard 4)))

-- a program whose length and count are not refused
pub record Counted (bytes : List ℕ) (count : ℕ) : Type 0 where
  pub some : 1 ≤ length bytes
  pub short : length bytes ≤ most_bytes
  pub few : count ≤ most_functions

-- the places of the bodies, where the first header stands at `at`
unfoldable pub raw_starts : Sort → ℕ → List Raw → List ℕ
raw_starts s at [] = []
raw_starts s at (x ∷ xs) = (at + header_bytes s) ∷ raw_starts s (at + header_bytes s + x.header.length) xs

unfoldable pub raw_ends : Sort → ℕ → List Raw → List ℕ
raw_ends s at [] = []
raw_ends s at (x ∷ xs) = (at + header_bytes s + x.header.length) ∷ raw_ends s (at + header_bytes s + x.header.length) xs

unfoldable pub raw_outline : Sort → List Raw → Outline
raw_outline s xs =
    record {
      functions = length xs;
      params = padded most_functions 0 (map (λ (x : Raw). x.header.params) xs);
      kinds = padded most_functions 0 (map (λ (x : Raw). x.header.kinds) xs);
      guards = padded most_functions 0 (map (λ (x : Raw). x.header.guard) xs);
      starts = padded most_functions 0 (raw_starts s 1 xs);
      ends = padded most_functions 0 (raw_ends s 1 xs);
    }

abbrev pub scan_from : Sort → ℕ → Parsed (List Raw) → Result Scan Refusal
scan_from s len (got xs rest) = Ok (record { outline = raw_outline s xs; end = len - length rest })
scan_from s len (refused f) = Err f
