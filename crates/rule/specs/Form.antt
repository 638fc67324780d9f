-- 'Program bytes' of documents 01 and 02: the bytes of a program, which bytes are accepted.
use Rattle.std.specs.Prelude.{ℕ, suc, ◌+◌, ◌-◌, ◌<◌, ◌≤◌, max, ◌≡◌, Bool, true, false, List, [], ◌∷◌, ◌++◌, map, T, length, get_or, replicate}
use Rattle.std.proofs.Math.Option.{some}
use Rattle.std.proofs.Math.ListN.{get_elem?}
use Rattle.trace.specs.{binary}
use Rattle.encoding.specs.{low_first}
use Rattle.syntax.specs.Limits.{most_functions, most_params, most_body, most_depth, most_bytes}
use Rattle.syntax.specs.Bytes.{count_byte}
use Rattle.semantics.specs.declared.Contact.{Contact}
use Rattle.semantics.specs.declared.Contact.TheVariants.{Ram, Guard}
use Rattle.semantics.specs.declared.Sort.{Sort}
use Rattle.semantics.specs.declared.Sort.TheVariants.{One, Two}
use Rattle.semantics.specs.declared.Kind.{Kind}
use Rattle.semantics.specs.declared.Kind.TheVariants.{Truth as truth, List as list}
use Rattle.semantics.specs.Language.{is_list, is_guard, Op, hd, tl, null, Expr, constant, empty, param, op, ifte, call, Args, no_args, arg, Function, Program, IsMain, WellKinded}

-- a list of bytes
abbrev pub AreBytes : List ℕ → Type 0
AreBytes bytes = (i : ℕ) → get_or bytes i 0 < 256

-- ---- The bytes of a program

abbrev pub op_byte : Op → ℕ
op_byte hd = 0x20
op_byte tl = 0x21
op_byte null = 0x22

-- an expression in prefix order
unfoldable mutual
  pub encode_expr : Expr → List ℕ
  encode_expr (constant false) = 0x00 ∷ []
  encode_expr (constant true) = 0x01 ∷ []
  encode_expr (empty Ram) = 0x02 ∷ []
  encode_expr (empty Guard) = 0x03 ∷ []
  encode_expr (param i) = (0x10 + i) ∷ []
  encode_expr (op p e) = op_byte p ∷ encode_expr e
  encode_expr (ifte c a b) = 0x23 ∷ encode_expr c ++ (encode_expr a ++ encode_expr b)
  encode_expr (call g xs) = (0x80 + g) ∷ encode_args xs

  pub encode_args : Args → List ℕ
  encode_args no_args = []
  encode_args (arg e xs) = encode_expr e ++ encode_args xs

-- a list made so long by adding one element
unfoldable pub padded : {A : Type 0} → ℕ → A → List A → List A
padded n z l = l ++ replicate (n - length l) z

-- a byte that says something of the kinds: bits 0 to 3 of parameter 0 to 3, bit 4 of the result
unfoldable pub flags_byte : (Kind → Bool) → List Kind → Kind → ℕ
flags_byte said params result = binary (padded most_params false (map said params) ++ (said result ∷ []))

-- the kinds byte: 'bits 0 to 3: parameter 0 to 3 is a list; bit 4: the result is a list; a clear bit means Bool'
abbrev pub kinds_byte : List Kind → Kind → ℕ
kinds_byte params result = flags_byte is_list params result

-- the guard byte: 'bits 0 to 4 say that the list meant there is of the guard trace'
abbrev pub guard_byte : List Kind → Kind → ℕ
guard_byte params result = flags_byte is_guard params result

-- where there is one: in programs of two contacts
abbrev pub guard_byte_part : Sort → Function → List ℕ
guard_byte_part One f = []
guard_byte_part Two f = guard_byte f.params f.result ∷ []

-- 'four header bytes and its body'; the body length has its low byte first; of two contacts a fifth byte stands before it
unfoldable pub encode_function : Sort → Function → List ℕ
encode_function s f =
    let size = length (encode_expr f.body) in
    length f.params ∷ kinds_byte f.params f.result ∷ guard_byte_part s f ++ (low_first 2 size ++ encode_expr f.body)

unfoldable pub encode_functions : Sort → Program → List ℕ
encode_functions s [] = []
encode_functions s (f ∷ fs) = encode_function s f ++ encode_functions s fs

-- 'byte 0 is the number of functions', marked where there are two contacts
unfoldable pub encode : Sort → Program → List ℕ
encode s P = count_byte s (length P) ∷ encode_functions s P

-- ---- Acceptance

-- how deep an expression nests, 'the first node counting as 1'
unfoldable mutual
  pub depth : Expr → ℕ
  depth (constant b) = 1
  depth (empty c) = 1
  depth (param i) = 1
  depth (op p e) = suc (depth e)
  depth (ifte c a b) = suc (max (depth c) (max (depth a) (depth b)))
  depth (call g xs) = suc (depth_all xs)

  pub depth_all : Args → ℕ
  depth_all no_args = 0
  depth_all (arg e xs) = max (depth e) (depth_all xs)

-- whether a program of a sort can have a list of a contact: with one contact all lists are the ram's
abbrev pub has_contact : Sort → Contact → Bool
has_contact One Ram = true
has_contact One Guard = false
has_contact Two c = true

-- its kinds, and the empty lists of an expression
abbrev pub KindOfSort : Sort → Kind → Type 0
KindOfSort s truth = Unit {0}
KindOfSort s (list c) = T (has_contact s c)

abbrev pub KindsOfSort : Sort → List Kind → Type 0
KindsOfSort s [] = Unit {0}
KindsOfSort s (κ ∷ κs) = KindOfSort s κ × KindsOfSort s κs

abbrev mutual
  pub ExprOfSort : Sort → Expr → Type 0
  ExprOfSort s (constant b) = Unit {0}
  ExprOfSort s (empty c) = T (has_contact s c)
  ExprOfSort s (param i) = Unit {0}
  ExprOfSort s (op p e) = ExprOfSort s e
  ExprOfSort s (ifte c a b) = ExprOfSort s c × ExprOfSort s a × ExprOfSort s b
  ExprOfSort s (call g xs) = ArgsOfSort s xs

  pub ArgsOfSort : Sort → Args → Type 0
  ArgsOfSort s no_args = Unit {0}
  ArgsOfSort s (arg e xs) = ExprOfSort s e × ArgsOfSort s xs

-- a function of a sort, within the limits
pub record Fits (s : Sort) (f : Function) : Type 0 where
  pub params : length f.params ≤ most_params
  pub body : length (encode_expr f.body) ≤ most_body
  pub deep : depth f.body ≤ most_depth
  pub param_kinds : KindsOfSort s f.params
  pub result_kind : KindOfSort s f.result
  pub lists : ExprOfSort s f.body

-- bytes that are accepted as a program of a sort: its encoding, within the limits, with main, and well-kinded
pub record Accepted (bytes : List ℕ) (s : Sort) (P : Program) : Type 0 where
  pub encoded : bytes ≡ encode s P
  pub short : length bytes ≤ most_bytes
  pub few : length P ≤ most_functions
  pub fits : (g : ℕ) (f : Function) → get_elem? P g ≡ some f → Fits s f
  pub main : (f : Function) × (get_elem? P 0 ≡ some f) × IsMain s f
  pub kinds : WellKinded P
