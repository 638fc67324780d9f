-- Reading expressions and writing them:
--   header_of_lem, function_of       each function has its header, and each header its function
--   place-below                  an element that is there stands below the length
--   expr_read, args_read         the bytes of an expression of a sort are read as that expression
--   expr_written, args_written   what is read is an expression whose bytes they are, within the depth, well-kinded and of the sort
use mathlib.Core.Path.{◌≡◌, refl, ap, ◌∙◌}
use mathlib.Core.Bool.{Bool, true, false}
use mathlib.Core.List.{List, [], ◌∷◌, ◌++◌, append_assoc}
use mathlib.Core.Option.{Option, none, some}
use Prim.Native.Nat.{ℕ, zero, suc, ◌+◌, ◌<◌, ◌≤◌}
use native.Mathlib.Omega.{arith}
use lib.Dec.{T}
use lib.ListN.{length, get_elem?}
use Rattle.semantics.specs.declared.Contact.{Contact}
use Rattle.semantics.specs.declared.Contact.TheVariants.{Ram, Guard}
use Rattle.semantics.specs.declared.Sort.{Sort}
use Rattle.semantics.specs.declared.Sort.TheVariants.{One, Two}
use Rattle.semantics.specs.declared.Kind.{Kind}
use Rattle.semantics.specs.declared.Kind.TheVariants.{Truth as truth, List as list}
use Rattle.semantics.specs.Language.{Op, hd, tl, null, Expr, constant, empty, param, op, ifte, call, Args, no_args, arg, Function, Program}
use Rattle.semantics.specs.declared.Demand.{Demand}
use Rattle.semantics.specs.declared.Demand.TheVariants.{Only as only}
use Rattle.semantics.specs.Language.{allows, op_allowed, operand_demand, Meets, MeetAll}
use Rattle.syntax.specs.declared.Node.{Node}
use Rattle.syntax.specs.declared.Node.TheVariants as node
use Rattle.syntax.specs.declared.Header.{Header}
use Rattle.syntax.specs.Limits.{most_functions, most_params}
use Rattle.rule.specs.Form.{op_byte, encode_expr, encode_args, depth, depth_all, has_contact, ExprOfSort, ArgsOfSort}
use Rattle.syntax.specs.Bytes.{node_of}
use Rattle.rule.specs.declared.expression.Place.{Place}
use Rattle.rule.specs.Reading.{got, onward, param_kinds, result_kind, condition_place, operand_place, argument_place, apart, demanded, Reader, args_from, guard_empty_from, param_from, call_from, op_from, if_from, node_from, expr_from}
use Rattle.rule.proofs.NodeBytes.{ByteOf, node_false, node_true, node_empty, node_empty_guard, node_if, node_op, node_param, node_call, node_inv}
use Rattle.rule.proofs.Parsing.{not-got, got_inv, allowed_inv, allowed_met, Onward, by, onward_inv}

-- ---- The headers of a program's functions

-- the header of a function
pub record Head (f : Function) (h : Header) : Type 0 where
  pub params : f.params ≡ param_kinds h
  pub result : f.result ≡ result_kind h

-- the headers of a program, one for each function
pub data Heads : Program → List Header → Type 0 where
  no_heads : Heads [] []
  one_head : {f : Function} {P : Program} {h : Header} {H : List Header} → Head f h → Heads P H → Heads (f ∷ P) (h ∷ H)

un_some : {A : Type 0} {a b : A} → some a ≡ some b → a ≡ b
un_some e = cc

pub header_of_lem : {P : Program} {H : List Header} → Heads P H → (g : ℕ) (f : Function) → get_elem? P g ≡ some f
    → (h : Header) × (get_elem? H g ≡ some h) × Head f h
header_of_lem no_heads g f e = let z : ◌≡◌ {A = ℕ} 0 1 = cc in absurd (omega arith)
header_of_lem (one_head {h = h} p more) zero f e = (h, refl, rw (un_some e) at p)
header_of_lem (one_head p more) (suc g) f e = header_of_lem more g f e

pub function_of : {P : Program} {H : List Header} → Heads P H → (g : ℕ) (h : Header) → get_elem? H g ≡ some h
    → (f : Function) × (get_elem? P g ≡ some f) × Head f h
function_of no_heads g h e = let z : ◌≡◌ {A = ℕ} 0 1 = cc in absurd (omega arith)
function_of (one_head {f = f} p more) zero h e = (f, refl, rw (un_some e) at p)
function_of (one_head p more) (suc g) h e = function_of more g h e

pub place-below : {A : Type 0} (l : List A) (i : ℕ) (a : A) → get_elem? l i ≡ some a → i < length l
place-below [] i a e = let z : ◌≡◌ {A = ℕ} 0 1 = cc in absurd (omega arith)
place-below (x ∷ l) zero a e = omega arith
place-below (x ∷ l) (suc i) a e = omega (arith, place-below l i a e)

-- ---- Written, then read

-- what each node is read as
module _ (s : Sort) (H : List Header) (Γ : List Kind) (d : ℕ) (π : Place) where
  constant-read : (b : Bool) (rest : List ℕ) → T (allows π.demand truth) → expr_from apart s H Γ (suc d) π (encode_expr (constant b) ++ rest) ≡ got (constant b) rest
  unfolding expr_from encode_expr
  constant-read false rest m = rw node_false (allowed_met (allows π.demand truth) _ _ m)
  constant-read true rest m = rw node_true (allowed_met (allows π.demand truth) _ _ m)

  param-read : (i : ℕ) (κ : Kind) (rest : List ℕ) → i < most_params → get_elem? Γ i ≡ some κ → T (allows π.demand κ)
      → expr_from apart s H Γ (suc d) π (encode_expr (param i) ++ rest) ≡ got (param i) rest
  unfolding expr_from encode_expr
  param-read i κ rest h e m = rw (node_param h, e) (allowed_met (allows π.demand κ) _ _ m)

  op-read : (p : Op) (bs : List ℕ) (e : Expr) (rest : List ℕ) → T (op_allowed p π.demand) → expr_from apart s H Γ d (operand_place p π) bs ≡ got e rest
      → expr_from apart s H Γ (suc d) π (op_byte p ∷ bs) ≡ got (op p e) rest
  unfolding expr_from
  op-read hd bs e rest m q = rw (node_op hd) (allowed_met (op_allowed hd π.demand) _ _ m ∙ rw q)
  op-read tl bs e rest m q = rw (node_op tl) (allowed_met (op_allowed tl π.demand) _ _ m ∙ rw q)
  op-read null bs e rest m q = rw (node_op null) (allowed_met (op_allowed null π.demand) _ _ m ∙ rw q)

  if_read : (bs : List ℕ) (c : Expr) (r : List ℕ) (a : Expr) (r' : List ℕ) (b : Expr) (rest : List ℕ)
      → expr_from apart s H Γ d condition_place bs ≡ got c r → expr_from apart s H Γ d π r ≡ got a r' → expr_from apart s H Γ d π r' ≡ got b rest
      → expr_from apart s H Γ (suc d) π (0x23 ∷ bs) ≡ got (ifte c a b) rest
  unfolding expr_from
  if_read bs c r a r' b rest p q t = rw node_if (rw (p, q, t))

  call-read : (g : ℕ) (h : Header) (bs : List ℕ) (xs : Args) (rest : List ℕ) → g < most_functions → get_elem? H g ≡ some h → T (allows π.demand (result_kind h))
      → args_from (λ π' r. expr_from apart s H Γ d π' r) (param_kinds h) bs ≡ got xs rest → expr_from apart s H Γ (suc d) π ((0x80 + g) ∷ bs) ≡ got (call g xs) rest
  unfolding expr_from
  call-read g h bs xs rest l e m q = rw (node_call l, e) (allowed_met (allows π.demand (result_kind h)) _ _ m ∙ rw q)

empty-read : (s : Sort) (H : List Header) (Γ : List Kind) (d : ℕ) (π : Place) (c : Contact) (rest : List ℕ)
    → T (allows π.demand (list c)) → T (has_contact s c) → expr_from apart s H Γ (suc d) π (encode_expr (empty c) ++ rest) ≡ got (empty c) rest
unfolding expr_from encode_expr
empty-read s H Γ d π Ram rest m has = rw node_empty (allowed_met (allows π.demand (list Ram)) _ _ m)
empty-read One H Γ d π Guard rest m has = absurd has
empty-read Two H Γ d π Guard rest m has = rw node_empty_guard (allowed_met (allows π.demand (list Guard)) _ _ m)

module _ (s : Sort) (P : Program) (H : List Header) (of-program : Heads P H) (few : length P ≤ most_functions) (Γ : List Kind)
    (narrow : length Γ ≤ most_params) where
  mutual
    unfolding encode_expr encode_args depth depth_all args_from

    pub expr_read : (e : Expr) (d : ℕ) (π : Place) (rest : List ℕ) → Meets P Γ π.demand e → ExprOfSort s e → depth e ≤ d
        → expr_from apart s H Γ d π (encode_expr e ++ rest) ≡ got e rest
    expr_read (constant b) zero π rest m o h = absurd (omega arith)
    expr_read (constant b) (suc d) π rest m o h = constant-read s H Γ d π b rest m
    expr_read (empty c) zero π rest m o h = absurd (omega arith)
    expr_read (empty c) (suc d) π rest m o h = empty-read s H Γ d π c rest m o
    expr_read (param i) zero π rest m o h = absurd (omega arith)
    expr_read (param i) (suc d) π rest m o h =
        param-read s H Γ d π i m.0 rest (omega (arith, place-below Γ i m.0 m.1)) m.1 m.2
    expr_read (op p e) zero π rest m o h = absurd (omega arith)
    expr_read (op p e) (suc d) π rest m o h =
        op-read s H Γ d π p (encode_expr e ++ rest) e rest m.0 (expr_read e d (operand_place p π) rest m.1 o (omega arith))
    expr_read (ifte c a b) zero π rest m o h = absurd (omega arith)
    expr_read (ifte c a b) (suc d) π rest m o h =
        let after-a = encode_expr b ++ rest in
        let after-c = encode_expr a ++ after-a in
        let hc : depth c ≤ d = omega arith in
        let ha : depth a ≤ d = omega arith in
        let hb : depth b ≤ d = omega arith in
        simp append_assoc
        (if_read s H Γ d π (encode_expr c ++ after-c) c after-c a after-a b rest
        (expr_read c d condition_place after-c m.0 o.0 hc) (expr_read a d π after-a m.1 o.1 ha) (expr_read b d π rest m.2 o.2 hb))
    expr_read (call g xs) zero π rest m o h = absurd (omega arith)
    expr_read (call g xs) (suc d) π rest m o h =
        let w = header_of_lem of-program g m.0 m.1 in
        let meets : T (allows π.demand (result_kind w.0)) = rw w.2.result at m.2 in
        let all : MeetAll P Γ (param_kinds w.0) xs = rw w.2.params at m.3 in
        let there = place-below P g m.0 m.1 in
        call-read s H Γ d π g w.0 (encode_args xs ++ rest) xs rest (omega arith) w.1 meets
        (args_read xs d (param_kinds w.0) rest all o (omega arith))

    pub args_read : (xs : Args) (d : ℕ) (κs : List Kind) (rest : List ℕ) → MeetAll P Γ κs xs → ArgsOfSort s xs → depth_all xs ≤ d
        → args_from (λ π r. expr_from apart s H Γ d π r) κs (encode_args xs ++ rest) ≡ got xs rest
    args_read no_args d κs rest m o h = rw m
    args_read (arg e xs) d κs rest m o h =
        let he : depth e ≤ d = omega arith in
        let hx : depth_all xs ≤ d = omega arith in
        let first = expr_read e d (argument_place m.0) (encode_args xs ++ rest) m.3 o.0 he in
        let others = args_read xs d m.1 rest m.4 o.1 hx in
        rw (m.2, append_assoc (encode_expr e) (encode_args xs) rest, first, others)

-- ---- Read, then written

-- bytes that are an expression and what follows it: within the depth d, of a sort, and meeting a demand
abbrev pub Written : Sort → Program → List Kind → ℕ → Demand → List ℕ → Expr → List ℕ → Type 0
Written s P Γ d δ bs e rest = (bs ≡ encode_expr e ++ rest) × (depth e ≤ d) × Meets P Γ δ e × ExprOfSort s e

-- the same of arguments, each of its kind
abbrev pub AllWritten : Sort → Program → List Kind → ℕ → List Kind → List ℕ → Args → List ℕ → Type 0
AllWritten s P Γ d κs bs xs rest = (bs ≡ encode_args xs ++ rest) × (depth_all xs ≤ d) × MeetAll P Γ κs xs × ArgsOfSort s xs

-- what each node is written as
module _ (s : Sort) (P : Program) (Γ : List Kind) (d : ℕ) where
  same_written : (δ : Demand) (bs : List ℕ) (e : Expr) (rest : List ℕ) (e' : Expr) (rest' : List ℕ)
      → Written s P Γ d δ bs e rest → got e rest ≡ got e' rest'
      → Written s P Γ d δ bs e' rest'
  same_written δ bs e rest e' rest' w q = let same = got_inv q in rw (same.0, same.1) w

  constant_written : (b : Bool) (δ : Demand) (bs : List ℕ) → T (allows δ truth)
      → Written s P Γ (suc d) δ (encode_expr (constant b) ++ bs) (constant b) bs
  unfolding depth
  constant_written b δ bs m = (refl, omega arith, m, tt)

  empty_written : (c : Contact) (δ : Demand) (bs : List ℕ) → T (allows δ (list c)) → T (has_contact s c)
      → Written s P Γ (suc d) δ (encode_expr (empty c) ++ bs) (empty c) bs
  unfolding depth
  empty_written c δ bs m has = (refl, omega arith, m, has)

  param_written : (i : ℕ) (κ : Kind) (δ : Demand) (bs : List ℕ) → get_elem? Γ i ≡ some κ → T (allows δ κ)
      → Written s P Γ (suc d) δ ((0x10 + i) ∷ bs) (param i) bs
  unfolding encode_expr depth
  param_written i κ δ bs e m = (refl, omega arith, (κ, e, m), tt)

  op_written : (p : Op) (δ : Demand) (bs : List ℕ) (e : Expr) (rest : List ℕ) → T (op_allowed p δ) → Written s P Γ d (operand_demand p δ) bs e rest
      → Written s P Γ (suc d) δ (op_byte p ∷ bs) (op p e) rest
  unfolding encode_expr depth
  op_written p δ bs e rest m w = (ap (λ (l : List ℕ). op_byte p ∷ l) w.0, omega (arith, w.1), (m, w.2), w.3)

  if_written : (δ : Demand) (bs : List ℕ) (c : Expr) (r : List ℕ) (a : Expr) (r' : List ℕ) (b : Expr) (rest : List ℕ)
      → Written s P Γ d (only truth) bs c r → Written s P Γ d δ r a r' → Written s P Γ d δ r' b rest
      → Written s P Γ (suc d) δ (0x23 ∷ bs) (ifte c a b) rest
  unfolding encode_expr depth
  if_written δ bs c r a r' b rest u v w =
      (rw (u.0, v.0, w.0) (simp append_assoc), omega (arith, u.1, v.1, w.1), (u.2, v.2, w.2), (u.3, v.3, w.3))

  call_written : (g : ℕ) (f : Function) (δ : Demand) (bs : List ℕ) (xs : Args) (rest : List ℕ) → get_elem? P g ≡ some f → T (allows δ f.result)
      → AllWritten s P Γ d f.params bs xs rest
      → Written s P Γ (suc d) δ ((0x80 + g) ∷ bs) (call g xs) rest
  unfolding encode_expr depth
  call_written g f δ bs xs rest e m w = (ap (λ (l : List ℕ). (0x80 + g) ∷ l) w.0, omega (arith, w.1), (f, e, m, w.2), w.3)

  same_all : (κs : List Kind) (bs : List ℕ) (xs : Args) (rest : List ℕ) (xs' : Args) (rest' : List ℕ)
      → AllWritten s P Γ d κs bs xs rest → got xs rest ≡ got xs' rest'
      → AllWritten s P Γ d κs bs xs' rest'
  same_all κs bs xs rest xs' rest' w q = let same = got_inv q in rw (same.0, same.1) w

  none_written : (bs : List ℕ) → AllWritten s P Γ d [] bs no_args bs
  unfolding encode_args depth_all
  none_written bs = (refl, omega arith, refl, tt)

  arg_written : (κ : Kind) (κs : List Kind) (bs : List ℕ) (e : Expr) (r : List ℕ) (xs : Args) (rest : List ℕ)
      → Written s P Γ d (only κ) bs e r → AllWritten s P Γ d κs r xs rest
      → AllWritten s P Γ d (κ ∷ κs) bs (arg e xs) rest
  unfolding encode_args depth_all
  arg_written κ κs bs e r xs rest u w =
      (rw (u.0, w.0) (simp append_assoc), omega (arith, u.1, w.1), (κ, κs, refl, u.2, w.2), (u.3, w.3))

-- every program has lists of the ram, and where the empty guard list was read it has those of the guard
ram_there : (s : Sort) → T (has_contact s Ram)
ram_there One = tt
ram_there Two = tt

guard_inv : (s : Sort) (π : Place) (bs : List ℕ) (e : Expr) (rest : List ℕ) → guard_empty_from apart s π bs ≡ got e rest
    → T (has_contact s Guard) × (demanded apart π (list Guard) (got (empty Guard) bs) ≡ got e rest)
guard_inv One π bs e rest q = absurd (not-got q)
guard_inv Two π bs e rest q = (tt, q)

-- a reader whose readings are written so
abbrev Faithful : Sort → Program → List Kind → ℕ → Reader → Type 0
Faithful s P Γ d read = (π : Place) (bs : List ℕ) (e : Expr) (rest : List ℕ) → read π bs ≡ got e rest → Written s P Γ d π.demand bs e rest

module _ (s : Sort) (P : Program) (H : List Header) (of-program : Heads P H) (Γ : List Kind) where
  module _ (d : ℕ) (read : Reader) (sound : Faithful s P Γ d read) where
    operands : (κs : List Kind) (bs : List ℕ) (xs : Args) (rest : List ℕ) → args_from read κs bs ≡ got xs rest → AllWritten s P Γ d κs bs xs rest
    unfolding args_from
    operands [] bs xs rest q = same_all s P Γ d [] bs no_args bs xs rest (none_written s P Γ d bs) q
    operands (κ ∷ κs) bs xs rest q = first (λ r ys t. operands κs r ys t) (onward_inv (read (argument_place κ) bs) _ xs rest q)
      where
        Rest : Type 0
        Rest = (r : List ℕ) (ys : Args) (t : List ℕ) → args_from read κs r ≡ got ys t → AllWritten s P Γ d κs r ys t

        second : (e : Expr) (r : List ℕ) → read (argument_place κ) bs ≡ got e r → Rest → Onward (args_from read κs r) (λ ys t. got (arg e ys) t) xs rest
            → AllWritten s P Γ d (κ ∷ κs) bs xs rest
        second e r p more (by ys t p' l) =
            same_all s P Γ d (κ ∷ κs) bs (arg e ys) t xs rest (arg_written s P Γ d κ κs bs e r ys t (sound (argument_place κ) bs e r p) (more r ys t p')) l

        first : Rest → Onward (read (argument_place κ) bs) (λ e r. onward (args_from read κs r) (λ ys t. got (arg e ys) t)) xs rest
            → AllWritten s P Γ d (κ ∷ κs) bs xs rest
        first more (by e r p l) = second e r p more (onward_inv (args_from read κs r) _ xs rest l)

    param_node : (i : ℕ) (kind : Option Kind) → get_elem? Γ i ≡ kind → (π : Place) (bs : List ℕ) (e : Expr) (rest : List ℕ)
        → param_from apart kind π i bs ≡ got e rest
        → Written s P Γ (suc d) π.demand ((0x10 + i) ∷ bs) e rest
    param_node i none k π bs e rest q = absurd (not-got q)
    param_node i (some κ) k π bs e rest q =
        let m = allowed_inv (allows π.demand κ) _ _ e rest q in
        same_written s P Γ (suc d) π.demand _ (param i) bs e rest (param_written s P Γ d i κ π.demand bs k m.0) m.1

    call_node : (g : ℕ) (head : Option Header) → get_elem? H g ≡ head → (π : Place) (bs : List ℕ) (e : Expr) (rest : List ℕ)
        → call_from apart head read π g bs ≡ got e rest
        → Written s P Γ (suc d) π.demand ((0x80 + g) ∷ bs) e rest
    call_node g none k π bs e rest q = absurd (not-got q)
    call_node g (some h) k π bs e rest q =
        let m = allowed_inv (allows π.demand (result_kind h)) _ _ e rest q in
        go m.0 (onward_inv (args_from read (param_kinds h) bs) _ e rest m.1)
      where
        go : T (allows π.demand (result_kind h)) → Onward (args_from read (param_kinds h) bs) (λ xs r. got (call g xs) r) e rest
            → Written s P Γ (suc d) π.demand ((0x80 + g) ∷ bs) e rest
        go m (by xs r p l) =
            let w = function_of of-program g h k in
            let meets : T (allows π.demand w.0.result) = rw w.2.result m in
            let all : AllWritten s P Γ d w.0.params bs xs r = rw w.2.params (operands (param_kinds h) bs xs r p) in
            same_written s P Γ (suc d) π.demand _ (call g xs) r e rest (call_written s P Γ d g w.0 π.demand bs xs r w.1 meets all) l

    op_node_lem : (p : Op) (π : Place) (bs : List ℕ) (e : Expr) (rest : List ℕ) → op_from apart p read π bs ≡ got e rest
        → Written s P Γ (suc d) π.demand (op_byte p ∷ bs) e rest
    op_node_lem p π bs e rest q =
        let m = allowed_inv (op_allowed p π.demand) _ _ e rest q in go m.0 (onward_inv (read (operand_place p π) bs) _ e rest m.1)
      where
        go : T (op_allowed p π.demand) → Onward (read (operand_place p π) bs) (λ a r. got (op p a) r) e rest → Written s P Γ (suc d) π.demand (op_byte p ∷ bs) e rest
        go m (by a r k l) =
            same_written s P Γ (suc d) π.demand _ (op p a) r e rest (op_written s P Γ d p π.demand bs a r m (sound (operand_place p π) bs a r k)) l

    if_node : (π : Place) (bs : List ℕ) (e : Expr) (rest : List ℕ) → if_from read π bs ≡ got e rest → Written s P Γ (suc d) π.demand (0x23 ∷ bs) e rest
    if_node π bs e rest q = first (onward_inv (read condition_place bs) _ e rest q)
      where
        third : (c : Expr) (r : List ℕ) (a : Expr) (r' : List ℕ) → Written s P Γ d (only truth) bs c r → Written s P Γ d π.demand r a r'
            → Onward (read π r') (λ b r''. got (ifte c a b) r'') e rest
            → Written s P Γ (suc d) π.demand (0x23 ∷ bs) e rest
        third c r a r' u v (by b r'' k l) =
            same_written s P Γ (suc d) π.demand _ (ifte c a b) r'' e rest (if_written s P Γ d π.demand bs c r a r' b r'' u v (sound π r' b r'' k)) l

        second : (c : Expr) (r : List ℕ) → Written s P Γ d (only truth) bs c r
            → Onward (read π r) (λ a r'. onward (read π r') (λ b r''. got (ifte c a b) r'')) e rest
            → Written s P Γ (suc d) π.demand (0x23 ∷ bs) e rest
        second c r u (by a r' k l) = third c r a r' u (sound π r a r' k) (onward_inv (read π r') _ e rest l)

        first : Onward (read condition_place bs) (λ c r. onward (read π r) (λ a r'. onward (read π r') (λ b r''. got (ifte c a b) r''))) e rest
            → Written s P Γ (suc d) π.demand (0x23 ∷ bs) e rest
        first (by c r k l) = second c r (sound condition_place bs c r k) (onward_inv (read π r) _ e rest l)

    -- a node without operands
    leaf : (e₀ : Expr) (π : Place) (κ : Kind) (bs : List ℕ) (e : Expr) (rest : List ℕ)
        → (T (allows π.demand κ) → Written s P Γ (suc d) π.demand (encode_expr e₀ ++ bs) e₀ bs) → demanded apart π κ (got e₀ bs) ≡ got e rest
        → Written s P Γ (suc d) π.demand (encode_expr e₀ ++ bs) e rest
    leaf e₀ π κ bs e rest made q =
        let m = allowed_inv (allows π.demand κ) _ _ e rest q in same_written s P Γ (suc d) π.demand _ e₀ bs e rest (made m.0) m.1

    constant_node : (b : Bool) (π : Place) (bs : List ℕ) (e : Expr) (rest : List ℕ) → demanded apart π truth (got (constant b) bs) ≡ got e rest
        → Written s P Γ (suc d) π.demand (encode_expr (constant b) ++ bs) e rest
    constant_node b π bs e rest q = leaf (constant b) π truth bs e rest (λ m. constant_written s P Γ d b π.demand bs m) q

    empty_node : (c : Contact) → T (has_contact s c) → (π : Place) (bs : List ℕ) (e : Expr) (rest : List ℕ)
        → demanded apart π (list c) (got (empty c) bs) ≡ got e rest → Written s P Γ (suc d) π.demand (encode_expr (empty c) ++ bs) e rest
    empty_node c has π bs e rest q = leaf (empty c) π (list c) bs e rest (λ m. empty_written s P Γ d c π.demand bs m has) q

    node_written : (n : Node) (b : ℕ) → ByteOf n b → (π : Place) (bs : List ℕ) (e : Expr) (rest : List ℕ) → node_from apart s H Γ read π n bs ≡ got e rest
        → Written s P Γ (suc d) π.demand (b ∷ bs) e rest
    unfolding encode_expr
    node_written node.False b byte π bs e rest q = rw byte (constant_node false π bs e rest q)
    node_written node.True b byte π bs e rest q = rw byte (constant_node true π bs e rest q)
    node_written node.Empty b byte π bs e rest q = rw byte (empty_node Ram (ram_there s) π bs e rest q)
    node_written node.EmptyGuard b byte π bs e rest q =
        let g = guard_inv s π bs e rest q in rw byte (empty_node Guard g.0 π bs e rest g.1)
    node_written (node.Param i) b byte π bs e rest q = rw byte.0 (param_node i (get_elem? Γ i) refl π bs e rest q)
    node_written node.Head b byte π bs e rest q = rw byte (op_node_lem hd π bs e rest q)
    node_written node.Tail b byte π bs e rest q = rw byte (op_node_lem tl π bs e rest q)
    node_written node.Null b byte π bs e rest q = rw byte (op_node_lem null π bs e rest q)
    node_written node.If b byte π bs e rest q = rw byte (if_node π bs e rest q)
    node_written node.Cons b byte π bs e rest q = absurd (not-got q)
    node_written (node.Call g) b byte π bs e rest q = rw byte.0 (call_node g (get_elem? H g) refl π bs e rest q)
    node_written node.Unknown b byte π bs e rest q = absurd (not-got q)

  pub expr_written : (d : ℕ) (π : Place) (bs : List ℕ) (e : Expr) (rest : List ℕ) → expr_from apart s H Γ d π bs ≡ got e rest → Written s P Γ d π.demand bs e rest
  unfolding expr_from
  expr_written zero π [] e rest q = absurd (not-got q)
  expr_written zero π (b ∷ bs) e rest q = absurd (not-got q)
  expr_written (suc d) π [] e rest q = absurd (not-got q)
  expr_written (suc d) π (b ∷ bs) e rest q =
      node_written d (λ π' r. expr_from apart s H Γ d π' r) (λ π' r x t p. expr_written d π' r x t p) (node_of b) b (node_inv b (node_of b) refl) π bs e rest q

  pub args_written : (d : ℕ) (κs : List Kind) (bs : List ℕ) (xs : Args) (rest : List ℕ)
      → args_from (λ π r. expr_from apart s H Γ d π r) κs bs ≡ got xs rest → AllWritten s P Γ d κs bs xs rest
  args_written d κs bs xs rest q = operands d (λ π r. expr_from apart s H Γ d π r) (λ π r e t p. expr_written d π r e t p) κs bs xs rest q
