-- What expressions are lowered to, form by form.
use Rattle.std.proofs.Common.{◌≡◌, ℕ, suc, ◌+◌, ◌<◌, ◌≤◌, take, get_or, length-append, Bool, true, false, cond, List, [], ◌∷◌, ◌++◌, map, length, max, Option, Some, None, refl, sym, ap, ◌∙◌, arith, if◌then◌else◌}
use Rattle.std.specs.Prelude.{sum, nat_lt, nat_eq}
use Rattle.std.proofs.lemmas.List.Sums.{sum_by-append, sum_by-cons, sum_by_push}
use Rattle.std.proofs.lemmas.List.{take_more, length-take-le}
use Rattle.mv_lower_expressions.specs.declared.value.Value.{Value}
use Rattle.mv_ast.specs.declared.program.CType.{CType}
use Rattle.mv_ast.specs.declared.program.Known.{Known}
use Rattle.mv_ast.specs.declared.program.Expr.{Expr, fold_out-Expr}
use Rattle.mv_ast.specs.declared.program.Form.{Form, Form-F, out-Form, map-Form, fold-Form, fold_out-Form}
use Rattle.mv_ast.specs.declared.program.Form as at
use Rattle.mv_ast.specs.declared.program.Form.TheVariants.{outs-Number, outs-Read, outs-Function, outs-Unary, outs-Binary, outs-Both, outs-Either, outs-Choose, outs-Convert, outs-Set, outs-Change, outs-After, outs-Direct, outs-Through, outs-Known}
use Rattle.mv_ast.specs.declared.program.Form.TheOpen as form
use Rattle.mv_ast.specs.declared.program.Target.{Target, Target-F, out-Target, map-Target, fold-Target, fold_out-Target}
use Rattle.mv_ast.specs.declared.program.Target as target
use Rattle.mv_ast.specs.declared.program.Target.TheVariants as target_variants
use Rattle.mv_num.specs.Lists.{is_among}
use Rattle.mv_ast.specs.Counts.{expr_nodes, form_sum, target_sum, one_more_than}
use Rattle.mv_ir.specs.declared.stm.Array.{Array}
use Rattle.mv_ir.specs.declared.stm.Array.TheVariants as array
use Rattle.mv_ir.specs.declared.stm.Callee.TheVariants as callee
use Rattle.mv_lower_spec.specs.Lowered.{Lowered, Lowering, Arguments, number, function, lower_all, lower_call_to, lower_division, lower_local, lower_global, lower_element, lower_read_element, temp, global, known, binary, last_of, but_last}
use Rattle.mv_lower_spec.specs.Lower.{FormPart, Part, Place, InLocal, InGlobal, Element, global_at, switched_if, switched_by, lower_called, lower_form, place_of_layer, lower_layer, form_part, form_lowering, place_of, part_of, lower_expr, lower_read, lower_set, lower_change, lower_after, lower_binary, bit_tree, quotient_number, remainder_number, lower_operator}
use Rattle.mv_source_forms.specs.Names.{is_void}
use Rattle.mv_lower_expressions.specs.Values.{seen, given, set_local_of, set_global_of, unary_of, converted_of, binary_of, both_of, either_of, choice_of}
use Rattle.mv_lower_expressions.specs.Calls.{prepended, arguments_of, direct_of, through_of, switched_of, called_of, known_of}
use Rattle.mv_lower_expressions.specs.Places.{placed, start_of, alone, read_of, set_of, set_element_of, change_of, after_of}
use Rattle.mv_lower_expressions.proofs.Combining.{same_lowered}
use Rattle.mv_lower_expressions.specs.Expressions.{expr_at, form_at, place_at, exprs_at, optional_at, switch_of, switch_of_form, switch_of_target, expr_size, form_size, target_size, exprs_size}

-- ---- sizes

abbrev size_of_form : Form-F Form Target Expr → ℕ
size_of_form x = form_sum (map-Form Form Target Expr ℕ ℕ ℕ (fold-Form ℕ ℕ ℕ form_sum target_sum one_more_than) (fold-Target ℕ ℕ ℕ form_sum target_sum one_more_than) expr_nodes x)

sized : (f : Form) (x : Form-F Form Target Expr) → out-Form f ≡ x → form_size f ≡ size_of_form x
unfolding form_size
sized f x e = fold_out-Form ℕ ℕ ℕ form_sum target_sum one_more_than f ∙ ap size_of_form e

pub size_expr : (e : Expr) → expr_size e ≡ suc (form_size e.what)
unfolding expr_size form_size
size_expr e = let h = fold_out-Expr ℕ ℕ ℕ form_sum target_sum one_more_than e in omega (arith, h)

pub size_read : (t : Target) → form_size (at.Read t) ≡ target_size t
unfolding target_size
size_read t = let h = sized _ _ (outs-Read t) in omega (arith, h)

pub size_unary : (op : ℕ) (a : Expr) → form_size (at.Unary op a) ≡ expr_size a
unfolding expr_size
size_unary op a = let h = sized _ _ (outs-Unary op a) in omega (arith, h)

pub size_binary : (op : ℕ) (a b : Expr) → form_size (at.Binary op a b) ≡ expr_size a + expr_size b
unfolding expr_size
size_binary op a b = let h = sized _ _ (outs-Binary op a b) in omega (arith, h)

pub size_both : (a b : Expr) → form_size (at.Both a b) ≡ expr_size a + expr_size b
unfolding expr_size
size_both a b = let h = sized _ _ (outs-Both a b) in omega (arith, h)

pub size_either : (a b : Expr) → form_size (at.Either a b) ≡ expr_size a + expr_size b
unfolding expr_size
size_either a b = let h = sized _ _ (outs-Either a b) in omega (arith, h)

pub size_choose : (z a b : Expr) → form_size (at.Choose z a b) ≡ expr_size z + (expr_size a + expr_size b)
unfolding expr_size
size_choose z a b = let h = sized _ _ (outs-Choose z a b) in omega (arith, h)

pub size_convert : (a : Expr) → form_size (at.Convert a) ≡ expr_size a
unfolding expr_size
size_convert a = let h = sized _ _ (outs-Convert a) in omega (arith, h)

pub size_set : (t : Target) (a : Expr) → form_size (at.Set t a) ≡ target_size t + expr_size a
unfolding expr_size target_size
size_set t a = let h = sized _ _ (outs-Set t a) in omega (arith, h)

pub size_change : (op : ℕ) (kind : CType) (t : Target) (a : Expr) → form_size (at.Change op kind t a) ≡ target_size t + expr_size a
unfolding expr_size target_size
size_change op kind t a = let h = sized _ _ (outs-Change op kind t a) in omega (arith, h)

pub size_after : (up : Bool) (t : Target) → form_size (at.After up t) ≡ target_size t
unfolding target_size
size_after up t = let h = sized _ _ (outs-After up t) in omega (arith, h)

pub size_direct : (f : ℕ) (args : List Expr) → form_size (at.Direct f args) ≡ exprs_size args
unfolding expr_size
size_direct f args = sized _ _ (outs-Direct f args)

pub size_through : (args : List Expr) (f : Expr) → form_size (at.Through args f) ≡ exprs_size args + expr_size f
unfolding expr_size
size_through args f = let h = sized _ _ (outs-Through args f) in let s = sum_by-append (λ x. x) (map expr_nodes args) (expr_nodes f ∷ []) in omega (arith, h, s)

pub size_known : (k : Known) (args : List Expr) → form_size (at.Known k args) ≡ exprs_size args
unfolding expr_size
size_known k args = sized _ _ (outs-Known k args)

abbrev size_of_target : Target-F Form Target Expr → ℕ
size_of_target x = target_sum (map-Target Form Target Expr ℕ ℕ ℕ (fold-Form ℕ ℕ ℕ form_sum target_sum one_more_than) (fold-Target ℕ ℕ ℕ form_sum target_sum one_more_than) expr_nodes x)

sized_target : (t : Target) (x : Target-F Form Target Expr) → out-Target t ≡ x → target_size t ≡ size_of_target x
unfolding target_size
sized_target t x e = fold_out-Target ℕ ℕ ℕ form_sum target_sum one_more_than t ∙ ap size_of_target e

pub size_global_at : (g : ℕ) (i : Expr) → target_size (target.GlobalAt g i) ≡ expr_size i
unfolding expr_size
size_global_at g i = let h = sized_target _ _ (target_variants.outs-GlobalAt g i) in omega (arith, h)

pub size_local_at : (l : ℕ) (i : Expr) → target_size (target.LocalAt l i) ≡ expr_size i
unfolding expr_size
size_local_at l i = let h = sized_target _ _ (target_variants.outs-LocalAt l i) in omega (arith, h)

pub ruleset sizes = (size_expr, size_read, size_unary, size_binary, size_both, size_either, size_choose, size_convert, size_set, size_change, size_after, size_direct, size_through, size_known, size_global_at, size_local_at)

-- ---- forms

abbrev part_of_form : (ps : List ℕ) → Form-F Form Target Expr → FormPart
part_of_form ps x = lower_form ps (map-Form Form Target Expr FormPart Place Part (form_part ps) (place_of ps) (part_of ps) x)

abbrev lowering_of_form : (ps : List ℕ) → Form-F Form Target Expr → CType → Lowering
lowering_of_form ps x = (part_of_form ps x).lower

form_is : (ps : List ℕ) (f : Form) (x : Form-F Form Target Expr) → out-Form f ≡ x → form_part ps f ≡ part_of_form ps x
form_is ps f x e = fold_out-Form FormPart Place Part (lower_form ps) place_of_layer (lower_layer ps) f ∙ ap (part_of_form ps) e

lowered : (ps : List ℕ) (f : Form) (x : Form-F Form Target Expr) (t : CType) (n : ℕ) → out-Form f ≡ x → form_at ps f t n ≡ lowering_of_form ps x t n
unfolding form_at
lowered ps f x t n e = ap (λ (g : FormPart). g.lower t n) (form_is ps f x e)

part_is : (ps : List ℕ) (e : Expr) → part_of ps e ≡ record { ctype = e.ctype; lower = form_lowering ps e.what e.ctype; reads = (form_part ps e.what).reads }
part_is ps e = fold_out-Expr FormPart Place Part (lower_form ps) place_of_layer (lower_layer ps) e

pub expr_is : (ps : List ℕ) (e : Expr) (n : ℕ) → expr_at ps e n ≡ form_at ps e.what e.ctype n
unfolding expr_at form_at
expr_is ps e n = ap (λ (p : Part). p.lower n) (part_is ps e)

pub ruleset expressions = expr_is

pub form_number : (ps : List ℕ) (v : ℕ) (t : CType) (n : ℕ) → form_at ps (at.Number v) t n ≡ alone (number v) n
form_number ps v t n = lowered ps _ _ t n (outs-Number v)

read_same : (p : Place) (n : ℕ) → lower_read p n ≡ read_of (placed n p) n
unfolding read_of
read_same (InLocal l) n = refl
read_same (InGlobal g) n = refl
read_same (Element r i) n = refl

pub form_read : (ps : List ℕ) (tg : Target) (t : CType) (n : ℕ) → form_at ps (at.Read tg) t n ≡ read_of (place_at ps tg n) n
unfolding place_at
form_read ps tg t n = lowered ps _ _ t n (outs-Read tg) ∙ read_same (place_of ps tg) n

pub form_function : (ps : List ℕ) (f : ℕ) (t : CType) (n : ℕ) → form_at ps (at.Function f) t n ≡ alone (function f) n
form_function ps f t n = lowered ps _ _ t n (outs-Function f)

pub form_unary : (ps : List ℕ) (op : ℕ) (a : Expr) (t : CType) (n : ℕ) → form_at ps (at.Unary op a) t n ≡ unary_of op (expr_at ps a n) n
unfolding unary_of expr_at
form_unary ps op a t n = lowered ps _ _ t n (outs-Unary op a)

pub form_both : (ps : List ℕ) (a b : Expr) (t : CType) (n : ℕ) → form_at ps (at.Both a b) t n ≡ both_of (expr_at ps a n) (expr_at ps b n) n
unfolding both_of expr_at
form_both ps a b t n = lowered ps _ _ t n (outs-Both a b)

pub form_either : (ps : List ℕ) (a b : Expr) (t : CType) (n : ℕ) → form_at ps (at.Either a b) t n ≡ either_of (expr_at ps a n) (expr_at ps b n) n
unfolding either_of expr_at
form_either ps a b t n = lowered ps _ _ t n (outs-Either a b)

pub form_choose : (ps : List ℕ) (z a b : Expr) (t : CType) (n : ℕ) → form_at ps (at.Choose z a b) t n ≡ choice_of (expr_at ps z n) (expr_at ps a n) (expr_at ps b n) n
unfolding choice_of expr_at
form_choose ps z a b t n = lowered ps _ _ t n (outs-Choose z a b)

pub form_convert : (ps : List ℕ) (a : Expr) (t : CType) (n : ℕ) → form_at ps (at.Convert a) t n ≡ converted_of t (expr_at ps a n) n
unfolding converted_of expr_at
form_convert ps a t n = lowered ps _ _ t n (outs-Convert a)

-- ---- operators on two

-- an operator's lowering depends on its operands only where they begin
module _ (turned : Bool) (op : ℕ) (t : CType) (a b : Lowering) (n : ℕ) where
  abbrev A : Lowering
  A = given (a n)

  abbrev B : Lowering
  B = given (b (n + 1))

  abbrev tested : Lowering → Lowering → Bool → Bool → Bool → Bool → Bool → Lowering
  tested x y small p q r s =
      cond small (cond p (lower_operator turned (binary 0) x y)
      (cond q (lower_operator turned (binary 1) x y)
      (cond r (lower_operator turned (binary 2) x y)
      (cond s (lower_division turned (quotient_number t) x y) (lower_division turned (remainder_number t) x y)))))
      (lower_operator turned (bit_tree op t) x y)

  by_tests : (small p q r s : Bool) → tested a b small p q r s n ≡ tested A B small p q r s n
  by_tests false p q r s = refl
  by_tests true true q r s = refl
  by_tests true false true r s = refl
  by_tests true false false true s = refl
  by_tests true false false false true = refl
  by_tests true false false false false = refl

  pub binary_at : lower_binary turned op t a b n ≡ binary_of turned op t (a n) (b (n + 1)) n
  unfolding binary_of
  binary_at = by_tests (nat_lt op 17) (nat_eq op 12) (nat_eq op 13) (nat_eq op 14) (nat_eq op 15)

pub form_binary : (ps : List ℕ) (op : ℕ) (a b : Expr) (t : CType) (n : ℕ) → form_at ps (at.Binary op a b) t n ≡ binary_of false op a.ctype (expr_at ps a n) (expr_at ps b (n + 1)) n
unfolding expr_at
form_binary ps op a b t n =
    lowered ps _ _ t n (outs-Binary op a b) ∙ ap (λ (k : CType). lower_binary false op k (lower_expr ps a) (lower_expr ps b) n) (ap (λ (p : Part). p.ctype) (part_is ps a)) ∙
    binary_at false op a.ctype (lower_expr ps a) (lower_expr ps b) n

-- ---- places

abbrev place_of_target : (ps : List ℕ) → Target-F Form Target Expr → Place
place_of_target ps x = place_of_layer (map-Target Form Target Expr FormPart Place Part (form_part ps) (place_of ps) (part_of ps) x)

located : (ps : List ℕ) (tg : Target) (x : Target-F Form Target Expr) → out-Target tg ≡ x → place_of ps tg ≡ place_of_target ps x
located ps tg x e = fold_out-Target FormPart Place Part (lower_form ps) place_of_layer (lower_layer ps) tg ∙ ap (place_of_target ps) e

pub place_global : (ps : List ℕ) (g n : ℕ) → place_at ps (target.Global g) n ≡ InGlobal g
unfolding place_at
place_global ps g n = ap (placed n) (located ps _ _ (target_variants.outs-Global g))

pub place_local : (ps : List ℕ) (l n : ℕ) → place_at ps (target.Local l) n ≡ InLocal l
unfolding place_at
place_local ps l n = ap (placed n) (located ps _ _ (target_variants.outs-Local l))

pub place_global_at : (ps : List ℕ) (g : ℕ) (i : Expr) (n : ℕ) → place_at ps (target.GlobalAt g i) n ≡ Element (array.Global g) (given (expr_at ps i n))
unfolding place_at expr_at
place_global_at ps g i n = ap (placed n) (located ps _ _ (target_variants.outs-GlobalAt g i))

pub place_local_at : (ps : List ℕ) (l : ℕ) (i : Expr) (n : ℕ) → place_at ps (target.LocalAt l i) n ≡ Element (array.Local l) (given (expr_at ps i n))
unfolding place_at expr_at
place_local_at ps l i n = ap (placed n) (located ps _ _ (target_variants.outs-LocalAt l i))

pub ruleset places = (place_global, place_local, place_global_at, place_local_at)

-- ---- stores

set_same : (p : Place) (a : Lowering) (n : ℕ) → lower_set p a n ≡ set_of (placed n p) (a (start_of (placed n p) n)) n
unfolding set_of
set_same (InLocal l) a n = refl
set_same (InGlobal g) a n = refl
set_same (Element r i) a n = refl

pub form_set : (ps : List ℕ) (tg : Target) (a : Expr) (t : CType) (n : ℕ) → form_at ps (at.Set tg a) t n ≡ set_of (place_at ps tg n) (expr_at ps a (start_of (place_at ps tg n) n)) n
unfolding place_at expr_at
form_set ps tg a t n = lowered ps _ _ t n (outs-Set tg a) ∙ set_same (place_of ps tg) (lower_expr ps a) n

after_same : (up : Bool) (t : CType) (p : Place) (n : ℕ) → lower_after up t p n ≡ after_of up t (placed n p) n
unfolding after_of
after_same up t (InLocal l) n = refl
after_same up t (InGlobal g) n = refl
after_same up t (Element r i) n = refl

pub form_after : (ps : List ℕ) (up : Bool) (tg : Target) (t : CType) (n : ℕ) → form_at ps (at.After up tg) t n ≡ after_of up t (place_at ps tg n) n
unfolding place_at
form_after ps up tg t n = lowered ps _ _ t n (outs-After up tg) ∙ after_same up t (place_of ps tg) n

-- ---- compound assignments

changed_local : (op : ℕ) (kind t : CType) (l : ℕ) (a : Lowering) (n : ℕ) →
    lower_change op kind t (InLocal l) a n ≡ set_local_of l (converted_of t (binary_of true op kind (a n) (alone (temp l) (n + 1)) n) n) n
unfolding set_local_of converted_of
changed_local op kind t l a n = ap (λ (x : Lowered). set_local_of l (converted_of t x n) n) (binary_at true op kind a (lower_local l) n)

changed_global : (op : ℕ) (kind t : CType) (g : ℕ) (a : Lowering) (n : ℕ) →
    lower_change op kind t (InGlobal g) a n ≡ set_global_of g (converted_of t (binary_of true op kind (a n) (alone (global g) (n + 1)) n) n) n
unfolding set_global_of converted_of
changed_global op kind t g a n = ap (λ (x : Lowered). set_global_of g (converted_of t x n) n) (binary_at true op kind a (lower_global g) n)

-- the old value of an element, whose index stands in a temporary
old_element : (r : Array) (n : ℕ) → lower_element r (n + 1) (n + 2 + 1) ≡ lower_read_element r (given (alone (temp (n + 1)) (n + 3))) (n + 3)
old_element r n =
    let e : n + 2 + 1 ≡ n + 3 = omega arith in
    let top : n + 3 + 1 ≡ max (n + 3 + 1) (n + 3) = omega arith in
    ap (λ m. lower_element r (n + 1) m) e ∙ same_lowered refl refl top

changed_element : (op : ℕ) (kind t : CType) (r : Array) (i a : Lowering) (n : ℕ) →
    lower_change op kind t (Element r i) a n ≡
    set_element_of r (i n) (converted_of t (binary_of true op kind (a (n + 2)) (lower_read_element r (given (alone (temp (n + 1)) (n + 3))) (n + 3)) (n + 2)) (n + 2)) n
unfolding set_element_of converted_of
changed_element op kind t r i a n =
    ap (λ (x : Lowered). set_element_of r (i n) (converted_of t x (n + 2)) n)
    (binary_at true op kind a (lower_element r (n + 1)) (n + 2) ∙ ap (λ (old : Lowered). binary_of true op kind (a (n + 2)) old (n + 2)) (old_element r n))

pub change_local : (op : ℕ) (kind t : CType) (l : ℕ) (v : Lowered) (n : ℕ) →
    change_of op kind t (InLocal l) v n ≡ set_local_of l (converted_of t (binary_of true op kind v (alone (temp l) (n + 1)) n) n) n
unfolding change_of
change_local op kind t l v n = changed_local op kind t l (given v) n

pub change_global : (op : ℕ) (kind t : CType) (g : ℕ) (v : Lowered) (n : ℕ) →
    change_of op kind t (InGlobal g) v n ≡ set_global_of g (converted_of t (binary_of true op kind v (alone (global g) (n + 1)) n) n) n
unfolding change_of
change_global op kind t g v n = changed_global op kind t g (given v) n

pub change_element : (op : ℕ) (kind t : CType) (r : Array) (i v : Lowered) (n : ℕ) →
    change_of op kind t (Element r (given i)) v n ≡
    set_element_of r i (converted_of t (binary_of true op kind v (lower_read_element r (given (alone (temp (n + 1)) (n + 3))) (n + 3)) (n + 2)) (n + 2)) n
unfolding change_of
change_element op kind t r i v n = changed_element op kind t r (given i) (given v) n

pub ruleset changes = (change_local, change_global, change_element)

change_same : (op : ℕ) (kind t : CType) (p : Place) (a : Lowering) (n : ℕ) → lower_change op kind t p a n ≡ change_of op kind t (placed n p) (a (start_of (placed n p) n)) n
change_same op kind t (InLocal l) a n = changed_local op kind t l a n ∙ sym (change_local op kind t l (a n) n)
change_same op kind t (InGlobal g) a n = changed_global op kind t g a n ∙ sym (change_global op kind t g (a n) n)
change_same op kind t (Element r i) a n = changed_element op kind t r i a n ∙ sym (change_element op kind t r (i n) (a (n + 2)) n)

pub form_change : (ps : List ℕ) (op : ℕ) (kind : CType) (tg : Target) (a : Expr) (t : CType) (n : ℕ) →
    form_at ps (at.Change op kind tg a) t n ≡ change_of op kind t (place_at ps tg n) (expr_at ps a (start_of (place_at ps tg n) n)) n
unfolding place_at expr_at
form_change ps op kind tg a t n = lowered ps _ _ t n (outs-Change op kind tg a) ∙ change_same op kind t (place_of ps tg) (lower_expr ps a) n

one_node : (e : Expr) → 1 ≤ expr_nodes e
one_node e = let h = fold_out-Expr ℕ ℕ ℕ form_sum target_sum one_more_than e in omega (arith, h)

start_at : (ps : List ℕ) (tg : Target) (n : ℕ) (x : Target-F Form Target Expr) → out-Target tg ≡ x → start_of (placed n (place_of_target ps x)) n ≤ n + 1 + size_of_target x → start_of (place_at ps tg n) n ≤ n + 1 + target_size tg
unfolding place_at
start_at ps tg n x e h =
    let p : start_of (placed n (place_of ps tg)) n ≡ start_of (placed n (place_of_target ps x)) n = ap (λ (q : Place). start_of (placed n q) n) (located ps tg x e) in
    let s = sized_target tg x e in
    omega (arith, h, p, s)

-- the value that is stored begins where there is room
pub start_small : (ps : List ℕ) (tg : Target) (n : ℕ) → start_of (place_at ps tg n) n ≤ n + 1 + target_size tg
start_small ps tg n = by (out-Target tg) refl
  where
    by : (x : Target-F Form Target Expr) → out-Target tg ≡ x → start_of (place_at ps tg n) n ≤ n + 1 + target_size tg
    by (form.Global g) e = start_at ps tg n (form.Global g) e (omega arith)
    by (form.Local l) e = start_at ps tg n (form.Local l) e (omega arith)
    by (form.GlobalAt g i) e = start_at ps tg n (form.GlobalAt g i) e (let p = one_node i in omega (arith, p))
    by (form.LocalAt l i) e = start_at ps tg n (form.LocalAt l i) e (let p = one_node i in omega (arith, p))

-- ---- calls

args_same : (ps : List ℕ) (args : List Expr) (n : ℕ) → lower_all (map (λ (p : Part). p.lower) (map (part_of ps) args)) n ≡ arguments_of (exprs_at ps args n) n
unfolding arguments_of expr_at
args_same ps [] n = refl
args_same ps (e ∷ es) n = ap (λ rest. prepended (lower_expr ps e n) rest n) (args_same ps es (n + 1))

args_with : (ps : List ℕ) (args : List Expr) (f : Lowering) (n : ℕ) → lower_all (map (λ (p : Part). p.lower) (map (part_of ps) args) ++ f ∷ []) n ≡ arguments_of (exprs_at ps args n ++ f (n + length args) ∷ []) n
unfolding arguments_of expr_at
args_with ps [] f n = let e : n ≡ n + 0 = omega arith in ap (λ m. arguments_of (f m ∷ []) n) e
args_with ps (x ∷ xs) f n =
    let e : n + 1 + length xs ≡ n + suc (length xs) = omega arith in
    ap (λ rest. prepended (lower_expr ps x n) rest n) (args_with ps xs f (n + 1)) ∙ ap (λ m. arguments_of (expr_at ps x n ∷ (exprs_at ps xs (n + 1) ++ f m ∷ [])) n) e

pub form_direct : (ps : List ℕ) (f : ℕ) (args : List Expr) (t : CType) (n : ℕ) → form_at ps (at.Direct f args) t n ≡ direct_of (is_void t) f (exprs_at ps args n) n
unfolding direct_of arguments_of
form_direct ps f args t n = lowered ps _ _ t n (outs-Direct f args) ∙ ap (λ (all : Arguments). lower_call_to (is_void t) (callee.Direct f) all all.trees n) (args_same ps args n)

called_same : (ps : List ℕ) (o : Option ℕ) (void : Bool) (args : List Expr) (f : Expr) (n : ℕ) →
    lower_called o void (map (λ (p : Part). p.lower) (map (part_of ps) args)) (lower_expr ps f) n ≡ called_of o void (exprs_at ps args n) (expr_at ps f (n + length args)) n
unfolding through_of switched_of expr_at arguments_of
called_same ps None void args f n =
    ap (λ (all : Arguments). lower_call_to void (callee.Through (last_of all.trees)) all (but_last all.trees) n) (args_with ps args (lower_expr ps f) n)
called_same ps (Some g) void args f n = ap (λ (all : Arguments). lower_call_to void (callee.Switched g) all all.trees n) (args_same ps args n)

pub form_through : (ps : List ℕ) (args : List Expr) (f : Expr) (t : CType) (n : ℕ) →
    form_at ps (at.Through args f) t n ≡ called_of (switch_of ps f) (is_void t) (exprs_at ps args n) (expr_at ps f (n + length args)) n
unfolding switch_of
form_through ps args f t n = lowered ps _ _ t n (outs-Through args f) ∙ called_same ps (switched_by ps (part_of ps f).reads) (is_void t) args f n

abbrev known_call : Known → Arguments → ℕ → Lowered
known_call k all n = record { code = all.code ++ known n k all.trees ∷ []; tree = temp n; top = max (n + 1) all.top }

pub form_known : (ps : List ℕ) (k : Known) (args : List Expr) (t : CType) (n : ℕ) → form_at ps (at.Known k args) t n ≡ known_of k (exprs_at ps args n) n
unfolding known_of arguments_of
form_known ps k args t n =
    lowered ps _ _ t n (outs-Known k args) ∙
    ap (λ (all : Arguments). known_call k all n) (args_same ps args n)

pub ruleset forms = (form_number, form_read, form_function, form_unary, form_binary, form_both, form_either, form_choose, form_convert, form_set, form_change, form_after, form_direct, form_through, form_known)

-- ---- the pointer switch that an expression is the read of

pub switched_expression : (ps : List ℕ) (e : Expr) → switch_of ps e ≡ switch_of_form ps e.what
unfolding switch_of switch_of_form
switched_expression ps e = ap (λ (p : Part). switched_by ps p.reads) (part_is ps e)

pub ruleset switched_expressions = switched_expression

switched : (ps : List ℕ) (f : Form) (x : Form-F Form Target Expr) → out-Form f ≡ x → switch_of_form ps f ≡ switched_by ps (part_of_form ps x).reads
unfolding switch_of_form
switched ps f x e = ap (λ (p : FormPart). switched_by ps p.reads) (form_is ps f x e)

pub switched_number : (ps : List ℕ) (v : ℕ) → switch_of_form ps (at.Number v) ≡ None
switched_number ps v = switched ps _ _ (outs-Number v)

pub switched_read : (ps : List ℕ) (tg : Target) → switch_of_form ps (at.Read tg) ≡ switch_of_target ps tg
unfolding switch_of_target
switched_read ps tg = switched ps _ _ (outs-Read tg)

pub switched_function : (ps : List ℕ) (f : ℕ) → switch_of_form ps (at.Function f) ≡ None
switched_function ps f = switched ps _ _ (outs-Function f)

pub switched_unary : (ps : List ℕ) (op : ℕ) (a : Expr) → switch_of_form ps (at.Unary op a) ≡ None
switched_unary ps op a = switched ps _ _ (outs-Unary op a)

pub switched_binary : (ps : List ℕ) (op : ℕ) (a b : Expr) → switch_of_form ps (at.Binary op a b) ≡ None
switched_binary ps op a b = switched ps _ _ (outs-Binary op a b)

pub switched_both : (ps : List ℕ) (a b : Expr) → switch_of_form ps (at.Both a b) ≡ None
switched_both ps a b = switched ps _ _ (outs-Both a b)

pub switched_either : (ps : List ℕ) (a b : Expr) → switch_of_form ps (at.Either a b) ≡ None
switched_either ps a b = switched ps _ _ (outs-Either a b)

pub switched_choose : (ps : List ℕ) (z a b : Expr) → switch_of_form ps (at.Choose z a b) ≡ None
switched_choose ps z a b = switched ps _ _ (outs-Choose z a b)

pub switched_convert : (ps : List ℕ) (a : Expr) → switch_of_form ps (at.Convert a) ≡ None
switched_convert ps a = switched ps _ _ (outs-Convert a)

pub switched_set : (ps : List ℕ) (tg : Target) (a : Expr) → switch_of_form ps (at.Set tg a) ≡ None
switched_set ps tg a = switched ps _ _ (outs-Set tg a)

pub switched_change : (ps : List ℕ) (op : ℕ) (kind : CType) (tg : Target) (a : Expr) → switch_of_form ps (at.Change op kind tg a) ≡ None
switched_change ps op kind tg a = switched ps _ _ (outs-Change op kind tg a)

pub switched_after : (ps : List ℕ) (up : Bool) (tg : Target) → switch_of_form ps (at.After up tg) ≡ None
switched_after ps up tg = switched ps _ _ (outs-After up tg)

pub switched_direct : (ps : List ℕ) (f : ℕ) (args : List Expr) → switch_of_form ps (at.Direct f args) ≡ None
switched_direct ps f args = switched ps _ _ (outs-Direct f args)

pub switched_through : (ps : List ℕ) (args : List Expr) (f : Expr) → switch_of_form ps (at.Through args f) ≡ None
switched_through ps args f = switched ps _ _ (outs-Through args f)

pub switched_known : (ps : List ℕ) (k : Known) (args : List Expr) → switch_of_form ps (at.Known k args) ≡ None
switched_known ps k args = switched ps _ _ (outs-Known k args)

pub ruleset switched_forms = (
  switched_number,
  switched_read,
  switched_function,
  switched_unary,
  switched_binary,
  switched_both,
  switched_either,
  switched_choose,
  switched_convert,
  switched_set,
  switched_change,
  switched_after,
  switched_direct,
  switched_through,
  switched_known,
)

pub switched_global : (ps : List ℕ) (g : ℕ) → switch_of_target ps (target.Global g) ≡ (if is_among g ps then Some g else None)
unfolding switch_of_target
switched_global ps g = ap (λ (x : Place). switched_by ps (global_at x)) (located ps _ _ (target_variants.outs-Global g)) ∙ by (is_among g ps)
  where
    by : (z : Bool) → switched_if z g ≡ (if z then Some g else None)
    by true = refl
    by false = refl

pub switched_local : (ps : List ℕ) (l : ℕ) → switch_of_target ps (target.Local l) ≡ None
unfolding switch_of_target
switched_local ps l = ap (λ (x : Place). switched_by ps (global_at x)) (located ps _ _ (target_variants.outs-Local l))

pub switched_global_at : (ps : List ℕ) (g : ℕ) (i : Expr) → switch_of_target ps (target.GlobalAt g i) ≡ None
unfolding switch_of_target
switched_global_at ps g i = ap (λ (x : Place). switched_by ps (global_at x)) (located ps _ _ (target_variants.outs-GlobalAt g i))

pub switched_local_at : (ps : List ℕ) (l : ℕ) (i : Expr) → switch_of_target ps (target.LocalAt l i) ≡ None
unfolding switch_of_target
switched_local_at ps l i = ap (λ (x : Place). switched_by ps (global_at x)) (located ps _ _ (target_variants.outs-LocalAt l i))

pub ruleset switched_targets = (switched_global, switched_local, switched_global_at, switched_local_at)

-- ---- numbers of values

pub length_exprs : (ps : List ℕ) (es : List Expr) (n : ℕ) → length (exprs_at ps es n) ≡ length es
length_exprs ps [] n = refl
length_exprs ps (e ∷ es) n = ap suc (length_exprs ps es (n + 1))

pub few_exprs : (es : List Expr) → length es ≤ exprs_size es
few_exprs [] = omega arith
few_exprs (e ∷ es) = let h = few_exprs es in let p = size_expr e in let s = sum_by-cons (λ x. x) (expr_size e) (map expr_size es) in omega (arith, h, p, s)

-- ---- expressions that may be left out

pub optional_none : (ps : List ℕ) (v n : ℕ) → optional_at ps v None n ≡ alone (number v) n
unfolding optional_at
optional_none ps v n = refl

pub optional_some : (ps : List ℕ) (v : ℕ) (e : Expr) (n : ℕ) → optional_at ps v (Some e) n ≡ expr_at ps e n
unfolding optional_at expr_at
optional_some ps v e n = refl

pub ruleset optionals = (optional_none, optional_some)

-- ---- lists of values

pub map_push : {A B : Type 0} (f : A → B) (xs : List A) (x : A) → map f (xs ++ x ∷ []) ≡ map f xs ++ f x ∷ []
map_push f [] x = refl
map_push f (y ∷ ys) x = ap (λ l. f y ∷ l) (map_push f ys x)

pub length_map_of : {A B : Type 0} (f : A → B) (xs : List A) → length (map f xs) ≡ length xs
length_map_of f [] = refl
length_map_of f (x ∷ xs) = ap suc (length_map_of f xs)

pub few_values : (ps : List ℕ) (vs : List Value) (es : List Expr) (n : ℕ) → map seen vs ≡ exprs_at ps es n → length vs ≤ exprs_size es
few_values ps vs es n h =
    let a = length_map_of seen vs in
    let b = ap (λ (l : List Lowered). length l) h in
    let d = length_exprs ps es n in
    let e = few_exprs es in
    omega (arith, a, b, d, e)

pub few_with_callee : (ps : List ℕ) (vs : List Value) (es : List Expr) (f : Expr) (n : ℕ) → map seen vs ≡ exprs_at ps es n ++ expr_at ps f (n + length es) ∷ [] → length vs ≤ exprs_size es + expr_size f
few_with_callee ps vs es f n h =
    let a = length_map_of seen vs in
    let b = ap (λ (l : List Lowered). length l) h in
    let k = length-append (exprs_at ps es n) (expr_at ps f (n + length es) ∷ []) in
    let d = length_exprs ps es n in
    let e = few_exprs es in
    let one = size_expr f in
    omega (arith, a, b, k, d, e, one)

-- one expression more
pub record MoreAt (ps : List ℕ) (es : List Expr) (i : ℕ) (e : Expr) (n : ℕ) : Type 0 where
  pub values : exprs_at ps (take (i + 1) es) n ≡ exprs_at ps (take i es) n ++ expr_at ps e (n + i) ∷ []
  pub size : exprs_size (take (i + 1) es) ≡ exprs_size (take i es) + expr_size e

exprs_append : (ps : List ℕ) (es : List Expr) (e : Expr) (n : ℕ) → exprs_at ps (es ++ e ∷ []) n ≡ exprs_at ps es n ++ expr_at ps e (n + length es) ∷ []
exprs_append ps [] e n = let z : n ≡ n + 0 = omega arith in ap (λ k. expr_at ps e k ∷ []) z
exprs_append ps (x ∷ xs) e n =
    let z : n + 1 + length xs ≡ n + suc (length xs) = omega arith in
    ap (λ l. expr_at ps x n ∷ l) (exprs_append ps xs e (n + 1) ∙ ap (λ k. exprs_at ps xs (n + 1) ++ expr_at ps e k ∷ []) z)

pub exprs_push : (ps : List ℕ) (es : List Expr) (i : ℕ) (e : Expr) (n : ℕ) → i < length es → e ≡ get_or es i e → MoreAt ps es i e n
exprs_push ps es i e n h is =
    let t : take (i + 1) es ≡ take i es ++ e ∷ [] = take_more es i e h ∙ ap (λ (x : Expr). take i es ++ x ∷ []) (sym is) in
    let long : length (take i es) ≡ i = length-take-le i es (omega arith) in
    record {
      values = ap (λ (l : List Expr). exprs_at ps l n) t ∙ (exprs_append ps (take i es) e n ∙ ap (λ k. exprs_at ps (take i es) n ++ expr_at ps e (n + k) ∷ []) long);
      size = ap (λ (l : List Expr). exprs_size l) t ∙ (ap (λ (l : List ℕ). sum l) (map_push expr_size (take i es) e) ∙ sum_by_push (λ x. x) (map expr_size (take i es)) (expr_size e));
    }
