-- The lowering of expressions: a fold that gives, for each, its code and its tree from the first free temporary on.
use Rattle.std.specs.Prelude.{ℕ, ◌+◌, Bool, true, false, cond, List, [], ◌∷◌, ◌++◌, map, Option, Some, None, if◌then◌else◌, nat_eq, nat_lt}
use Rattle.mv_ir.specs.declared.tree.Tree.{Tree}
use Rattle.mv_ir.specs.declared.tree.Tree.TheOpen as tree
use Rattle.mv_ir.specs.declared.tree.Tree.TheViews.{roll-Tree}
use Rattle.mv_ir.specs.declared.stm.Array.{Array}
use Rattle.mv_ir.specs.declared.stm.Array.TheVariants as array
use Rattle.mv_num.specs.declared.kind.Kind.{Kind}
use Rattle.mv_ast.specs.declared.program.CType.{CType}
use Rattle.mv_ast.specs.declared.program.CType.TheVariants.{Void, Scalar, Pointer}
use Rattle.mv_ast.specs.declared.program.Expr.{Expr, Expr-F, fold-Expr}
use Rattle.mv_ast.specs.declared.program.Form.{Form, Form-F, fold-Form}
use Rattle.mv_ast.specs.declared.program.Form.TheOpen as form
use Rattle.mv_ast.specs.declared.program.Target.{Target, Target-F, fold-Target}
use Rattle.mv_ast.specs.Operators.{is_unsigned}
use Rattle.mv_num.specs.Lists.{is_among}
use Rattle.mv_source_forms.specs.Names.{is_void}
use Rattle.mv_lower_spec.specs.Lowered.{Lowering, number, unary, binary, temp, global, set, set_global, read, write, lower_number, lower_local, lower_global, lower_function, lower_one, lower_two, lower_division, lower_both, lower_either, lower_choice, lower_set_local, lower_set_global, lower_call, lower_through, lower_switched, lower_known, index_in, lower_element, lower_read_element, lower_set_element}
use Rattle.mv_ast.specs.Marks as marks
use Rattle.mv_ir.specs.Operators as operators

-- ---- operators, by the numbers of their marks

abbrev pub narrowed : Kind → Tree → Tree
narrowed k a = roll-Tree (tree.Narrow k a)

abbrev pub unary_tree : ℕ → Tree → Tree
unary_tree op a =
    if nat_eq op marks.tilde then binary operators.bit_xor a (number 4294967295)
    else if nat_eq op marks.exclamation then unary operators.logical_not a
    else if nat_eq op marks.minus then unary operators.negate a
    else a

abbrev pub converted_tree : CType → Tree → Tree
converted_tree Void a = number 0
converted_tree (Scalar kind) a = narrowed kind a
converted_tree (Pointer signature) a = a

abbrev pub less_tree : CType → Tree → Tree → Tree
less_tree t a b = if is_unsigned t then binary operators.less_unsigned a b else binary operators.less_signed a b

abbrev pub bit_tree : ℕ → CType → Tree → Tree → Tree
bit_tree op t a b =
    if nat_eq op marks.ampersand then binary operators.bit_and a b
    else if nat_eq op marks.bar then binary operators.bit_or a b
    else if nat_eq op marks.caret then binary operators.bit_xor a b
    else if nat_eq op marks.less then less_tree t a b
    else if nat_eq op marks.greater then less_tree t b a
    else if nat_eq op marks.shift_left then binary operators.shift_left a b
    else if nat_eq op marks.shift_right then (if is_unsigned t then binary operators.shift_right_unsigned a b else binary operators.shift_right_signed a b)
    else if nat_eq op marks.less_or_equal then unary operators.logical_not (less_tree t b a)
    else if nat_eq op marks.greater_or_equal then unary operators.logical_not (less_tree t a b)
    else if nat_eq op marks.equal then binary operators.equal a b
    else binary operators.not_equal a b

abbrev pub quotient_number : CType → ℕ
quotient_number t = if is_unsigned t then operators.quotient_unsigned else operators.quotient_signed

abbrev pub remainder_number : CType → ℕ
remainder_number t = if is_unsigned t then operators.remainder_unsigned else operators.remainder_signed

-- an operator on two operands, of which the second one comes first in it where the flag says so
abbrev pub lower_operator : Bool → (Tree → Tree → Tree) → Lowering → Lowering → Lowering
lower_operator turned f = lower_two (λ x y. cond turned (f y x) (f x y))

abbrev pub lower_product : Bool → ℕ → CType → Lowering → Lowering → Lowering
lower_product turned op t a b =
    if nat_eq op marks.plus then lower_operator turned (binary operators.add) a b
    else if nat_eq op marks.minus then lower_operator turned (binary operators.sub) a b
    else if nat_eq op marks.star then lower_operator turned (binary operators.mul) a b
    else if nat_eq op marks.slash then lower_division turned (quotient_number t) a b
    else lower_division turned (remainder_number t) a b

abbrev pub lower_binary : Bool → ℕ → CType → Lowering → Lowering → Lowering
lower_binary turned op t a b =
    if nat_lt op marks.ampersand then lower_product turned op t a b else lower_operator turned (bit_tree op t) a b

-- ---- expressions

-- what a form is lowered to at the type of its expression, and the global scalar that it is the read of, if it is one
pub record FormPart : Type 0 where
  pub lower : CType → Lowering
  pub reads : Option ℕ

-- an expression's type, what it is lowered to, and the global scalar that it is the read of
pub record Part : Type 0 where
  pub ctype : CType
  pub lower : Lowering
  pub reads : Option ℕ

-- where a value is read or stored
pub data Place : Type 0 where
  InLocal : ℕ → Place
  InGlobal : ℕ → Place
  Element : Array → Lowering → Place

abbrev pub place_of_layer : Target-F FormPart Place Part → Place
place_of_layer (form.Global g) = InGlobal g
place_of_layer (form.Local l) = InLocal l
place_of_layer (form.GlobalAt g e) = Element (array.Global g) e.lower
place_of_layer (form.LocalAt l e) = Element (array.Local l) e.lower

abbrev pub lower_read : Place → Lowering
lower_read (InLocal l) = lower_local l
lower_read (InGlobal g) = lower_global g
lower_read (Element a i) = lower_read_element a i

abbrev pub lower_set : Place → Lowering → Lowering
lower_set (InLocal l) a = lower_set_local l a
lower_set (InGlobal g) a = lower_set_global g a
lower_set (Element a i) v = lower_set_element a i v

-- the new value of a compound assignment, which computes in one type and stores in another: the right side, and then the old value
abbrev pub lower_changed : ℕ → CType → CType → Lowering → Lowering → Lowering
lower_changed op kind t old a = lower_one (converted_tree t) (lower_binary true op kind a old)

abbrev pub lower_change : ℕ → CType → CType → Place → Lowering → Lowering
lower_change op kind t (InLocal l) a n = lower_set_local l (lower_changed op kind t (lower_local l) a) n
lower_change op kind t (InGlobal g) a n = lower_set_global g (lower_changed op kind t (lower_global g) a) n
lower_change op kind t (Element r i) a n = lower_set_element r i (lower_changed op kind t (lower_element r (n + 1)) a) n

-- one more or one less than an old value
abbrev pub next_tree : Bool → CType → Tree → Tree
next_tree up t old = converted_tree t (binary (cond up operators.add operators.sub) old (number 1))

-- `++` and `--` behind a place: the old value stays in a temporary
abbrev pub lower_after : Bool → CType → Place → Lowering
lower_after up t (InLocal l) n = record { code = set n (temp l) ∷ set l (next_tree up t (temp n)) ∷ []; tree = temp n; top = n + 1 }
lower_after up t (InGlobal g) n = record { code = set n (global g) ∷ set_global g (next_tree up t (temp n)) ∷ []; tree = temp n; top = n + 1 }
lower_after up t (Element r i) n =
    let at = index_in n i in
    record {
      code = at.code ++ (read n r at.tree ∷ write r at.tree (next_tree up t (temp n)) ∷ []);
      tree = temp n;
      top = at.top;
    }

-- ---- calls through pointers

-- the global scalar that is read at a place
abbrev pub global_at : Place → Option ℕ
global_at (InLocal l) = None
global_at (InGlobal g) = Some g
global_at (Element a i) = None

-- whether what is called is the read of a pointer switch, and of which
abbrev pub switched_if : Bool → ℕ → Option ℕ
switched_if true g = Some g
switched_if false g = None

abbrev pub switched_by : (pointers : List ℕ) → Option ℕ → Option ℕ
switched_by pointers None = None
switched_by pointers (Some g) = switched_if (is_among g pointers) g

-- a call of what is called, the arguments in front of it: through a pointer switch, or through the value of a pointer
abbrev pub lower_called : Option ℕ → Bool → List Lowering → Lowering → Lowering
lower_called (Some g) void args f = lower_switched void args g
lower_called None void args f = lower_through void args f

module _ (pointers : List ℕ) where
  abbrev pub lower_form_at : Form-F FormPart Place Part → CType → Lowering
  lower_form_at (form.Number n) t = lower_number n
  lower_form_at (form.Read target) t = lower_read target
  lower_form_at (form.Function f) t = lower_function f
  lower_form_at (form.Unary op a) t = lower_one (unary_tree op) a.lower
  lower_form_at (form.Binary op a b) t = lower_binary false op a.ctype a.lower b.lower
  lower_form_at (form.Both a b) t = lower_both a.lower b.lower
  lower_form_at (form.Either a b) t = lower_either a.lower b.lower
  lower_form_at (form.Choose c a b) t = lower_choice c.lower a.lower b.lower
  lower_form_at (form.Convert a) t = lower_one (converted_tree t) a.lower
  lower_form_at (form.Set target a) t = lower_set target a.lower
  lower_form_at (form.Change op kind target a) t = lower_change op kind t target a.lower
  lower_form_at (form.After up target) t = lower_after up t target
  lower_form_at (form.Direct f args) t = lower_call (is_void t) f (map (λ a. a.lower) args)
  lower_form_at (form.Through args f) t = lower_called (switched_by pointers f.reads) (is_void t) (map (λ a. a.lower) args) f.lower
  lower_form_at (form.Known k args) t = lower_known k (map (λ a. a.lower) args)

  abbrev pub form_reads : Form-F FormPart Place Part → Option ℕ
  form_reads (form.Read target) = global_at target
  form_reads _ = None

  abbrev pub lower_form : Form-F FormPart Place Part → FormPart
  lower_form f = record { lower = lower_form_at f; reads = form_reads f }

  abbrev pub lower_layer : Expr-F FormPart Place Part → Part
  lower_layer e = record { ctype = e.ctype; lower = e.what.lower e.ctype; reads = e.what.reads }

  abbrev pub form_part : Form → FormPart
  form_part = fold-Form FormPart Place Part lower_form place_of_layer lower_layer

  abbrev pub form_lowering : Form → CType → Lowering
  form_lowering f = (form_part f).lower

  abbrev pub place_of : Target → Place
  place_of = fold-Target FormPart Place Part lower_form place_of_layer lower_layer

  abbrev pub part_of : Expr → Part
  part_of = fold-Expr FormPart Place Part lower_form place_of_layer lower_layer

  -- The lowering of an expression, in a program with these pointer switches.
  abbrev pub lower_expr : Expr → Lowering
  lower_expr e = (part_of e).lower
