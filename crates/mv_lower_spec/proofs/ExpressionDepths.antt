-- No tree of a lowered expression is deeper than 4.
use Rattle.std.proofs.Common.{◌≡◌, ℕ, suc, ◌+◌, ◌≤◌, Bool, true, false, cond, List, [], ◌∷◌, map, max, Option, Some, None, sym, subst, arith}
use Rattle.std.specs.Prelude.{nat_eq, nat_lt}
use Rattle.mv_ir.specs.declared.tree.Tree.{Tree}
use Rattle.mv_ir.specs.declared.tree.Tree.TheOpen as tree
use Rattle.mv_ir.specs.Trees.{depth}
use Rattle.mv_ir.specs.Measures.{trees, deepest_of, deepest}
use Rattle.mv_ir.proofs.Induction.{Each}
use Rattle.mv_ir.proofs.Rolls.{depth_roll}
use Rattle.mv_ast.specs.declared.program.CType.{CType}
use Rattle.mv_ast.specs.declared.program.CType.TheVariants.{Void, Scalar, Pointer}
use Rattle.mv_ast.specs.declared.program.Expr.{Expr, fold-roll-Expr}
use Rattle.mv_ast.specs.declared.program.Form.{Form, Form-F, fold-roll-Form, map-Form}
use Rattle.mv_ast.specs.declared.program.Form.TheOpen as form
use Rattle.mv_ast.specs.declared.program.Target.{Target, Target-F, fold-roll-Target, map-Target}
use Rattle.mv_ast.specs.Operators.{is_unsigned}
use Rattle.mv_lower_spec.specs.Lowered.{Lowering, number, temp, global, binary, set, set_global, read, write, lower_number, lower_local, lower_global, index_in, lower_element}
use Rattle.mv_lower_spec.specs.Lower.{Part, Place, InLocal, InGlobal, Element, narrowed, unary_tree, converted_tree, less_tree, bit_tree, quotient_number, remainder_number, lower_operator, lower_product, lower_binary, place_of_layer, lower_read, lower_set, lower_changed, lower_change, next_tree, lower_after, FormPart, switched_by, lower_called, lower_form_at, lower_form, lower_layer, form_part, form_lowering, place_of, part_of, lower_expr}
use Rattle.mv_source_forms.specs.Names.{is_void}
use Rattle.mv_source_forms.proofs.ExpressionInduction.{FormChildren, TargetChildren, expr_ind}
use Rattle.mv_lower_spec.proofs.Depths.{Shallow, AlwaysShallow, both_parts, shallow_set, shallow_set_global, shallow_one, shallow_two, shallow_division, shallow_both, shallow_either, shallow_choice, shallow_set_local, shallow_store, shallow_call, shallow_through, shallow_switched, shallow_known, shallow_read, shallow_write, shallow_index, shallow_element, shallow_read_element, shallow_set_element}

within_if : (z : Bool) (x y : Tree) (m : ℕ) → depth x ≤ m → depth y ≤ m → depth (cond z x y) ≤ m
within_if true x y m h k = h
within_if false x y m h k = k

unary_depth : (op : ℕ) (x : Tree) → depth (unary_tree op x) ≤ max (depth x) 1 + 2
unary_depth op x =
    let m = max (depth x) 1 + 2 in
    within_if (nat_eq op 10) _ _ m (omega (arith, depth_roll (tree.Binary 5 x (number 4294967295)), depth_roll (tree.Number 4294967295)))
    (within_if (nat_eq op 11) _ _ m (omega (arith, depth_roll (tree.Unary 2 x))) (within_if (nat_eq op 13) _ _ m (omega (arith, depth_roll (tree.Unary 0 x))) (omega arith)))

converted_depth : (t : CType) (x : Tree) → depth (converted_tree t x) ≤ max (depth x) 1 + 2
converted_depth Void x = omega (arith, depth_roll (tree.Number 0))
converted_depth (Scalar kind) x = let e : depth (narrowed kind x) ≡ suc (depth x) = depth_roll (tree.Narrow kind x) in omega (arith, e)
converted_depth (Pointer signature) x = omega arith

two_depth : (o : ℕ) (a b : Tree) → depth (binary o a b) ≡ suc (max (depth a) (depth b))
two_depth o a b = depth_roll (tree.Binary o a b)

less_depth : (t : CType) (a b : Tree) → depth (less_tree t a b) ≤ max (depth a) (depth b) + 1
less_depth t a b = within_if (is_unsigned t) (binary 10 a b) (binary 9 a b) (max (depth a) (depth b) + 1) (omega (arith, two_depth 10 a b)) (omega (arith, two_depth 9 a b))

bit_depth : (op : ℕ) (t : CType) (a b : Tree) → depth (bit_tree op t a b) ≤ max (depth a) (depth b) + 2
bit_depth op t a b =
    let m = max (depth a) (depth b) + 2 in
    within_if (nat_eq op 17) _ _ m (two 3) (within_if (nat_eq op 18) _ _ m (two 4) (within_if (nat_eq op 19) _ _ m (two 5)
    (within_if (nat_eq op 20) _ _ m (omega (arith, less_depth t a b)) (within_if (nat_eq op 21) _ _ m (omega (arith, less_depth t b a))
    (within_if (nat_eq op 25) _ _ m (two 6) (within_if (nat_eq op 26) _ _ m (within_if (is_unsigned t) _ _ m (two 8) (two 7))
    (within_if (nat_eq op 27) _ _ m (omega (arith, less_depth t b a, depth_roll (tree.Unary 2 (less_tree t b a)))) (within_if (nat_eq op 28) _ _ m (omega (arith, less_depth t a b, depth_roll (tree.Unary 2 (less_tree t a b))))
    (within_if (nat_eq op 29) _ _ m (two 11) (two 12))))))))))
  where
    two : (o : ℕ) → depth (binary o a b) ≤ max (depth a) (depth b) + 2
    two o = omega (arith, two_depth o a b)

shallow_number : (v : ℕ) → AlwaysShallow (lower_number v)
shallow_number v n = record { code = tt; tree = omega (arith, depth_roll (tree.Number v)) }

by_test : (z : Bool) (a b : Lowering) → AlwaysShallow a → AlwaysShallow b → AlwaysShallow (cond z a b)
by_test true a b h k = h
by_test false a b h k = k

shallow_binary : (turned : Bool) (op : ℕ) (t : CType) (a b : Lowering) → AlwaysShallow a → AlwaysShallow b → AlwaysShallow (lower_binary turned op t a b)
shallow_binary turned op t a b ha hb =
    by_test (nat_lt op 17) (lower_product turned op t a b) (lower_operator turned (bit_tree op t) a b)
    (by_test (nat_eq op 12) _ _ (plain 0) (by_test (nat_eq op 13) _ _ (plain 1) (by_test (nat_eq op 14) _ _ (plain 2)
    (by_test (nat_eq op 15) _ _ (shallow_division turned (quotient_number t) a b ha hb) (shallow_division turned (remainder_number t) a b ha hb)))))
    (operator (bit_tree op t) (bit_depth op t))
  where
    operator : (f : Tree → Tree → Tree) → ((x y : Tree) → depth (f x y) ≤ max (depth x) (depth y) + 2) → AlwaysShallow (lower_operator turned f a b)
    operator f h = shallow_two (λ x y. cond turned (f y x) (f x y)) a b (λ x y. within_if turned (f y x) (f x y) (max (depth x) (depth y) + 2) (omega (arith, h y x)) (omega (arith, h x y))) ha hb

    plain : (o : ℕ) → AlwaysShallow (lower_operator turned (binary o) a b)
    plain o = operator (binary o) (λ x y. omega (arith, two_depth o x y))

-- a place whose index is shallow
abbrev ShallowPlace : Place → Type 0
ShallowPlace (InLocal l) = Unit {0}
ShallowPlace (InGlobal g) = Unit {0}
ShallowPlace (Element a i) = AlwaysShallow i

shallow_local : (l : ℕ) → AlwaysShallow (lower_local l)
shallow_local l n = record { code = tt; tree = omega (arith, depth_roll (tree.Temp l)) }

shallow_global : (g : ℕ) → AlwaysShallow (lower_global g)
shallow_global g n = record { code = tt; tree = omega (arith, depth_roll (tree.Global g)) }

read_shallow : (x : Place) → ShallowPlace x → AlwaysShallow (lower_read x)
read_shallow (InLocal l) h = shallow_local l
read_shallow (InGlobal g) h = shallow_global g
read_shallow (Element a i) h = shallow_read_element a i h

set_shallow : (x : Place) (a : Lowering) → ShallowPlace x → AlwaysShallow a → AlwaysShallow (lower_set x a)
set_shallow (InLocal l) a h k = shallow_set_local l a k
set_shallow (InGlobal g) a h k = shallow_store g a k
set_shallow (Element r i) a h k = λ n. shallow_set_element r i a n h k

shallow_changed : (op : ℕ) (kind t : CType) (old a : Lowering) → AlwaysShallow old → AlwaysShallow a → AlwaysShallow (lower_changed op kind t old a)
shallow_changed op kind t old a h k = shallow_one (converted_tree t) (lower_binary true op kind a old) (converted_depth t) (shallow_binary true op kind a old k h)

change_shallow : (op : ℕ) (kind t : CType) (x : Place) (a : Lowering) → ShallowPlace x → AlwaysShallow a → AlwaysShallow (lower_change op kind t x a)
change_shallow op kind t (InLocal l) a h k n = shallow_set_local l (lower_changed op kind t (lower_local l) a) (shallow_changed op kind t (lower_local l) a (shallow_local l) k) n
change_shallow op kind t (InGlobal g) a h k n = shallow_store g (lower_changed op kind t (lower_global g) a) (shallow_changed op kind t (lower_global g) a (shallow_global g) k) n
change_shallow op kind t (Element r i) a h k n =
    shallow_set_element r i (lower_changed op kind t (lower_element r (n + 1)) a) n h (shallow_changed op kind t (lower_element r (n + 1)) a (shallow_element r (n + 1)) k)

shallow_next : (up : Bool) (t : CType) (n : ℕ) → Shallow (next_tree up t (temp n))
shallow_next up t n = omega (arith, converted_depth t (binary (cond up 0 1) (temp n) (number 1)), two_depth (cond up 0 1) (temp n) (number 1), depth_roll (tree.Temp n), depth_roll (tree.Number 1))

after_shallow : (up : Bool) (t : CType) (x : Place) → ShallowPlace x → AlwaysShallow (lower_after up t x)
after_shallow up t (InLocal l) h n = record {
  code = both_parts (set n (temp l) ∷ []) (set l (next_tree up t (temp n)) ∷ []) (shallow_set n (temp l) (omega (arith, depth_roll (tree.Temp l)))) (shallow_set l (next_tree up t (temp n)) (shallow_next up t n));
  tree = omega (arith, depth_roll (tree.Temp n));
}
after_shallow up t (InGlobal g) h n = record {
  code = both_parts (set n (global g) ∷ []) (set_global g (next_tree up t (temp n)) ∷ []) (shallow_set n (global g) (omega (arith, depth_roll (tree.Global g)))) (shallow_set_global g (next_tree up t (temp n)) (shallow_next up t n));
  tree = omega (arith, depth_roll (tree.Temp n));
}
after_shallow up t (Element r i) h n =
    let at = index_in n i in
    let k = shallow_index n i h in
    record {
      code = both_parts at.code (read n r at.tree ∷ write r at.tree (next_tree up t (temp n)) ∷ []) k.code
          (both_parts (read n r at.tree ∷ []) (write r at.tree (next_tree up t (temp n)) ∷ []) (shallow_read n r at.tree k.tree) (shallow_write r at.tree (next_tree up t (temp n)) k.tree (shallow_next up t n)));
      tree = omega (arith, depth_roll (tree.Temp n));
    }

pub deepest_up : (ts : List Tree) → Each Shallow ts → deepest_of ts ≤ 4
deepest_up [] h = omega arith
deepest_up (t ∷ ts) h = omega (arith, h.0, deepest_up ts h.1)

module _ (pointers : List ℕ) where
  abbrev P : Form → Type 0
  P f = (t : CType) → AlwaysShallow (form_lowering pointers f t)

  abbrev Q : Target → Type 0
  Q x = ShallowPlace (place_of pointers x)

  abbrev S : Expr → Type 0
  S e = AlwaysShallow (lower_expr pointers e)

  each : (es : List Expr) → Each S es → Each AlwaysShallow (map (λ (a : Part). a.lower) (map (part_of pointers) es))
  each [] h = tt
  each (e ∷ es) h = (h.0, each es h.1)

  layer : (x : Form-F Form Target Expr) → FormChildren P Q S x → (t : CType) → AlwaysShallow (lower_form_at pointers (map-Form Form Target Expr FormPart Place Part (form_part pointers) (place_of pointers) (part_of pointers) x) t)
  layer (form.Number n) h t = shallow_number n
  layer (form.Read target) h t = read_shallow (place_of pointers target) h
  layer (form.Function f) h t = λ n. record { code = tt; tree = omega (arith, depth_roll (tree.Function f)) }
  layer (form.Unary op a) h t = shallow_one (unary_tree op) (lower_expr pointers a) (unary_depth op) h
  layer (form.Binary op a b) h t = shallow_binary false op (part_of pointers a).ctype (lower_expr pointers a) (lower_expr pointers b) h.0 h.1
  layer (form.Both a b) h t = shallow_both (lower_expr pointers a) (lower_expr pointers b) h.0 h.1
  layer (form.Either a b) h t = shallow_either (lower_expr pointers a) (lower_expr pointers b) h.0 h.1
  layer (form.Choose x a b) h t = shallow_choice (lower_expr pointers x) (lower_expr pointers a) (lower_expr pointers b) h.0 h.1 h.2
  layer (form.Convert a) h t = shallow_one (converted_tree t) (lower_expr pointers a) (converted_depth t) h
  layer (form.Set target a) h t = set_shallow (place_of pointers target) (lower_expr pointers a) h.0 h.1
  layer (form.Change op kind target a) h t = change_shallow op kind t (place_of pointers target) (lower_expr pointers a) h.0 h.1
  layer (form.After up target) h t = after_shallow up t (place_of pointers target) h
  layer (form.Direct f args) h t = shallow_call (is_void t) f (map (λ (a : Part). a.lower) (map (part_of pointers) args)) (each args h)
  layer (form.Through args callee) h t = by (switched_by pointers (part_of pointers callee).reads)
    where
      by : (o : Option ℕ) → AlwaysShallow (lower_called o (is_void t) (map (λ (a : Part). a.lower) (map (part_of pointers) args)) (lower_expr pointers callee))
      by None = shallow_through (is_void t) (map (λ (a : Part). a.lower) (map (part_of pointers) args)) (lower_expr pointers callee) (each args h.0) h.1
      by (Some g) = shallow_switched (is_void t) (map (λ (a : Part). a.lower) (map (part_of pointers) args)) g (each args h.0)
  layer (form.Known k args) h t = shallow_known k (map (λ (a : Part). a.lower) (map (part_of pointers) args)) (each args h)

  target_layer : (x : Target-F Form Target Expr) → TargetChildren P Q S x → ShallowPlace (place_of_layer (map-Target Form Target Expr FormPart Place Part (form_part pointers) (place_of pointers) (part_of pointers) x))
  target_layer (form.Global g) h = tt
  target_layer (form.Local l) h = tt
  target_layer (form.GlobalAt g e) h = h
  target_layer (form.LocalAt l e) h = h

  pub expr_shallow : (e : Expr) → AlwaysShallow (lower_expr pointers e)
  expr_shallow e =
      expr_ind P Q S
      (λ x h t. subst (λ (l : FormPart). AlwaysShallow (l.lower t)) (sym (fold-roll-Form FormPart Place Part (lower_form pointers) place_of_layer (lower_layer pointers) x)) (layer x h t))
      (λ x h. subst (λ (l : Place). ShallowPlace l) (sym (fold-roll-Target FormPart Place Part (lower_form pointers) place_of_layer (lower_layer pointers) x)) (target_layer x h))
      (λ x h. subst (λ (l : Part). AlwaysShallow l.lower) (sym (fold-roll-Expr FormPart Place Part (lower_form pointers) place_of_layer (lower_layer pointers) x)) (h x.ctype)) e

  pub expr_is_shallow : (e : Expr) (n : ℕ) → (deepest (lower_expr pointers e n).code ≤ 4) × (depth (lower_expr pointers e n).tree ≤ 4)
  expr_is_shallow e n =
      let h = expr_shallow e n in
      (deepest_up (trees (lower_expr pointers e n).code) h.code, h.tree)
