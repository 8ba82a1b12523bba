-- From the first free temporary on, an expression's code takes at most eight for each level of its depth.
use Rattle.std.proofs.Common.{◌≡◌, ℕ, ◌+◌, ◌*◌, ◌<◌, ◌≤◌, Bool, true, false, cond, List, [], ◌∷◌, ◌++◌, map, length, max, Option, Some, None, sym, ◌∙◌, arith}
use Rattle.std.specs.Prelude.{◌&&◌, nat_lt, nat_eq}
use Rattle.std.proofs.lemmas.Bool.{ltb-true, eqb-true}
use Rattle.std.proofs.lemmas.List.{length-map, length-append}
use Rattle.mv_ir.specs.declared.tree.Tree.{Tree}
use Rattle.mv_ir.specs.WellFormed.{known_arguments}
use Rattle.mv_ir.proofs.Induction.{Each, each_append}
use Rattle.mv_ast.specs.declared.program.CType.{CType}
use Rattle.mv_ast.specs.declared.program.Known.{Known}
use Rattle.mv_ast.specs.declared.program.Known.TheVariants.{Getchar, Putchar, Poll, Plan}
use Rattle.mv_ast.specs.declared.program.Expr.{Expr}
use Rattle.mv_ast.specs.declared.program.Form.{Form, Form-F}
use Rattle.mv_ast.specs.declared.program.Form.TheOpen as form
use Rattle.mv_ast.specs.declared.program.Target.{Target, Target-F, fold-Target}
use Rattle.mv_ast.specs.Counts.{greatest, form_greatest, target_greatest, one_more_than, expr_depth}
use Rattle.mv_lower_spec.specs.Lowered.{Lowered, Lowering, is_low, is_empty, kept_if, binary, first, second, lower_local, lower_global, lower_one, lower_two, lower_division, lower_all, lower_element}
use Rattle.mv_lower_spec.specs.Lower.{FormPart, Part, Place, switched_by, lower_called, InLocal, InGlobal, Element, quotient_number, remainder_number, bit_tree, lower_operator, lower_product, lower_binary, lower_changed, lower_change, lower_after, lower_read, lower_set, unary_tree, converted_tree, place_of, part_of, lower_expr}
use Rattle.mv_source_forms.proofs.ExpressionFolds.{ExprFolds, expr_fold, expr_folds, along_exprs}
use Rattle.mv_source_forms.proofs.ExpressionInduction.{FormChildren, TargetChildren}
use Rattle.mv_lower_spec.proofs.OfShape.Folds.{limited_exprs, lowers}
use Rattle.mv_lower_spec.proofs.OfShape.Asked.{Globals, Access, asking}
use Rattle.mv_source_forms.specs.Lists.{all_of}
use Rattle.mv_source_forms.specs.Names.{is_void}
use Rattle.mv_num.proofs.Booleans.{and_cases}

-- ---- tops at one place

kept_within : (keep : Bool) (n : ℕ) (l : Lowered) → (kept_if keep n l).top ≤ max (n + 1) l.top
kept_within true n l = omega arith
kept_within false n l = omega arith

first_within : (x y : Lowering) (n : ℕ) → (first x y n).top ≤ max (n + 1) (x n).top
first_within x y n = kept_within (is_empty (second y n).code && is_low (x n).tree) n (x n)

second_within : (y : Lowering) (n : ℕ) → (second y n).top ≤ max (n + 2) (y (n + 1)).top
second_within y n = let h = kept_within (is_low (y (n + 1)).tree) (n + 1) (y (n + 1)) in omega (arith, h)

abbrev TwoWithin : Lowering → Lowering → Lowering → Type 0
TwoWithin l x y = (n : ℕ) → (l n).top ≤ max (n + 2) (max (x n).top (y (n + 1)).top)

two_within : (f : Tree → Tree → Tree) (x y : Lowering) → TwoWithin (lower_two f x y) x y
two_within f x y n = omega (arith, first_within x y n, second_within y n)

division_within : (turned : Bool) (o : ℕ) (x y : Lowering) → TwoWithin (lower_division turned o x y) x y
division_within turned o x y n = omega (arith, first_within x y n, second_within y n)

by_test : (x y : Lowering) (z : Bool) (l m : Lowering) → TwoWithin l x y → TwoWithin m x y → TwoWithin (cond z l m) x y
by_test x y true l m h k = h
by_test x y false l m h k = k

binary_within : (turned : Bool) (op : ℕ) (c : CType) (x y : Lowering) → TwoWithin (lower_binary turned op c x y) x y
binary_within turned op c x y =
    by_test x y (nat_lt op 17) (lower_product turned op c x y) (lower_operator turned (bit_tree op c) x y)
    (by_test x y (nat_eq op 12) _ _ (operator (binary 0)) (by_test x y (nat_eq op 13) _ _ (operator (binary 1)) (by_test x y (nat_eq op 14) _ _ (operator (binary 2))
    (by_test x y (nat_eq op 15) _ _ (division_within turned (quotient_number c) x y) (division_within turned (remainder_number c) x y)))))
    (operator (bit_tree op c))
  where
    operator : (f : Tree → Tree → Tree) → TwoWithin (lower_operator turned f x y) x y
    operator f = two_within (λ u v. cond turned (f v u) (f u v)) x y

one_within : (f : Tree → Tree) (x : Lowering) (n : ℕ) → (lower_one f x n).top ≤ max (n + 1) (x n).top
one_within f x n = kept_within (is_low (x n).tree) n (x n)

changed_within : (op : ℕ) (kind c : CType) (old x : Lowering) → TwoWithin (lower_changed op kind c old x) x old
changed_within op kind c old x n =
    let h = one_within (converted_tree c) (lower_binary true op kind x old) n in
    let k = binary_within true op kind x old n in
    omega (arith, h, k)

-- ---- tops by depth

abbrev pub Top : ℕ → Lowering → Type 0
Top d l = (n : ℕ) → (l n).top ≤ n + 8 * d

all_top : (d : ℕ) (ls : List Lowering) → 1 ≤ d → Each (Top d) ls → (n : ℕ) → (lower_all ls n).top + 1 ≤ n + length ls + 8 * d
all_top d [] le h n = omega (arith, le)
all_top d (l ∷ ls) le h n =
    let rest = all_top d ls le h.1 (n + 1) in
    let one = h.0 n in
    let k = kept_within (is_empty (lower_all ls (n + 1)).code) n (l n) in
    omega (arith, le, rest, one, k)

abbrev PlaceTop : Place → ℕ → Type 0
PlaceTop (InLocal l) d = Unit {0}
PlaceTop (InGlobal g) d = Unit {0}
PlaceTop (Element a i) d = Top d i

read_top : (x : Place) (d : ℕ) → PlaceTop x d → Top (1 + d) (lower_read x)
read_top (InLocal l) d h n = omega arith
read_top (InGlobal g) d h n = omega arith
read_top (Element a i) d h n = let k = h n in omega (arith, k)

set_top : (x : Place) (d e : ℕ) (v : Lowering) → PlaceTop x d → Top e v → Top (1 + max d e) (lower_set x v)
set_top (InLocal l) d e v h k n = let k' = k n in omega (arith, k')
set_top (InGlobal g) d e v h k n = let k' = k n in omega (arith, k')
set_top (Element a i) d e v h k n = let h' = h n in let k' = k (n + 2) in omega (arith, h', k')

change_top : (op : ℕ) (kind c : CType) (x : Place) (d e : ℕ) (v : Lowering) → PlaceTop x d → Top e v → Top (1 + max d e) (lower_change op kind c x v)
change_top op kind c (InLocal l) d e v h k n = let k' = k n in let w = changed_within op kind c (lower_local l) v n in omega (arith, k', w)
change_top op kind c (InGlobal g) d e v h k n = let k' = k n in let w = changed_within op kind c (lower_global g) v n in omega (arith, k', w)
change_top op kind c (Element a i) d e v h k n =
    let h' = h n in let k' = k (n + 2) in let w = changed_within op kind c (lower_element a (n + 1)) v (n + 2) in omega (arith, h', k', w)

after_top : (up : Bool) (c : CType) (x : Place) (d : ℕ) → PlaceTop x d → Top (1 + d) (lower_after up c x)
after_top up c (InLocal l) d h n = omega arith
after_top up c (InGlobal g) d h n = omega arith
after_top up c (Element a i) d h n = let h' = h n in omega (arith, h')

known_few : (k : Known) → known_arguments k ≤ 8
known_few Putchar = omega arith
known_few Getchar = omega arith
known_few Poll = omega arith
known_few (Plan code index) = omega arith

-- ---- the fold

abbrev target_depth : Target → ℕ
target_depth = fold-Target ℕ ℕ ℕ form_greatest target_greatest one_more_than

pub greatest_append : (ms ns : List ℕ) → greatest (ms ++ ns) ≡ max (greatest ms) (greatest ns)
greatest_append [] ns = omega arith
greatest_append (m ∷ ms) ns = let e = greatest_append ms ns in omega (arith, e)

module _ (globals : Globals) (locals : ℕ) (sizes : ℕ → Option ℕ) (declared : ℕ → Bool) where
  open asking globals locals sizes declared use {within, place}

  abbrev measured : ExprFolds ((FormPart × Bool) × ℕ) ((Place × Access) × ℕ) ((Part × Bool) × ℕ)
  measured = expr_folds (limited_exprs globals locals sizes declared) (expr_fold form_greatest target_greatest one_more_than)

  abbrev FormTop : (FormPart × Bool) × ℕ → Type 0
  FormTop v = v.0.1 ≡ true → (c : CType) → Top (1 + v.1) (v.0.0.lower c)

  -- the index of a place, where this may be read or stored to
  abbrev TargetTop : (Place × Access) × ℕ → Type 0
  TargetTop v = (v.0.1.read ≡ true → PlaceTop v.0.0 v.1) × (v.0.1.stored ≡ true → PlaceTop v.0.0 v.1)

  pub record ExprTop (v : (Part × Bool) × ℕ) : Type 0 where
    pub deep : 1 ≤ v.1
    pub top : v.0.1 ≡ true → Top v.1 v.0.0.lower

  abbrev P : Form → Type 0
  P f = FormTop (measured.form f)

  abbrev Q : Target → Type 0
  Q x = TargetTop (measured.target x)

  abbrev S : Expr → Type 0
  S e = ExprTop (measured.expr e)

  higher : (d e : ℕ) (l : Lowering) → d ≤ e → Top d l → Top e l
  higher d e l le h n = let k = h n in omega (arith, le, k)

  -- several, each of which takes no more than the deepest
  each_top : (es : List Expr) → Each S es → all_of (map within es) ≡ true → (d : ℕ) → greatest (map expr_depth es) ≤ d → Each (Top d) (lowers globals.pointers es)
  each_top [] h b d le = tt
  each_top (e ∷ es) h b d le =
      let bs = and_cases (within e) (all_of (map within es)) b in
      (higher (expr_depth e) d (lower_expr globals.pointers e) (omega (arith, le)) (h.0.top bs.0), each_top es h.1 bs.1 d (omega (arith, le)))

  lowers_length : (es : List Expr) → length (lowers globals.pointers es) ≡ length (map within es)
  lowers_length es = length-map (map (part_of globals.pointers) es) (λ (x : Part). x.lower) ∙ length-map es (part_of globals.pointers) ∙ sym (length-map es within)

  -- the arguments of a call
  some_top : (es : List Expr) → Each S es → all_of (map within es) ≡ true → length (map within es) ≤ 8 → (n : ℕ) → max (n + 1) (lower_all (lowers globals.pointers es) n).top ≤ n + 8 * (1 + greatest (map expr_depth es))
  some_top [] h b few n = omega arith
  some_top (e ∷ es) h b few n =
      let d = greatest (map expr_depth (e ∷ es)) in
      let k = all_top d (lowers globals.pointers (e ∷ es)) (omega (arith, h.0.deep)) (each_top (e ∷ es) h b d (omega arith)) n in
      omega (arith, k, few, lowers_length (e ∷ es))

  layer : (x : Form-F Form Target Expr) → FormChildren P Q S x → FormTop (measured.form_layer x)
  layer (form.Number m) h b c n = omega arith
  layer (form.Read target) h b c n = let k = read_top (place_of globals.pointers target) (target_depth target) (h.0 b) n in omega (arith, k)
  layer (form.Function f) h b c n = omega arith
  layer (form.Unary op e) h b c n = let k = h.top b n in let w = one_within (unary_tree op) (lower_expr globals.pointers e) n in omega (arith, k, w)
  layer (form.Binary op x y) h b c n =
      let bs = and_cases (within x) (within y) b in
      let k = h.0.top bs.0 n in
      let l = h.1.top bs.1 (n + 1) in
      let w = binary_within false op (part_of globals.pointers x).ctype (lower_expr globals.pointers x) (lower_expr globals.pointers y) n in
      omega (arith, k, l, w)
  layer (form.Both x y) h b c n =
      let bs = and_cases (within x) (within y) b in
      let k = h.0.top bs.0 n in
      let l = h.1.top bs.1 n in
      let w = kept_within (is_low (lower_expr globals.pointers y n).tree) n (lower_expr globals.pointers y n) in
      omega (arith, k, l, w)
  layer (form.Either x y) h b c n =
      let bs = and_cases (within x) (within y) b in
      let k = h.0.top bs.0 n in
      let l = h.1.top bs.1 n in
      let w = kept_within (is_low (lower_expr globals.pointers y n).tree) n (lower_expr globals.pointers y n) in
      omega (arith, k, l, w)
  layer (form.Choose z x y) h b c n =
      let bs = and_cases (within z) (within x && within y) b in
      let cs = and_cases (within x) (within y) bs.1 in
      let k = h.0.top bs.0 n in
      let l = h.1.top cs.0 n in
      let m = h.2.top cs.1 n in
      omega (arith, k, l, m)
  layer (form.Convert e) h b c n = let k = h.top b n in let w = one_within (converted_tree c) (lower_expr globals.pointers e) n in omega (arith, k, w)
  layer (form.Set target e) h b c n =
      let access = place target in
      let bs = and_cases access.stored (within e) b in
      let k = set_top (place_of globals.pointers target) (target_depth target) (expr_depth e) (lower_expr globals.pointers e) (h.0.1 bs.0) (h.1.top bs.1) n in
      omega (arith, k)
  layer (form.Change op kind target e) h b c n =
      let access = place target in
      let bs = and_cases access.read (access.stored && within e) b in
      let cs = and_cases access.stored (within e) bs.1 in
      let k = change_top op kind c (place_of globals.pointers target) (target_depth target) (expr_depth e) (lower_expr globals.pointers e) (h.0.0 bs.0) (h.1.top cs.1) n in
      omega (arith, k)
  layer (form.After up target) h b c n =
      let access = place target in
      let bs = and_cases access.read access.stored b in
      let k = after_top up c (place_of globals.pointers target) (target_depth target) (h.0 bs.0) n in
      omega (arith, k)
  layer (form.Direct f args) h b c n =
      let bs = and_cases (nat_lt (length (map within args)) 9) (all_of (map within args)) b in
      let few = ltb-true (length (map within args)) 9 bs.0 in
      let k = some_top args h bs.1 (omega (arith, few)) n in
      omega (arith, k)
  layer (form.Through args e) h b c n =
      let bs = and_cases (nat_lt (length (map within args)) 9) (all_of (map within args) && within e) b in
      let cs = and_cases (all_of (map within args)) (within e) bs.1 in
      by (switched_by globals.pointers (part_of globals.pointers e).reads) (ltb-true (length (map within args)) 9 bs.0) cs.0 cs.1
    where
      by : (o : Option ℕ) → length (map within args) < 9 → all_of (map within args) ≡ true → within e ≡ true →
          (lower_called o (is_void c) (lowers globals.pointers args) (lower_expr globals.pointers e) n).top ≤ n + 8 * (1 + greatest (map expr_depth args ++ expr_depth e ∷ []))
      by None few bs k =
          let d = max (greatest (map expr_depth args)) (expr_depth e) in
          let k = all_top d (lowers globals.pointers args ++ lower_expr globals.pointers e ∷ []) (omega (arith, h.1.deep))
          (each_append (Top d) (lowers globals.pointers args) (lower_expr globals.pointers e ∷ []) (each_top args h.0 bs d (omega arith)) (higher (expr_depth e) d (lower_expr globals.pointers e) (omega arith) (h.1.top k), tt)) n in
          omega (arith, k, few, lowers_length args, length-append (lowers globals.pointers args) (lower_expr globals.pointers e ∷ []), greatest_append (map expr_depth args) (expr_depth e ∷ []))
      by (Some g) few bs k =
          let top = some_top args h.0 bs (omega (arith, few)) n in
          omega (arith, top, greatest_append (map expr_depth args) (expr_depth e ∷ []))
  layer (form.Known f args) h b c n =
      let bs = and_cases (nat_eq (length (map within args)) (known_arguments f)) (all_of (map within args)) b in
      let few = eqb-true (length (map within args)) (known_arguments f) bs.0 in
      let k = some_top args h bs.1 (omega (arith, few, known_few f)) n in
      omega (arith, k)

  index_top : (e : Expr) → S e → within e ≡ true → Top (greatest (expr_depth e ∷ [])) (lower_expr globals.pointers e)
  index_top e h b = higher (expr_depth e) (greatest (expr_depth e ∷ [])) (lower_expr globals.pointers e) (omega arith) (h.top b)

  target_layer : (x : Target-F Form Target Expr) → TargetChildren P Q S x → TargetTop (measured.target_layer x)
  target_layer (form.Global g) h = (λ e. tt, λ e. tt)
  target_layer (form.Local l) h = (λ e. tt, λ e. tt)
  target_layer (form.GlobalAt g e) h =
      (λ b. index_top e h (and_cases (globals.arrays g) (within e) (and_cases (globals.there g) (globals.arrays g && within e) b).1).1, λ b. index_top e h (and_cases (globals.there g) (within e) b).1)
  target_layer (form.LocalAt l e) h = (λ b. index_top e h (and_cases _ (within e) b).1, λ b. index_top e h (and_cases _ (within e) b).1)

  pub expr_top : (e : Expr) → S e
  expr_top = along_exprs measured (λ f. FormTop) (λ x. TargetTop) (λ e. ExprTop) layer target_layer (λ x h. record { deep = omega arith; top = λ b. h b x.ctype })
