-- The code and the tree of a lowered expression name what the expression names, and the constants that lowering needs.
use Rattle.std.proofs.Common.{ℕ, ◌+◌, Bool, true, false, cond, List, [], ◌∷◌, ◌++◌, Option, Some, None}
use Rattle.std.specs.Prelude.{◌&&◌, nat_lt, nat_eq}
use Rattle.mv_ast.specs.declared.program.CType.{CType}
use Rattle.mv_ast.specs.declared.program.CType.TheVariants.{Void, Scalar, Pointer}
use Rattle.mv_ast.specs.declared.program.Known.{Known}
use Rattle.mv_ast.specs.declared.program.Expr.{Expr}
use Rattle.mv_ast.specs.declared.program.Form.{Form, Form-F}
use Rattle.mv_ast.specs.declared.program.Form.TheOpen as form
use Rattle.mv_ast.specs.declared.program.Target.{Target, Target-F}
use Rattle.mv_ast.specs.Operators.{is_unsigned}
use Rattle.mv_ir.specs.declared.tree.Tree.{Tree}
use Rattle.mv_ir.specs.declared.stm.Array.{Array}
use Rattle.mv_ir.proofs.Induction.{Each, each_append}
use Rattle.mv_lower_spec.specs.Lowered.{Lowered, Lowering, is_low, is_empty, kept_if, number, temp, global, unary, binary, set, set_global, truth, truth_in, first, second, lower_local, lower_global, lower_one, lower_two, lower_division, lower_both, lower_either, lower_choice, lower_set_local, lower_set_global, lower_all, lower_call, lower_through, lower_switched, lower_known, result_tree, last_of, but_last, index_in, lower_element, lower_read_element, lower_set_element, unless_void}
use Rattle.mv_lower_spec.specs.Lower.{Place, InLocal, InGlobal, Element, quotient_number, remainder_number, unary_tree, converted_tree, less_tree, bit_tree, lower_operator, lower_product, lower_binary, lower_changed, lower_change, lower_after, next_tree, lower_read, lower_set, switched_by, lower_called, form_lowering, place_of, part_of, lower_expr}
use Rattle.mv_source_forms.specs.Names.{is_void}
use Rattle.mv_source_forms.proofs.ExpressionFolds.{along_exprs}
use Rattle.mv_source_forms.proofs.ExpressionInduction.{FormChildren, TargetChildren}
use Rattle.mv_lower_spec.proofs.OfShape.Folds.{lowered_exprs, lowers}
use Rattle.mv_lower_names.proofs.Naming.{then, number_names, temp_names, global_names, function_names, unary_names, binary_names, narrowed_names, set_names, set_global_names, divide_names, check_names, read_names, write_names, choose_names, known_names, direct_names, through_names, switched_names, naming}
use Rattle.mv_lower_names.proofs.Premises.{OwnNames, KnownOf}

module _ (F : ℕ → Type 0) (K : Known → Type 0) (C : ℕ → Type 0) (zero_is : C 0) (one_is : C 1) (greatest_is : C 4294967295) where
  open naming F K C use {T, X, join}

  abbrev pub Fine : Lowered → Type 0
  Fine l = X l.code × T l.tree

  abbrev pub FineLowering : Lowering → Type 0
  FineLowering l = (n : ℕ) → Fine (l n)

  -- ---- the source's operators

  abbrev One : (Tree → Tree) → Type 0
  One f = (a : Tree) → T a → T (f a)

  abbrev Two : (Tree → Tree → Tree) → Type 0
  Two f = (a b : Tree) → T a → T b → T (f a b)

  pick : (z : Bool) (a b : Tree) → T a → T b → T (cond z a b)
  pick true a b h k = h
  pick false a b h k = k

  unary_fine : (op : ℕ) → One (unary_tree op)
  unary_fine op a h =
      pick (nat_eq op 10) _ _ (binary_names F K C 5 a (number 4294967295) h (number_names F K C 4294967295 greatest_is))
      (pick (nat_eq op 11) _ _ (unary_names F K C 2 a h) (pick (nat_eq op 13) _ _ (unary_names F K C 0 a h) h))

  converted_fine : (c : CType) → One (converted_tree c)
  converted_fine Void a h = number_names F K C 0 zero_is
  converted_fine (Scalar kind) a h = narrowed_names F K C kind a h
  converted_fine (Pointer signature) a h = h

  less_fine : (c : CType) → Two (less_tree c)
  less_fine c a b h k = pick (is_unsigned c) _ _ (binary_names F K C 10 a b h k) (binary_names F K C 9 a b h k)

  bit_fine : (op : ℕ) (c : CType) → Two (bit_tree op c)
  bit_fine op c a b h k =
      pick (nat_eq op 17) _ _ (made 3) (pick (nat_eq op 18) _ _ (made 4) (pick (nat_eq op 19) _ _ (made 5)
      (pick (nat_eq op 20) _ _ (less_fine c a b h k) (pick (nat_eq op 21) _ _ (less_fine c b a k h)
      (pick (nat_eq op 25) _ _ (made 6) (pick (nat_eq op 26) _ _ (pick (is_unsigned c) _ _ (made 8) (made 7))
      (pick (nat_eq op 27) _ _ (unary_names F K C 2 (less_tree c b a) (less_fine c b a k h)) (pick (nat_eq op 28) _ _ (unary_names F K C 2 (less_tree c a b) (less_fine c a b h k))
      (pick (nat_eq op 29) _ _ (made 11) (made 12))))))))))
    where
      made : (o : ℕ) → T (binary o a b)
      made o = binary_names F K C o a b h k

  -- ---- values that have to last

  kept_fine : (keep : Bool) (n : ℕ) (l : Lowered) → Fine l → Fine (kept_if keep n l)
  kept_fine true n l h = h
  kept_fine false n l h = (then F K C l.code (set n l.tree) h.0 (set_names F K C n l.tree h.1), temp_names F K C n)

  second_fine : (b : Lowering) → FineLowering b → FineLowering (second b)
  second_fine b h n = kept_fine (is_low (b (n + 1)).tree) (n + 1) (b (n + 1)) (h (n + 1))

  first_fine : (a b : Lowering) → FineLowering a → FineLowering (first a b)
  first_fine a b h n = kept_fine (is_empty (second b n).code && is_low (a n).tree) n (a n) (h n)

  one_fine : (f : Tree → Tree) (a : Lowering) → One f → FineLowering a → FineLowering (lower_one f a)
  one_fine f a t h n =
      let x = kept_if (is_low (a n).tree) n (a n) in
      let k = kept_fine (is_low (a n).tree) n (a n) (h n) in
      (k.0, t x.tree k.1)

  two_fine : (f : Tree → Tree → Tree) (a b : Lowering) → Two f → FineLowering a → FineLowering b → FineLowering (lower_two f a b)
  two_fine f a b t h k n =
      let x = first_fine a b h n in
      let y = second_fine b k n in
      (join (first a b n).code (second b n).code x.0 y.0, t (first a b n).tree (second b n).tree x.1 y.1)

  division_fine : (turned : Bool) (o : ℕ) (a b : Lowering) → FineLowering a → FineLowering b → FineLowering (lower_division turned o a b)
  division_fine turned o a b h k n =
      let p = first a b n in
      let q = second b n in
      let x = first_fine a b h n in
      let y = second_fine b k n in
      let s = divide_names F K C n o (cond turned q.tree p.tree) (cond turned p.tree q.tree) (pick turned q.tree p.tree y.1 x.1) (pick turned p.tree q.tree x.1 y.1) in
      (join p.code (q.code ++ _ ∷ []) x.0 (then F K C q.code _ y.0 s), temp_names F K C n)

  by_test : (z : Bool) (l m : Lowering) → FineLowering l → FineLowering m → FineLowering (cond z l m)
  by_test true l m h k = h
  by_test false l m h k = k

  binary_fine : (turned : Bool) (op : ℕ) (c : CType) (a b : Lowering) → FineLowering a → FineLowering b → FineLowering (lower_binary turned op c a b)
  binary_fine turned op c a b h k =
      by_test (nat_lt op 17) (lower_product turned op c a b) (lower_operator turned (bit_tree op c) a b)
      (by_test (nat_eq op 12) _ _ (made (binary 0) (binary_names F K C 0)) (by_test (nat_eq op 13) _ _ (made (binary 1) (binary_names F K C 1))
      (by_test (nat_eq op 14) _ _ (made (binary 2) (binary_names F K C 2))
      (by_test (nat_eq op 15) _ _ (division_fine turned (quotient_number c) a b h k) (division_fine turned (remainder_number c) a b h k)))))
      (made (bit_tree op c) (bit_fine op c))
    where
      made : (f : Tree → Tree → Tree) → Two f → FineLowering (lower_operator turned f a b)
      made f t = two_fine (λ x y. cond turned (f y x) (f x y)) a b (λ x y u v. pick turned (f y x) (f x y) (t y x v u) (t x y u v)) h k

  -- ---- `&&`, `||`, `?:`

  truth_fine : (n : ℕ) (l : Lowered) → Fine l → X (truth_in n l)
  truth_fine n l h = then F K C l.code (set n (truth l.tree)) h.0 (set_names F K C n (truth l.tree) (unary_names F K C 2 (unary 2 l.tree) (unary_names F K C 2 l.tree h.1)))

  number_set : (n v : ℕ) → C v → X (set n (number v) ∷ [])
  number_set n v h = (set_names F K C n (number v) (number_names F K C v h), tt)

  both_fine : (a b : Lowering) → FineLowering a → FineLowering b → FineLowering (lower_both a b)
  both_fine a b h k n =
      let y = kept_if (is_low (b n).tree) n (b n) in
      let yes = truth_fine n y (kept_fine (is_low (b n).tree) n (b n) (k n)) in
      (then F K C (a n).code _ (h n).0 (choose_names F K C (a n).tree (truth_in n y) (set n (number 0) ∷ []) (h n).1 yes (number_set n 0 zero_is)), temp_names F K C n)

  either_fine : (a b : Lowering) → FineLowering a → FineLowering b → FineLowering (lower_either a b)
  either_fine a b h k n =
      let y = kept_if (is_low (b n).tree) n (b n) in
      let no = truth_fine n y (kept_fine (is_low (b n).tree) n (b n) (k n)) in
      (then F K C (a n).code _ (h n).0 (choose_names F K C (a n).tree (set n (number 1) ∷ []) (truth_in n y) (h n).1 (number_set n 1 one_is) no), temp_names F K C n)

  choice_fine : (z a b : Lowering) → FineLowering z → FineLowering a → FineLowering b → FineLowering (lower_choice z a b)
  choice_fine z a b g h k n =
      let y = kept_fine false n (a n) (h n) in
      let u = kept_fine false n (b n) (k n) in
      (then F K C (z n).code _ (g n).0 (choose_names F K C (z n).tree (kept_if false n (a n)).code (kept_if false n (b n)).code (g n).1 y.0 u.0), temp_names F K C n)

  -- ---- assignments

  set_local_fine : (l : ℕ) (a : Lowering) → FineLowering a → FineLowering (lower_set_local l a)
  set_local_fine l a h n = (then F K C (a n).code (set l (a n).tree) (h n).0 (set_names F K C l (a n).tree (h n).1), temp_names F K C l)

  set_global_fine : (g : ℕ) (a : Lowering) → FineLowering a → FineLowering (lower_set_global g a)
  set_global_fine g a h n =
      let x = kept_if false n (a n) in
      let k = kept_fine false n (a n) (h n) in
      (then F K C x.code (set_global g x.tree) k.0 (set_global_names F K C g x.tree k.1), k.1)

  local_fine : (l : ℕ) → FineLowering (lower_local l)
  local_fine l n = (tt, temp_names F K C l)

  global_fine : (g : ℕ) → FineLowering (lower_global g)
  global_fine g n = (tt, global_names F K C g)

  -- ---- elements

  index_fine : (n : ℕ) (i : Lowering) → FineLowering i → Fine (index_in n i)
  index_fine n i h = (then F K C (i n).code (set (n + 1) (i n).tree) (h n).0 (set_names F K C (n + 1) (i n).tree (h n).1), temp_names F K C (n + 1))

  element_fine : (a : Array) (at : ℕ) → FineLowering (lower_element a at)
  element_fine a at n = ((read_names F K C n a (temp at) (temp_names F K C at), tt), temp_names F K C n)

  read_element_fine : (a : Array) (i : Lowering) → FineLowering i → FineLowering (lower_read_element a i)
  read_element_fine a i h n = (then F K C (i n).code _ (h n).0 (read_names F K C n a (i n).tree (h n).1), temp_names F K C n)

  set_element_fine : (a : Array) (i v : Lowering) → FineLowering i → FineLowering v → FineLowering (lower_set_element a i v)
  set_element_fine a i v h k n =
      let at = index_in n i in
      let x = v (n + 2) in
      let f = index_fine n i h in
      let g = k (n + 2) in
      let stored : X (set n x.tree ∷ _ ∷ []) = (set_names F K C n x.tree g.1, (write_names F K C a at.tree (temp n) f.1 (temp_names F K C n), tt)) in
      (join at.code _ f.0 (check_names F K C a at.tree f.1, join x.code _ g.0 stored), temp_names F K C n)

  -- ---- calls

  all_fine : (ls : List Lowering) → Each FineLowering ls → (n : ℕ) → X (lower_all ls n).code × Each T (lower_all ls n).trees
  all_fine [] h n = (tt, tt)
  all_fine (l ∷ ls) h n =
      let rest = all_fine ls h.1 (n + 1) in
      let keep = is_empty (lower_all ls (n + 1)).code in
      let k = kept_fine keep n (l n) (h.0 n) in
      (join (kept_if keep n (l n)).code (lower_all ls (n + 1)).code k.0 rest.0, (k.1, rest.1))

  result_fine : (void : Bool) (n : ℕ) → T (result_tree void n)
  result_fine void n = pick void (number 0) (temp n) (number_names F K C 0 zero_is) (temp_names F K C n)

  call_fine : (void : Bool) (f : ℕ) (ls : List Lowering) → F f → Each FineLowering ls → FineLowering (lower_call void f ls)
  call_fine void f ls o h n =
      let all = lower_all ls n in
      let k = all_fine ls h n in
      (then F K C all.code _ k.0 (direct_names F K C (unless_void void n) f all.trees o k.1), result_fine void n)

  last_fine : (ts : List Tree) → Each T ts → T (last_of ts)
  last_fine [] h = number_names F K C 0 zero_is
  last_fine (t ∷ []) h = h.0
  last_fine (t ∷ u ∷ ts) h = last_fine (u ∷ ts) h.1

  others_fine : (ts : List Tree) → Each T ts → Each T (but_last ts)
  others_fine [] h = tt
  others_fine (t ∷ []) h = tt
  others_fine (t ∷ u ∷ ts) h = (h.0, others_fine (u ∷ ts) h.1)

  through_fine : (void : Bool) (ls : List Lowering) (f : Lowering) → Each FineLowering ls → FineLowering f → FineLowering (lower_through void ls f)
  through_fine void ls f h k n =
      let all = lower_all (ls ++ f ∷ []) n in
      let l = all_fine (ls ++ f ∷ []) (each_append FineLowering ls (f ∷ []) h (k, tt)) n in
      (then F K C all.code _ l.0 (through_names F K C (unless_void void n) (last_of all.trees) (but_last all.trees) (last_fine all.trees l.1) (others_fine all.trees l.1)), result_fine void n)

  switched_fine : (void : Bool) (g : ℕ) (ls : List Lowering) → Each FineLowering ls → FineLowering (lower_switched void ls g)
  switched_fine void g ls h n =
      let all = lower_all ls n in
      let k = all_fine ls h n in
      (then F K C all.code _ k.0 (switched_names F K C (unless_void void n) g all.trees k.1), result_fine void n)

  called_fine : (o : Option ℕ) (void : Bool) (ls : List Lowering) (f : Lowering) → Each FineLowering ls → FineLowering f → FineLowering (lower_called o void ls f)
  called_fine (Some g) void ls f h k = switched_fine void g ls h
  called_fine None void ls f h k = through_fine void ls f h k

  known_fine : (k : Known) (ls : List Lowering) → K k → Each FineLowering ls → FineLowering (lower_known k ls)
  known_fine k ls o h n =
      let all = lower_all ls n in
      let l = all_fine ls h n in
      (then F K C all.code _ l.0 (known_names F K C n k all.trees o l.1), temp_names F K C n)

  -- ---- places

  abbrev FinePlace : Place → Type 0
  FinePlace (InLocal l) = Unit {0}
  FinePlace (InGlobal g) = Unit {0}
  FinePlace (Element a i) = FineLowering i

  read_fine : (x : Place) → FinePlace x → FineLowering (lower_read x)
  read_fine (InLocal l) h = local_fine l
  read_fine (InGlobal g) h = global_fine g
  read_fine (Element a i) h = read_element_fine a i h

  set_fine : (x : Place) (v : Lowering) → FinePlace x → FineLowering v → FineLowering (lower_set x v)
  set_fine (InLocal l) v h k = set_local_fine l v k
  set_fine (InGlobal g) v h k = set_global_fine g v k
  set_fine (Element a i) v h k = set_element_fine a i v h k

  changed_fine : (op : ℕ) (kind c : CType) (old v : Lowering) → FineLowering old → FineLowering v → FineLowering (lower_changed op kind c old v)
  changed_fine op kind c old v h k = one_fine (converted_tree c) (lower_binary true op kind v old) (converted_fine c) (binary_fine true op kind v old k h)

  change_fine : (op : ℕ) (kind c : CType) (x : Place) (v : Lowering) → FinePlace x → FineLowering v → FineLowering (lower_change op kind c x v)
  change_fine op kind c (InLocal l) v h k n = set_local_fine l (lower_changed op kind c (lower_local l) v) (changed_fine op kind c (lower_local l) v (local_fine l) k) n
  change_fine op kind c (InGlobal g) v h k n = set_global_fine g (lower_changed op kind c (lower_global g) v) (changed_fine op kind c (lower_global g) v (global_fine g) k) n
  change_fine op kind c (Element a i) v h k n =
      set_element_fine a i (lower_changed op kind c (lower_element a (n + 1)) v) h (changed_fine op kind c (lower_element a (n + 1)) v (element_fine a (n + 1)) k) n

  next_fine : (up : Bool) (c : CType) (n : ℕ) → T (next_tree up c (temp n))
  next_fine up c n = converted_fine c (binary (cond up 0 1) (temp n) (number 1)) (binary_names F K C (cond up 0 1) (temp n) (number 1) (temp_names F K C n) (number_names F K C 1 one_is))

  after_fine : (up : Bool) (c : CType) (x : Place) → FinePlace x → FineLowering (lower_after up c x)
  after_fine up c (InLocal l) h n =
      ((set_names F K C n (temp l) (temp_names F K C l), (set_names F K C l (next_tree up c (temp n)) (next_fine up c n), tt)), temp_names F K C n)
  after_fine up c (InGlobal g) h n =
      ((set_names F K C n (global g) (global_names F K C g), (set_global_names F K C g (next_tree up c (temp n)) (next_fine up c n), tt)), temp_names F K C n)
  after_fine up c (Element a i) h n =
      let at = index_in n i in
      let k = index_fine n i h in
      (join at.code _ k.0 (read_names F K C n a at.tree k.1, (write_names F K C a at.tree (next_tree up c (temp n)) k.1 (next_fine up c n), tt)), temp_names F K C n)

  -- ---- the fold

  module _ (pointers : List ℕ) (PF : Form → Type 0) (PT : Target → Type 0) (PE : Expr → Type 0) (source : KnownOf F K C PF PT PE) where
    abbrev P : Form → Type 0
    P f = PF f → (c : CType) → FineLowering (form_lowering pointers f c)

    abbrev Q : Target → Type 0
    Q x = PT x → FinePlace (place_of pointers x)

    abbrev S : Expr → Type 0
    S e = PE e → FineLowering (lower_expr pointers e)

    each_fine : (es : List Expr) → Each S es → Each PE es → Each FineLowering (lowers pointers es)
    each_fine [] h k = tt
    each_fine (e ∷ es) h k = (h.0 k.0, each_fine es h.1 k.1)

    layer : (x : Form-F Form Target Expr) → FormChildren P Q S x → OwnNames F K C x → FormChildren PF PT PE x → (c : CType) → FineLowering (((lowered_exprs pointers).form_layer x).lower c)
    layer (form.Number m) h o k c n = (tt, number_names F K C m o)
    layer (form.Read target) h o k c n = read_fine (place_of pointers target) (h k) n
    layer (form.Function f) h o k c n = (tt, function_names F K C f o)
    layer (form.Unary op e) h o k c n = one_fine (unary_tree op) (lower_expr pointers e) (unary_fine op) (h k) n
    layer (form.Binary op x y) h o k c n = binary_fine false op (part_of pointers x).ctype (lower_expr pointers x) (lower_expr pointers y) (h.0 k.0) (h.1 k.1) n
    layer (form.Both x y) h o k c n = both_fine (lower_expr pointers x) (lower_expr pointers y) (h.0 k.0) (h.1 k.1) n
    layer (form.Either x y) h o k c n = either_fine (lower_expr pointers x) (lower_expr pointers y) (h.0 k.0) (h.1 k.1) n
    layer (form.Choose z x y) h o k c n = choice_fine (lower_expr pointers z) (lower_expr pointers x) (lower_expr pointers y) (h.0 k.0) (h.1 k.1) (h.2 k.2) n
    layer (form.Convert e) h o k c n = one_fine (converted_tree c) (lower_expr pointers e) (converted_fine c) (h k) n
    layer (form.Set target e) h o k c n = set_fine (place_of pointers target) (lower_expr pointers e) (h.0 k.0) (h.1 k.1) n
    layer (form.Change op kind target e) h o k c n = change_fine op kind c (place_of pointers target) (lower_expr pointers e) (h.0 k.0) (h.1 k.1) n
    layer (form.After up target) h o k c n = after_fine up c (place_of pointers target) (h k) n
    layer (form.Direct f args) h o k c n = call_fine (is_void c) f (lowers pointers args) o (each_fine args h k) n
    layer (form.Through args e) h o k c n = called_fine (switched_by pointers (part_of pointers e).reads) (is_void c) (lowers pointers args) (lower_expr pointers e) (each_fine args h.0 k.0) (h.1 k.1) n
    layer (form.Known f args) h o k c n = known_fine f (lowers pointers args) o (each_fine args h k) n

    target_layer : (x : Target-F Form Target Expr) → TargetChildren P Q S x → TargetChildren PF PT PE x → FinePlace ((lowered_exprs pointers).target_layer x)
    target_layer (form.Global g) h k = tt
    target_layer (form.Local l) h k = tt
    target_layer (form.GlobalAt g e) h k = h k
    target_layer (form.LocalAt l e) h k = h k

    pub expr_fine : (e : Expr) → PE e → FineLowering (lower_expr pointers e)
    expr_fine =
        along_exprs (lowered_exprs pointers) (λ f l. PF f → (c : CType) → FineLowering (l.lower c)) (λ x l. PT x → FinePlace l) (λ e l. PE e → FineLowering l.lower)
        (λ x h b. layer x h (source.own x b) (source.form_parts x b)) (λ x h b. target_layer x h (source.target_parts x b)) (λ x h b. h (source.what x b) x.ctype)
