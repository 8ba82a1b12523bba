-- A lowered expression calls through the pointer switches that a test picks as often as the source does.
use Rattle.std.proofs.Common.{◌≡◌, ℕ, ◌+◌, Bool, true, false, ◌&&◌, cond, List, [], ◌∷◌, ◌++◌, map, Option, Some, None, refl, ◌∙◌, ap, arith}
use Rattle.std.specs.Prelude.{nat_eq, nat_lt, sum}
use Rattle.mv_ir.specs.declared.tree.Tree.{Tree}
use Rattle.mv_ir.specs.declared.stm.Callee.{Callee}
use Rattle.mv_ir.specs.declared.stm.Callee.TheVariants as callee
use Rattle.mv_ir.specs.declared.stm.Array.{Array}
use Rattle.mv_ir.specs.declared.stm.Stm.{Stm}
use Rattle.mv_ir.specs.declared.stm.Stm.TheOpen.{Stm-F}
use Rattle.mv_ir.specs.declared.stm.Stm.TheOpen as stm
use Rattle.mv_ir.specs.declared.stm.Stm.TheViews.{roll-Stm}
use Rattle.mv_ir.specs.declared.stm.Stm.TheFolds.{map-Stm, fold-roll-Stm}
use Rattle.mv_ir.specs.Measures.{total}
use Rattle.mv_ir.proofs.Induction.{Each}
use Rattle.mv_ir.proofs.Keeping.{map_append}
use Rattle.mv_ir.proofs.Joining.{total_append}
use Rattle.mv_ast.specs.declared.program.CType.{CType}
use Rattle.mv_ast.specs.declared.program.Expr.{Expr}
use Rattle.mv_ast.specs.declared.program.Form.{Form, Form-F}
use Rattle.mv_ast.specs.declared.program.Form.TheOpen as form
use Rattle.mv_ast.specs.declared.program.Target.{Target, Target-F}
use Rattle.mv_ast.specs.Counts.{Calling, target_calling, form_calling, inner_calling, expr_calling, lvalue_calling, expr_calls_through}
use Rattle.mv_num.specs.Lists.{is_among}
use Rattle.mv_num.specs.Words.{as_word as one_where}
use Rattle.mv_num.proofs.Lists.{sum_cons}
use Rattle.mv_source_forms.specs.Names.{is_void}
use Rattle.mv_source_forms.proofs.ExpressionFolds.{ExprFolds, expr_fold, expr_folds, along_exprs}
use Rattle.mv_source_forms.proofs.ExpressionInduction.{FormChildren, TargetChildren}
use Rattle.mv_lower_spec.specs.Lowered.{Lowered, Lowering, number, temp, global, binary, set, set_global, choose, check, read, write, call, known, truth, truth_in, is_empty, is_low, kept_if, first, second, lower_local, lower_global, lower_one, lower_two, lower_division, lower_both, lower_either, lower_choice, lower_set_local, lower_set_global, lower_all, unless_void, but_last, last_of, lower_through, index_in, lower_element, lower_read_element, lower_set_element}
use Rattle.mv_lower_spec.specs.Lower.{FormPart, Part, Place, InLocal, InGlobal, Element, converted_tree, bit_tree, quotient_number, remainder_number, lower_operator, lower_product, lower_binary, lower_read, lower_set, lower_changed, lower_change, next_tree, lower_after, global_at, switched_if, switched_by, lower_called, place_of, part_of, lower_expr, unary_tree}
use Rattle.mv_lower_spec.specs.Shape.Calls.{layer_through, stm_through, code_through}
use Rattle.mv_lower_spec.proofs.OfShape.Folds.{lowered_exprs, lowers}
use Rattle.mv_ast.specs.Marks as marks
use Rattle.mv_ir.specs.Operators as operators

pub sum_one : (n : ℕ) → sum (n ∷ []) ≡ n
sum_one n = omega (arith, sum_cons n [])

sum_two : (m n : ℕ) → sum (m ∷ n ∷ []) ≡ m + n
sum_two m n = omega (arith, sum_cons m (n ∷ []), sum_one n)

sum_three : (k m n : ℕ) → sum (k ∷ m ∷ n ∷ []) ≡ k + m + n
sum_three k m n = omega (arith, sum_cons k (m ∷ n ∷ []), sum_two m n)

not_picked : (a : Bool) → one_where (a && false) ≡ 0
not_picked true = refl
not_picked false = refl

picked : (a : Bool) → one_where (a && true) ≡ one_where a
picked true = refl
picked false = refl

module _ (test : ℕ → Bool) where
  abbrev in_code : List Stm → ℕ
  in_code = code_through test

  through_roll : (x : Stm-F Stm) → stm_through test (roll-Stm x) ≡ layer_through test (map-Stm Stm ℕ (stm_through test) x)
  unfolding stm_through
  through_roll x = fold-roll-Stm ℕ (layer_through test) x

  pub through_append : (xs ys : List Stm) → in_code (xs ++ ys) ≡ in_code xs + in_code ys
  through_append xs ys = ap total (map_append (stm_through test) xs ys) ∙ total_append (map (stm_through test) xs) (map (stm_through test) ys)

  -- one statement
  pub through_one : (x : Stm-F Stm) → in_code (roll-Stm x ∷ []) ≡ layer_through test (map-Stm Stm ℕ (stm_through test) x)
  through_one x = omega (arith, through_roll x)

  -- a lowering calls so often through them
  abbrev pub Calls : ℕ → Lowering → Type 0
  Calls k l = (n : ℕ) → in_code (l n).code ≡ k

  through_kept : (keep : Bool) (n : ℕ) (l : Lowered) → in_code (kept_if keep n l).code ≡ in_code l.code
  through_kept true n l = refl
  through_kept false n l = omega (arith, through_append l.code (set n l.tree ∷ []), through_one (stm.Set n l.tree))

  -- ---- operators

  one_calls : (f : Tree → Tree) (k : ℕ) (a : Lowering) → Calls k a → Calls k (lower_one f a)
  one_calls f k a h n = through_kept (is_low (a n).tree) n (a n) ∙ h n

  two_calls : (f : Tree → Tree → Tree) (k m : ℕ) (a b : Lowering) → Calls k a → Calls m b → Calls (k + m) (lower_two f a b)
  two_calls f k m a b ha hb n =
      let y = second b n in
      omega (arith, through_append (first a b n).code y.code, through_kept (is_empty y.code && is_low (a n).tree) n (a n), through_kept (is_low (b (n + 1)).tree) (n + 1) (b (n + 1)), ha n, hb (n + 1))

  division_calls : (turned : Bool) (o k m : ℕ) (a b : Lowering) → Calls k a → Calls m b → Calls (k + m) (lower_division turned o a b)
  division_calls turned o k m a b ha hb n =
      let x = first a b n in
      let y = second b n in
      let last : Stm-F Stm = stm.Divide n o (cond turned y.tree x.tree) (cond turned x.tree y.tree) in
      omega (
        arith,
        through_append x.code (y.code ++ roll-Stm last ∷ []),
        through_append y.code (roll-Stm last ∷ []),
        through_one last,
        through_kept (is_empty y.code && is_low (a n).tree) n (a n),
        through_kept (is_low (b (n + 1)).tree) (n + 1) (b (n + 1)),
        ha n,
        hb (n + 1),
      )

  by_test : (z : Bool) (k : ℕ) (a b : Lowering) → Calls k a → Calls k b → Calls k (cond z a b)
  by_test true k a b h h' = h
  by_test false k a b h h' = h'

  binary_calls : (turned : Bool) (op : ℕ) (t : CType) (k m : ℕ) (a b : Lowering) → Calls k a → Calls m b → Calls (k + m) (lower_binary turned op t a b)
  binary_calls turned op t k m a b ha hb =
      by_test (nat_lt op marks.ampersand) (k + m) (lower_product turned op t a b) (lower_operator turned (bit_tree op t) a b)
      (by_test (nat_eq op marks.plus) (k + m) _ _ (plain operators.add) (by_test (nat_eq op marks.minus) (k + m) _ _ (plain operators.sub) (by_test (nat_eq op marks.star) (k + m) _ _ (plain operators.mul)
      (by_test (nat_eq op marks.slash) (k + m) _ _ (division_calls turned (quotient_number t) k m a b ha hb) (division_calls turned (remainder_number t) k m a b ha hb)))))
      (two_calls (λ x y. cond turned (bit_tree op t y x) (bit_tree op t x y)) k m a b ha hb)
    where
      plain : (o : ℕ) → Calls (k + m) (lower_operator turned (binary o) a b)
      plain o = two_calls (λ x y. cond turned (binary o y x) (binary o x y)) k m a b ha hb

  through_chosen : (t : Tree) (xs ys : List Stm) → in_code (choose t xs ys ∷ []) ≡ in_code xs + in_code ys
  through_chosen t xs ys = through_one (stm.If t xs ys)

  through_truth : (n k : ℕ) (b : Lowering) → Calls k b → in_code (truth_in n (kept_if (is_low (b n).tree) n (b n))) ≡ k
  through_truth n k b h =
      let y = kept_if (is_low (b n).tree) n (b n) in
      omega (arith, through_append y.code (set n (truth y.tree) ∷ []), through_one (stm.Set n (truth y.tree)), through_kept (is_low (b n).tree) n (b n), h n)

  both_calls : (k m : ℕ) (a b : Lowering) → Calls k a → Calls m b → Calls (k + m) (lower_both a b)
  both_calls k m a b ha hb n =
      let y = truth_in n (kept_if (is_low (b n).tree) n (b n)) in
      let z = set n (number 0) ∷ [] in
      omega (arith, through_append (a n).code (choose (a n).tree y z ∷ []), through_chosen (a n).tree y z, through_one (stm.Set n (number 0)), through_truth n m b hb, ha n)

  either_calls : (k m : ℕ) (a b : Lowering) → Calls k a → Calls m b → Calls (k + m) (lower_either a b)
  either_calls k m a b ha hb n =
      let y = truth_in n (kept_if (is_low (b n).tree) n (b n)) in
      let z = set n (number 1) ∷ [] in
      omega (arith, through_append (a n).code (choose (a n).tree z y ∷ []), through_chosen (a n).tree z y, through_one (stm.Set n (number 1)), through_truth n m b hb, ha n)

  choice_calls : (j k m : ℕ) (z a b : Lowering) → Calls j z → Calls k a → Calls m b → Calls (j + k + m) (lower_choice z a b)
  choice_calls j k m z a b hz ha hb n =
      let y = kept_if false n (a n) in
      let u = kept_if false n (b n) in
      omega (arith, through_append (z n).code (choose (z n).tree y.code u.code ∷ []), through_chosen (z n).tree y.code u.code, through_kept false n (a n), through_kept false n (b n), hz n, ha n, hb n)

  -- ---- places

  set_local_calls : (l k : ℕ) (a : Lowering) → Calls k a → Calls k (lower_set_local l a)
  set_local_calls l k a h n = omega (arith, through_append (a n).code (set l (a n).tree ∷ []), through_one (stm.Set l (a n).tree), h n)

  set_global_calls : (g k : ℕ) (a : Lowering) → Calls k a → Calls k (lower_set_global g a)
  set_global_calls g k a h n =
      let x = kept_if false n (a n) in
      omega (arith, through_append x.code (set_global g x.tree ∷ []), through_one (stm.SetGlobal g x.tree), through_kept false n (a n), h n)

  index_calls : (n k : ℕ) (i : Lowering) → Calls k i → in_code (index_in n i).code ≡ k
  index_calls n k i h = omega (arith, through_append (i n).code (set (n + 1) (i n).tree ∷ []), through_one (stm.Set (n + 1) (i n).tree), h n)

  element_calls : (r : Array) (at : ℕ) → Calls 0 (lower_element r at)
  element_calls r at n = through_one (stm.Read n r (temp at))

  read_element_calls : (r : Array) (k : ℕ) (i : Lowering) → Calls k i → Calls k (lower_read_element r i)
  read_element_calls r k i h n = omega (arith, through_append (i n).code (read n r (i n).tree ∷ []), through_one (stm.Read n r (i n).tree), h n)

  set_element_calls : (r : Array) (k m n : ℕ) (i v : Lowering) → Calls k i → Calls m v → in_code (lower_set_element r i v n).code ≡ k + m
  set_element_calls r k m n i v hi hv =
      let at = index_in n i in
      let x = v (n + 2) in
      let last = set n x.tree ∷ write r at.tree (temp n) ∷ [] in
      omega (
        arith,
        through_append at.code (check r at.tree ∷ (x.code ++ last)),
        through_roll (stm.Check r at.tree),
        through_append x.code last,
        through_roll (stm.Set n x.tree),
        through_roll (stm.Write r at.tree (temp n)),
        index_calls n k i hi,
        hv (n + 2),
      )

  -- ---- calls

  -- one more argument
  last_calls : (k : ℕ) (l : Lowering) → Calls k l → (ls : List Lowering) (n : ℕ) → in_code (lower_all (ls ++ l ∷ []) n).code ≡ in_code (lower_all ls n).code + k
  last_calls k l h [] n = omega (arith, through_append (l n).code [], h n)
  last_calls k l h (x ∷ ls) n =
      let rest = (lower_all ls (n + 1)).code in
      let more = (lower_all (ls ++ l ∷ []) (n + 1)).code in
      omega (
        arith,
        through_append (kept_if (is_empty rest) n (x n)).code rest,
        through_append (kept_if (is_empty more) n (x n)).code more,
        through_kept (is_empty rest) n (x n),
        through_kept (is_empty more) n (x n),
        last_calls k l h ls (n + 1),
      )

  module _ (pointers : List ℕ) where
    abbrev counts : ℕ → Bool
    counts g = test g && is_among g pointers

    -- as what is called, a value that is the read of a global counts where the global does; any other counts as a value
    abbrev AsCalled : Option ℕ → Calling → Type 0
    AsCalled None c = c true ≡ c false
    AsCalled (Some g) c = (c true ≡ one_where (counts g)) × (c false ≡ 0)

    record FormCalls (x : FormPart) (c : Calling) : Type 0 where
      value : (t : CType) → Calls (c false) (x.lower t)
      called : AsCalled x.reads c

    abbrev PlaceCalls : Place → Calling → Type 0
    PlaceCalls (InLocal l) c = (c true ≡ c false) × (c false ≡ 0)
    PlaceCalls (InGlobal g) c = AsCalled (Some g) c
    PlaceCalls (Element r i) c = (c true ≡ c false) × Calls (c false) i

    record ExprCalls (x : Part) (c : Calling) : Type 0 where
      value : Calls (c false) x.lower
      called : AsCalled x.reads c

    abbrev same_calls : {k m : ℕ} (l : Lowering) → k ≡ m → Calls k l → Calls m l
    same_calls l e h n = h n ∙ e

    read_calls : (x : Place) (c : Calling) → PlaceCalls x c → Calls (c false) (lower_read x)
    read_calls (InLocal l) c h n = omega (arith, h.1)
    read_calls (InGlobal g) c h n = omega (arith, h.1)
    read_calls (Element r i) c h n = read_element_calls r (c false) i h.1 n

    place_called : (x : Place) (c : Calling) → PlaceCalls x c → AsCalled (global_at x) c
    place_called (InLocal l) c h = h.0
    place_called (InGlobal g) c h = h
    place_called (Element r i) c h = h.0

    set_calls : (x : Place) (c : Calling) (k : ℕ) (a : Lowering) → PlaceCalls x c → Calls k a → Calls (c false + k) (lower_set x a)
    set_calls (InLocal l) c k a h ha n = omega (arith, set_local_calls l k a ha n, h.1)
    set_calls (InGlobal g) c k a h ha n = omega (arith, set_global_calls g k a ha n, h.1)
    set_calls (Element r i) c k a h ha n = set_element_calls r (c false) k n i a h.1 ha

    changed_calls : (op : ℕ) (kind t : CType) (k : ℕ) (old a : Lowering) → Calls 0 old → Calls k a → Calls k (lower_changed op kind t old a)
    changed_calls op kind t k old a h ha = one_calls (converted_tree t) k (lower_binary true op kind a old) (λ n. omega (arith, binary_calls true op kind k 0 a old ha h n))

    change_calls : (op : ℕ) (kind t : CType) (x : Place) (c : Calling) (k : ℕ) (a : Lowering) → PlaceCalls x c → Calls k a → Calls (c false + k) (lower_change op kind t x a)
    change_calls op kind t (InLocal l) c k a h ha n = omega (arith, set_local_calls l k (lower_changed op kind t (lower_local l) a) (changed_calls op kind t k (lower_local l) a (λ n. refl) ha) n, h.1)
    change_calls op kind t (InGlobal g) c k a h ha n = omega (arith, set_global_calls g k (lower_changed op kind t (lower_global g) a) (changed_calls op kind t k (lower_global g) a (λ n. refl) ha) n, h.1)
    change_calls op kind t (Element r i) c k a h ha n =
        set_element_calls r (c false) k n i (lower_changed op kind t (lower_element r (n + 1)) a) h.1 (changed_calls op kind t k (lower_element r (n + 1)) a (element_calls r (n + 1)) ha)

    after_calls : (up : Bool) (t : CType) (x : Place) (c : Calling) → PlaceCalls x c → Calls (c false) (lower_after up t x)
    after_calls up t (InLocal l) c h n = omega (arith, through_roll (stm.Set n (temp l)), through_roll (stm.Set l (next_tree up t (temp n))), h.1)
    after_calls up t (InGlobal g) c h n = omega (arith, through_roll (stm.Set n (global g)), through_roll (stm.SetGlobal g (next_tree up t (temp n))), h.1)
    after_calls up t (Element r i) c h n =
        let at = index_in n i in
        omega (
          arith,
          through_append at.code (read n r at.tree ∷ write r at.tree (next_tree up t (temp n)) ∷ []),
          through_roll (stm.Read n r at.tree),
          through_roll (stm.Write r at.tree (next_tree up t (temp n))),
          index_calls n (c false) i h.1,
        )

    -- ---- forms

    abbrev counted : ExprFolds Calling Calling Calling
    counted = expr_fold (form_calling counts) (target_calling counts) (inner_calling counts)

    abbrev both : ExprFolds (FormPart × Calling) (Place × Calling) (Part × Calling)
    both = expr_folds (lowered_exprs pointers) counted

    abbrev P : Form → Type 0
    P f = FormCalls (both.form f).0 (both.form f).1

    abbrev Q : Target → Type 0
    Q x = PlaceCalls (both.target x).0 (both.target x).1

    abbrev S : Expr → Type 0
    S e = ExprCalls (both.expr e).0 (both.expr e).1

    abbrev value : Expr → ℕ
    value = expr_calls_through counts

    -- of several values
    abbrev values : List Expr → ℕ
    values es = sum (map (λ (c : Calling). c false) (map (expr_calling counts) es))

    all_calls : (es : List Expr) → Each S es → (n : ℕ) → in_code (lower_all (lowers pointers es) n).code ≡ values es
    all_calls [] h n = refl
    all_calls (e ∷ es) h n =
        let rest = (lower_all (lowers pointers es) (n + 1)).code in
        omega (
          arith,
          through_append (kept_if (is_empty rest) n (lower_expr pointers e n)).code rest,
          through_kept (is_empty rest) n (lower_expr pointers e n),
          h.0.value n,
          all_calls es h.1 (n + 1),
          sum_cons (value e) (map (λ (c : Calling). c false) (map (expr_calling counts) es)),
        )

    call_to_calls : (void : Bool) (f : Callee) (args : List Tree) (code : List Stm) (n : ℕ) → in_code (code ++ call (unless_void void n) f args ∷ []) ≡ in_code code + layer_through test (stm.Call (unless_void void n) f args)
    call_to_calls void f args code n = omega (arith, through_append code (call (unless_void void n) f args ∷ []), through_one (stm.Call (unless_void void n) f args))

    through_calls : (void : Bool) (k m : ℕ) (ls : List Lowering) (f : Lowering) → ((n : ℕ) → in_code (lower_all ls n).code ≡ k) → Calls m f → Calls (k + m) (lower_through void ls f)
    through_calls void k m ls f h hf n =
        let all = lower_all (ls ++ f ∷ []) n in
        omega (arith, call_to_calls void (callee.Through (last_of all.trees)) (but_last all.trees) all.code n, last_calls m f hf ls n, h n)

    -- a call of what is or isn't the read of a global
    called_calls : (reads : Option ℕ) (void : Bool) (k : ℕ) (c : Calling) (ls : List Lowering) (f : Lowering) → ((n : ℕ) → in_code (lower_all ls n).code ≡ k) → Calls (c false) f → AsCalled reads c →
        Calls (k + c true) (lower_called (switched_by pointers reads) void ls f)
    called_calls None void k c ls f h hf called n = omega (arith, through_calls void k (c false) ls f h hf n, called)
    called_calls (Some g) void k c ls f h hf called n = by (is_among g pointers) called.0
      where
        by : (z : Bool) → c true ≡ one_where (test g && z) → in_code (lower_called (switched_if z g) void ls f n).code ≡ k + c true
        by true e =
            let all = lower_all ls n in
            omega (arith, call_to_calls void (callee.Switched g) all.trees all.code n, h n, e, picked (test g))
        by false e = omega (arith, through_calls void k (c false) ls f h hf n, called.1, e, not_picked (test g))

    layer : (x : Form-F Form Target Expr) → FormChildren P Q S x → FormCalls (both.form_layer x).0 (both.form_layer x).1
    layer (form.Number n) h = record { value = λ t n. refl; called = refl }
    layer (form.Read target) h = let c = lvalue_calling counts target in record { value = λ t. read_calls (place_of pointers target) c h; called = place_called (place_of pointers target) c h }
    layer (form.Function f) h = record { value = λ t n. refl; called = refl }
    layer (form.Unary op a) h = record { value = λ t n. omega (arith, one_calls (unary_tree op) (value a) (lower_expr pointers a) h.value n, sum_one (value a)); called = refl }
    layer (form.Binary op a b) h = record {
      value = λ t n. omega (arith, binary_calls false op (part_of pointers a).ctype (value a) (value b) (lower_expr pointers a) (lower_expr pointers b) h.0.value h.1.value n, sum_two (value a) (value b));
      called = refl;
    }
    layer (form.Both a b) h = record { value = λ t n. omega (arith, both_calls (value a) (value b) (lower_expr pointers a) (lower_expr pointers b) h.0.value h.1.value n, sum_two (value a) (value b)); called = refl }
    layer (form.Either a b) h = record { value = λ t n. omega (arith, either_calls (value a) (value b) (lower_expr pointers a) (lower_expr pointers b) h.0.value h.1.value n, sum_two (value a) (value b)); called = refl }
    layer (form.Choose x a b) h = record {
      value = λ t n. omega (arith, choice_calls (value x) (value a) (value b) (lower_expr pointers x) (lower_expr pointers a) (lower_expr pointers b) h.0.value h.1.value h.2.value n, sum_three (value x) (value a) (value b));
      called = refl;
    }
    layer (form.Convert a) h = record { value = λ t n. omega (arith, one_calls (converted_tree t) (value a) (lower_expr pointers a) h.value n, sum_one (value a)); called = refl }
    layer (form.Set target a) h = let c = lvalue_calling counts target in record {
      value = λ t n. omega (arith, set_calls (place_of pointers target) c (value a) (lower_expr pointers a) h.0 h.1.value n, sum_two (c false) (value a));
      called = refl;
    }
    layer (form.Change op kind target a) h = let c = lvalue_calling counts target in record {
      value = λ t n. omega (arith, change_calls op kind t (place_of pointers target) c (value a) (lower_expr pointers a) h.0 h.1.value n, sum_two (c false) (value a));
      called = refl;
    }
    layer (form.After up target) h = let c = lvalue_calling counts target in record { value = λ t n. omega (arith, after_calls up t (place_of pointers target) c h n, sum_one (c false)); called = refl }
    layer (form.Direct f args) h = record {
      value = λ t n.
          let all = lower_all (lowers pointers args) n in
          omega (arith, call_to_calls (is_void t) (callee.Direct f) all.trees all.code n, all_calls args h n);
      called = refl;
    }
    layer (form.Through args f) h = record {
      value = λ t. called_calls (part_of pointers f).reads (is_void t) (values args) (expr_calling counts f) (lowers pointers args) (lower_expr pointers f) (all_calls args h.0) h.1.value h.1.called;
      called = refl;
    }
    layer (form.Known k args) h = record {
      value = λ t n.
          let all = lower_all (lowers pointers args) n in
          omega (arith, through_append all.code (known n k all.trees ∷ []), through_one (stm.Known (Some n) k all.trees), all_calls args h n);
      called = refl;
    }

    target_layer : (x : Target-F Form Target Expr) → TargetChildren P Q S x → PlaceCalls (both.target_layer x).0 (both.target_layer x).1
    target_layer (form.Global g) h = (refl, refl)
    target_layer (form.Local l) h = (refl, refl)
    target_layer (form.GlobalAt g e) h = (refl, same_calls (lower_expr pointers e) (omega (arith, sum_one (value e))) h.value)
    target_layer (form.LocalAt l e) h = (refl, same_calls (lower_expr pointers e) (omega (arith, sum_one (value e))) h.value)

    whole : (e : Expr) → S e
    whole = along_exprs both (λ f x. FormCalls x.0 x.1) (λ t x. PlaceCalls x.0 x.1) (λ e x. ExprCalls x.0 x.1) layer target_layer (λ x h. record { value = h.value x.ctype; called = h.called })

    pub expression_calls : (e : Expr) → Calls (expr_calls_through counts e) (lower_expr pointers e)
    expression_calls e = (whole e).value
