-- No tree in lowered statements is deeper than 4.
use Rattle.std.proofs.Common.{ℕ, zero, suc, ◌-◌, ◌*◌, Bool, true, false, cond, List, [], ◌∷◌, ◌++◌, map, length, Option, Some, None, sym, subst, arith}
use Rattle.std.specs.Prelude.{◌||◌, nat_le}
use Rattle.mv_ir.specs.declared.tree.Tree.{Tree}
use Rattle.mv_ir.specs.declared.tree.Tree.TheOpen as tree
use Rattle.mv_ir.specs.declared.stm.Array.TheVariants as array
use Rattle.mv_ir.specs.declared.stm.Stm.{Stm}
use Rattle.mv_ir.specs.declared.stm.Stm.TheOpen.{Stm-F}
use Rattle.mv_ir.specs.declared.stm.Stm.TheOpen as stm
use Rattle.mv_ir.specs.declared.stm.Stm.TheViews.{roll-Stm}
use Rattle.mv_ir.specs.declared.stm.Stm.TheFolds.{map-Stm}
use Rattle.mv_ir.specs.Measures.{layer_trees, stm_trees}
use Rattle.mv_ir.proofs.Induction.{Each}
use Rattle.mv_ir.proofs.Rolls.{depth_roll}
use Rattle.mv_ast.specs.declared.program.Expr.{Expr}
use Rattle.mv_ast.specs.declared.program.Stmt.{Stmt, Stmt-F}
use Rattle.mv_ast.specs.declared.program.Stmt.TheOpen as stmt
use Rattle.mv_ast.specs.declared.program.Arm.{Arm}
use Rattle.mv_ast.specs.Counts.{words_of_size}
use Rattle.mv_ast.specs.Names.{any_of, names_local}
use Rattle.mv_lower_spec.specs.Lowered.{Lowering, number, temp, binary, set, choose}
use Rattle.mv_lower_spec.specs.Lower.{lower_expr}
use Rattle.mv_lower_spec.specs.Statements.{Jumps, LoweredArm, in_body, in_arm, store_word, clear_words, store_zeros, store_values, lower_clear, test_labels, test_arms, arm_place, all_tests, arm_code, arms_code, break, enclosed, repeat, return_with, test_and_body}
use Rattle.mv_lower_spec.specs.LowerStatements.{lower_optional, lower_stmt, lower_arm}
use Rattle.mv_lower_spec.proofs.Depths.{Shallow, ShallowCode, ShallowLowered, both_parts, shallow_set, shallow_choose}
use Rattle.mv_lower_spec.proofs.ExpressionDepths.{expr_shallow}
use Rattle.mv_lower_spec.proofs.OfShape.Counted.{trees_one}
use Rattle.mv_lower_spec.proofs.OfShape.Folds.{lowered_stmts, sequences}
use Rattle.mv_source_forms.proofs.StatementFolds.{along_stmts}
use Rattle.mv_source_forms.proofs.StatementInduction.{StmtChildren}

one : (x : Stm-F Stm) → Each Shallow (layer_trees (map-Stm Stm (List Tree) stm_trees x)) → ShallowCode (roll-Stm x ∷ [])
one x h = subst (Each Shallow) (sym (trees_one x)) h

small_number : (n : ℕ) → Shallow (number n)
small_number n = omega (arith, depth_roll (tree.Number n))

shallow_break : (n : ℕ) → ShallowCode (break n ∷ [])
shallow_break n = one (stm.Break n) tt

shallow_block : (xs : List Stm) → ShallowCode xs → ShallowCode (enclosed xs ∷ [])
shallow_block xs h = one (stm.Block xs) h

shallow_loop : (xs : List Stm) → ShallowCode xs → ShallowCode (repeat xs ∷ [])
shallow_loop xs h = one (stm.Loop xs) h

pub shallow_return : (v : Tree) → Shallow v → ShallowCode (return_with v ∷ [])
shallow_return v h = one (stm.Return v) (h, tt)

-- ---- declarations

shallow_word : (size : Option ℕ) (l i : ℕ) (v : Tree) → Shallow v → ShallowCode (store_word size l i v ∷ [])
shallow_word None l i v h = shallow_set l v h
shallow_word (Some n) l i v h = one (stm.Write (array.Local l) (number i) v) (small_number i, (h, tt))

shallow_cleared : (size : Option ℕ) (l : ℕ) → ShallowCode (clear_words size l ∷ [])
shallow_cleared None l = shallow_set l (number 0) (small_number 0)
shallow_cleared (Some n) l = one (stm.Zero l) tt

shallow_zeros : (size : Option ℕ) (l i n : ℕ) → ShallowCode (store_zeros size l i n)
shallow_zeros size l i zero = tt
shallow_zeros size l i (suc n) = both_parts (store_word size l i (number 0) ∷ []) (store_zeros size l (suc i) n) (shallow_word size l i (number 0) (small_number 0)) (shallow_zeros size l (suc i) n)

module _ (pointers : List ℕ) (locals : ℕ) where
  shallow_values : (size : Option ℕ) (l i : ℕ) (es : List Expr) → ShallowCode (store_values locals size l i (map (lower_expr pointers) es))
  shallow_values size l i [] = tt
  shallow_values size l i (e ∷ es) =
      let h = expr_shallow pointers e locals in
      let word = store_word size l i (lower_expr pointers e locals).tree in
      let more = store_values locals size l (suc i) (map (lower_expr pointers) es) in
      both_parts (lower_expr pointers e locals).code (word ∷ more) h.code (both_parts (word ∷ []) more (shallow_word size l i (lower_expr pointers e locals).tree h.tree) (shallow_values size l (suc i) es))

  shallow_clear : (size : Option ℕ) (l : ℕ) (itself : Bool) (es : List Expr) (j : Jumps) → ShallowCode (lower_clear locals size l itself (map (lower_expr pointers) es) j).code
  shallow_clear size l itself es j =
      by (itself || nat_le (8 * words_of_size size) (92 * (words_of_size size - length (map (lower_expr pointers) es))))
      (both_parts (clear_words size l ∷ []) stores (shallow_cleared size l) (shallow_values size l 0 es))
      (both_parts stores zeros (shallow_values size l 0 es)
      (shallow_zeros size l (length (map (lower_expr pointers) es)) (words_of_size size - length (map (lower_expr pointers) es))))
    where
      stores : List Stm
      stores = store_values locals size l 0 (map (lower_expr pointers) es)

      zeros : List Stm
      zeros = store_zeros size l (length (map (lower_expr pointers) es)) (words_of_size size - length (map (lower_expr pointers) es))

      by : (z : Bool) → ShallowCode (clear_words size l ∷ stores) → ShallowCode (stores ++ zeros) → ShallowCode (cond z (clear_words size l ∷ stores) (stores ++ zeros))
      by true h k = h
      by false h k = k

  -- ---- `switch`

  test_shallow : (l : ℕ) → Shallow (binary 11 (temp locals) (number l))
  test_shallow l = omega (arith, depth_roll (tree.Binary 11 (temp locals) (number l)), depth_roll (tree.Temp locals), depth_roll (tree.Number l))

  placed_shallow : (i : ℕ) → ShallowCode (set locals (number i) ∷ [])
  placed_shallow i = shallow_set locals (number i) (small_number i)

  labels_shallow : (i : ℕ) (ls : List ℕ) → ShallowCode (test_labels locals i ls)
  labels_shallow i [] = tt
  labels_shallow i (l ∷ ls) =
      let begins = set locals (number i) ∷ break 0 ∷ [] in
      both_parts (choose (binary 11 (temp locals) (number l)) begins [] ∷ []) (test_labels locals i ls)
      (shallow_choose (binary 11 (temp locals) (number l)) begins [] (test_shallow l) (both_parts (set locals (number i) ∷ []) (break 0 ∷ []) (placed_shallow i) (shallow_break 0)) tt) (labels_shallow i ls)

  arms_shallow : (i : ℕ) (arms : List LoweredArm) → ShallowCode (test_arms locals i arms)
  arms_shallow i [] = tt
  arms_shallow i (arm ∷ arms) = both_parts (test_labels locals i arm.labels) (test_arms locals (suc i) arms) (labels_shallow i arm.labels) (arms_shallow (suc i) arms)

  tests_shallow : (arms : List LoweredArm) → ShallowCode (all_tests locals arms)
  tests_shallow arms =
      let place = arm_place (λ (a : LoweredArm). a.other) 0 arms in
      both_parts (test_arms locals 0 arms) (set locals (number place) ∷ []) (arms_shallow 0 arms) (placed_shallow place)

  arm_shallow : (i : ℕ) (xs : List Stm) → ShallowCode xs → ShallowCode (arm_code locals i xs)
  arm_shallow i [] h = tt
  arm_shallow i (x ∷ xs) h =
      let test : Shallow (binary 10 (number i) (temp locals)) = omega (arith, depth_roll (tree.Binary 10 (number i) (temp locals)), depth_roll (tree.Temp locals), depth_roll (tree.Number i)) in
      shallow_choose (binary 10 (number i) (temp locals)) [] ((x ∷ xs) ++ set locals (number 0) ∷ []) test tt (both_parts (x ∷ xs) (set locals (number 0) ∷ []) h (placed_shallow 0))

  all_arms_shallow : (i : ℕ) (arms : List LoweredArm) (j : Jumps) → Each (λ (a : LoweredArm). (k : Jumps) → ShallowCode (a.body k).code) arms → ShallowCode (arms_code locals i arms j)
  all_arms_shallow i [] j h = tt
  all_arms_shallow i (a ∷ arms) j h =
      let body = (a.body (in_arm j)).code in
      both_parts (arm_code locals i body) (arms_code locals (suc i) arms j) (arm_shallow i body (h.0 (in_arm j))) (all_arms_shallow (suc i) arms j h.1)

  module _ (sizes : ℕ → Option ℕ) (void : Bool) where
    abbrev S : Stmt → Type 0
    S s = (j : Jumps) → ShallowCode (lower_stmt pointers locals sizes void s j).code

    abbrev A : Arm → Type 0
    A a = (j : Jumps) → ShallowCode ((lower_arm pointers locals sizes void a).body j).code

    open sequences pointers locals sizes void use {lowered, arms_lowered}

    all_shallow : (body : List Stmt) → Each S body → (j : Jumps) → ShallowCode (lowered body j).code
    all_shallow [] h j = tt
    all_shallow (s ∷ body) h j = both_parts (lower_stmt pointers locals sizes void s j).code (lowered body j).code (h.0 j) (all_shallow body h.1 j)

    each_arm : (arms : List Arm) → Each A arms → Each (λ (a : LoweredArm). (k : Jumps) → ShallowCode (a.body k).code) (arms_lowered arms)
    each_arm [] h = tt
    each_arm (a ∷ arms) h = (h.0, each_arm arms h.1)

    optional : (v : ℕ) (e : Option Expr) → ShallowLowered (lower_optional pointers v e locals)
    optional v None = record { code = tt; tree = small_number v }
    optional v (Some e) = expr_shallow pointers e locals

    test_and : (l : Lowering) (body : List Stm) → ShallowLowered (l locals) → ShallowCode body → ShallowCode (test_and_body locals l body)
    test_and l body h k =
        both_parts (l locals).code (choose (l locals).tree body (break 0 ∷ []) ∷ []) h.code (shallow_choose (l locals).tree body (break 0 ∷ []) h.tree k (shallow_break 0))

    layer : (x : Stmt-F Stmt Arm) → StmtChildren S A x → (j : Jumps) → ShallowCode ((lowered_stmts pointers locals sizes void).stmt_layer x j).code
    layer (stmt.Block body) h j = all_shallow body h j
    layer (stmt.Clear l values) h j = shallow_clear (sizes l) l (any_of (map (names_local l) values)) values j
    layer (stmt.Express e) h j = (expr_shallow pointers e locals).code
    layer (stmt.If e yes_part no_part) h j =
        let x = expr_shallow pointers e locals in
        let yes = (lowered yes_part j).code in
        let other = (lowered no_part j).code in
        both_parts (lower_expr pointers e locals).code (choose (lower_expr pointers e locals).tree yes other ∷ []) x.code
        (shallow_choose (lower_expr pointers e locals).tree yes other x.tree (all_shallow yes_part h.0 j) (all_shallow no_part h.1 j))
    layer (stmt.While e body) h j =
        let code = (lowered body (in_body j)).code in
        shallow_loop (test_and_body locals (lower_expr pointers e) (enclosed code ∷ [])) (test_and (lower_expr pointers e) (enclosed code ∷ []) (expr_shallow pointers e locals) (shallow_block code (all_shallow body h (in_body j))))
    layer (stmt.Do body e) h j =
        let code = (lowered body (in_body j)).code in
        let test = test_and_body locals (lower_expr pointers e) [] in
        shallow_loop (enclosed code ∷ test) (both_parts (enclosed code ∷ []) test (shallow_block code (all_shallow body h (in_body j))) (test_and (lower_expr pointers e) [] (expr_shallow pointers e locals) tt))
    layer (stmt.For first test step body) h j =
        let code = (lowered body (in_body j)).code in
        let tested = test_and_body locals (lower_optional pointers 1 test) (enclosed code ∷ []) in
        let stepped = (lower_optional pointers 0 step locals).code in
        both_parts (lowered first j).code (repeat (tested ++ stepped) ∷ []) (all_shallow first h.0 j)
        (shallow_loop (tested ++ stepped) (both_parts tested stepped (test_and (lower_optional pointers 1 test) (enclosed code ∷ []) (optional 1 test) (shallow_block code (all_shallow body h.1 (in_body j)))) (optional 0 step).code))
    layer (stmt.Switch e arms) h j =
        let x = expr_shallow pointers e locals in
        let t = (lower_expr pointers e locals).tree in
        let ls = arms_lowered arms in
        let whole = enclosed (all_tests locals ls) ∷ arms_code locals 0 ls j in
        both_parts (lower_expr pointers e locals).code (set locals t ∷ enclosed whole ∷ []) x.code
        (both_parts (set locals t ∷ []) (enclosed whole ∷ []) (shallow_set locals t x.tree)
        (shallow_block whole (both_parts (enclosed (all_tests locals ls) ∷ []) (arms_code locals 0 ls j) (shallow_block (all_tests locals ls) (tests_shallow ls)) (all_arms_shallow 0 ls j (each_arm arms h)))))
    layer stmt.Break h j = shallow_break j.leave
    layer stmt.Continue h j = shallow_break j.again
    layer (stmt.Return None) h j = shallow_break j.around
    layer (stmt.Return (Some e)) h j =
        let x = expr_shallow pointers e locals in
        both_parts (lower_expr pointers e locals).code (return_with (lower_expr pointers e locals).tree ∷ []) x.code (shallow_return (lower_expr pointers e locals).tree x.tree)

    pub body_shallow : (body : List Stmt) (j : Jumps) → ShallowCode (lowered body j).code
    body_shallow body =
        all_shallow body (along_stmts (lowered_stmts pointers locals sizes void) (λ s l. (j : Jumps) → ShallowCode (l j).code) (λ a l. (j : Jumps) → ShallowCode (l.body j).code) layer (λ x h. all_shallow x.body h) body)
