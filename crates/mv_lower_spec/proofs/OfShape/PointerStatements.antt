-- Lowered statements call through the pointer switches that a test picks as often as the source does.
use Rattle.std.proofs.Common.{◌≡◌, ℕ, zero, suc, ◌+◌, ◌-◌, ◌*◌, Bool, true, false, ◌&&◌, cond, List, [], ◌∷◌, ◌++◌, map, length, option_to_list, Option, Some, None, refl, ◌∙◌, ap, arith}
use Rattle.std.specs.Prelude.{◌||◌, nat_le, sum}
use Rattle.mv_ir.specs.declared.tree.Tree.{Tree}
use Rattle.mv_ir.specs.declared.stm.Array.TheVariants as array
use Rattle.mv_ir.specs.declared.stm.Stm.{Stm}
use Rattle.mv_ir.specs.declared.stm.Stm.TheOpen.{Stm-F}
use Rattle.mv_ir.specs.declared.stm.Stm.TheOpen as stm
use Rattle.mv_ir.proofs.Induction.{Each}
use Rattle.mv_ir.proofs.Keeping.{map_append}
use Rattle.mv_ast.specs.declared.program.Program.{Program}
use Rattle.mv_ast.specs.declared.program.Function.{Function}
use Rattle.mv_ast.specs.declared.program.Expr.{Expr}
use Rattle.mv_ast.specs.declared.program.Stmt.{Stmt, Stmt-F}
use Rattle.mv_ast.specs.declared.program.Stmt.TheOpen as stmt
use Rattle.mv_ast.specs.declared.program.Arm.{Arm}
use Rattle.mv_ast.specs.Counts.{words_of_size, stmt_sum, arm_sum, stmt_total, arm_total, expr_calls_through, is_pointer, calls_through}
use Rattle.mv_ast.specs.Names.{any_of, names_local}
use Rattle.mv_num.specs.Lists.{is_among}
use Rattle.mv_num.proofs.Lists.{sum_cons, sum_append}
use Rattle.mv_source_forms.specs.Names.{size_in, is_void}
use Rattle.mv_source_forms.proofs.StatementFolds.{StmtFolds, stmt_fold, stmt_folds, along_stmts}
use Rattle.mv_source_forms.proofs.StatementInduction.{StmtChildren}
use Rattle.mv_lower_spec.specs.Lowered.{Lowering, number, temp, binary, set, choose}
use Rattle.mv_lower_spec.specs.Lower.{lower_expr}
use Rattle.mv_lower_spec.specs.Statements.{Jumps, Placed, LoweredArm, in_body, in_arm, store_word, clear_words, store_zeros, store_values, lower_clear, test_labels, test_arms, arm_place, all_tests, arm_code, arms_code, break, enclosed, repeat, return_with, test_and_body}
use Rattle.mv_lower_spec.specs.LowerStatements.{lower_optional, lower_stmt, lower_arm}
use Rattle.mv_lower_spec.specs.Functions.{lower_body, lower_function, ending, outermost}
use Rattle.mv_lower_spec.specs.Shape.Calls.{code_through}
use Rattle.mv_lower_spec.proofs.OfShape.Folds.{lowered_stmts, sequences}
use Rattle.mv_lower_spec.proofs.OfShape.PointerCalls.{sum_one, through_append, through_one, expression_calls}
use Rattle.mv_ir.specs.Operators as operators

module _ (test : ℕ → Bool) where
  abbrev in_code : List Stm → ℕ
  in_code = code_through test

  joined : (xs ys : List Stm) → in_code (xs ++ ys) ≡ in_code xs + in_code ys
  joined = through_append test

  -- ---- code without calls

  free_word : (size : Option ℕ) (l i : ℕ) (v : Tree) → in_code (store_word size l i v ∷ []) ≡ 0
  free_word None l i v = through_one test (stm.Set l v)
  free_word (Some n) l i v = through_one test (stm.Write (array.Local l) (number i) v)

  free_cleared : (size : Option ℕ) (l : ℕ) → in_code (clear_words size l ∷ []) ≡ 0
  free_cleared None l = through_one test (stm.Set l (number 0))
  free_cleared (Some n) l = through_one test (stm.Zero l)

  free_zeros : (size : Option ℕ) (l i n : ℕ) → in_code (store_zeros size l i n) ≡ 0
  free_zeros size l i zero = refl
  free_zeros size l i (suc n) = omega (arith, free_word size l i (number 0), free_zeros size l (suc i) n)

  free_labels : (n i : ℕ) (ls : List ℕ) → in_code (test_labels n i ls) ≡ 0
  free_labels n i [] = refl
  free_labels n i (l ∷ ls) =
      omega (arith, through_one test (stm.If (binary operators.equal (temp n) (number l)) (set n (number i) ∷ break 0 ∷ []) []), through_one test (stm.Set n (number i)), through_one test (stm.Break 0), free_labels n i ls)

  free_arms : (n i : ℕ) (arms : List LoweredArm) → in_code (test_arms n i arms) ≡ 0
  free_arms n i [] = refl
  free_arms n i (arm ∷ arms) = omega (arith, joined (test_labels n i arm.labels) (test_arms n (suc i) arms), free_labels n i arm.labels, free_arms n (suc i) arms)

  free_tests : (n : ℕ) (arms : List LoweredArm) → in_code (all_tests n arms) ≡ 0
  free_tests n arms =
      let last : Stm-F Stm = stm.Set n (number (arm_place (λ (a : LoweredArm). a.other) 0 arms)) in
      omega (arith, joined (test_arms n 0 arms) (set n (number (arm_place (λ (a : LoweredArm). a.other) 0 arms)) ∷ []), free_arms n 0 arms, through_one test last)

  free_ending : (void : Bool) → in_code (ending void) ≡ 0
  free_ending true = refl
  free_ending false = through_one test (stm.Return (number 0))

  -- the code of an arm
  entered : (n i : ℕ) (xs : List Stm) → in_code (arm_code n i xs) ≡ in_code xs
  entered n i [] = refl
  entered n i (x ∷ xs) =
      omega (arith, through_one test (stm.If (binary operators.less_unsigned (number i) (temp n)) [] ((x ∷ xs) ++ set n (number 0) ∷ [])), joined (x ∷ xs) (set n (number 0) ∷ []), through_one test (stm.Set n (number 0)))

  module _ (pointers : List ℕ) (locals : ℕ) (sizes : ℕ → Option ℕ) (void : Bool) where
    abbrev value : Expr → ℕ
    value = expr_calls_through (λ g. test g && is_among g pointers)

    abbrev lower : Expr → Lowering
    lower = lower_expr pointers

    of_value : (e : Expr) → in_code (lower e locals).code ≡ value e
    of_value e = expression_calls test pointers e locals

    of_values : (size : Option ℕ) (l i : ℕ) (es : List Expr) → in_code (store_values locals size l i (map lower es)) ≡ sum (map value es)
    of_values size l i [] = refl
    of_values size l i (e ∷ es) =
        let word = store_word size l i (lower e locals).tree in
        omega (arith, joined (lower e locals).code (word ∷ store_values locals size l (suc i) (map lower es)), of_value e, free_word size l i (lower e locals).tree, of_values size l (suc i) es, sum_cons (value e) (map value es))

    of_clear : (size : Option ℕ) (l : ℕ) (itself : Bool) (es : List Expr) (j : Jumps) → in_code (lower_clear locals size l itself (map lower es) j).code ≡ sum (map value es)
    of_clear size l itself es j = by (itself || nat_le (8 * words_of_size size) (92 * (words_of_size size - length (map lower es))))
      where
        stores : List Stm
        stores = store_values locals size l 0 (map lower es)

        zeros : List Stm
        zeros = store_zeros size l (length (map lower es)) (words_of_size size - length (map lower es))

        by : (z : Bool) → in_code (cond z (clear_words size l ∷ stores) (stores ++ zeros)) ≡ sum (map value es)
        by true = omega (arith, free_cleared size l, of_values size l 0 es)
        by false = omega (arith, joined stores zeros, of_values size l 0 es, free_zeros size l (length (map lower es)) (words_of_size size - length (map lower es)))

    -- ---- statements

    abbrev counted : StmtFolds ℕ ℕ
    counted = stmt_fold (stmt_sum value (λ s. 0) (λ a. 0)) (arm_sum value (λ s. 0) (λ a. 0))

    abbrev both : StmtFolds (Placed × ℕ) (LoweredArm × ℕ)
    both = stmt_folds (lowered_stmts pointers locals sizes void) counted

    abbrev of_stmt : Stmt → ℕ
    of_stmt = stmt_total value (λ s. 0) (λ a. 0)

    abbrev of_arm : Arm → ℕ
    of_arm = arm_total value (λ s. 0) (λ a. 0)

    abbrev S : Stmt → Type 0
    S s = (j : Jumps) → in_code ((both.stmt s).0 j).code ≡ (both.stmt s).1

    abbrev A : Arm → Type 0
    A a = (j : Jumps) → in_code ((both.arm a).0.body j).code ≡ (both.arm a).1

    open sequences pointers locals sizes void use {lowered, arms_lowered}

    of_body : (body : List Stmt) → Each S body → (j : Jumps) → in_code (lowered body j).code ≡ sum (map of_stmt body)
    of_body [] h j = refl
    of_body (s ∷ body) h j = omega (arith, joined (lower_stmt pointers locals sizes void s j).code (lowered body j).code, h.0 j, of_body body h.1 j, sum_cons (of_stmt s) (map of_stmt body))

    of_arms : (i : ℕ) (arms : List Arm) → Each A arms → (j : Jumps) → in_code (arms_code locals i (arms_lowered arms) j) ≡ sum (map of_arm arms)
    of_arms i [] h j = refl
    of_arms i (a ∷ arms) h j =
        let body = ((lower_arm pointers locals sizes void a).body (in_arm j)).code in
        omega (arith, joined (arm_code locals i body) (arms_code locals (suc i) (arms_lowered arms) j), entered locals i body, h.0 (in_arm j), of_arms (suc i) arms h.1 j, sum_cons (of_arm a) (map of_arm arms))

    of_optional : (v : ℕ) (e : Option Expr) → in_code (lower_optional pointers v e locals).code ≡ sum (map value (option_to_list e))
    of_optional v None = refl
    of_optional v (Some e) = omega (arith, of_value e, sum_one (value e))

    -- a loop whose turn begins with a test
    of_test : (l : Lowering) (body : List Stm) → in_code (test_and_body locals l body) ≡ in_code (l locals).code + in_code body
    of_test l body = omega (arith, joined (l locals).code (choose (l locals).tree body (break 0 ∷ []) ∷ []), through_one test (stm.If (l locals).tree body (break 0 ∷ [])), through_one test (stm.Break 0))

    layer : (x : Stmt-F Stmt Arm) → StmtChildren S A x → (j : Jumps) → in_code ((both.stmt_layer x).0 j).code ≡ (both.stmt_layer x).1
    layer (stmt.Block body) h j = omega (arith, of_body body h j)
    layer (stmt.Clear l values) h j = omega (arith, of_clear (sizes l) l (any_of (map (names_local l) values)) values j)
    layer (stmt.Express e) h j = omega (arith, of_value e, sum_one (value e))
    layer (stmt.If e yes_part no_part) h j =
        let yes = (lowered yes_part j).code in
        let other = (lowered no_part j).code in
        omega (
          arith,
          joined (lower e locals).code (choose (lower e locals).tree yes other ∷ []),
          through_one test (stm.If (lower e locals).tree yes other),
          of_value e,
          sum_one (value e),
          of_body yes_part h.0 j,
          of_body no_part h.1 j,
          sum_append (map of_stmt yes_part) (map of_stmt no_part),
        )
    layer (stmt.While e body) h j =
        let code = (lowered body (in_body j)).code in
        omega (arith, through_one test (stm.Loop (test_and_body locals (lower e) (enclosed code ∷ []))), of_test (lower e) (enclosed code ∷ []), through_one test (stm.Block code), of_value e, sum_one (value e), of_body body h (in_body j))
    layer (stmt.Do body e) h j =
        let code = (lowered body (in_body j)).code in
        omega (arith, through_one test (stm.Loop (enclosed code ∷ test_and_body locals (lower e) [])), of_test (lower e) [], through_one test (stm.Block code), of_value e, sum_one (value e), of_body body h (in_body j))
    layer (stmt.For first test' step body) h j =
        let code = (lowered body (in_body j)).code in
        let tested = test_and_body locals (lower_optional pointers 1 test') (enclosed code ∷ []) in
        let stepped = (lower_optional pointers 0 step locals).code in
        omega (
          arith,
          joined (lowered first j).code (repeat (tested ++ stepped) ∷ []),
          through_one test (stm.Loop (tested ++ stepped)),
          joined tested stepped,
          of_test (lower_optional pointers 1 test') (enclosed code ∷ []),
          through_one test (stm.Block code),
          of_optional 1 test',
          of_optional 0 step,
          ap sum (map_append value (option_to_list test') (option_to_list step)) ∙ sum_append (map value (option_to_list test')) (map value (option_to_list step)),
          of_body first h.0 j,
          of_body body h.1 (in_body j),
          sum_append (map of_stmt first) (map of_stmt body),
        )
    layer (stmt.Switch e arms) h j =
        let ls = arms_lowered arms in
        let tests = enclosed (all_tests locals ls) in
        let whole = tests ∷ arms_code locals 0 ls j in
        omega (
          arith,
          joined (lower e locals).code (set locals (lower e locals).tree ∷ enclosed whole ∷ []),
          through_one test (stm.Set locals (lower e locals).tree),
          through_one test (stm.Block whole),
          through_one test (stm.Block (all_tests locals ls)),
          free_tests locals ls,
          of_value e,
          sum_one (value e),
          of_arms 0 arms h j,
        )
    layer stmt.Break h j = through_one test (stm.Break j.leave)
    layer stmt.Continue h j = through_one test (stm.Break j.again)
    layer (stmt.Return None) h j = through_one test (stm.Break j.around)
    layer (stmt.Return (Some e)) h j =
        omega (arith, joined (lower e locals).code (return_with (lower e locals).tree ∷ []), through_one test (stm.Return (lower e locals).tree), of_value e, sum_one (value e))

    pub body_calls : (body : List Stmt) (j : Jumps) → in_code (lowered body j).code ≡ sum (map of_stmt body)
    body_calls body = of_body body (along_stmts both (λ s x. (j : Jumps) → in_code (x.0 j).code ≡ x.1) (λ a x. (j : Jumps) → in_code (x.0.body j).code ≡ x.1) layer (λ x h j. omega (arith, of_body x.body h j)) body)

  pub function_calls : (p : Program) (g : Function) → in_code (lower_function p g).code ≡ calls_through (λ x. test x && is_pointer p x) g
  function_calls p g =
      let locals = length g.locals in
      omega (arith, joined (lower_body p.pointers g).code (ending (is_void g.result)), free_ending (is_void g.result), body_calls p.pointers locals (size_in g.locals) (is_void g.result) g.body outermost)
