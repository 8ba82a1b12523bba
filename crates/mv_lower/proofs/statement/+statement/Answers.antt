use Rattle.std.proofs.Common.{ℕ, suc, append_assoc, List, ◌≡◌, ◌+◌, ◌<◌, ◌≤◌, ◌∷◌, ◌++◌, ap, sym, ◌∙◌, arith, map, take, drop, length, max, subst, refl}
use Rattle.mv_ast.specs.declared.program.Stmt.{Stmt}
use Rattle.mv_ast.specs.declared.program.Arm.{Arm}
use Rattle.mv_ast.specs.declared.program.Expr.{Expr}
use Rattle.mv_lower_spec.specs.Lowered.{Lowered}
use Rattle.mv_lower_expressions.specs.declared.value.Value.{Value}
use Rattle.mv_lower_expressions.specs.Values.{seen}
use Rattle.mv_lower_expressions.specs.Expressions.{expr_at, each_at}
use Rattle.mv_lower.specs.Statements.{stmt_size, stmts_size, arm_size, arms_size, used}
use Rattle.mv_lower_expressions.proofs.Sizes.{sum_before}
use Rattle.mv_lower.proofs.StatementForms.{size_block, size_clear, size_express, size_if, size_while, size_do, size_for, size_switch, size_return, size_arm, few_arms}
use Rattle.mv_lower.proofs.Switching.{next_item, code_step, top_step, arms_least, arms_end}
use Rattle.mv_lower.proofs.Sequences.{same_code, with_stmt, stmts_push}
use Rattle.mv_ir.specs.declared.stm.Stm.{Stm}
use Rattle.mv_lower_spec.specs.Statements.{Code, in_arm, arm_code, arms_code, arms_top}
use Rattle.mv_lower.specs.Statements.{seen_code, seen_jumps, stmts_at, stmt_at, arm_at}
use Rattle.mv_lower.proofs.statement.+statement.Goals as goal
use Rattle.mv_num.proofs.Lists.{length_map}

as_many : (ps : List ℕ) (vs : List Value) (es : List Expr) (n : ℕ) → map seen vs ≡ each_at ps es n → length vs ≡ length es
as_many ps vs es n e = sym (length_map seen vs) ∙ (ap (λ (l : List Lowered). length l) e ∙ length_map (λ (x : Expr). expr_at ps x n) es)

pub lower_stmt-declare-requires : goal.lower_stmt-declare-requires
lower_stmt-declare-requires t c =
    let e = ap stmt_size c.in-Clear.is ∙ size_clear c.in-Clear.l c.in-Clear.values in
    let many = as_many c.args.pointers.now c.in_ok-given-in-Clear.given c.in-Clear.values _ c.in_ok-given-in-Clear.ensures in
    omega (arith, e, many)

pub lower_stmt-lower_stmts-requires : goal.lower_stmt-lower_stmts-requires
lower_stmt-lower_stmts-requires t c =
    let e = ap stmt_size c.in-Block.is ∙ size_block c.in-Block.body in
    (omega (arith, e, c.decreases), omega (arith, e))

pub lower_stmt-lower_each-requires : goal.lower_stmt-lower_each-requires
lower_stmt-lower_each-requires t c =
    let e = ap stmt_size c.in-Clear.is ∙ size_clear c.in-Clear.l c.in-Clear.values in
    omega (arith, e)

pub lower_stmt-lower_expr-requires : goal.lower_stmt-lower_expr-requires
lower_stmt-lower_expr-requires t c =
    let e = ap stmt_size c.in-Express.is ∙ size_express c.in-Express.e in
    omega (arith, e)

pub lower_stmt-lower_expr-requires-in-If : goal.lower_stmt-lower_expr-requires-in-If
lower_stmt-lower_expr-requires-in-If t c =
    let e = ap stmt_size c.in-If.is ∙ size_if c.in-If.e c.in-If.a c.in-If.b in
    omega (arith, e)

pub lower_stmt-lower_stmts-requires-in-If : goal.lower_stmt-lower_stmts-requires-in-If
lower_stmt-lower_stmts-requires-in-If t c =
    let e = ap stmt_size c.in-If.is ∙ size_if c.in-If.e c.in-If.a c.in-If.b in
    (omega (arith, e, c.decreases), omega (arith, e))

pub lower_stmt-lower_stmts-requires-in-If-2 : goal.lower_stmt-lower_stmts-requires-in-If-2
lower_stmt-lower_stmts-requires-in-If-2 t c =
    let e = ap stmt_size c.in-If.is ∙ size_if c.in-If.e c.in-If.a c.in-If.b in
    (omega (arith, e, c.decreases), omega (arith, e))

pub lower_stmt-lower_expr-requires-in-While : goal.lower_stmt-lower_expr-requires-in-While
lower_stmt-lower_expr-requires-in-While t c =
    let e = ap stmt_size c.in-While.is ∙ size_while c.in-While.e c.in-While.body in
    omega (arith, e)

pub lower_stmt-in_body-requires : goal.lower_stmt-in_body-requires
lower_stmt-in_body-requires t c =
    let e = ap stmt_size c.in-While.is ∙ size_while c.in-While.e c.in-While.body in
    omega (arith, e)

pub lower_stmt-lower_stmts-requires-in-While : goal.lower_stmt-lower_stmts-requires-in-While
lower_stmt-lower_stmts-requires-in-While t c =
    let e = ap stmt_size c.in-While.is ∙ size_while c.in-While.e c.in-While.body in
    let j = ap (used c.args.function.now) c.in_body.ensures in
    (omega (arith, e, c.decreases), omega (arith, e, j))

pub lower_stmt-in_body-requires-in-Do : goal.lower_stmt-in_body-requires-in-Do
lower_stmt-in_body-requires-in-Do t c =
    let e = ap stmt_size c.in-Do.is ∙ size_do c.in-Do.body c.in-Do.e in
    omega (arith, e)

pub lower_stmt-lower_stmts-requires-in-Do : goal.lower_stmt-lower_stmts-requires-in-Do
lower_stmt-lower_stmts-requires-in-Do t c =
    let e = ap stmt_size c.in-Do.is ∙ size_do c.in-Do.body c.in-Do.e in
    let j = ap (used c.args.function.now) c.in_body-in-Do.ensures in
    (omega (arith, e, c.decreases), omega (arith, e, j))

pub lower_stmt-lower_expr-requires-in-Do : goal.lower_stmt-lower_expr-requires-in-Do
lower_stmt-lower_expr-requires-in-Do t c =
    let e = ap stmt_size c.in-Do.is ∙ size_do c.in-Do.body c.in-Do.e in
    omega (arith, e)

pub lower_stmt-lower_stmts-requires-in-For : goal.lower_stmt-lower_stmts-requires-in-For
lower_stmt-lower_stmts-requires-in-For t c =
    let e = ap stmt_size c.in-For.is ∙ size_for c.in-For.first c.in-For.test c.in-For.step c.in-For.body in
    (omega (arith, e, c.decreases), omega (arith, e))

pub lower_stmt-lower_optional-requires : goal.lower_stmt-lower_optional-requires
lower_stmt-lower_optional-requires t c =
    let e = ap stmt_size c.in-For.is ∙ size_for c.in-For.first c.in-For.test c.in-For.step c.in-For.body in
    omega (arith, e)

pub lower_stmt-lower_optional-requires-in-For : goal.lower_stmt-lower_optional-requires-in-For
lower_stmt-lower_optional-requires-in-For t c =
    let e = ap stmt_size c.in-For.is ∙ size_for c.in-For.first c.in-For.test c.in-For.step c.in-For.body in
    omega (arith, e)

pub lower_stmt-in_body-requires-in-For : goal.lower_stmt-in_body-requires-in-For
lower_stmt-in_body-requires-in-For t c =
    let e = ap stmt_size c.in-For.is ∙ size_for c.in-For.first c.in-For.test c.in-For.step c.in-For.body in
    omega (arith, e)

pub lower_stmt-lower_stmts-requires-in-For-2 : goal.lower_stmt-lower_stmts-requires-in-For-2
lower_stmt-lower_stmts-requires-in-For-2 t c =
    let e = ap stmt_size c.in-For.is ∙ size_for c.in-For.first c.in-For.test c.in-For.step c.in-For.body in
    let j = ap (used c.args.function.now) c.in_body-in-For.ensures in
    (omega (arith, e, c.decreases), omega (arith, e, j))

pub lower_stmt-lower_expr-requires-in-Switch : goal.lower_stmt-lower_expr-requires-in-Switch
lower_stmt-lower_expr-requires-in-Switch t c =
    let e = ap stmt_size c.in-Switch.is ∙ size_switch c.in-Switch.e c.in-Switch.arms in
    omega (arith, e)

pub lower_stmt-tests-requires : goal.lower_stmt-tests-requires
lower_stmt-tests-requires t c =
    let e = ap stmt_size c.in-Switch.is ∙ size_switch c.in-Switch.e c.in-Switch.arms in
    let few = few_arms c.in-Switch.arms in
    omega (arith, e, few)

pub lower_stmt-lower_arms-requires : goal.lower_stmt-lower_arms-requires
lower_stmt-lower_arms-requires t c =
    let e = ap stmt_size c.in-Switch.is ∙ size_switch c.in-Switch.e c.in-Switch.arms in
    (omega (arith, e, c.decreases), omega (arith, e))

pub lower_stmt-switch-requires : goal.lower_stmt-switch-requires
lower_stmt-switch-requires t c =
    let e = ap stmt_size c.in-Switch.is ∙ size_switch c.in-Switch.e c.in-Switch.arms in
    omega (arith, e)

pub lower_stmt-lower_return-requires : goal.lower_stmt-lower_return-requires
lower_stmt-lower_return-requires t c =
    let e = ap stmt_size c.in-Return.is ∙ size_return c.in-Return.e in
    omega (arith, e)

pub lower_stmts-lower_stmt-requires : goal.lower_stmts-lower_stmt-requires
lower_stmts-lower_stmt-requires t c =
    let b : stmts_size (take c.loop-s.s-index c.args.body.now) + stmt_size c.s-item.result ≤ stmts_size c.args.body.now = subst
    (λ (xs : List Stmt). stmts_size (take c.loop-s.s-index xs) + stmt_size c.s-item.result ≤ stmts_size xs) c.as_slice-s-items.ensures
    (sum_before stmt_size c.as_slice-s-items.result.now c.loop-s.s-index c.s-item.result c.loop-s-test.true c.s-item.is) in
    (omega (arith, b, c.decreases), omega (arith, b))

pub lower_arms-lower_stmts-requires : goal.lower_arms-lower_stmts-requires
lower_arms-lower_stmts-requires t c =
    let a = c.arm-item.result in
    let r : arms_size (take c.loop-arm.arm-index c.args.arms.now) + arm_size a ≤ arms_size c.args.arms.now = subst
    (λ (xs : List Arm). arms_size (take c.loop-arm.arm-index xs) + arm_size a ≤ arms_size xs) c.as_slice-arm-items.ensures
    (sum_before arm_size c.as_slice-arm-items.result.now c.loop-arm.arm-index a c.loop-arm-test.true c.arm-item.is) in
    let s = size_arm a in
    let j = ap (used c.args.function.now) c.in_arm-inside.ensures in
    (omega (arith, r, s, c.decreases), omega (arith, r, s, j))

pub lower_arms-overflow_add-place : goal.lower_arms-overflow_add-place
lower_arms-overflow_add-place t c =
    let few = few_arms c.args.arms.now in
    let below : c.loop-arm.arm-index < length c.args.arms.now = subst (λ (xs : List Arm). c.loop-arm.arm-index < length xs) c.as_slice-arm-items.ensures c.loop-arm-test.true in
    let inv = c.loop-arm.invariant.0 in
    omega (arith, few, below, inv)

pub lower_arms-loop-arm-init : goal.lower_arms-loop-arm-init
lower_arms-loop-arm-init t c =
    let g = c.args.function.now in
    let j = seen_jumps c.args.jumps in
    let low = arms_least c.args.pointers.now g j c.args.arms.now in
    (refl, omega arith, ap (λ (x : List Stm). x ++ arms_code (length g.locals) 0 (map (arm_at c.args.pointers.now g) c.args.arms.now) j) c.new-code.ensures, omega (arith, low))

pub lower_arms-loop-arm-preserved : goal.lower_arms-loop-arm-preserved
lower_arms-loop-arm-preserved t c =
    let i = c.loop-arm.arm-index in
    let a = c.arm-item.result in
    let g = c.args.function.now in
    let n = length g.locals in
    let arms = c.args.arms.now in
    let j = seen_jumps c.args.jumps in
    let rest = drop (i + 1) arms in
    let inv = c.loop-arm.invariant in
    let nx : drop i arms ≡ a ∷ rest = subst (λ (xs : List Arm). drop i xs ≡ a ∷ drop (i + 1) xs) c.as_slice-arm-items.ensures (next_item c.as_slice-arm-items.result.now i a c.loop-arm-test.true c.arm-item.is) in
    let body : seen_code c.in_ok-body.body ≡ stmts_at c.args.pointers.now g a.body (in_arm j) = c.in_ok-body.ensures ∙ ap (λ k. stmts_at c.args.pointers.now g a.body k) c.in_arm-inside.ensures in
    let code = ap (λ (x : Code). x.code) body in
    let top = ap (λ (x : Code). x.top) body in
    let s : suc i ≡ i + 1 = omega arith in
    let codes = ap (λ (l : List Arm). arms_code n i (map (arm_at c.args.pointers.now g) l) j) nx ∙ code_step c.args.pointers.now g j i a rest ∙
    ap (λ k. arm_code n i (stmts_at c.args.pointers.now g a.body (in_arm j)).code ++ arms_code n k (map (arm_at c.args.pointers.now g) rest) j)
    s in
    let added = c.in_ok-arm_code.ensures ∙ (ap (λ m. arm_code m c.loop-arm.place c.in_ok-body.body.code) c.len-n.ensures ∙ (ap (λ k. arm_code n k c.in_ok-body.body.code) inv.0 ∙ ap (λ (x : List Stm). arm_code n i x) code)) in
    let tops = ap (λ (l : List Arm). arms_top n (map (arm_at c.args.pointers.now g) l) j) nx ∙ top_step c.args.pointers.now g j a rest in (
      omega (arith, inv.0),
      omega (arith, inv.1),
      ap (λ (x : List Stm). x ++ arms_code n (i + 1) (map (arm_at c.args.pointers.now g) rest) j)
          (c.in_ok-append.ensures.ok ∙ ap (λ (x : List Stm). c.loop-arm.code ++ x) added) ∙
          (append_assoc c.loop-arm.code (arm_code n i (stmts_at c.args.pointers.now g a.body (in_arm j)).code)
          (arms_code n (i + 1) (map (arm_at c.args.pointers.now g) rest) j) ∙
          (ap (λ (x : List Stm). c.loop-arm.code ++ x) (sym codes) ∙ inv.2)),
      omega (arith, inv.3, tops, top),
    )

pub lower_arms-returns : goal.lower_arms-returns
lower_arms-returns t c =
    let i = c.loop-arm.arm-index in
    let arms = c.args.arms.now in
    let inv = c.loop-arm.invariant in
    let past : length arms ≤ i = subst (λ (xs : List Arm). length xs ≤ i) c.as_slice-arm-items.ensures c.loop-arm-test.false in
    arms_end c.args.pointers.now c.args.function.now (seen_jumps c.args.jumps) c.loop-arm.code arms i c.loop-arm.top past inv.1 inv.2 inv.3

pub lower_stmts-loop-s-preserved : goal.lower_stmts-loop-s-preserved
lower_stmts-loop-s-preserved t c =
    let i = c.loop-s.s-index in
    let a = c.s-item.result in
    let g = c.args.function.now in
    let j = seen_jumps c.args.jumps in
    let more = subst (λ (xs : List Stmt). stmts_at c.args.pointers.now g (take (i + 1) xs) j ≡ with_stmt c.args.pointers.now g j (take i xs) a)
    c.as_slice-s-items.ensures (stmts_push c.args.pointers.now g j c.as_slice-s-items.result.now i a c.loop-s-test.true c.s-item.is) in
    let old = c.loop-s.invariant in
    let part = c.in_ok-part.ensures in
    let code = c.in_ok-append.ensures.ok ∙ (ap (λ (x : Code). x.code ++ c.in_ok-part.part.code) old ∙ ap (λ (x : Code). (stmts_at c.args.pointers.now g (take i c.args.body.now) j).code ++ x.code) part) in
    let both = ap (λ (x : Code). max x.top c.in_ok-part.part.top) old ∙ ap (λ (x : Code). max (stmts_at c.args.pointers.now g (take i c.args.body.now) j).top x.top) part in
    let top : c.max-top.result ≡ max (stmts_at c.args.pointers.now g (take i c.args.body.now) j).top (stmt_at c.args.pointers.now g a j).top = omega (arith, both) in
    same_code code top ∙ sym more
