use Rattle.std.proofs.Common.{◌≡◌, ◌+◌, ◌≤◌, ◌∷◌, [], ◌++◌, ap, sym, ◌∙◌, arith, List, map, take, subst}
use Rattle.mv_lower_expressions.specs.Expressions.{exprs_at, expr_at, form_at, place_at, expr_size, form_size, target_size, exprs_size}
use Rattle.std.specs.Prelude.{Result}
use Rattle.std.specs.Result.{IfOk}
use Rattle.mv_ast.specs.declared.program.Expr.{Expr}
use Rattle.mv_ast.specs.declared.program.Form.{Form}
use Rattle.mv_lower_spec.specs.Lowered.{Lowered}
use Rattle.mv_lower_expressions.specs.declared.value.Value.{Value}
use Rattle.mv_lower_spec.specs.Lower.{Place}
use Rattle.mv_lower_expressions.specs.declared.place.Place as declared
use Rattle.mv_lower_expressions.specs.Values.{seen}
use Rattle.mv_lower_expressions.specs.Places.{start_of, seen_place}
use Rattle.mv_lower_expressions.proofs.Sizes.{sum_before}
use Rattle.mv_lower_expressions.proofs.Forms.{form_read, form_unary, form_binary, form_both, form_either, form_choose, form_convert, form_set, form_change, form_after, form_direct, form_through, form_known, size_expr, size_read, size_unary, size_binary, size_both, size_either, size_choose, size_convert, size_set, size_change, size_after, size_direct, size_through, size_known, size_global_at, size_local_at, start_small, few_exprs, few_values, few_with_callee, MoreAt, exprs_push, map_push}
use Rattle.mv_lower_expressions.proofs.expression.+expression.Goals as goal

-- a value that shows one thing shows what is the same
shown : {E : Type 0} (r : Result Value E) {x y : Lowered} → x ≡ y → IfOk r (λ v. seen v ≡ y) → IfOk r (λ v. seen v ≡ x)
shown r e h = subst (λ z. IfOk r (λ v. seen v ≡ z)) (sym e) h

pub lower_expr-lower_form-requires : goal.lower_expr-lower_form-requires
lower_expr-lower_form-requires t c =
    let e = size_expr c.args.e.now in
    (omega (arith, e, c.decreases), omega (arith, e))

pub lower_boxed-lower_expr-requires : goal.lower_boxed-lower_expr-requires
lower_boxed-lower_expr-requires t c =
    let e = ap expr_size c.get.ensures in
    (omega (arith, e, c.decreases), omega (arith, e))

pub lower_form-lower_read-requires : goal.lower_form-lower_read-requires
lower_form-lower_read-requires t c =
    let e = ap form_size c.in-Read.is ∙ size_read c.in-Read.target in
    (omega (arith, e, c.decreases), omega (arith, e))

pub lower_form-returns-in-Read : goal.lower_form-returns-in-Read
lower_form-returns-in-Read t c = shown _ (ap (λ (f : Form). form_at c.args.pointers.now f c.args.ctype c.args.n) c.in-Read.is ∙ form_read c.args.pointers.now c.in-Read.target c.args.ctype c.args.n) c.lower_read.ensures

pub lower_form-lower_unary-requires : goal.lower_form-lower_unary-requires
lower_form-lower_unary-requires t c =
    let e = ap form_size c.in-Unary.is ∙ size_unary c.in-Unary.op c.in-Unary.a in
    (omega (arith, e, c.decreases), omega (arith, e))

pub lower_form-returns-in-Unary : goal.lower_form-returns-in-Unary
lower_form-returns-in-Unary t c = shown _ (ap (λ (f : Form). form_at c.args.pointers.now f c.args.ctype c.args.n) c.in-Unary.is ∙ form_unary c.args.pointers.now c.in-Unary.op c.in-Unary.a c.args.ctype c.args.n) c.lower_unary.ensures

pub lower_form-lower_binary-requires : goal.lower_form-lower_binary-requires
lower_form-lower_binary-requires t c =
    let e = ap form_size c.in-Binary.is ∙ size_binary c.in-Binary.op c.in-Binary.a c.in-Binary.b in
    (omega (arith, e, c.decreases), omega (arith, e))

pub lower_form-returns-in-Binary : goal.lower_form-returns-in-Binary
lower_form-returns-in-Binary t c =
    shown _ (ap (λ (f : Form). form_at c.args.pointers.now f c.args.ctype c.args.n) c.in-Binary.is ∙
    form_binary c.args.pointers.now c.in-Binary.op c.in-Binary.a c.in-Binary.b c.args.ctype c.args.n) c.lower_binary.ensures

pub lower_form-lower_both-requires : goal.lower_form-lower_both-requires
lower_form-lower_both-requires t c =
    let e = ap form_size c.in-Both.is ∙ size_both c.in-Both.a c.in-Both.b in
    (omega (arith, e, c.decreases), omega (arith, e))

pub lower_form-returns-in-Both : goal.lower_form-returns-in-Both
lower_form-returns-in-Both t c = shown _ (ap (λ (f : Form). form_at c.args.pointers.now f c.args.ctype c.args.n) c.in-Both.is ∙ form_both c.args.pointers.now c.in-Both.a c.in-Both.b c.args.ctype c.args.n) c.lower_both.ensures

pub lower_form-lower_either-requires : goal.lower_form-lower_either-requires
lower_form-lower_either-requires t c =
    let e = ap form_size c.in-Either.is ∙ size_either c.in-Either.a c.in-Either.b in
    (omega (arith, e, c.decreases), omega (arith, e))

pub lower_form-returns-in-Either : goal.lower_form-returns-in-Either
lower_form-returns-in-Either t c = shown _ (ap (λ (f : Form). form_at c.args.pointers.now f c.args.ctype c.args.n) c.in-Either.is ∙ form_either c.args.pointers.now c.in-Either.a c.in-Either.b c.args.ctype c.args.n) c.lower_either.ensures

pub lower_form-lower_choice-requires : goal.lower_form-lower_choice-requires
lower_form-lower_choice-requires t c =
    let e = ap form_size c.in-Choose.is ∙ size_choose c.in-Choose.c c.in-Choose.a c.in-Choose.b in
    (omega (arith, e, c.decreases), omega (arith, e))

pub lower_form-returns-in-Choose : goal.lower_form-returns-in-Choose
lower_form-returns-in-Choose t c =
    shown _ (ap (λ (f : Form). form_at c.args.pointers.now f c.args.ctype c.args.n) c.in-Choose.is ∙
    form_choose c.args.pointers.now c.in-Choose.c c.in-Choose.a c.in-Choose.b c.args.ctype c.args.n) c.lower_choice.ensures

pub lower_form-lower_converted-requires : goal.lower_form-lower_converted-requires
lower_form-lower_converted-requires t c =
    let e = ap form_size c.in-Convert.is ∙ size_convert c.in-Convert.a in
    (omega (arith, e, c.decreases), omega (arith, e))

pub lower_form-returns-in-Convert : goal.lower_form-returns-in-Convert
lower_form-returns-in-Convert t c = shown _ (ap (λ (f : Form). form_at c.args.pointers.now f c.args.ctype c.args.n) c.in-Convert.is ∙ form_convert c.args.pointers.now c.in-Convert.a c.args.ctype c.args.n) c.lower_converted.ensures

pub lower_form-lower_set-requires : goal.lower_form-lower_set-requires
lower_form-lower_set-requires t c =
    let e = ap form_size c.in-Set.is ∙ size_set c.in-Set.target c.in-Set.a in
    (omega (arith, e, c.decreases), omega (arith, e))

pub lower_form-returns-in-Set : goal.lower_form-returns-in-Set
lower_form-returns-in-Set t c = shown _ (ap (λ (f : Form). form_at c.args.pointers.now f c.args.ctype c.args.n) c.in-Set.is ∙ form_set c.args.pointers.now c.in-Set.target c.in-Set.a c.args.ctype c.args.n) c.lower_set.ensures

pub lower_form-lower_change-requires : goal.lower_form-lower_change-requires
lower_form-lower_change-requires t c =
    let e = ap form_size c.in-Change.is ∙ size_change c.in-Change.op c.in-Change.kind c.in-Change.target c.in-Change.a in
    (omega (arith, e, c.decreases), omega (arith, e))

pub lower_form-returns-in-Change : goal.lower_form-returns-in-Change
lower_form-returns-in-Change t c =
    shown _ (ap (λ (f : Form). form_at c.args.pointers.now f c.args.ctype c.args.n) c.in-Change.is ∙
    form_change c.args.pointers.now c.in-Change.op c.in-Change.kind c.in-Change.target c.in-Change.a c.args.ctype c.args.n) c.lower_change.ensures

pub lower_form-lower_after-requires : goal.lower_form-lower_after-requires
lower_form-lower_after-requires t c =
    let e = ap form_size c.in-After.is ∙ size_after c.in-After.up c.in-After.target in
    (omega (arith, e, c.decreases), omega (arith, e))

pub lower_form-returns-in-After : goal.lower_form-returns-in-After
lower_form-returns-in-After t c = shown _ (ap (λ (f : Form). form_at c.args.pointers.now f c.args.ctype c.args.n) c.in-After.is ∙ form_after c.args.pointers.now c.in-After.up c.in-After.target c.args.ctype c.args.n) c.lower_after.ensures

pub lower_form-lower_direct-requires : goal.lower_form-lower_direct-requires
lower_form-lower_direct-requires t c =
    let e = ap form_size c.in-Direct.is ∙ size_direct c.in-Direct.f c.in-Direct.args in
    (omega (arith, e, c.decreases), omega (arith, e))

pub lower_form-returns-in-Direct : goal.lower_form-returns-in-Direct
lower_form-returns-in-Direct t c = shown _ (ap (λ (f : Form). form_at c.args.pointers.now f c.args.ctype c.args.n) c.in-Direct.is ∙ form_direct c.args.pointers.now c.in-Direct.f c.in-Direct.args c.args.ctype c.args.n) c.lower_direct.ensures

pub lower_form-lower_through-requires : goal.lower_form-lower_through-requires
lower_form-lower_through-requires t c =
    let e = ap form_size c.in-Through.is ∙ size_through c.in-Through.args c.in-Through.callee in
    (omega (arith, e, c.decreases), omega (arith, e))

pub lower_form-returns-in-Through : goal.lower_form-returns-in-Through
lower_form-returns-in-Through t c =
    shown _ (ap (λ (f : Form). form_at c.args.pointers.now f c.args.ctype c.args.n) c.in-Through.is ∙
    form_through c.args.pointers.now c.in-Through.args c.in-Through.callee c.args.ctype c.args.n) c.lower_through.ensures

pub lower_form-lower_known-requires : goal.lower_form-lower_known-requires
lower_form-lower_known-requires t c =
    let e = ap form_size c.in-Known.is ∙ size_known c.in-Known.k c.in-Known.args in
    (omega (arith, e, c.decreases), omega (arith, e))

pub lower_form-returns-in-Known : goal.lower_form-returns-in-Known
lower_form-returns-in-Known t c = shown _ (ap (λ (f : Form). form_at c.args.pointers.now f c.args.ctype c.args.n) c.in-Known.is ∙ form_known c.args.pointers.now c.in-Known.k c.in-Known.args c.args.ctype c.args.n) c.lower_known.ensures

pub lower_read-lower_target-requires : goal.lower_read-lower_target-requires
lower_read-lower_target-requires t c = (omega (arith, c.decreases), omega arith)

pub lower_unary-lower_boxed-requires : goal.lower_unary-lower_boxed-requires
lower_unary-lower_boxed-requires t c = (omega (arith, c.decreases), omega arith)

pub lower_converted-lower_boxed-requires : goal.lower_converted-lower_boxed-requires
lower_converted-lower_boxed-requires t c = (omega (arith, c.decreases), omega arith)

pub lower_after-lower_target-requires : goal.lower_after-lower_target-requires
lower_after-lower_target-requires t c = (omega (arith, c.decreases), omega arith)

pub lower_set-lower_target-requires : goal.lower_set-lower_target-requires
lower_set-lower_target-requires t c = (omega (arith, c.decreases), omega arith)

pub lower_change-lower_target-requires : goal.lower_change-lower_target-requires
lower_change-lower_target-requires t c = (omega (arith, c.decreases), omega arith)

pub lower_direct-lower_exprs-requires : goal.lower_direct-lower_exprs-requires
lower_direct-lower_exprs-requires t c = (omega (arith, c.decreases), omega arith)

pub lower_known-lower_exprs-requires : goal.lower_known-lower_exprs-requires
lower_known-lower_exprs-requires t c = (omega (arith, c.decreases), omega arith)

pub lower_through-lower_with_callee-requires : goal.lower_through-lower_with_callee-requires
lower_through-lower_with_callee-requires t c = (omega (arith, c.decreases), omega arith)

pub lower_binary-lower_boxed-requires : goal.lower_binary-lower_boxed-requires
lower_binary-lower_boxed-requires t c = (omega (arith, c.decreases), omega arith)

pub lower_binary-lower_boxed-requires-2 : goal.lower_binary-lower_boxed-requires-2
lower_binary-lower_boxed-requires-2 t c = (omega (arith, c.decreases), omega arith)

pub lower_both-lower_boxed-requires : goal.lower_both-lower_boxed-requires
lower_both-lower_boxed-requires t c = (omega (arith, c.decreases), omega arith)

pub lower_both-lower_boxed-requires-2 : goal.lower_both-lower_boxed-requires-2
lower_both-lower_boxed-requires-2 t c = (omega (arith, c.decreases), omega arith)

pub lower_either-lower_boxed-requires : goal.lower_either-lower_boxed-requires
lower_either-lower_boxed-requires t c = (omega (arith, c.decreases), omega arith)

pub lower_either-lower_boxed-requires-2 : goal.lower_either-lower_boxed-requires-2
lower_either-lower_boxed-requires-2 t c = (omega (arith, c.decreases), omega arith)

pub lower_choice-lower_boxed-requires : goal.lower_choice-lower_boxed-requires
lower_choice-lower_boxed-requires t c = (omega (arith, c.decreases), omega arith)

pub lower_choice-lower_boxed-requires-2 : goal.lower_choice-lower_boxed-requires-2
lower_choice-lower_boxed-requires-2 t c = (omega (arith, c.decreases), omega arith)

pub lower_choice-lower_boxed-requires-3 : goal.lower_choice-lower_boxed-requires-3
lower_choice-lower_boxed-requires-3 t c = (omega (arith, c.decreases), omega arith)

pub lower_set-lower_boxed-requires : goal.lower_set-lower_boxed-requires
lower_set-lower_boxed-requires t c =
    let s : c.start-at.result ≡ start_of (place_at c.args.pointers.now c.args.target.now c.args.n) c.args.n = c.start-at.ensures ∙ ap (λ (p : Place). start_of p c.args.n) c.in_ok-place.ensures in
    (omega (arith, c.decreases), omega (arith, s, start_small c.args.pointers.now c.args.target.now c.args.n))

pub lower_change-lower_boxed-requires : goal.lower_change-lower_boxed-requires
lower_change-lower_boxed-requires t c =
    let s : c.start-at.result ≡ start_of (place_at c.args.pointers.now c.args.target.now c.args.n) c.args.n = c.start-at.ensures ∙ ap (λ (p : Place). start_of p c.args.n) c.in_ok-place.ensures in
    (omega (arith, c.decreases), omega (arith, s, start_small c.args.pointers.now c.args.target.now c.args.n))

pub lower_change-change-requires : goal.lower_change-change-requires
lower_change-change-requires t c =
    let target = c.args.target.now in
    let same = ap (λ (p : declared.Place). start_of (seen_place p) c.args.n) c.in_ok-place-2.ensures.first in
    let s : start_of (seen_place c.in_ok-place.place) c.args.n ≡ start_of (place_at c.args.pointers.now target c.args.n) c.args.n = ap (λ (p : Place). start_of p c.args.n) c.in_ok-place.ensures in
    omega (arith, same, s, start_small c.args.pointers.now target c.args.n, size_expr c.args.a.now)

pub lower_direct-direct-requires : goal.lower_direct-direct-requires
lower_direct-direct-requires t c = omega (arith, few_values c.args.pointers.now c.in_ok-values.values c.args.args.now c.args.n c.in_ok-values.ensures)

pub lower_known-known-requires : goal.lower_known-known-requires
lower_known-known-requires t c = omega (arith, few_values c.args.pointers.now c.in_ok-values.values c.args.args.now c.args.n c.in_ok-values.ensures)

pub lower_through-switched-requires : goal.lower_through-switched-requires
lower_through-switched-requires t c = omega (arith, few_values c.args.pointers.now c.in_ok-values-in-Some.values c.args.args.now c.args.n c.in_ok-values-in-Some.ensures)

pub lower_through-through-requires : goal.lower_through-through-requires
lower_through-through-requires t c = omega (arith, few_with_callee c.args.pointers.now c.in_ok-values-in-None.values c.args.args.now c.args.callee.now c.args.n c.in_ok-values-in-None.ensures)

pub lower_target-lower_boxed-requires : goal.lower_target-lower_boxed-requires
lower_target-lower_boxed-requires t c =
    let e = ap target_size c.in-GlobalAt.is ∙ size_global_at c.in-GlobalAt.g c.in-GlobalAt.i in
    (omega (arith, e, c.decreases), omega (arith, e))

pub lower_target-lower_boxed-requires-in-LocalAt : goal.lower_target-lower_boxed-requires-in-LocalAt
lower_target-lower_boxed-requires-in-LocalAt t c =
    let e = ap target_size c.in-LocalAt.is ∙ size_local_at c.in-LocalAt.l c.in-LocalAt.i in
    (omega (arith, e, c.decreases), omega (arith, e))

pub lower_with_callee-lower_exprs-requires : goal.lower_with_callee-lower_exprs-requires
lower_with_callee-lower_exprs-requires t c =
    (omega (arith, c.decreases), omega arith)

pub lower_with_callee-lower_boxed-last-requires : goal.lower_with_callee-lower_boxed-last-requires
lower_with_callee-lower_boxed-last-requires t c =
    let few = few_exprs c.args.args.now in
    (omega (arith, c.decreases), omega (arith, few))

pub lower_with_callee-overflow_cast-len : goal.lower_with_callee-overflow_cast-len
lower_with_callee-overflow_cast-len t c =
    let few = few_exprs c.args.args.now in
    omega (arith, few)

pub lower_with_callee-overflow_add-n : goal.lower_with_callee-overflow_add-n
lower_with_callee-overflow_add-n t c =
    let few = few_exprs c.args.args.now in
    omega (arith, few)

pub lower_exprs-lower_expr-requires : goal.lower_exprs-lower_expr-requires
lower_exprs-lower_expr-requires t c =
    let b : exprs_size (take c.loop-e.e-index c.args.es.now) + expr_size c.e-item.result ≤ exprs_size c.args.es.now = subst
    (λ (xs : List Expr). exprs_size (take c.loop-e.e-index xs) + expr_size c.e-item.result ≤ exprs_size xs) c.as_slice-e-items.ensures
    (sum_before expr_size c.as_slice-e-items.result.now c.loop-e.e-index c.e-item.result c.loop-e-test.true c.e-item.is) in
    (omega (arith, b, c.decreases), omega (arith, b))

pub lower_exprs-overflow_add-at : goal.lower_exprs-overflow_add-at
lower_exprs-overflow_add-at t c =
    let b : exprs_size (take c.loop-e.e-index c.args.es.now) + expr_size c.e-item.result ≤ exprs_size c.args.es.now = subst
    (λ (xs : List Expr). exprs_size (take c.loop-e.e-index xs) + expr_size c.e-item.result ≤ exprs_size xs) c.as_slice-e-items.ensures
    (sum_before expr_size c.as_slice-e-items.result.now c.loop-e.e-index c.e-item.result c.loop-e-test.true c.e-item.is) in
    let one = size_expr c.e-item.result in
    omega (arith, b, one)

pub lower_exprs-loop-e-preserved : goal.lower_exprs-loop-e-preserved
lower_exprs-loop-e-preserved t c =
    let p = subst (λ (xs : List Expr). MoreAt c.args.pointers.now xs c.loop-e.e-index c.e-item.result c.args.n) c.as_slice-e-items.ensures
    (exprs_push c.args.pointers.now c.as_slice-e-items.result.now c.loop-e.e-index c.e-item.result c.args.n c.loop-e-test.true c.e-item.is) in
    let one = size_expr c.e-item.result in
    let m = map_push seen c.loop-e.values c.in_ok-lower_expr.field-0 in
    let pushed = ap (map seen) c.in_ok-push.ensures.ok in
    let at = ap (λ k. expr_at c.args.pointers.now c.e-item.result k) c.loop-e.invariant.0 in (
      omega arith,
      omega (arith, one, p.size),
      pushed ∙ (m ∙ (ap (λ l. l ++ seen c.in_ok-lower_expr.field-0 ∷ []) c.loop-e.invariant.2 ∙
          (ap (λ x. exprs_at c.args.pointers.now (take c.loop-e.e-index c.args.es.now) c.args.n ++ x ∷ []) (c.in_ok-lower_expr.ensures ∙ at) ∙
          sym p.values))),
    )
