use Rattle.std.proofs.Common.{◌≡◌, ◌≤◌, ◌<◌, length, get_or, arith, ap, subst, ◌∙◌}
use Rattle.mv_ir.specs.Measures.{deepest_of, stm_trees}
use Rattle.mv_expand.proofs.Stepwise.{deepest_more}
use Rattle.mv_expand.proofs.measures.is_shallow.Goals as goal

pub loop-stm-preserved : goal.loop-stm-preserved
loop-stm-preserved c =
    let code = c.args.code.now in
    let i = c.loop-stm.stm-index in
    let s = c.stm-item.result in
    let lt : i < length code = omega (arith, ap (λ l. length l) c.as_slice-stm-items.ensures, c.loop-stm-test.true) in
    let is : s ≡ get_or code i s = c.stm-item.is ∙ ap (λ l. get_or l i s) c.as_slice-stm-items.ensures in
    deepest_more code i s lt c.loop-stm.invariant (subst (λ x. deepest_of (stm_trees x) ≤ 4) is (c.is_shallow_step.ensures c.if-not-is_shallow_step.false))
