use Rattle.std.proofs.Common.{◌≡◌, ◌<◌, true, length, get_or, arith, ap, sym, subst, ◌∙◌}
use Rattle.mv_ast.specs.Flags.{is_set}
use Rattle.mv_expand.specs.Walking.{fits}
use Rattle.mv_expand.proofs.Stepwise.{steps_next}
use Rattle.mv_expand.proofs.Straightness.{fits_at}
use Rattle.mv_expand.proofs.placed.steps.Goals as goal

pub put_placed-requires-clause-fitting : goal.put_placed-requires-clause-fitting
put_placed-requires-clause-fitting c =
    let code = c.args.body.now in
    let i = c.loop-stm.stm-index in
    let s = c.stm-item.result in
    let lt : i < length code = omega (arith, ap (λ l. length l) c.as_slice-stm-items.ensures, c.loop-stm-test.true) in
    let is : s ≡ get_or code i s = c.stm-item.is ∙ ap (λ l. get_or l i s) c.as_slice-stm-items.ensures in
    subst (λ x. fits x ≡ true) (sym is) (fits_at code i s lt c.requires.fitting)

pub loop-stm-preserved : goal.loop-stm-preserved
loop-stm-preserved c =
    steps_next c.args.base (is_set c.args.keeps.now) c.args.args.now c.args.target c.as_slice-stm-items.result.now c.args.body.now c.loop-stm.stm-index c.stm-item.result
    c.loop-stm.code c.put_placed.new.code c.as_slice-stm-items.ensures c.loop-stm-test.true c.stm-item.is c.loop-stm.invariant c.in_ok-put_placed.ensures
