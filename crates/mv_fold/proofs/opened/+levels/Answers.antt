use Rattle.std.proofs.Common.{arith, ◌≡◌, ◌+◌, max, get_or, List, take, ◌∙◌, ap, subst}
use Rattle.std.proofs.lemmas.List.{take_all}
use Rattle.mv_ir.specs.declared.stm.Stm.{Stm}
use Rattle.mv_fold.specs.Opened.{levels, most_levels}
use Rattle.mv_fold.proofs.Levels.{most_push}
use Rattle.mv_fold.proofs.opened.+levels.Goals as goal

pub most_levels-loop-stm-preserved : goal.most_levels-loop-stm-preserved
most_levels-loop-stm-preserved t c =
    let i = c.loop-stm.stm-index in
    let items = c.as_slice-stm-items.result.now in
    let d = c.stm-item.result in
    let pushed = most_push items i d c.loop-stm-test.true in
    let e = subst (λ (xs : List Stm). most_levels (take (i + 1) xs) ≡ max (most_levels (take i xs)) (levels (get_or items i d))) c.as_slice-stm-items.ensures pushed in
    omega (arith, c.max-most.ensures, c.levels.ensures, ap levels c.stm-item.is, c.loop-stm.invariant, e)

pub most_levels-returns : goal.most_levels-returns
most_levels-returns t c =
    let i = c.loop-stm.stm-index in
    let items = c.as_slice-stm-items.result.now in
    c.loop-stm.invariant ∙ ap most_levels (subst (λ (xs : List Stm). take i xs ≡ xs) c.as_slice-stm-items.ensures (take_all i items c.loop-stm-test.false))
