use Rattle.std.proofs.Common.{take, sym, ap, ◌∙◌}
use Rattle.mv_regalloc.specs.Rows.{with_reads, with_all_reads}
use Rattle.mv_regalloc.specs.Shared.{with_live}
use Rattle.mv_regalloc.proofs.BitEquations.{all_more}
use Rattle.mv_regalloc.proofs.reads.live_trees.Goals as goal

pub loop-tree-preserved : goal.loop-tree-preserved
loop-tree-preserved c =
    let trees = c.args.trees.now in
    let i = c.loop-tree.tree-index in
    let item = c.tree-item.result in
    let first = c.args.liveness.now in
    let before = with_all_reads (take i trees) first.live in
    c.in_ok-live_tree.ensures ∙ ap (λ s. with_live s (with_reads item s.live)) c.loop-tree.invariant ∙
    ap (with_live first) (ap (λ x. with_reads x before) c.tree-item.is ∙ sym (all_more trees i item first.live c.loop-tree-test.true))
