use Rattle.std.proofs.Common.{arith, ◌≡◌, ◌+◌, get_or, List, take, ap, subst}
use Rattle.mv_ir.specs.declared.tree.Tree.{Tree}
use Rattle.mv_ir.specs.Trees.{nodes, nodes_of_all}
use Rattle.mv_expand.proofs.Counting.{nodes_more}
use Rattle.mv_variants.proofs.words.trees_words.Goals as goal

pub loop-tree-preserved : goal.loop-tree-preserved
loop-tree-preserved c =
    let i = c.loop-tree.tree-index in
    let items = c.as_slice-tree-items.result.now in
    let t = c.tree-item.result in
    let more = nodes_more items i t c.loop-tree-test.true in
    let e = subst (λ (xs : List Tree). nodes_of_all (take (i + 1) xs) ≡ nodes_of_all (take i xs) + nodes (get_or items i t)) c.as_slice-tree-items.ensures more in
    omega (arith, c.saturating_add-words.ensures, c.tree_words.ensures, ap nodes c.tree-item.is, c.loop-tree.invariant, e)
