use Rattle.mv_ir.specs.Trees.{depth}
use Rattle.mv_select_code.proofs.trees.branches.+push_branch.Given as goal

abbrev pub decreases-push_branch : goal.decreases-push_branch
decreases-push_branch l = depth l.tree.now
