use Rattle.mv_ir.specs.Trees.{depth}
use Rattle.mv_select_code.proofs.trees.trees.+own_register.Given as goal

abbrev pub decreases-own_register : goal.decreases-own_register
decreases-own_register l = depth l.tree.now
