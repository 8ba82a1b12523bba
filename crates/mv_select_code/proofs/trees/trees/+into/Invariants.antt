use Rattle.std.proofs.Common.{◌+◌, ◌*◌}
use Rattle.mv_ir.specs.Trees.{depth}
use Rattle.mv_select_code.proofs.trees.trees.+into.Given as goal

abbrev pub decreases-push_into : goal.decreases-push_into
decreases-push_into l = 2 * depth l.tree.now

abbrev pub decreases-push_operand : goal.decreases-push_operand
decreases-push_operand l = 2 * depth l.tree.now + 1
