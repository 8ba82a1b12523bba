use Rattle.std.proofs.Common.{◌≡◌, take}
use Rattle.mv_regalloc.specs.Rows.{with_all_reads}
use Rattle.mv_regalloc.specs.Shared.{with_live}
use Rattle.mv_regalloc.proofs.reads.live_trees.Given as goal

abbrev pub invariant-loop-tree : goal.invariant-loop-tree
invariant-loop-tree l = l.liveness ≡ with_live l.fn.liveness (with_all_reads (take l.tree-index l.trees) l.fn.liveness.live)
