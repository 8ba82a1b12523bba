use Rattle.std.proofs.Common.{[]}
use Rattle.mv_fold.specs.Needed.{needed_stm}
use Rattle.mv_fold.proofs.Growing.{grown}
use Rattle.mv_fold.proofs.unneeded.+needed.Goals as goal
use Rattle.mv_ast.specs.Flags.{is_set}

pub needed_code-loop-stm-preserved : goal.needed_code-loop-stm-preserved
needed_code-loop-stm-preserved t c =
    grown (needed_stm (is_set c.args.flags.now)) [] c.loop-stm.kept c.add_needed.new.kept c.args.code.now c.as_slice-stm-items.result.now
    c.loop-stm.stm-index c.stm-item.result c.as_slice-stm-items.ensures c.loop-stm-test.true c.stm-item.is c.loop-stm.invariant c.in_ok-add_needed.ensures
