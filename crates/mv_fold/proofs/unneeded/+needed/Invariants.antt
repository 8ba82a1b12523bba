use Rattle.std.proofs.Common.{◌≡◌, take}
use Rattle.mv_fold.specs.Needed.{needed_code}
use Rattle.mv_fold.proofs.unneeded.+needed.Given as goal
use Rattle.mv_ast.specs.Flags.{is_set}

abbrev pub invariant-needed_code-loop-stm : goal.invariant-needed_code-loop-stm
invariant-needed_code-loop-stm l = l.kept ≡ needed_code (is_set l.flags) (take l.stm-index l.code)
