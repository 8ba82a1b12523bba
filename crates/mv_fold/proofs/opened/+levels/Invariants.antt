use Rattle.std.proofs.Common.{◌≡◌, take}
use Rattle.mv_fold.specs.Opened.{most_levels}
use Rattle.mv_fold.proofs.opened.+levels.Given as goal

abbrev pub invariant-most_levels-loop-stm : goal.invariant-most_levels-loop-stm
invariant-most_levels-loop-stm l = l.most ≡ most_levels (take l.stm-index l.code)
