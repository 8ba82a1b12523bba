use Rattle.std.proofs.Common.{◌≡◌, ◌+◌, drop}
use Rattle.mv_meaning.specs.Arms.{index_of, has_default}
use Rattle.mv_interpret.proofs.arms.default_arm.Given as goal

abbrev pub invariant-loop-i : goal.invariant-loop-i
invariant-loop-i l = l.i + index_of has_default (drop l.i l.arms) ≡ index_of has_default l.arms
