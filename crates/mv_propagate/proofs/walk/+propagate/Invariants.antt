use Rattle.std.proofs.Common.{take}
use Rattle.mv_propagate.specs.Propagating.{Propagated}
use Rattle.mv_propagate.proofs.walk.+propagate.Given as goal

abbrev pub invariant-propagate_code-loop-stm : goal.invariant-propagate_code-loop-stm
invariant-propagate_code-loop-stm l = Propagated l.temps l.facts (take l.stm-index l.code) l.made l.known
