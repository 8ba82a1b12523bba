use Rattle.std.proofs.Common.{take}
use Rattle.mv_expand.specs.Walking.{Becomes}
use Rattle.mv_expand.proofs.expanding.+expand.Given as goal

abbrev pub invariant-expand_code-loop-stm : goal.invariant-expand_code-loop-stm
invariant-expand_code-loop-stm l = Becomes l.shorts l.base l.fn.tested (take l.stm-index l.code) l.made l.tested
