use Rattle.std.proofs.Common.{◌≡◌, drop}
use Rattle.mv_expand.specs.Placed.{sets_temp}
use Rattle.mv_expand.proofs.arguments.sets_temp.Given as goal

abbrev pub invariant-loop-stm : goal.invariant-loop-stm
invariant-loop-stm l = sets_temp l.temp (drop l.stm-index l.code) ≡ sets_temp l.temp l.code
