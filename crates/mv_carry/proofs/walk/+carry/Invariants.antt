use Rattle.std.proofs.Common.{◌≡◌, take}
use Rattle.mv_carry.specs.Carrying.{carried_code}
use Rattle.mv_carry.proofs.walk.+carry.Given as goal

abbrev pub invariant-carry_code-loop-stm : goal.invariant-carry_code-loop-stm
invariant-carry_code-loop-stm l = l.walk ≡ carried_code l.temps l.within l.reach (take l.stm-index l.code)
