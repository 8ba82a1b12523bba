use Rattle.std.proofs.Common.{◌≡◌, take}
use Rattle.mv_expand.specs.Placed.{straight_cost}
use Rattle.mv_expand.specs.Walking.{capped}
use Rattle.mv_expand.proofs.measures.+cost.Given as goal

abbrev pub invariant-straight_cost-loop-stm : goal.invariant-straight_cost-loop-stm
invariant-straight_cost-loop-stm l = l.cost ≡ capped (straight_cost (take l.stm-index l.code))
