use Rattle.std.proofs.Common.{◌≡◌, take}
use Rattle.mv_ranges.specs.Following.{AreMarked}
use Rattle.mv_ranges.proofs.walk.+walk.Given as goal

abbrev pub invariant-walk_code-loop-stm : goal.invariant-walk_code-loop-stm
invariant-walk_code-loop-stm l = (l.around ≡ l.fn.around) × AreMarked l.ground.temps l.fn.around l.fn.facts (take l.stm-index l.code) l.made l.reach

abbrev pub invariant-walk_enclosed-loop : goal.invariant-walk_enclosed-loop
invariant-walk_enclosed-loop l = l.around ≡ l.fn.around
