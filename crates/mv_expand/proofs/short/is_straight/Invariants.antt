use Rattle.std.proofs.Common.{take}
use Rattle.mv_expand.specs.Walking.{LeadsOn}
use Rattle.mv_expand.proofs.short.is_straight.Given as goal

abbrev pub invariant-loop-i : goal.invariant-loop-i
invariant-loop-i l = LeadsOn l.temps l.fn.known (take l.i l.code) l.known
