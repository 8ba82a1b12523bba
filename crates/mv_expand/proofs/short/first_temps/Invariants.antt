use Rattle.std.proofs.Common.{◌≡◌}
use Rattle.mv_ir.specs.Live.{below}
use Rattle.mv_expand.proofs.short.first_temps.Given as goal

abbrev pub invariant-loop-t : goal.invariant-loop-t
invariant-loop-t l = l.temps ≡ below l.t
