use Rattle.std.proofs.Common.{◌≡◌}
use Rattle.mv_regalloc.specs.Shared.{with_live}
use Rattle.mv_regalloc.specs.Spanned.{with_params}
use Rattle.mv_regalloc.proofs.live.live_params.Given as goal

abbrev pub invariant-loop-param : goal.invariant-loop-param
invariant-loop-param l = l.liveness ≡ with_live l.fn.liveness (with_params l.param l.fn.liveness.live)
