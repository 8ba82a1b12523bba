use Rattle.std.proofs.Common.{◌≡◌, ◌-◌, length, drop, map}
use Rattle.mv_regalloc.specs.Rows.{sets, live_before, stm_rows}
use Rattle.mv_regalloc.specs.Shared.{with_live}
use Rattle.mv_regalloc.proofs.live.+live.Given as goal

abbrev pub invariant-live_code-loop-done : goal.invariant-live_code-loop-done
invariant-live_code-loop-done l =
    l.liveness ≡ with_live l.fn.liveness (live_before (map stm_rows (drop (length l.code - l.done) l.code)) (sets l.fn.liveness.around l.fn.liveness.live))
