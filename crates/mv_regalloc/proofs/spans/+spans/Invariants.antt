use Rattle.std.proofs.Common.{◌≡◌, ◌-◌, length, drop, map}
use Rattle.mv_regalloc.specs.Rows.{sets, live_before, rows_in_order, stm_rows}
use Rattle.mv_regalloc.specs.Shared.{walked}
use Rattle.mv_regalloc.proofs.spans.+spans.Given as goal

abbrev pub invariant-mark_code-loop-done : goal.invariant-mark_code-loop-done
invariant-mark_code-loop-done l =
    l.liveness ≡ walked l.fn.liveness (live_before (map stm_rows (drop (length l.code - l.done) l.code)) (sets l.fn.liveness.around l.fn.liveness.live))
    (rows_in_order (map stm_rows (drop (length l.code - l.done) l.code)) (sets l.fn.liveness.around l.fn.liveness.live))
