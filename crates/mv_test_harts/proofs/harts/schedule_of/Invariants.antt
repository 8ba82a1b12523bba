use Rattle.std.proofs.Common.{◌<◌, All}
use Rattle.mv_test_harts.proofs.harts.schedule_of.Given as goal

abbrev pub invariant-loop-digit : goal.invariant-loop-digit
invariant-loop-digit l = All (λ hart. hart < l.count) l.schedule.items
