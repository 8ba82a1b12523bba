use Rattle.std.proofs.Common.{◌≡◌, length}
use Rattle.mv_test_harts.proofs.harts.sinks_of.Given as goal

abbrev pub invariant-loop-hart : goal.invariant-loop-hart
invariant-loop-hart l = length l.sinks.items ≡ l.hart
