use Rattle.std.proofs.Common.{◌<◌, ◌^◌, All}
use Rattle.mv_test_harts.proofs.harts.bytes_of.Given as goal

abbrev pub invariant-loop-byte : goal.invariant-loop-byte
invariant-loop-byte l = All (λ b. b < 2 ^ 8) l.bytes.items
