use Rattle.std.proofs.Common.{ℕ, ◌<◌}
use Rattle.mv_isa.specs.Code.{LineFits, TargetStands, line_at}
use Rattle.mv_test_asm.proofs.asm.fits.Given as goal

abbrev pub invariant-loop-line : goal.invariant-loop-line
invariant-loop-line l = (k : ℕ) → k < l.line-index → LineFits (line_at l.lines k) × TargetStands l.lines (line_at l.lines k)
