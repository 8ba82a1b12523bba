use Rattle.std.proofs.Common.{◌+◌}
use Rattle.mv_regalloc.proofs.parts.Parts.+joined.Given as goal

abbrev pub decreases-joined : goal.decreases-joined
decreases-joined l = l.one + l.other
