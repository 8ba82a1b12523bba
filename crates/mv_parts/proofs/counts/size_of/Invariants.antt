use Rattle.std.proofs.Common.{take}
use Rattle.mv_parts.specs.Fronts.{IsSizeOf}
use Rattle.mv_parts.proofs.counts.size_of.Given as goal

abbrev pub invariant-loop-code : goal.invariant-loop-code
invariant-loop-code l = IsSizeOf l.program (take l.code-index l.functions) l.size
