use Rattle.std.proofs.Common.{All}
use Rattle.mv_asm.specs.Spans.{IsSpan}
use Rattle.mv_asm.proofs.spans.spans.Given as goal

abbrev pub invariant-loop-index : goal.invariant-loop-index
invariant-loop-index l = All (IsSpan l.lines l.sizing) l.spans.items
