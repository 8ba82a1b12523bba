use Rattle.std.proofs.Common.{◌<◌, All, length}
use Rattle.mv_asm.proofs.spans.without_room.Given as goal

abbrev pub invariant-loop-number : goal.invariant-loop-number
invariant-loop-number l = All (λ number. number < length l.spans) l.waiting.items
