use Rattle.std.proofs.Common.{sym, ◌∙◌}
use Rattle.mv_harts_one.proofs.Words.{no_fence, fence_is}
use Rattle.mv_harts_one.proofs.execute.is_fence.Goals as goal

pub returns-then-opcode-ne-FENCES : goal.returns-then-opcode-ne-FENCES
returns-then-opcode-ne-FENCES c = sym (no_fence c.args.word c.ranges.word.fits (λ o f. c.if-opcode-ne-FENCES.true (c.opcode.ensures ∙ o)))

pub returns : goal.returns
returns c = fence_is c.args.word c.funct3.result c.ranges.word.fits (sym c.opcode.ensures ∙ c.if-opcode-ne-FENCES.false) c.funct3.ensures
