use Rattle.mv_ir.specs.Trees.{binary}
use Rattle.mv_ranges.proofs.range.shifted.Goals as goal

pub returns-in-8 : goal.returns-in-8
unfolding binary
returns-in-8 c = λ x h. rw c.in-8.is (c.shifted_right.ensures x h)
