use Rattle.std.proofs.Common.{arith}
use Rattle.mv_image.proofs.GoingForward.{reached_first}
use Rattle.mv_image.proofs.judging.first_bad_name.Goals as goal

pub loop-j-init : goal.loop-j-init
loop-j-init c = record {
  before = λ k lt. absurd (omega (arith, lt));
  name = reached_first _ _ _ c.first_cursor-name.ensures.owner c.first_cursor-name.ensures.start;
}
