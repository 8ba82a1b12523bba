use Rattle.std.proofs.Common.{arith}
use Rattle.mv_image.proofs.GoingForward.{reached_first}
use Rattle.mv_image.proofs.places.first_owners.Goals as goal

pub returns : goal.returns
returns c = record {
  variant = reached_first _ _ _ c.first_cursor.ensures.owner c.first_cursor.ensures.start;
  function = record {
    owner = omega arith;
    start = (reached_first _ 0 _ c.first_cursor-2.ensures.owner c.first_cursor-2.ensures.start).start;
    before = omega arith;
  };
}
