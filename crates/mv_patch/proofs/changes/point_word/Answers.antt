use Rattle.mv_patch.proofs.Next.{point_at_word}
use Rattle.mv_patch.proofs.changes.point_word.Goals as goal

pub returns : goal.returns
returns c = point_at_word c.args.image.now.points c.args.word c.point_at.result c.point_at.ensures.there
