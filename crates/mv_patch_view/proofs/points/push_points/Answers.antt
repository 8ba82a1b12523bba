use Rattle.mv_patch_view.proofs.Turns.{points_more, turned}
use Rattle.mv_patch_view.proofs.points.push_points.Goals as goal

pub loop-number-preserved : goal.loop-number-preserved
loop-number-preserved c =
    turned _ _ _ _ _ _ c.in_ok-push_through.ensures (points_more c.args.image.now _ c.loop-number.number c.point_with-point.result c.point_with-point.ensures.there) c.loop-number.invariant
