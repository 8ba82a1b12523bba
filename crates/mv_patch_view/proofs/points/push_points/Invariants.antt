use Rattle.std.proofs.Common.{◌≡◌, ◌++◌, drop}
use Rattle.mv_patch_view.specs.PatchView.{points_text}
use Rattle.mv_patch_view.proofs.points.push_points.Given as goal

abbrev pub invariant-loop-number : goal.invariant-loop-number
invariant-loop-number l = l.out.items ++ points_text l.image (drop l.number l.image.points) ≡ l.initial.out.items ++ points_text l.image l.image.points
