use Rattle.std.proofs.Common.{◌≡◌, ◌++◌, drop}
use Rattle.mv_patch_view.specs.PatchView.{targets_lines}
use Rattle.mv_patch_view.proofs.points.push_targets.Given as goal

abbrev pub invariant-loop-row : goal.invariant-loop-row
invariant-loop-row l = (l.number ≡ l.row-index) × (l.out.items ++ targets_lines l.image l.point l.number (drop l.row-index l.rows) ≡ l.initial.out.items ++ targets_lines l.image l.point 0 l.rows)
