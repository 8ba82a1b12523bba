use Rattle.std.proofs.Common.{◌≡◌, ◌++◌, drop}
use Rattle.mv_list.specs.Listing.{points_text}
use Rattle.mv_list.proofs.pointers.push_points.Given as goal

abbrev pub invariant-loop-row : goal.invariant-loop-row
invariant-loop-row l = l.out.items ++ points_text l.image (drop l.row-index l.rows) ≡ l.initial.out.items ++ points_text l.image l.rows
