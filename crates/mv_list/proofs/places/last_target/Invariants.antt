use Rattle.std.proofs.Common.{◌≡◌, None, drop}
use Rattle.mv_list.specs.Places.{last_target}
use Rattle.mv_list.proofs.places.last_target.Given as goal

abbrev pub invariant-loop-row : goal.invariant-loop-row
invariant-loop-row l = (l.number ≡ l.row-index) × (last_target l.address l.number l.best (drop l.row-index l.rows) ≡ last_target l.address 0 None l.rows)
