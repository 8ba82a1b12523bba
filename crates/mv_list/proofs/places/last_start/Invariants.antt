use Rattle.std.proofs.Common.{◌≡◌, None, drop}
use Rattle.mv_list.specs.Places.{last_target, last_of_variants}
use Rattle.mv_list.proofs.places.last_start.Given as goal

abbrev pub invariant-loop-row : goal.invariant-loop-row
invariant-loop-row l = (l.number ≡ l.row-index)
    × (last_of_variants l.address l.number l.best (drop l.row-index l.rows) l.variants ≡ last_of_variants l.address 0 (last_target l.address 0 None l.image.targets) l.image.functions l.image.variants)
