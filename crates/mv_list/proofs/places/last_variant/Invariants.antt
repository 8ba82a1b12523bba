use Rattle.std.proofs.Common.{◌≡◌, drop}
use Rattle.mv_list.specs.Places.{last_variant}
use Rattle.mv_list.proofs.places.last_variant.Given as goal

abbrev pub invariant-loop-row : goal.invariant-loop-row
invariant-loop-row l = last_variant l.address l.function l.best (drop l.row-index l.rows) ≡ last_variant l.address l.function l.fn.first l.rows
