use Rattle.std.proofs.Common.{◌≡◌, take}
use Rattle.mv_variants.specs.Bound.Rows.{rows_of}
use Rattle.mv_variants.proofs.grouping.guards_of.Given as goal

abbrev pub invariant-loop-guard : goal.invariant-loop-guard
invariant-loop-guard l = l.rows ≡ rows_of (take l.guard-index l.guards) l.place
