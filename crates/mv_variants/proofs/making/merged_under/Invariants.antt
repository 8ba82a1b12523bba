use Rattle.std.proofs.Common.{◌≤◌, length, take}
use Rattle.mv_variants.specs.Fronts.{AreMeasured}
use Rattle.mv_variants.specs.Rows.{AreMergedUnder}
use Rattle.mv_variants.proofs.making.merged_under.Given as goal

abbrev pub invariant-loop-assignment : goal.invariant-loop-assignment
invariant-loop-assignment l = record {
  merged : AreMergedUnder l.shorts l.body (take l.assignment-index l.assignments) l.variants;
  few : length l.variants.bodies ≤ l.assignment-index;
  measured : AreMeasured l.shorts l.body l.fn.size l.variants.bodies l.with;
}
