use Rattle.std.proofs.Common.{◌≡◌, length}
use Rattle.mv_variants.specs.Sizes.{Fits, IsWith}
use Rattle.mv_parts.specs.Fronts.{all_bodies, AreCoded, AreFirstTables}
use Rattle.mv_parts.proofs.attributed.tables_of.Given as goal

abbrev pub invariant-loop-number : goal.invariant-loop-number
invariant-loop-number l = record {
  one_each : length l.tables ≡ l.number-index;
  each : AreFirstTables l.program l.tables;
  coded : AreCoded l.program l.tables;
  is : IsWith l.fn.size (all_bodies l.tables) l.with;
  fits : Fits l.with;
}
