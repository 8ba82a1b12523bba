use Rattle.std.proofs.Common.{drop, map, reverse}
use Rattle.mv_regalloc.specs.Shared.{bits_at}
use Rattle.mv_regalloc.specs.Told.{AreSeen}
use Rattle.mv_regalloc.proofs.Telling.{BeginsSoFar}
use Rattle.mv_regalloc.proofs.table.begins_of.Given as goal

abbrev pub invariant-loop-done : goal.invariant-loop-done
invariant-loop-done l = record {
  seen : AreSeen l.parts l.firsts;
  begins : BeginsSoFar (map (bits_at l.temps l.parts) (reverse l.rows)) (drop l.done (map (bits_at l.temps l.parts) (reverse l.rows))) l.temps l.firsts;
}
