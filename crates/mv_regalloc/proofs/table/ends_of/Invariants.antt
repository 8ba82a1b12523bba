use Rattle.std.proofs.Common.{◌-◌, length, drop, map, reverse}
use Rattle.mv_regalloc.specs.Shared.{bits_at}
use Rattle.mv_regalloc.specs.Told.{AreSeen}
use Rattle.mv_regalloc.proofs.Telling.{EndsSoFar}
use Rattle.mv_regalloc.proofs.table.ends_of.Given as goal

abbrev pub invariant-loop-i : goal.invariant-loop-i
invariant-loop-i l = record {
  seen : AreSeen l.parts l.firsts;
  ends : EndsSoFar (drop (length l.rows - l.i) (map (bits_at l.temps l.parts) (reverse l.rows))) l.temps l.firsts;
}
