use Rattle.std.proofs.Common.{◌≡◌, map, take}
use Rattle.mv_linker.specs.Tables.{switch_row}
use Rattle.mv_linker.proofs.rows.switch_rows.Given as goal

abbrev pub invariant-loop-switch : goal.invariant-loop-switch
invariant-loop-switch l = l.rows ≡ map switch_row (take l.switch-index l.switches)
