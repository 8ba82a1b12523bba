use Rattle.std.proofs.Common.{◌≡◌, map, take}
use Rattle.mv_linker.specs.Tables.{pointer_row}
use Rattle.mv_linker.proofs.rows.pointer_rows.Given as goal

abbrev pub invariant-loop-pointer : goal.invariant-loop-pointer
invariant-loop-pointer l = l.rows ≡ map pointer_row (take l.pointer-index l.pointers)
