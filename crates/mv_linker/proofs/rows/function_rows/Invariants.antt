use Rattle.std.proofs.Common.{◌≡◌, map, take, slice_index}
use Rattle.mv_linker.specs.Tables.{function_row}
use Rattle.mv_linker.proofs.rows.function_rows.Given as goal

abbrev pub invariant-loop-function : goal.invariant-loop-function
invariant-loop-function l = l.rows ≡ map (function_row (slice_index l.starts)) (take l.function-index l.attributed)
