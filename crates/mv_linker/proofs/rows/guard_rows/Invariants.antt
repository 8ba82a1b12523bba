use Rattle.std.proofs.Common.{◌≡◌, ◌++◌, drop}
use Rattle.mv_linker.specs.Linked.{function_variants}
use Rattle.mv_linker.specs.Tables.{guards_of}
use Rattle.mv_linker.proofs.rows.guard_rows.Given as goal

abbrev pub invariant-loop-function : goal.invariant-loop-function
invariant-loop-function l = l.rows ++ guards_of (function_variants (drop l.function-index l.attributed)) ≡ guards_of (function_variants l.attributed)
