use Rattle.std.proofs.Common.{◌≡◌, ◌++◌, take}
use Rattle.mv_linker.specs.Tables.{guards_of}
use Rattle.mv_linker.proofs.rows.push_guard_rows.Given as goal

abbrev pub invariant-loop-variant : goal.invariant-loop-variant
invariant-loop-variant l = l.rows ≡ l.fn.rows ++ guards_of (take l.variant-index l.variants)
