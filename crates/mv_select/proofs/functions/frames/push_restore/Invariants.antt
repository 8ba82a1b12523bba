use Rattle.std.proofs.Common.{◌≡◌, ◌++◌}
use Rattle.mv_select.specs.Functions.FunctionCode.{restore_lines}
use Rattle.mv_select.proofs.functions.frames.push_restore.Given as goal

abbrev pub invariant-loop-index : goal.invariant-loop-index
invariant-loop-index l = l.code ≡ l.initial.code ++ restore_lines l.first l.index
