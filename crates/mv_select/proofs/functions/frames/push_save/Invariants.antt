use Rattle.std.proofs.Common.{◌≡◌, ◌++◌}
use Rattle.mv_select.specs.Functions.FunctionCode.{save_lines}
use Rattle.mv_select.proofs.functions.frames.push_save.Given as goal

abbrev pub invariant-loop-index : goal.invariant-loop-index
invariant-loop-index l = l.code ≡ l.initial.code ++ save_lines l.first l.index
