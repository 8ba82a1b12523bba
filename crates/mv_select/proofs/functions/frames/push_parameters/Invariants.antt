use Rattle.std.proofs.Common.{◌≡◌, ◌++◌}
use Rattle.mv_select.specs.Functions.FunctionCode.{parameter_lines}
use Rattle.mv_select.proofs.functions.frames.push_parameters.Given as goal

abbrev pub invariant-loop-index : goal.invariant-loop-index
invariant-loop-index l = l.code ≡ l.initial.code ++ parameter_lines l.index
