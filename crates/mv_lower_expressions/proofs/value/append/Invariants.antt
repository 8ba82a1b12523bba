use Rattle.std.proofs.Common.{◌≡◌, ◌++◌}
use Rattle.mv_lower_expressions.proofs.value.append.Given as goal

abbrev pub invariant-loop-stm : goal.invariant-loop-stm
invariant-loop-stm l = l.code ≡ l.initial.code ++ l.yielded
