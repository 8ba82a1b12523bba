use Rattle.std.proofs.Common.{◌≡◌, ◌+◌, take}
use Rattle.std.specs.Prelude.{sum_by}
use Rattle.mv_parts.specs.Counts.{up_to_greatest, count_in_function}
use Rattle.mv_parts.proofs.counts.in_functions.Given as goal

abbrev pub invariant-loop-function : goal.invariant-loop-function
invariant-loop-function l = l.count ≡ up_to_greatest (l.initial.count + sum_by (count_in_function l.what) (take l.function-index l.attributed))
