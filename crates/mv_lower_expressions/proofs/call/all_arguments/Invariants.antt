use Rattle.std.proofs.Common.{◌≡◌, ◌+◌, List, ◌++◌, map, vec_len}
use Rattle.mv_lower_expressions.specs.declared.value.Value.{Value}
use Rattle.mv_lower_expressions.specs.Values.{seen}
use Rattle.mv_lower_expressions.specs.Calls.{seen_arguments, arguments_of}
use Rattle.mv_lower_expressions.proofs.call.all_arguments.Given as goal

abbrev pub invariant-loop-value : goal.invariant-loop-value
invariant-loop-value l =
    (rest : List Value) × (l.initial.items.items ≡ l.items.items ++ rest) × (seen_arguments l.all ≡ arguments_of (map seen rest) (l.n + vec_len l.items))

abbrev pub decreases-loop-value : goal.decreases-loop-value
decreases-loop-value l = vec_len l.items
