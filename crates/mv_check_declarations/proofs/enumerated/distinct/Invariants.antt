use Rattle.std.proofs.Common.{◌≡◌, drop}
use Rattle.mv_check_scope.specs.Domains.{distinct, distinct_behind}
use Rattle.mv_check_declarations.proofs.enumerated.distinct.Given as goal

abbrev pub invariant-loop-value : goal.invariant-loop-value
invariant-loop-value l = record { rest : distinct l.values ≡ distinct_behind l.done (drop l.value-index l.values) }
