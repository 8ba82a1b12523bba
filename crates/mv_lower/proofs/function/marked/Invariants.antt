use Rattle.std.proofs.Common.{◌≡◌, ◌++◌, drop}
use Rattle.mv_lower_spec.specs.Functions.{marked_from}
use Rattle.mv_lower.proofs.function.marked.Given as goal
use Rattle.mv_ast.specs.Flags.{is_set}

abbrev pub invariant-loop-function : goal.invariant-loop-function
invariant-loop-function l =
    (l.f ≡ l.function-index) × (l.marked ++ marked_from (is_set l.marks.called.items) l.f (drop l.function-index l.functions) ≡ marked_from (is_set l.marks.called.items) 0 l.functions)
