use Rattle.std.proofs.Common.{◌≡◌, map, drop}
use Rattle.mv_ast.specs.Counts.{assignments}
use Rattle.mv_check_limits.specs.Limits.{first_above}
use Rattle.mv_check_limits.proofs.counts.most_assignments.Given as goal

abbrev pub invariant-loop-function : goal.invariant-loop-function
invariant-loop-function l = record {
  rest :
      first_above 64 (map (λ f. assignments l.program f) l.program.functions) ≡
      first_above 64 (map (λ f. assignments l.program f) (drop l.function-index l.program.functions));
}
