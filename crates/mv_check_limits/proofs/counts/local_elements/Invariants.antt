use Rattle.std.proofs.Common.{◌≡◌, map, drop}
use Rattle.std.specs.List.{flat_map}
use Rattle.mv_check_limits.specs.Limits.{first_above}
use Rattle.mv_check_limits.proofs.counts.local_elements.Given as goal
use Rattle.mv_ast.specs.Counts.{elements_of}

abbrev pub invariant-loop-function : goal.invariant-loop-function
invariant-loop-function l = record {
  rest :
      first_above 262144 (flat_map (λ f. map (λ l. elements_of l.size) f.locals) l.program.functions) ≡
      first_above 262144 (flat_map (λ f. map (λ l. elements_of l.size) f.locals) (drop l.function-index l.program.functions));
}
