use Rattle.std.proofs.Common.{◌≡◌, map, drop}
use Rattle.std.specs.List.{concat}
use Rattle.mv_check_limits.specs.Limits.{first_above}
use Rattle.mv_check_limits.specs.Ordered.{local_elements}
use Rattle.mv_check_limits.proofs.elements.of_functions.Given as goal

abbrev pub invariant-loop-function : goal.invariant-loop-function
invariant-loop-function l = record {
  rest : first_above 262144 (concat (map (local_elements l.name) l.functions)) ≡ first_above 262144 (concat (map (local_elements l.name) (drop l.function-index l.functions)));
}
