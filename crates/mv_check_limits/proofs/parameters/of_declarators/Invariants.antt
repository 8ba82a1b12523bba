use Rattle.std.proofs.Common.{◌≡◌, map, drop}
use Rattle.std.specs.List.{concat}
use Rattle.mv_check_limits.specs.Limits.{first_above}
use Rattle.mv_check_limits.specs.Ordered.{declarator_parameters}
use Rattle.mv_check_limits.proofs.parameters.of_declarators.Given as goal

abbrev pub invariant-loop-declarator : goal.invariant-loop-declarator
invariant-loop-declarator l = record {
  rest : first_above 8 (concat (map declarator_parameters l.declarators)) ≡ first_above 8 (concat (map declarator_parameters (drop l.declarator-index l.declarators)));
}
