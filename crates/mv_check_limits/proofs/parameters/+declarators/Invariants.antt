use Rattle.std.proofs.Common.{◌≡◌, map, drop}
use Rattle.std.specs.List.{concat}
use Rattle.mv_check_limits.specs.Limits.{first_above}
use Rattle.mv_check_limits.specs.Ordered.{declarator_parameters}
use Rattle.mv_check_limits.proofs.parameters.+declarators.Given as goal

abbrev pub invariant-of_params-loop-param : goal.invariant-of_params-loop-param
invariant-of_params-loop-param l = record {
  rest : first_above 8 (concat (map (λ p. declarator_parameters p.name) l.params)) ≡ first_above 8 (concat (map (λ p. declarator_parameters p.name) (drop l.param-index l.params)));
}
