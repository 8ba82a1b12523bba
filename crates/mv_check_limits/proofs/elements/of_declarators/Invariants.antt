use Rattle.std.proofs.Common.{◌≡◌, map, drop}
use Rattle.std.specs.List.{concat}
use Rattle.mv_check_limits.specs.Limits.{first_above}
use Rattle.mv_check_limits.specs.Ordered.{declarator_elements}
use Rattle.mv_check_limits.proofs.elements.of_declarators.Given as goal

abbrev pub invariant-loop-declarator : goal.invariant-loop-declarator
invariant-loop-declarator l = record {
  rest : first_above 262144 (concat (map (declarator_elements l.program l.body) l.declarators)) ≡ first_above 262144 (concat (map (declarator_elements l.program l.body) (drop l.declarator-index l.declarators)));
}
