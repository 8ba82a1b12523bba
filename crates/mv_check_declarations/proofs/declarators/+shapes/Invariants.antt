use Rattle.std.proofs.Common.{◌≡◌, [], map, drop}
use Rattle.mv_check_scope.specs.Scoped.{block_entered}
use Rattle.mv_check_declarations.specs.Turns.{in_turn}
use Rattle.mv_check_declarations.specs.Declarators.{parameter}
use Rattle.mv_check_declarations.proofs.declarators.+shapes.Given as goal

abbrev pub invariant-function_type-loop-param : goal.invariant-function_type-loop-param
invariant-function_type-loop-param l = record {
  rest :
      in_turn (map parameter l.params) (block_entered l.fn.scope, []) ≡
      in_turn (map parameter (drop l.param-index l.params)) (l.scope, l.types);
}
