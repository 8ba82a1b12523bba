use Rattle.std.proofs.Common.{sym, ◌∙◌, rules}
use Rattle.mv_check_limits.specs.Ordered.{declarator_parameters}
use Rattle.mv_check_limits.proofs.Walks.{found, passed}
use Rattle.mv_check_limits.proofs.parameters.+declarators.Goals as goal

pub of_params-returns-in-Some : goal.of_params-returns-in-Some
of_params-returns-in-Some t c =
    sym (c.loop-param.invariant.rest ∙
    found (λ p. declarator_parameters p.name) 8 c.args.params.now c.loop-param.param-index c.param-item.result c.loop-param-test.true c.param-item.is c.in-Some.count (search rules))

pub of_params-loop-param-preserved : goal.of_params-loop-param-preserved
of_params-loop-param-preserved t c = record {
  rest =
      c.loop-param.invariant.rest ∙
      passed (λ p. declarator_parameters p.name) 8 c.args.params.now c.loop-param.param-index c.param-item.result c.loop-param-test.true c.param-item.is (search rules);
}
