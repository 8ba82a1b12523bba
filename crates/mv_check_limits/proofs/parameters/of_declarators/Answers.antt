use Rattle.std.proofs.Common.{sym, ◌∙◌, rules}
use Rattle.mv_check_limits.specs.Ordered.{declarator_parameters}
use Rattle.mv_check_limits.proofs.Walks.{found, passed}
use Rattle.mv_check_limits.proofs.parameters.of_declarators.Goals as goal

pub returns-in-Some : goal.returns-in-Some
returns-in-Some c =
    sym (c.loop-declarator.invariant.rest ∙
    found declarator_parameters 8 c.args.declarators.now c.loop-declarator.declarator-index c.declarator-item.result c.loop-declarator-test.true c.declarator-item.is c.in-Some.count (search rules))

pub loop-declarator-preserved : goal.loop-declarator-preserved
loop-declarator-preserved c = record {
  rest =
      c.loop-declarator.invariant.rest ∙
      passed declarator_parameters 8 c.args.declarators.now c.loop-declarator.declarator-index c.declarator-item.result c.loop-declarator-test.true c.declarator-item.is (search rules);
}
