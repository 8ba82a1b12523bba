use Rattle.std.proofs.Common.{sym, ◌∙◌, rules}
use Rattle.mv_check_limits.specs.Ordered.{local_elements}
use Rattle.mv_check_limits.proofs.Walks.{found, passed}
use Rattle.mv_check_limits.proofs.elements.of_functions.Goals as goal

pub returns-in-Some : goal.returns-in-Some
returns-in-Some c =
    sym (c.loop-function.invariant.rest ∙
    found (local_elements c.args.name.now) 262144 c.args.functions.now c.loop-function.function-index c.function-item.result c.loop-function-test.true c.function-item.is c.in-Some.count (search rules))

pub loop-function-preserved : goal.loop-function-preserved
loop-function-preserved c = record {
  rest =
      c.loop-function.invariant.rest ∙
      passed (local_elements c.args.name.now) 262144 c.args.functions.now c.loop-function.function-index c.function-item.result c.loop-function-test.true c.function-item.is (search rules);
}
