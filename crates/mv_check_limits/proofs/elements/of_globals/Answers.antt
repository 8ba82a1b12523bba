use Rattle.std.proofs.Common.{sym, ◌∙◌, rules}
use Rattle.mv_check_limits.specs.Ordered.{global_elements}
use Rattle.mv_check_limits.proofs.Walks.{found, passed}
use Rattle.mv_check_limits.proofs.elements.of_globals.Goals as goal

pub returns-in-Some : goal.returns-in-Some
returns-in-Some c =
    sym (c.loop-global.invariant.rest ∙
    found (global_elements c.args.name.now) 262144 c.args.globals.now c.loop-global.global-index c.global-item.result c.loop-global-test.true c.global-item.is c.in-Some.count (search rules))

pub loop-global-preserved : goal.loop-global-preserved
loop-global-preserved c = record {
  rest =
      c.loop-global.invariant.rest ∙
      passed (global_elements c.args.name.now) 262144 c.args.globals.now c.loop-global.global-index c.global-item.result c.loop-global-test.true c.global-item.is (search rules);
}
