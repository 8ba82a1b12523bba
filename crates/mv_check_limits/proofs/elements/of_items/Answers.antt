use Rattle.std.proofs.Common.{sym, ◌∙◌, rules}
use Rattle.mv_check_limits.specs.Ordered.{item_elements}
use Rattle.mv_check_limits.proofs.Walks.{found, passed}
use Rattle.mv_check_limits.proofs.elements.of_items.Goals as goal

pub returns-in-Some : goal.returns-in-Some
returns-in-Some c =
    sym (c.loop-item.invariant.rest ∙
    found (item_elements c.args.program.now) 262144 c.args.items.now c.loop-item.item-index c.item-item.result c.loop-item-test.true c.item-item.is c.in-Some.count (search rules))

pub loop-item-preserved : goal.loop-item-preserved
loop-item-preserved c = record {
  rest =
      c.loop-item.invariant.rest ∙
      passed (item_elements c.args.program.now) 262144 c.args.items.now c.loop-item.item-index c.item-item.result c.loop-item-test.true c.item-item.is (search rules);
}
