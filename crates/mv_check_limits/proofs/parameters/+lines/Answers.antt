use Rattle.std.proofs.Common.{sym, ◌∙◌, rules}
use Rattle.mv_check_limits.specs.Ordered.{line_parameters}
use Rattle.mv_check_limits.proofs.Walks.{found, passed}
use Rattle.mv_check_limits.proofs.parameters.+lines.Goals as goal

pub of_lines-returns-in-Some : goal.of_lines-returns-in-Some
of_lines-returns-in-Some t c =
    sym (c.loop-line.invariant.rest ∙
    found line_parameters 8 c.args.lines.now c.loop-line.line-index c.line-item.result c.loop-line-test.true c.line-item.is c.in-Some.count (search rules))

pub of_lines-loop-line-preserved : goal.of_lines-loop-line-preserved
of_lines-loop-line-preserved t c = record {
  rest =
      c.loop-line.invariant.rest ∙
      passed line_parameters 8 c.args.lines.now c.loop-line.line-index c.line-item.result c.loop-line-test.true c.line-item.is (search rules);
}
