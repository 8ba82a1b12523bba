use Rattle.std.proofs.Common.{rules, ◌≤◌, ◌∙◌}
use Rattle.mv_ast.specs.Counts.{assignments}
use Rattle.mv_check_limits.proofs.Turns.{below}
use Rattle.mv_check_limits.specs.Limits.{own_switches}
use Rattle.mv_check_limits.proofs.Bounds.{each_at_most}
use Rattle.mv_check_limits.proofs.counts.most_assignments.Goals as goal

pub assignments-count-requires-clause-few : goal.assignments-count-requires-clause-few
assignments-count-requires-clause-few c = λ attributed.
    let few : own_switches c.function-item.result ≤ 6 =
    each_at_most own_switches 6 c.args.program.now.functions c.requires.few c.loop-function.function-index c.function-item.result
    (rw c.as_slice-function-items.ensures at c.loop-function-test.true) (search rules) in
    search rules

pub loop-function-preserved : goal.loop-function-preserved
loop-function-preserved c = record {
  rest =
      c.loop-function.invariant.rest ∙
      below (λ f. assignments c.args.program.now f) 64 c.args.program.now.functions c.loop-function.function-index c.function-item.result
      (rw c.as_slice-function-items.ensures at c.loop-function-test.true) (search rules) (search rules);
}
