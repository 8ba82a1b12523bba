use Rattle.std.proofs.Common.{sym, ◌∙◌, map, rules}
use Rattle.mv_check_limits.proofs.Turns.{found, passed}
use Rattle.mv_check_limits.proofs.counts.local_elements.Goals as goal
use Rattle.mv_ast.specs.Counts.{elements_of}

pub returns-in-Some : goal.returns-in-Some
returns-in-Some c =
    sym (c.loop-function.invariant.rest ∙
    found (λ f. map (λ l. elements_of l.size) f.locals) 262144 c.args.program.now.functions c.loop-function.function-index c.function-item.result
    (rw c.as_slice-function-items.ensures at c.loop-function-test.true) (search rules) c.in-Some.count (search rules))

pub loop-function-preserved : goal.loop-function-preserved
loop-function-preserved c = record {
  rest =
      c.loop-function.invariant.rest ∙
      passed (λ f. map (λ l. elements_of l.size) f.locals) 262144 c.args.program.now.functions c.loop-function.function-index c.function-item.result
      (rw c.as_slice-function-items.ensures at c.loop-function-test.true) (search rules) (search rules);
}
