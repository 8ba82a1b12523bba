use Rattle.std.proofs.Common.{◌≡◌, take, map, sum}
use Rattle.mv_ast.specs.Counts.{expr_calls}
use Rattle.mv_meaning.specs.Growth.{capped}
use Rattle.mv_interpret.proofs.work.+calls.Given as goal

abbrev pub invariant-exprs_calls-loop-e : goal.invariant-exprs_calls-loop-e
invariant-exprs_calls-loop-e l = l.all ≡ capped (sum (map (expr_calls l.program) (take l.e-index l.e-items)))
