use Rattle.std.proofs.Common.{◌≡◌, take, map, sum}
use Rattle.mv_ast.specs.Counts.{is_pointer, expr_calls_through}
use Rattle.mv_meaning.specs.Growth.{capped}
use Rattle.mv_interpret.proofs.work.+calls_through.Given as goal

abbrev pub invariant-exprs_calls_through-loop-e : goal.invariant-exprs_calls_through-loop-e
invariant-exprs_calls_through-loop-e l = l.all ≡ capped (sum (map (expr_calls_through (is_pointer l.program)) (take l.e-index l.e-items)))
