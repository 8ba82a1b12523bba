use Rattle.std.proofs.Common.{◌≡◌, take, map, sum}
use Rattle.mv_ast.specs.Counts.{expr_sites}
use Rattle.mv_meaning.specs.Growth.{capped}
use Rattle.mv_interpret.proofs.work.exprs_sites.Given as goal

abbrev pub invariant-loop-e : goal.invariant-loop-e
invariant-loop-e l = l.all ≡ capped (sum (map (expr_sites l.program) (take l.e-index l.e-items)))
