use Rattle.std.proofs.Common.{◌≡◌, take, map, sum}
use Rattle.mv_ast.specs.Counts.{stmt_sites, arm_sites}
use Rattle.mv_meaning.specs.Growth.{capped}
use Rattle.mv_interpret.proofs.work.+statement_sites.Given as goal

abbrev pub invariant-stmts_sites-loop-s : goal.invariant-stmts_sites-loop-s
invariant-stmts_sites-loop-s l = l.all ≡ capped (sum (map (stmt_sites l.program) (take l.s-index l.s-items)))

abbrev pub invariant-arms_sites-loop-arm : goal.invariant-arms_sites-loop-arm
invariant-arms_sites-loop-arm l = l.all ≡ capped (sum (map (arm_sites l.program) (take l.arm-index l.arm-items)))
