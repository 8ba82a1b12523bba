use Rattle.std.proofs.Common.{◌≡◌, ◌+◌, ◌*◌, take, map, sum}
use Rattle.mv_ast.specs.Counts.{call_sites, assignments}
use Rattle.mv_meaning.specs.Growth.{capped}
use Rattle.mv_interpret.proofs.work.plan_work.Given as goal

abbrev pub invariant-loop-g : goal.invariant-loop-g
invariant-loop-g l = l.all ≡ capped (sum (map (λ g. call_sites l.program g * (1 + assignments l.program g)) (take l.g-index l.g-items)))
