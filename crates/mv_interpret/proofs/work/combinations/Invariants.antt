use Rattle.std.proofs.Common.{◌≡◌, take, map, length}
use Rattle.mv_ast.specs.Switches.{switch_domain}
use Rattle.mv_ast.specs.Counts.{product_of}
use Rattle.mv_meaning.specs.Growth.{capped}
use Rattle.mv_interpret.proofs.work.combinations.Given as goal

abbrev pub invariant-loop-s : goal.invariant-loop-s
invariant-loop-s l = l.all ≡ capped (product_of (map (λ s. length (switch_domain l.program s)) (take l.s-index l.switches)))
