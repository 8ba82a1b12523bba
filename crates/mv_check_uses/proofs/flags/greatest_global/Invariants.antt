use Rattle.std.proofs.Common.{◌≡◌, take, map}
use Rattle.mv_ast.specs.Counts.{greatest}
use Rattle.mv_check_uses.proofs.flags.greatest_global.Given as goal

abbrev pub invariant-loop-switch : goal.invariant-loop-switch
invariant-loop-switch l = l.greatest ≡ greatest (map (λ s. s.global) (take l.switch-index l.switches))
