use Rattle.std.proofs.Common.{◌≡◌, map, take}
use Rattle.mv_ast.specs.Switches.{switch_global}
use Rattle.mv_lower.proofs.function.switches.Given as goal

abbrev pub invariant-loop-switch : goal.invariant-loop-switch
invariant-loop-switch l = l.globals ≡ map (switch_global l.program) (take l.switch-index l.function.switches)
