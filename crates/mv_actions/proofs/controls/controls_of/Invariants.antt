use Rattle.std.proofs.Common.{◌≡◌, map, take, slice_get}
use Rattle.mv_ast.specs.declared.program.Switch.{Switch}
use Rattle.mv_actions.specs.Controls.{control_of_global}
use Rattle.mv_actions.proofs.controls.controls_of.Given as goal

abbrev pub invariant-loop-switch : goal.invariant-loop-switch
invariant-loop-switch l = l.controls.items ≡ map (λ (s : Switch). control_of_global (slice_get l.program.globals s.global)) (take l.switch-index l.switch-items)
