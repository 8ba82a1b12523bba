use Rattle.std.proofs.Common.{◌≡◌, map, take}
use Rattle.mv_linker.specs.declared.parts.PartSwitch.{PartSwitch}
use Rattle.mv_linker.proofs.rows.names.Given as goal

abbrev pub invariant-loop-switch : goal.invariant-loop-switch
invariant-loop-switch l = l.names ≡ map (λ (s : PartSwitch). s.name) (take l.switch-index l.parts.switches)
