use Rattle.std.proofs.Common.{◌≡◌, map, take}
use Rattle.mv_ast.specs.declared.program.Function.{Function}
use Rattle.mv_parts.proofs.switches.part_targets.Given as goal

abbrev pub invariant-loop-function : goal.invariant-loop-function
invariant-loop-function l = l.targets ≡ map (λ (g : Function). g.name) (take l.function-index l.program.functions)
