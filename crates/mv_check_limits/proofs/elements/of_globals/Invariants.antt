use Rattle.std.proofs.Common.{◌≡◌, map, drop}
use Rattle.std.specs.List.{concat}
use Rattle.mv_check_limits.specs.Limits.{first_above}
use Rattle.mv_check_limits.specs.Ordered.{global_elements}
use Rattle.mv_check_limits.proofs.elements.of_globals.Given as goal

abbrev pub invariant-loop-global : goal.invariant-loop-global
invariant-loop-global l = record {
  rest : first_above 262144 (concat (map (global_elements l.name) l.globals)) ≡ first_above 262144 (concat (map (global_elements l.name) (drop l.global-index l.globals)));
}
