use Rattle.std.proofs.Common.{◌≡◌, drop}
use Rattle.mv_ast.specs.Switches.{all_in_domain}
use Rattle.mv_interpret.proofs.commits.all_in_domain.Given as goal

abbrev pub invariant-loop-i : goal.invariant-loop-i
invariant-loop-i l =
    all_in_domain l.program (drop l.i l.switches) (drop l.i l.values) ≡ all_in_domain l.program l.switches l.values
