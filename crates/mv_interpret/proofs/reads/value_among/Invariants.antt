use Rattle.std.proofs.Common.{◌≡◌, drop}
use Rattle.mv_ast.specs.Switches.{value_among}
use Rattle.mv_interpret.proofs.reads.value_among.Given as goal

abbrev pub invariant-loop-i : goal.invariant-loop-i
invariant-loop-i l =
    value_among l.program l.global (drop l.i l.switches) (drop l.i l.values) ≡ value_among l.program l.global l.switches l.values
