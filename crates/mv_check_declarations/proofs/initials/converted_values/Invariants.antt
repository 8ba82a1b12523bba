use Rattle.std.proofs.Common.{◌≡◌, drop}
use Rattle.mv_check_declarations.specs.Turns.{through}
use Rattle.mv_check_declarations.specs.Initials.{converted_value, none_converted}
use Rattle.mv_check_declarations.proofs.initials.converted_values.Given as goal

abbrev pub invariant-loop-node : goal.invariant-loop-node
invariant-loop-node l = record {
  rest :
      through (converted_value l.ctype l.scope) l.nodes none_converted ≡
      through (converted_value l.ctype l.scope) (drop l.node-index l.nodes) l.done;
}
