use Rattle.std.proofs.Common.{◌≡◌, map, drop}
use Rattle.mv_check_declarations.specs.Locals.{local, locals_judgement}
use Rattle.mv_check_declarations.specs.Turns.{in_turn}
use Rattle.mv_check_declarations.proofs.locals.declare_locals.Given as goal

abbrev pub invariant-loop-name : goal.invariant-loop-name
invariant-loop-name l = record {
  rest : locals_judgement l.fn.scope l.specs l.names ≡ in_turn (map (local l.ctype l.fixed) (drop l.name-index l.names)) (l.scope, l.done);
}
