use Rattle.std.proofs.Common.{◌≡◌, drop}
use Rattle.mv_check_declarations.specs.Turns.{through}
use Rattle.mv_check_declarations.specs.Attributes.{attribute}
use Rattle.mv_check_declarations.proofs.attributes.attributes.Given as goal

abbrev pub invariant-loop-mark : goal.invariant-loop-mark
invariant-loop-mark l = record {
  rest :
      through (attribute l.holder l.kind l.scope) l.marks l.fn.before ≡
      through (attribute l.holder l.kind l.scope) (drop l.mark-index l.marks) l.now;
}
