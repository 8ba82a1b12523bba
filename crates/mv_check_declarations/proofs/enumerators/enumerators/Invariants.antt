use Rattle.std.proofs.Common.{◌≡◌, Some, [], drop}
use Rattle.mv_check_declarations.specs.Turns.{through}
use Rattle.mv_check_declarations.specs.Enumerators.{enumerator}
use Rattle.mv_check_declarations.proofs.enumerators.enumerators.Given as goal

abbrev pub invariant-loop-member : goal.invariant-loop-member
invariant-loop-member l = record {
  rest :
      through enumerator l.members (l.fn.scope, Some 0, []) ≡
      through enumerator (drop l.member-index l.members) (l.scope, l.following, l.values);
}
