use Rattle.std.proofs.Common.{◌≡◌, length}
use Rattle.mv_check_scope.specs.Scopes.{left}
use Rattle.mv_check_scope.proofs.space.NameSpace.leave.Given as goal

abbrev pub invariant-declared : goal.invariant-declared
invariant-declared l = left l.self ≡ left l.fn.self

abbrev pub decreases-declared : goal.decreases-declared
decreases-declared l = length l.self.here
