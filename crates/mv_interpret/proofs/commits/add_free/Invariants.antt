use Rattle.std.proofs.Common.{◌≡◌, ◌++◌, take, map}
use Rattle.mv_bindings.specs.Bindings.{free}
use Rattle.mv_interpret.proofs.commits.add_free.Given as goal

abbrev pub invariant-loop-global : goal.invariant-loop-global
invariant-loop-global l = l.bindings ≡ l.fn.bindings ++ map (λ g. free) (take l._global-index l.globals)
