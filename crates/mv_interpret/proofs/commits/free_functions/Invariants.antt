use Rattle.std.proofs.Common.{◌≡◌, take, map, filter}
use Rattle.mv_bindings.specs.Bindings.{free}
use Rattle.mv_interpret.proofs.commits.free_functions.Given as goal

abbrev pub invariant-loop-f : goal.invariant-loop-f
invariant-loop-f l = l.bindings ≡ map (λ f. free) (filter (λ f. f.attributed) (take l.f-index l.f-items))
