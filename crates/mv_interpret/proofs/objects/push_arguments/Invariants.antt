use Rattle.std.proofs.Common.{◌≡◌, ◌++◌, ◌∷◌, [], take, map}
use Rattle.mv_interpret.proofs.objects.push_arguments.Given as goal

abbrev pub invariant-loop-v : goal.invariant-loop-v
invariant-loop-v l = l.locals ≡ l.fn.locals ++ map (λ v. v ∷ []) (take l.v-index l.v-items)
