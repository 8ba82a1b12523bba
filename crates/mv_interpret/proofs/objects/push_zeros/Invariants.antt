use Rattle.std.proofs.Common.{◌≡◌, ◌++◌, take, map, replicate}
use Rattle.mv_ast.specs.Counts.{words_of_size}
use Rattle.mv_interpret.proofs.objects.push_zeros.Given as goal

abbrev pub invariant-loop-local : goal.invariant-loop-local
invariant-loop-local l = l.locals ≡ l.fn.locals ++ map (λ d. replicate (words_of_size d.size) 0) (take l.local-index l.declared)
