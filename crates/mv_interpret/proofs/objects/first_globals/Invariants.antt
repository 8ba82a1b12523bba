use Rattle.std.proofs.Common.{◌≡◌, take, map}
use Rattle.mv_ast.specs.Starts.{first_words}
use Rattle.mv_interpret.proofs.objects.first_globals.Given as goal

abbrev pub invariant-loop-global : goal.invariant-loop-global
invariant-loop-global l = l.globals ≡ map first_words (take l.global-index l.global-items)
