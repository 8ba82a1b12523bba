use Rattle.std.proofs.Common.{◌≡◌, take}
use Rattle.mv_ast.specs.Switches.{switch_words}
use Rattle.mv_interpret.proofs.commits.switch_words.Given as goal

abbrev pub invariant-loop-s : goal.invariant-loop-s
invariant-loop-s l = l.words ≡ switch_words l.program l.globals (take l.s-index l.switches)
