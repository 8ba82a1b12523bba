use Rattle.std.proofs.Common.{◌≡◌, drop}
use Rattle.mv_check_declarations.specs.Globals.{first_word, no_words}
use Rattle.mv_check_declarations.specs.Turns.{through}
use Rattle.mv_check_declarations.proofs.globals.first_words.Given as goal

abbrev pub invariant-loop-node : goal.invariant-loop-node
invariant-loop-node l = record {
  rest : through (first_word l.ctype l.scope) l.nodes no_words ≡ through (first_word l.ctype l.scope) (drop l.node-index l.nodes) l.done;
}
