use Rattle.std.proofs.Common.{◌≡◌, ◌++◌, drop}
use Rattle.mv_check_scope.specs.Signatures.{types_words, spelling}
use Rattle.mv_check_scope.proofs.signatures.spelling.Given as goal

abbrev pub invariant-loop-t : goal.invariant-loop-t
invariant-loop-t l = record {
  rest : spelling l.s ≡ l.words.items ++ types_words (drop l.t-index l.s.params);
}
