use Rattle.std.proofs.Common.{◌≡◌, drop}
use Rattle.mv_check_expressions.specs.TypeNames.{stands_in}
use Rattle.mv_check_expressions.proofs.type_names.stands_in.Given as goal

abbrev pub invariant-loop-w : goal.invariant-loop-w
invariant-loop-w l = stands_in l.words l.word ≡ stands_in (drop l.w-index l.words) l.word
