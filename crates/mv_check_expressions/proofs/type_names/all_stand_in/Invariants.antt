use Rattle.std.proofs.Common.{◌≡◌, drop}
use Rattle.mv_check_expressions.specs.TypeNames.{all_stand_in}
use Rattle.mv_check_expressions.proofs.type_names.all_stand_in.Given as goal

abbrev pub invariant-loop-w : goal.invariant-loop-w
invariant-loop-w l = all_stand_in l.words l.these ≡ all_stand_in l.words (drop l.w-index l.these)
