use Rattle.std.proofs.Common.{◌≡◌, take}
use Rattle.mv_check_uses.specs.Uses.{numbers_from}
use Rattle.mv_check_uses.proofs.uses.flagged_numbers.Given as goal
use Rattle.mv_ast.specs.Flags.{is_set}

abbrev pub invariant-loop-index : goal.invariant-loop-index
invariant-loop-index l = l.numbers.items ≡ numbers_from (is_set l.flags.items) 0 (take l.index l.switches)
