use Rattle.std.proofs.Common.{◌≡◌, take, map}
use Rattle.mv_check_outline.specs.Names.{number_in, names_of}
use Rattle.mv_check_outline.proofs.names.Names.numbers_in.Given as goal

abbrev pub invariant-loop-name : goal.invariant-loop-name
invariant-loop-name l = l.numbers ≡ map (number_in l.others) (take l.name-index (names_of l.name-items))
