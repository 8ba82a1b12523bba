use Rattle.std.proofs.Common.{◌≡◌, take}
use Rattle.mv_ast.specs.Flags.{is_set}
use Rattle.mv_expand.specs.Placed.{given_from}
use Rattle.mv_expand.proofs.placed.given.Given as goal

abbrev pub invariant-loop-i : goal.invariant-loop-i
invariant-loop-i l = l.code ≡ given_from l.base (is_set l.keeps) l.args 0 (take l.i l.args)
