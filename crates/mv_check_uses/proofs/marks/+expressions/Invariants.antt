use Rattle.std.proofs.Common.{◌≡◌, take}
use Rattle.mv_check_uses.specs.Flags.{exprs_globals}
use Rattle.mv_check_uses.proofs.marks.+expressions.Given as goal
use Rattle.mv_ast.specs.Flags.{flagged}

abbrev pub invariant-mark_exprs-loop-e : goal.invariant-mark_exprs-loop-e
invariant-mark_exprs-loop-e l = l.flags.items ≡ flagged (exprs_globals (take l.e-index l.es)) l.initial.flags.items
