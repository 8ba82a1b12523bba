use Rattle.std.proofs.Common.{◌≡◌, take}
use Rattle.mv_check_uses.specs.Flags.{stmts_globals, arms_globals}
use Rattle.mv_check_uses.proofs.marks.+statements.Given as goal
use Rattle.mv_ast.specs.Flags.{flagged}

abbrev pub invariant-mark_stmts-loop-s : goal.invariant-mark_stmts-loop-s
invariant-mark_stmts-loop-s l = l.flags.items ≡ flagged (stmts_globals (take l.s-index l.body)) l.initial.flags.items

abbrev pub invariant-mark_arms-loop-arm : goal.invariant-mark_arms-loop-arm
invariant-mark_arms-loop-arm l = l.flags.items ≡ flagged (arms_globals (take l.arm-index l.arms)) l.initial.flags.items
