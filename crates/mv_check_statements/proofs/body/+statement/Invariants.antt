use Rattle.std.proofs.Common.{◌≡◌, [], map, drop}
use Rattle.mv_check_statements.specs.Statements.{judges_of, lines_in_turn, arms_in_turn}
use Rattle.mv_check_statements.specs.SwitchBodies.{no_arms}
use Rattle.mv_check_statements.proofs.body.+statement.Given as goal

abbrev pub invariant-lines-loop-item : goal.invariant-lines-loop-item
invariant-lines-loop-item l = record {
  rest :
      lines_in_turn (map judges_of l.items) l.around (l.fn.scope, []) ≡
      lines_in_turn (map judges_of (drop l.item-index l.items)) l.around (l.scope, l.done);
}

abbrev pub invariant-arms-loop-item : goal.invariant-arms-loop-item
invariant-arms-loop-item l = record {
  rest :
      arms_in_turn (map judges_of l.items) l.tested l.around (l.fn.scope, no_arms) ≡
      arms_in_turn (map judges_of (drop l.item-index l.items)) l.tested l.around (l.scope, l.arms);
}
