use Rattle.std.proofs.Common.{◌≡◌, ◌+◌, ◌*◌, drop, true}
use Rattle.mv_ir.specs.Measures.{stm_size, statements}
use Rattle.mv_select_code.specs.Control.FlowCode.{code_of}
use Rattle.mv_select_code.specs.Control.Emitters.{emitted}
use Rattle.mv_select_code.specs.Control.Layouts.{plan_in, are_small}
use Rattle.mv_select_code.proofs.control.statements.+statement.Given as goal

abbrev pub decreases-push_statement : goal.decreases-push_statement
decreases-push_statement g l = 8 * stm_size l.statement.now

abbrev pub decreases-push_list : goal.decreases-push_list
decreases-push_list g l = 8 * statements l.list.now + 1

abbrev pub decreases-push_statements : goal.decreases-push_statements
decreases-push_statements g l = 8 * statements l.statements.now + 2

abbrev pub decreases-push_straight : goal.decreases-push_straight
decreases-push_straight g l = 8 * statements l.body.now + 2

abbrev pub decreases-push_turned : goal.decreases-push_turned
decreases-push_turned g l = 8 * (statements l.staying.list.now + statements l.rest.now) + 3

abbrev pub decreases-push_loop : goal.decreases-push_loop
decreases-push_loop g l = 8 * statements l.body.now + 3

abbrev pub decreases-push_block : goal.decreases-push_block
decreases-push_block g l = 8 * statements l.body.now + 3

abbrev pub decreases-push_either : goal.decreases-push_either
decreases-push_either g l = 8 * (statements l.first.now + statements l.second.now) + 3

abbrev pub decreases-push_if : goal.decreases-push_if
decreases-push_if g l = 8 * (statements l.first.now + statements l.second.now) + 4

abbrev pub invariant-push_list-loop-k : goal.invariant-push_list-loop-k
invariant-push_list-loop-k g l = record {
  written : emitted l.emitter (code_of (plan_in l.layout (g.C.CallCode.lines l.calls)) (drop l.k l.list)) l.way
      ≡ emitted l.fn.emitter (code_of (plan_in l.layout (g.C.CallCode.lines l.calls)) l.list) l.way;
  small : are_small (drop l.k l.list) ≡ true;
}
