use Rattle.std.proofs.Common.{◌≡◌, ◌+◌, ◌-◌, ◌*◌, ◌^◌, ◌≤◌, ◌++◌, ◌∷◌, [], map, drop, max}
use Rattle.std.specs.Prelude.{option_to_list}
use Rattle.mv_ast.specs.declared.program.Expr.{size-Expr}
use Rattle.mv_ast.specs.declared.program.Target.{size-Target}
use Rattle.mv_ast.specs.Worlds.{bind, give}
use Rattle.mv_meaning.specs.Meaning.{values_of_all, put_values, value_of}
use Rattle.mv_interpret.specs.Runs.{totalled, exprs_outcome, stmts_outcome, while_outcome, do_outcome, for_outcome, arms_outcome, stores_outcome, world_of}
use Rattle.mv_meaning.specs.Loops.{own_context, while_from, do_from, for_from}
use Rattle.mv_interpret.proofs.Depths.{spent, exprs_depth, optional_depth, stmt_depth, stmts_depth, arms_depth, loop_depth}
use Rattle.mv_interpret.proofs.interpreter.+evaluation.Given as goal

-- ---- what is left to do: the bound, and below it the depth of the tree

abbrev pub decreases-value_of : goal.decreases-value_of
decreases-value_of l = spent l.program.now l.here.bound + 3 * goal.size-value_of l

abbrev pub decreases-lvalue_of : goal.decreases-lvalue_of
decreases-lvalue_of l = spent l.program.now l.here.bound + 3 * goal.size-lvalue_of l

abbrev pub decreases-values_of : goal.decreases-values_of
decreases-values_of l = spent l.program.now l.here.bound + (3 * goal.size-values_of l + 1)

abbrev pub decreases-value_of_binary : goal.decreases-value_of_binary
decreases-value_of_binary l = spent l.program.now l.here.bound + (3 * max (size-Expr l.a.now) (size-Expr l.b.now) + 1)

abbrev pub decreases-value_of_both : goal.decreases-value_of_both
decreases-value_of_both l = spent l.program.now l.here.bound + (3 * max (size-Expr l.a.now) (size-Expr l.b.now) + 1)

abbrev pub decreases-value_of_either : goal.decreases-value_of_either
decreases-value_of_either l = spent l.program.now l.here.bound + (3 * max (size-Expr l.a.now) (size-Expr l.b.now) + 1)

abbrev pub decreases-value_of_choice : goal.decreases-value_of_choice
decreases-value_of_choice l = spent l.program.now l.here.bound + (3 * max (size-Expr l.c.now) (max (size-Expr l.a.now) (size-Expr l.b.now)) + 1)

abbrev pub decreases-value_of_set : goal.decreases-value_of_set
decreases-value_of_set l = spent l.program.now l.here.bound + (3 * max (size-Target l.target.now) (size-Expr l.a.now) + 1)

abbrev pub decreases-value_of_change : goal.decreases-value_of_change
decreases-value_of_change l = spent l.program.now l.here.bound + (3 * max (size-Target l.target.now) (size-Expr l.a.now) + 1)

abbrev pub decreases-value_of_after : goal.decreases-value_of_after
decreases-value_of_after l = spent l.program.now l.here.bound + (3 * size-Target l.target.now + 1)

abbrev pub decreases-value_of_call : goal.decreases-value_of_call
decreases-value_of_call l = spent l.program.now l.here.bound + (3 * exprs_depth l.args.now + 2)

abbrev pub decreases-value_of_call_through : goal.decreases-value_of_call_through
decreases-value_of_call_through l = spent l.program.now l.here.bound + (3 * max (exprs_depth l.args.now) (size-Expr l.callee.now) + 2)

abbrev pub decreases-callee_of : goal.decreases-callee_of
decreases-callee_of l = spent l.program.now l.here.bound + (3 * size-Expr l.e.now + 1)

abbrev pub decreases-value_of_known : goal.decreases-value_of_known
decreases-value_of_known l = spent l.program.now l.here.bound + (3 * exprs_depth l.args.now + 2)

abbrev pub decreases-optional_value : goal.decreases-optional_value
decreases-optional_value l = spent l.program.now l.here.bound + (3 * optional_depth l.e.now + 1)

abbrev pub decreases-call : goal.decreases-call
decreases-call l = spent l.program.now l.here.bound

abbrev pub decreases-flow_of : goal.decreases-flow_of
decreases-flow_of l = spent l.program.now l.here.bound + 3 * stmt_depth l.s.now

abbrev pub decreases-flow_of_all : goal.decreases-flow_of_all
decreases-flow_of_all l = spent l.program.now l.here.bound + (3 * stmts_depth l.body.now + 1)

abbrev pub decreases-while_loop : goal.decreases-while_loop
decreases-while_loop l = spent l.program.now l.here.bound + (3 * loop_depth (l.e.now ∷ []) l.body.now + 2)

abbrev pub decreases-do_loop : goal.decreases-do_loop
decreases-do_loop l = spent l.program.now l.here.bound + (3 * loop_depth (l.e.now ∷ []) l.body.now + 2)

abbrev pub decreases-for_loop : goal.decreases-for_loop
decreases-for_loop l =
    spent l.program.now l.here.bound + (3 * loop_depth (option_to_list l.test.now ++ option_to_list l.step.now) l.body.now + 2)

abbrev pub decreases-arms_flow : goal.decreases-arms_flow
decreases-arms_flow l = spent l.program.now l.here.bound + (3 * arms_depth l.arms.now + 2)

abbrev pub decreases-store_values : goal.decreases-store_values
decreases-store_values l = spent l.program.now l.here.bound + (3 * exprs_depth l.values.now + 1)

-- ---- loops: what is still to do gives what all comes to

abbrev pub invariant-values_of-loop-e : goal.invariant-values_of-loop-e
invariant-values_of-loop-e l = record {
  capped : l.state.work ≤ 2 ^ 64 - 1;
  rest :
      totalled l.fn.state.work (exprs_outcome l.program l.here l.es l.fn.frame l.fn.state) ≡
      totalled l.state.work (bind (values_of_all l.program (own_context l.program l.here.bound) (drop l.e-index l.e-items)) (λ r. give (l.values ++ r)) l.frame (world_of l.here l.state));
}

abbrev pub invariant-flow_of_all-loop-s : goal.invariant-flow_of_all-loop-s
invariant-flow_of_all-loop-s l = record {
  capped : l.state.work ≤ 2 ^ 64 - 1;
  rest :
      totalled l.fn.state.work (stmts_outcome l.program l.here l.body l.fn.frame l.fn.state) ≡
      totalled l.state.work (stmts_outcome l.program l.here (drop l.s-index l.s-items) l.frame l.state);
}

abbrev pub invariant-arms_flow-loop-arm : goal.invariant-arms_flow-loop-arm
invariant-arms_flow-loop-arm l = record {
  capped : l.state.work ≤ 2 ^ 64 - 1;
  rest :
      totalled l.fn.state.work (arms_outcome l.program l.here l.arms l.fn.frame l.fn.state) ≡
      totalled l.state.work (arms_outcome l.program l.here (drop l.arm-index l.arms) l.frame l.state);
}

abbrev pub invariant-store_values-loop-i : goal.invariant-store_values-loop-i
invariant-store_values-loop-i l = record {
  capped : l.state.work ≤ 2 ^ 64 - 1;
  rest :
      totalled l.fn.state.work (stores_outcome l.program l.here l.l l.values l.fn.frame l.fn.state) ≡
      totalled l.state.work (put_values l.l l.i (map (value_of l.program (own_context l.program l.here.bound)) (drop l.i l.e-items)) l.frame (world_of l.here l.state));
}

abbrev pub invariant-while_loop-loop-v : goal.invariant-while_loop-loop-v
invariant-while_loop-loop-v l = record {
  lower : l.bound ≤ l.here.bound;
  rest :
      totalled l.fn.state.work (while_outcome l.program l.here l.e l.body l.fn.frame l.fn.state) ≡
      totalled l.state.work (while_from l.program (own_context l.program l.bound) l.e l.body l.frame (world_of l.here l.state));
}

abbrev pub decreases-while_loop-loop-v : goal.decreases-while_loop-loop-v
decreases-while_loop-loop-v l = l.bound

abbrev pub invariant-do_loop-loop-flow : goal.invariant-do_loop-loop-flow
invariant-do_loop-loop-flow l = record {
  lower : l.bound ≤ l.here.bound;
  rest :
      totalled l.fn.state.work (do_outcome l.program l.here l.body l.e l.fn.frame l.fn.state) ≡
      totalled l.state.work (do_from l.program (own_context l.program l.bound) l.body l.e l.frame (world_of l.here l.state));
}

abbrev pub decreases-do_loop-loop-flow : goal.decreases-do_loop-loop-flow
decreases-do_loop-loop-flow l = l.bound

abbrev pub invariant-for_loop-loop-v : goal.invariant-for_loop-loop-v
invariant-for_loop-loop-v l = record {
  lower : l.bound ≤ l.here.bound;
  rest :
      totalled l.fn.state.work (for_outcome l.program l.here l.test l.step l.body l.fn.frame l.fn.state) ≡
      totalled l.state.work (for_from l.program (own_context l.program l.bound) l.test l.step l.body l.frame (world_of l.here l.state));
}

abbrev pub decreases-for_loop-loop-v : goal.decreases-for_loop-loop-v
decreases-for_loop-loop-v l = l.bound
