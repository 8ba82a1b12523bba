-- What is around an evaluation under the program's own numbering, and loops and arms from their start.
use Rattle.std.specs.Prelude.{ℕ, List, [], map, Option}
use Rattle.mv_ast.specs.declared.program.Program.{Program}
use Rattle.mv_ast.specs.declared.program.Expr.{Expr}
use Rattle.mv_ast.specs.declared.program.Stmt.{Stmt, roll-Stmt}
use Rattle.mv_ast.specs.declared.program.Stmt.TheOpen as stmt
use Rattle.mv_ast.specs.declared.program.Arm.{Arm}
use Rattle.mv_ast.specs.Worlds.{bind, give}
use Rattle.mv_ast.specs.Numbering.{own_numbers}
use Rattle.mv_meaning.specs.declared.state.Flow.{Flow}
use Rattle.mv_meaning.specs.declared.state.Flow.TheVariants.{Goes}
use Rattle.mv_meaning.specs.Meaning.{Evaluation, Context, unless_zero, after_body, after_switch, context_at, value_of, optional_value, flow_of_all, in_order, bodies_of, arm_of}

-- what is around an evaluation at a bound, under the program's own numbering
abbrev pub own_context : Program → ℕ → Context
own_context p bound = context_at p (own_numbers p) bound

-- loops from their start, in which their node was counted already
module _ (p : Program) (context : Context) where
  abbrev pub while_from : Expr → List Stmt → Evaluation Flow
  while_from e body =
      bind (value_of p context e) (λ v. unless_zero v (give Goes)
      (bind (flow_of_all p context body) (λ flow. after_body flow
      (context.loop (roll-Stmt (stmt.While e body))))))

  abbrev pub do_from : List Stmt → Expr → Evaluation Flow
  do_from body e =
      bind (flow_of_all p context body) (λ flow. after_body flow
      (bind (value_of p context e) (λ v. unless_zero v (give Goes)
      (context.loop (roll-Stmt (stmt.Do body e))))))

  abbrev pub for_from : Option Expr → Option Expr → List Stmt → Evaluation Flow
  for_from test step body =
      bind (optional_value p context 1 test) (λ v. unless_zero v (give Goes)
      (bind (flow_of_all p context body) (λ flow. after_body flow
      (bind (optional_value p context 0 step) (λ _.
      context.loop (roll-Stmt (stmt.For [] test step body)))))))

  -- the statements of some arms of a `switch` in order
  abbrev pub arms_from : List Arm → Evaluation Flow
  arms_from arms = bind (in_order (bodies_of (map (arm_of p context) arms))) after_switch
