-- The lowering of statements (C11 6.8): a fold that gives, for each, its code where it stands.
use Rattle.std.specs.Prelude.{ℕ, Bool, List, map, Option, Some, None}
use Rattle.mv_ast.specs.declared.program.Expr.{Expr}
use Rattle.mv_ast.specs.declared.program.Stmt.{Stmt, Stmt-F, fold-Stmt}
use Rattle.mv_ast.specs.declared.program.Stmt.TheOpen as stmt
use Rattle.mv_ast.specs.declared.program.Arm.{Arm, Arm-F, fold-Arm}
use Rattle.mv_ast.specs.Names.{any_of, names_local}
use Rattle.mv_lower_spec.specs.Lowered.{Lowering, lower_number}
use Rattle.mv_lower_spec.specs.Lower.{lower_expr}
use Rattle.mv_lower_spec.specs.Statements.{Placed, LoweredArm, in_sequence, lower_express, lower_return, lower_end, lower_break, lower_continue, lower_if, lower_while, lower_do, lower_for, lower_clear, lower_switch}

-- an expression that may be left out, in whose place a value stands then
abbrev pub lower_optional : (pointers : List ℕ) → ℕ → Option Expr → Lowering
lower_optional pointers v None = lower_number v
lower_optional pointers v (Some e) = lower_expr pointers e

module _ (pointers : List ℕ) (locals : ℕ) (sizes : ℕ → Option ℕ) (void : Bool) where
  abbrev pub lower_stmt_layer : Stmt-F Placed LoweredArm → Placed
  lower_stmt_layer (stmt.Block body) = in_sequence locals body
  lower_stmt_layer (stmt.Clear l values) = lower_clear locals (sizes l) l (any_of (map (names_local l) values)) (map (lower_expr pointers) values)
  lower_stmt_layer (stmt.Express e) = lower_express locals (lower_expr pointers e)
  lower_stmt_layer (stmt.If e a b) = lower_if locals (lower_expr pointers e) (in_sequence locals a) (in_sequence locals b)
  lower_stmt_layer (stmt.While e body) = lower_while locals (lower_expr pointers e) (in_sequence locals body)
  lower_stmt_layer (stmt.Do body e) = lower_do locals (in_sequence locals body) (lower_expr pointers e)
  lower_stmt_layer (stmt.For first test step body) = lower_for locals (in_sequence locals first) (lower_optional pointers 1 test) (lower_optional pointers 0 step) (in_sequence locals body)
  lower_stmt_layer (stmt.Switch e arms) = lower_switch locals (lower_expr pointers e) arms
  lower_stmt_layer stmt.Break = lower_break locals
  lower_stmt_layer stmt.Continue = lower_continue locals
  lower_stmt_layer (stmt.Return None) = lower_end locals
  lower_stmt_layer (stmt.Return (Some e)) = lower_return locals (lower_expr pointers e)

  abbrev pub lower_arm_layer : Arm-F Placed LoweredArm → LoweredArm
  lower_arm_layer a = record { labels = a.labels; other = a.other; body = in_sequence locals a.body }

  -- The lowering of a statement of a function that is void or not, over so many locals, in a program with these pointer switches.
  abbrev pub lower_stmt : Stmt → Placed
  lower_stmt = fold-Stmt Placed LoweredArm lower_stmt_layer lower_arm_layer

  abbrev pub lower_arm : Arm → LoweredArm
  lower_arm = fold-Arm Placed LoweredArm lower_stmt_layer lower_arm_layer
