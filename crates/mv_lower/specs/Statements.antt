-- What statements are lowered to where they stand, as functions of what their parts are lowered to, and how large they are.
use Rattle.std.specs.Prelude.{ℕ, ◌+◌, List, map, sum, length, max, Option, Some, None}
use Rattle.mv_ast.specs.declared.program.Function.{Function}
use Rattle.mv_ast.specs.declared.program.Expr.{Expr}
use Rattle.mv_ast.specs.declared.program.Stmt.{Stmt}
use Rattle.mv_ast.specs.declared.program.Arm.{Arm}
use Rattle.mv_ir.specs.declared.stm.Stm.{Stm}
use Rattle.mv_ast.specs.Counts.{expr_nodes, own_nodes, stmt_total, arm_total}
use Rattle.mv_lower_spec.specs.Lowered.{Lowered}
use Rattle.mv_source_forms.specs.Names.{is_void, size_in}
use Rattle.mv_lower_spec.specs.Statements.{Jumps, Code, Placed, LoweredArm, in_sequence, lower_express, lower_return, lower_end, lower_break, lower_continue, lower_if, test_and_body, lower_while, lower_do, lower_for}
use Rattle.mv_lower_spec.specs.LowerStatements.{lower_stmt, lower_arm}
use Rattle.mv_lower_spec.specs.Functions.{outermost}
use Rattle.mv_lower.specs.declared.code.Jumps as declared
use Rattle.mv_lower.specs.declared.code.Code as declared_code
use Rattle.mv_lower_expressions.specs.Values.{given}
use Rattle.mv_lower_expressions.specs.Expressions.{expr_at}

-- ---- results

abbrev pub seen_code : declared_code.Code → Code
seen_code c = record { code = c.code; top = c.top }

abbrev pub seen_jumps : declared.Jumps → Jumps
seen_jumps j = record { leave = j.leave; again = j.again; around = j.around }

-- the statements that are these wherever they stand
abbrev pub standing : Code → Placed
standing c j = c

-- ---- statements of a function, in a program with these pointer switches

unfoldable pub stmt_at : (pointers : List ℕ) → Function → Stmt → Jumps → Code
stmt_at pointers g s j = lower_stmt pointers (length g.locals) (size_in g.locals) (is_void g.result) s j

unfoldable pub arm_at : (pointers : List ℕ) → Function → Arm → LoweredArm
arm_at pointers g a = lower_arm pointers (length g.locals) (size_in g.locals) (is_void g.result) a

unfoldable pub stmts_at : (pointers : List ℕ) → Function → List Stmt → Jumps → Code
stmts_at pointers g body j = in_sequence (length g.locals) (map (stmt_at pointers g) body) j

-- ---- from their parts: a value that is given is the same at each number of locals, so 0 stands for any

unfoldable pub express_of : Lowered → Code
express_of x = lower_express 0 (given x) outermost

unfoldable pub return_of : Lowered → Code
return_of x = lower_return 0 (given x) outermost

unfoldable pub if_of : Lowered → Code → Code → Code
if_of x a b = lower_if 0 (given x) (standing a) (standing b) outermost

abbrev pub tested_body : Lowered → List Stm → List Stm
tested_body x body = test_and_body 0 (given x) body

unfoldable pub while_of : Lowered → Code → Code
while_of x a = lower_while 0 (given x) (standing a) outermost

unfoldable pub do_of : Code → Lowered → Code
do_of a x = lower_do 0 (standing a) (given x) outermost

unfoldable pub for_of : Code → Lowered → Lowered → Code → Code
for_of first test step a = lower_for 0 (standing first) (given test) (given step) (standing a) outermost

unfoldable pub break_at : Jumps → ℕ → Code
break_at j n = lower_break n j

unfoldable pub continue_at : Jumps → ℕ → Code
continue_at j n = lower_continue n j

unfoldable pub end_at : Jumps → ℕ → Code
end_at j n = lower_end n j

-- `return`, with or without a value
abbrev pub return_at : (pointers : List ℕ) → Option Expr → Jumps → ℕ → Code
return_at pointers None j n = end_at j n
return_at pointers (Some e) j n = return_of (expr_at pointers e n)

-- ---- sizes, which bound the numbers of temporaries, of blocks and of arms

-- nodes, with one for each arm
unfoldable pub stmt_size : Stmt → ℕ
stmt_size s = stmt_total expr_nodes own_nodes (λ a. 1 + length a.labels) s

unfoldable pub arm_size : Arm → ℕ
arm_size a = arm_total expr_nodes own_nodes (λ b. 1 + length b.labels) a

abbrev pub stmts_size : List Stmt → ℕ
stmts_size body = sum (map stmt_size body)

abbrev pub arms_size : List Arm → ℕ
arms_size arms = sum (map arm_size arms)

-- above the numbers that are in use: of temporaries, and of blocks
abbrev pub used : Function → Jumps → ℕ
used g j = max (length g.locals) (max j.again j.around) + 1
