-- Where `break` and `continue` may stand (C11 6.8.6.2, 6.8.6.3).
use Rattle.std.specs.Prelude.{Bool, true, ◌&&◌, List, [], ◌∷◌}
use Rattle.mv_ast.specs.declared.program.Stmt.{Stmt, Stmt-F, fold-Stmt}
use Rattle.mv_ast.specs.declared.program.Stmt.TheOpen as stmt
use Rattle.mv_ast.specs.declared.program.Arm.{Arm, Arm-F, fold-Arm}

-- whether each jump has its target, where a `break` or a `continue` may stand or not
abbrev pub Jumping : Type 0
Jumping = (breaks continues : Bool) → Bool

abbrev pub all_jump : List Jumping → Jumping
all_jump [] breaks continues = true
all_jump (s ∷ ss) breaks continues = s breaks continues && all_jump ss breaks continues

abbrev pub jumps_layer : Stmt-F Jumping Jumping → Jumping
jumps_layer (stmt.Block body) breaks continues = all_jump body breaks continues
jumps_layer (stmt.Clear l values) breaks continues = true
jumps_layer (stmt.Express e) breaks continues = true
jumps_layer (stmt.If e yes_part no_part) breaks continues = all_jump yes_part breaks continues && all_jump no_part breaks continues
jumps_layer (stmt.While e body) breaks continues = all_jump body true true
jumps_layer (stmt.Do body e) breaks continues = all_jump body true true
jumps_layer (stmt.For first test step body) breaks continues = all_jump first breaks continues && all_jump body true true
jumps_layer (stmt.Switch e arms) breaks continues = all_jump arms true continues
jumps_layer stmt.Break breaks continues = breaks
jumps_layer stmt.Continue breaks continues = continues
jumps_layer (stmt.Return e) breaks continues = true

abbrev pub arm_jumps_layer : Arm-F Jumping Jumping → Jumping
arm_jumps_layer a = all_jump a.body

abbrev pub stmt_jumps : Stmt → Jumping
stmt_jumps = fold-Stmt Jumping Jumping jumps_layer arm_jumps_layer

abbrev pub arm_jumps : Arm → Jumping
arm_jumps = fold-Arm Jumping Jumping jumps_layer arm_jumps_layer
