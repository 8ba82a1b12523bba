-- What flags of globals say, and what parts of trees name.
use Rattle.std.specs.Prelude.{ℕ, suc, Bool, false, List, map, replicate, option_to_list, Option}
use Rattle.std.specs.List.{concat}
use Rattle.mv_ast.specs.declared.program.Switch.{Switch}
use Rattle.mv_ast.specs.declared.program.Expr.{Expr}
use Rattle.mv_ast.specs.declared.program.Form.{Form, fold-Form}
use Rattle.mv_ast.specs.declared.program.Target.{Target, fold-Target}
use Rattle.mv_ast.specs.declared.program.Stmt.{Stmt}
use Rattle.mv_ast.specs.declared.program.Arm.{Arm, fold-Arm}
use Rattle.mv_ast.specs.Counts.{greatest}
use Rattle.mv_check_uses.specs.Uses.{form_layer, target_layer, expr_layer, expr_globals, stmt_layer, arm_layer, stmt_globals}

-- ---- flags

-- flags, none set, for the globals of some switches
abbrev pub no_flags : List Switch → List Bool
no_flags switches = replicate (suc (greatest (map (λ s. s.global) switches))) false

-- ---- parts

unfoldable pub form_globals : Form → List ℕ
form_globals = fold-Form (List ℕ) (List ℕ) (List ℕ) form_layer target_layer expr_layer

unfoldable pub target_globals : Target → List ℕ
target_globals = fold-Target (List ℕ) (List ℕ) (List ℕ) form_layer target_layer expr_layer

unfoldable pub arm_globals : Arm → List ℕ
arm_globals = fold-Arm (List ℕ) (List ℕ) stmt_layer arm_layer

abbrev pub exprs_globals : List Expr → List ℕ
exprs_globals es = concat (map expr_globals es)

abbrev pub optional_globals : Option Expr → List ℕ
optional_globals e = concat (map expr_globals (option_to_list e))

abbrev pub stmts_globals : List Stmt → List ℕ
stmts_globals body = concat (map stmt_globals body)

abbrev pub arms_globals : List Arm → List ℕ
arms_globals arms = concat (map arm_globals arms)
