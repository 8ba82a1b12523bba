-- Which globals expressions and statements name, and which switches a function does.
use Rattle.std.specs.Prelude.{ℕ, suc, Bool, cond, List, [], ◌∷◌, ◌++◌, map}
use Rattle.std.specs.List.{concat}
use Rattle.mv_ast.specs.declared.program.Switch.{Switch}
use Rattle.mv_ast.specs.declared.program.Expr.{Expr, Expr-F, fold-Expr}
use Rattle.mv_ast.specs.declared.program.Form.{Form-F}
use Rattle.mv_ast.specs.declared.program.Form.TheOpen as form
use Rattle.mv_ast.specs.declared.program.Target.{Target-F}
use Rattle.mv_ast.specs.declared.program.Stmt.{Stmt, Stmt-F, fold-Stmt}
use Rattle.mv_ast.specs.declared.program.Arm.{Arm-F}
use Rattle.mv_ast.specs.Layers.{form_parts, stmt_parts, stmt_expressions}
use Rattle.mv_num.specs.Lists.{is_among}

-- ---- the globals that a tree names, in the order of its parts

abbrev pub target_layer : Target-F (List ℕ) (List ℕ) (List ℕ) → List ℕ
target_layer (form.Global g) = g ∷ []
target_layer (form.Local l) = []
target_layer (form.GlobalAt g index) = g ∷ index
target_layer (form.LocalAt l index) = index

abbrev pub form_layer : Form-F (List ℕ) (List ℕ) (List ℕ) → List ℕ
form_layer f = concat (form_parts f)

abbrev pub expr_layer : Expr-F (List ℕ) (List ℕ) (List ℕ) → List ℕ
expr_layer e = e.what

unfoldable pub expr_globals : Expr → List ℕ
expr_globals = fold-Expr (List ℕ) (List ℕ) (List ℕ) form_layer target_layer expr_layer

abbrev pub stmt_layer : Stmt-F (List ℕ) (List ℕ) → List ℕ
stmt_layer s = concat (map expr_globals (stmt_expressions s)) ++ concat (stmt_parts s)

abbrev pub arm_layer : Arm-F (List ℕ) (List ℕ) → List ℕ
arm_layer a = concat a.body

unfoldable pub stmt_globals : Stmt → List ℕ
stmt_globals = fold-Stmt (List ℕ) (List ℕ) stmt_layer arm_layer

-- ---- switches

-- the numbers of those of some switches, numbered from this number on, of whose globals this holds
abbrev pub numbers_from : (ℕ → Bool) → ℕ → List Switch → List ℕ
numbers_from is_named n [] = []
numbers_from is_named n (s ∷ ss) =
    let rest = numbers_from is_named (suc n) ss in
    cond (is_named s.global) (n ∷ rest) rest

-- the numbers of those of some switches whose globals some statements name
unfoldable pub switches_named : List Switch → List Stmt → List ℕ
switches_named switches body = numbers_from (λ g. is_among g (concat (map stmt_globals body))) 0 switches
