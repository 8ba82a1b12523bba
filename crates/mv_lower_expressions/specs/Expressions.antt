-- What expressions are lowered to from a temporary on, and how large they are.
use Rattle.std.specs.Prelude.{ℕ, ◌+◌, List, [], ◌∷◌, map, sum, Option, Some, None}
use Rattle.mv_ast.specs.declared.program.CType.{CType}
use Rattle.mv_ast.specs.declared.program.Expr.{Expr}
use Rattle.mv_ast.specs.declared.program.Form.{Form, fold-Form}
use Rattle.mv_ast.specs.declared.program.Target.{Target, fold-Target}
use Rattle.mv_ast.specs.Counts.{expr_nodes, form_sum, target_sum, one_more_than}
use Rattle.mv_lower_spec.specs.Lowered.{Lowered}
use Rattle.mv_lower_spec.specs.Lower.{Place, global_at, switched_by, form_part, form_lowering, place_of, part_of, lower_expr}
use Rattle.mv_lower_spec.specs.LowerStatements.{lower_optional}
use Rattle.mv_lower_expressions.specs.Places.{placed}

-- in a program with these pointer switches

unfoldable pub expr_at : (pointers : List ℕ) → Expr → ℕ → Lowered
expr_at pointers e n = lower_expr pointers e n

unfoldable pub form_at : (pointers : List ℕ) → Form → CType → ℕ → Lowered
form_at pointers f t n = form_lowering pointers f t n

unfoldable pub place_at : (pointers : List ℕ) → Target → ℕ → Place
place_at pointers t n = placed n (place_of pointers t)

-- each from one temporary above the one before it
abbrev pub exprs_at : (pointers : List ℕ) → List Expr → ℕ → List Lowered
exprs_at pointers [] n = []
exprs_at pointers (e ∷ es) n = expr_at pointers e n ∷ exprs_at pointers es (n + 1)

-- ---- the pointer switch that an expression is the read of

unfoldable pub switch_of : (pointers : List ℕ) → Expr → Option ℕ
switch_of pointers e = switched_by pointers (part_of pointers e).reads

unfoldable pub switch_of_form : (pointers : List ℕ) → Form → Option ℕ
switch_of_form pointers f = switched_by pointers (form_part pointers f).reads

unfoldable pub switch_of_target : (pointers : List ℕ) → Target → Option ℕ
switch_of_target pointers t = switched_by pointers (global_at (place_of pointers t))

-- ---- numbers of nodes, which bound the numbers of temporaries

unfoldable pub expr_size : Expr → ℕ
expr_size e = expr_nodes e

unfoldable pub form_size : Form → ℕ
form_size f = fold-Form ℕ ℕ ℕ form_sum target_sum one_more_than f

unfoldable pub target_size : Target → ℕ
target_size t = fold-Target ℕ ℕ ℕ form_sum target_sum one_more_than t

abbrev pub exprs_size : List Expr → ℕ
exprs_size es = sum (map expr_size es)

abbrev pub optional_size : Option Expr → ℕ
optional_size None = 0
optional_size (Some e) = expr_size e

-- each from the same temporary
abbrev pub each_at : (pointers : List ℕ) → List Expr → ℕ → List Lowered
each_at pointers es n = map (λ e. expr_at pointers e n) es

-- an expression that may be left out, in whose place a value stands then
unfoldable pub optional_at : (pointers : List ℕ) → ℕ → Option Expr → ℕ → Lowered
optional_at pointers v e n = lower_optional pointers v e n
