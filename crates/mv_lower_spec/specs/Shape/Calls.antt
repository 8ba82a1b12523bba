-- Counts of calls, in code and in the source, where each direct call of a function and each call through a pointer has a weight, which is that of a call
-- through a pointer switch too.
use Rattle.std.specs.Prelude.{ℕ, ◌+◌, Bool, List, map, sum, if◌then◌else◌, slice_get}
use Rattle.mv_ir.specs.declared.stm.Callee.{Callee}
use Rattle.mv_ir.specs.declared.stm.Callee.TheVariants as callee
use Rattle.mv_ir.specs.declared.stm.Stm.{Stm}
use Rattle.mv_ir.specs.declared.stm.Stm.TheOpen.{Stm-F}
use Rattle.mv_ir.specs.declared.stm.Stm.TheOpen as stm
use Rattle.mv_ir.specs.declared.stm.Stm.TheFolds.{fold-Stm}
use Rattle.mv_ir.specs.Measures.{total}
use Rattle.mv_ast.specs.declared.program.Program.{Program}
use Rattle.mv_ast.specs.declared.program.Function.{Function}
use Rattle.mv_ast.specs.declared.program.Expr.{Expr, fold-Expr}
use Rattle.mv_ast.specs.declared.program.Form.{Form-F}
use Rattle.mv_ast.specs.declared.program.Form.TheOpen as form
use Rattle.mv_ast.specs.declared.program.Stmt.{Stmt}
use Rattle.mv_ast.specs.declared.program.Arm.{Arm}
use Rattle.mv_ast.specs.Counts.{is_attributed, form_sum, target_sum, inner_calls, stmt_total, arm_total}

module _ (direct : ℕ → ℕ) (through : ℕ) where
  -- ---- in code

  abbrev pub callee_weight : Callee → ℕ
  callee_weight (callee.Direct f) = direct f
  callee_weight (callee.Through t) = through
  callee_weight (callee.Switched g) = through
  callee_weight callee.Expanded = 0

  abbrev pub layer_weight : Stm-F ℕ → ℕ
  layer_weight (stm.If t a b) = total a + total b
  layer_weight (stm.Loop b) = total b
  layer_weight (stm.Block b) = total b
  layer_weight (stm.Call r f args) = callee_weight f
  layer_weight _ = 0

  unfoldable pub stm_weight : Stm → ℕ
  stm_weight = fold-Stm ℕ layer_weight

  -- of the call statements in some code
  abbrev pub code_weight : List Stm → ℕ
  code_weight code = total (map stm_weight code)

  -- ---- in the source

  abbrev pub own_weight : {A B C : Type 0} → Form-F A B C → ℕ
  own_weight (form.Direct f args) = direct f
  own_weight (form.Through args callee) = through
  own_weight _ = 0

  abbrev pub form_weights : Form-F ℕ ℕ ℕ → ℕ
  form_weights f = own_weight f + form_sum f

  abbrev pub expr_weight : Expr → ℕ
  expr_weight = fold-Expr ℕ ℕ ℕ form_weights target_sum inner_calls

  abbrev pub stmt_weight : Stmt → ℕ
  stmt_weight = stmt_total expr_weight (λ s. 0) (λ a. 0)

  abbrev pub arm_weight : Arm → ℕ
  arm_weight = arm_total expr_weight (λ s. 0) (λ a. 0)

  -- of the calls in a function
  abbrev pub function_weight : Function → ℕ
  function_weight g = sum (map stmt_weight g.body)

-- ---- the calls through pointer switches that a test picks, in code

module _ (counts : (global : ℕ) → Bool) where
  abbrev pub callee_through : Callee → ℕ
  callee_through (callee.Direct f) = 0
  callee_through (callee.Through t) = 0
  callee_through (callee.Switched g) = if counts g then 1 else 0
  callee_through callee.Expanded = 0

  abbrev pub layer_through : Stm-F ℕ → ℕ
  layer_through (stm.If t a b) = total a + total b
  layer_through (stm.Loop b) = total b
  layer_through (stm.Block b) = total b
  layer_through (stm.Call r f args) = callee_through f
  layer_through _ = 0

  unfoldable pub stm_through : Stm → ℕ
  stm_through = fold-Stm ℕ layer_through

  abbrev pub code_through : List Stm → ℕ
  code_through code = total (map stm_through code)

-- one for each call
abbrev pub each_once : ℕ → ℕ
each_once f = 1

-- one for each direct call of an attributed function
abbrev pub attributed_once : Program → ℕ → ℕ
attributed_once p f = if is_attributed (slice_get p.functions f) then 1 else 0
