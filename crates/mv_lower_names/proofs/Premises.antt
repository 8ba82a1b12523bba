-- What is known of the source where its code is to name only what is of some kinds: that its expressions and statements do, level by level.
use Rattle.std.proofs.Common.{ℕ, suc, ◌<◌, max, length, Option, Some, None}
use Rattle.mv_ast.specs.declared.program.Known.{Known}
use Rattle.mv_ast.specs.declared.program.Expr.{Expr, Expr-F, roll-Expr}
use Rattle.mv_ast.specs.declared.program.Form.{Form, Form-F, roll-Form}
use Rattle.mv_ast.specs.declared.program.Form.TheOpen as form
use Rattle.mv_ast.specs.declared.program.Target.{Target, Target-F, roll-Target}
use Rattle.mv_ast.specs.declared.program.Stmt.{Stmt, Stmt-F, roll-Stmt}
use Rattle.mv_ast.specs.declared.program.Stmt.TheOpen as stmt
use Rattle.mv_ast.specs.declared.program.Arm.{Arm, Arm-F, roll-Arm}
use Rattle.mv_ast.specs.Counts.{words_of_size}
use Rattle.mv_ir.proofs.Induction.{Each}
use Rattle.mv_source_forms.proofs.ExpressionInduction.{FormChildren, TargetChildren}

module _ (F : ℕ → Type 0) (K : Known → Type 0) (C : ℕ → Type 0) where
  -- what a form names itself is of the kinds
  abbrev pub OwnNames : Form-F Form Target Expr → Type 0
  OwnNames (form.Number n) = C n
  OwnNames (form.Function f) = F f
  OwnNames (form.Direct f args) = F f
  OwnNames (form.Known k args) = K k
  OwnNames _ = Unit {0}

  -- facts of forms, lvalues and expressions that are known of their parts as well, and give what a form names
  pub record KnownOf (PF : Form → Type 0) (PT : Target → Type 0) (PE : Expr → Type 0) : Type 0 where
    pub own : (x : Form-F Form Target Expr) → PF (roll-Form x) → OwnNames x
    pub form_parts : (x : Form-F Form Target Expr) → PF (roll-Form x) → FormChildren PF PT PE x
    pub target_parts : (x : Target-F Form Target Expr) → PT (roll-Target x) → TargetChildren PF PT PE x
    pub what : (x : Expr-F Form Target Expr) → PE (roll-Expr x) → PF x.what

  module _ (sizes : ℕ → Option ℕ) (PE : Expr → Type 0) (PS : Stmt → Type 0) (PA : Arm → Type 0) where
    abbrev pub Optional : Option Expr → Type 0
    Optional None = Unit {0}
    Optional (Some e) = PE e

    -- The parts of a statement. The indices of a local's words and the places of arms are constants in the code.
    abbrev pub StmtKnown : Stmt-F Stmt Arm → Type 0
    StmtKnown (stmt.Block body) = Each PS body
    StmtKnown (stmt.Clear l values) = ((i : ℕ) → i < max (words_of_size (sizes l)) (length values) → C i) × Each PE values
    StmtKnown (stmt.Express e) = PE e
    StmtKnown (stmt.If e a b) = PE e × Each PS a × Each PS b
    StmtKnown (stmt.While e body) = PE e × Each PS body
    StmtKnown (stmt.Do body e) = PE e × Each PS body
    StmtKnown (stmt.For first test step body) = (Each PS first × Each PS body) × Optional test × Optional step
    StmtKnown (stmt.Switch e arms) = PE e × ((i : ℕ) → i < suc (length arms) → C i) × Each PA arms
    StmtKnown stmt.Break = Unit {0}
    StmtKnown stmt.Continue = Unit {0}
    StmtKnown (stmt.Return e) = Optional e

    pub record StmtsKnown : Type 0 where
      pub parts : (x : Stmt-F Stmt Arm) → PS (roll-Stmt x) → StmtKnown x
      pub labels : (x : Arm-F Stmt Arm) → PA (roll-Arm x) → Each C x.labels
      pub body : (x : Arm-F Stmt Arm) → PA (roll-Arm x) → Each PS x.body
