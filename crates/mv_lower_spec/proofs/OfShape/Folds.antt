-- What expressions and statements are lowered to, and whether they are within the limits, as folds.
use Rattle.std.proofs.Common.{ℕ, Bool, List, map, Option}
use Rattle.mv_ast.specs.declared.program.Expr.{Expr}
use Rattle.mv_ast.specs.declared.program.Stmt.{Stmt}
use Rattle.mv_ast.specs.declared.program.Arm.{Arm}
use Rattle.mv_lower_spec.specs.Lowered.{Lowering}
use Rattle.mv_lower_spec.specs.Lower.{FormPart, Part, Place, place_of_layer, lower_form, lower_layer, part_of}
use Rattle.mv_lower_spec.specs.Statements.{Placed, LoweredArm, in_sequence}
use Rattle.mv_lower_spec.specs.LowerStatements.{lower_stmt_layer, lower_arm_layer, lower_stmt, lower_arm}
use Rattle.mv_source_forms.proofs.ExpressionFolds.{ExprFolds, expr_fold, expr_folds}
use Rattle.mv_source_forms.proofs.StatementFolds.{StmtFolds, stmt_fold, stmt_folds}
use Rattle.mv_lower_spec.proofs.OfShape.Asked.{Globals, Access, Scope, ArmScope, target_access, form_names_only, inner_names_only, stmt_scope_layer, arm_scope_layer, is_within, stmt_scope}

abbrev pub lowered_exprs : (pointers : List ℕ) → ExprFolds FormPart Place Part
lowered_exprs pointers = expr_fold (lower_form pointers) place_of_layer (lower_layer pointers)

-- the lowerings of several
abbrev pub lowers : (pointers : List ℕ) → List Expr → List Lowering
lowers pointers es = map (λ (x : Part). x.lower) (map (part_of pointers) es)

abbrev pub lowered_stmts : (pointers : List ℕ) → ℕ → (ℕ → Option ℕ) → Bool → StmtFolds Placed LoweredArm
lowered_stmts pointers locals sizes void = stmt_fold (lower_stmt_layer pointers locals sizes void) (lower_arm_layer pointers locals sizes void)

-- what each is lowered to, and whether it is within the limits
abbrev pub limited_exprs : Globals → ℕ → (ℕ → Option ℕ) → (ℕ → Bool) → ExprFolds (FormPart × Bool) (Place × Access) (Part × Bool)
limited_exprs globals locals sizes declared =
    expr_folds (lowered_exprs globals.pointers) (expr_fold (form_names_only globals locals sizes declared) (target_access globals locals sizes declared) (inner_names_only globals locals sizes declared))

abbrev pub limited_stmts : Globals → ℕ → (ℕ → Option ℕ) → Bool → StmtFolds (Placed × Scope) (LoweredArm × ArmScope)
limited_stmts globals locals sizes void = stmt_folds (lowered_stmts globals.pointers locals sizes void) (stmt_fold (stmt_scope_layer globals locals sizes) (arm_scope_layer globals locals sizes))

-- ---- short names over a function

-- statements in turn, and arms, as they are lowered
pub record Sequences : Type 0 where
  pub lowered : List Stmt → Placed
  pub arms_lowered : List Arm → List LoweredArm

abbrev pub sequences : (pointers : List ℕ) → ℕ → (ℕ → Option ℕ) → Bool → Sequences
sequences pointers locals sizes void = record {
  lowered = λ body. in_sequence locals (map (lower_stmt pointers locals sizes void) body);
  arms_lowered = λ arms. map (lower_arm pointers locals sizes void) arms;
}

-- what is asked of statements, and of an expression where some locals are declared
pub record Limits : Type 0 where
  pub scopes : List Stmt → List Scope
  pub within : (ℕ → Bool) → Expr → Bool

abbrev pub limits_of : Globals → ℕ → (ℕ → Option ℕ) → Limits
limits_of globals locals sizes = record { scopes = λ body. map (stmt_scope globals locals sizes) body; within = is_within globals locals sizes }
