-- What is asked of a function so that its code is well formed and whole: what its statements name is there, each local is named
-- where it is declared, and no call has more than eight arguments.
use Rattle.std.specs.Prelude.{ℕ, ◌<◌, ◌≤◌, ◌≡◌, Bool, true, false, cond, not, ◌&&◌, List, [], ◌∷◌, map, length, Option, Some, None, nat_eq, nat_lt}
use Rattle.mv_ast.specs.declared.program.Function.{Function}
use Rattle.mv_ast.specs.declared.program.Program.{Program}
use Rattle.mv_ast.specs.declared.program.Expr.{Expr, Expr-F, fold-Expr}
use Rattle.mv_ast.specs.declared.program.Form.{Form-F}
use Rattle.mv_ast.specs.declared.program.Form.TheOpen as form
use Rattle.mv_ast.specs.declared.program.Target.{Target, Target-F, fold-Target}
use Rattle.mv_ast.specs.declared.program.Stmt.{Stmt, Stmt-F, fold-Stmt}
use Rattle.mv_ast.specs.declared.program.Stmt.TheOpen as stmt
use Rattle.mv_ast.specs.declared.program.Arm.{Arm, Arm-F, fold-Arm}
use Rattle.mv_num.specs.Lists.{is_among}
use Rattle.mv_ast.specs.Names.{any_of, names_local}
use Rattle.mv_ir.specs.WellFormed.{known_arguments}
use Rattle.mv_source_forms.specs.Lists.{all_of}
use Rattle.mv_source_forms.specs.Names.{is_scalar, size_in}
use Rattle.mv_source_forms.specs.Jumps.{all_jump, stmt_jumps}
use Rattle.mv_source_forms.specs.Scopes.{with_local}

-- ---- globals

-- Sets of globals: those that are there, and of these the scalars and the arrays that may be read. A pointer switch that may be read may be called through,
-- which reads it as an array of one element.
pub record Globals : Type 0 where
  pub there : ℕ → Bool
  pub scalars : ℕ → Bool
  pub arrays : ℕ → Bool
  pub pointers : List ℕ
  pub called : (g : ℕ) → is_among g pointers ≡ true → scalars g ≡ true → (there g ≡ true) × (arrays g ≡ true)

-- ---- expressions

-- whether a place may be read, and whether it may be stored to
pub record Access : Type 0 where
  pub read : Bool
  pub stored : Bool

module _ (globals : Globals) (locals : ℕ) (sizes : ℕ → Option ℕ) (declared : ℕ → Bool) where
  -- a local is named where it is declared, as the scalar or the array that it is
  abbrev pub local_access : Bool → ℕ → Bool
  local_access is_like l = nat_lt l locals && (declared l && is_like)

  abbrev pub target_access : Target-F Bool Access Bool → Access
  target_access (form.Global g) = record { read = globals.scalars g; stored = globals.there g }
  target_access (form.Local l) = record { read = local_access (is_scalar (sizes l)) l; stored = local_access (is_scalar (sizes l)) l }
  target_access (form.GlobalAt g e) = record { read = globals.there g && (globals.arrays g && e); stored = globals.there g && e }
  target_access (form.LocalAt l e) = record { read = local_access (not (is_scalar (sizes l))) l && e; stored = local_access (not (is_scalar (sizes l))) l && e }

  abbrev pub form_names_only : Form-F Bool Access Bool → Bool
  form_names_only (form.Number n) = true
  form_names_only (form.Read target) = target.read
  form_names_only (form.Function f) = true
  form_names_only (form.Unary op a) = a
  form_names_only (form.Binary op a b) = a && b
  form_names_only (form.Both a b) = a && b
  form_names_only (form.Either a b) = a && b
  form_names_only (form.Choose c a b) = c && (a && b)
  form_names_only (form.Convert a) = a
  form_names_only (form.Set target a) = target.stored && a
  form_names_only (form.Change op kind target a) = target.read && (target.stored && a)
  form_names_only (form.After up target) = target.read && target.stored
  form_names_only (form.Direct f args) = nat_lt (length args) 9 && all_of args
  form_names_only (form.Through args f) = nat_lt (length args) 9 && (all_of args && f)
  form_names_only (form.Known k args) = nat_eq (length args) (known_arguments k) && all_of args

  abbrev pub inner_names_only : Expr-F Bool Access Bool → Bool
  inner_names_only e = e.what

  abbrev pub target_is_within : Target → Access
  target_is_within = fold-Target Bool Access Bool form_names_only target_access inner_names_only

  -- whether an expression names only what is there and declared, reads only globals of these sets, and calls with arguments that fit
  abbrev pub is_within : Expr → Bool
  is_within = fold-Expr Bool Access Bool form_names_only target_access inner_names_only

-- by short names, where some locals are declared
pub record Asking : Type 0 where
  pub within : Expr → Bool
  pub place : Target → Access

abbrev pub asking : Globals → ℕ → (ℕ → Option ℕ) → (ℕ → Bool) → Asking
asking globals locals sizes declared = record { within = is_within globals locals sizes declared; place = target_is_within globals locals sizes declared }

-- ---- statements

-- Whether a statement is within these limits, where these locals are declared, and which are declared behind it.
pub record Scope : Type 0 where
  pub within : (ℕ → Bool) → Bool
  pub behind : (ℕ → Bool) → ℕ → Bool

-- of a list, in which what is declared stays so up to its end
abbrev pub all_within : List Scope → (ℕ → Bool) → Bool
all_within [] declared = true
all_within (s ∷ ss) declared = s.within declared && all_within ss (s.behind declared)

abbrev pub all_behind : List Scope → (ℕ → Bool) → ℕ → Bool
all_behind [] declared = declared
all_behind (s ∷ ss) declared = all_behind ss (s.behind declared)

-- an arm's statements
abbrev pub ArmScope : Type 0
ArmScope = (ℕ → Bool) → Bool

abbrev pub arms_within : List ArmScope → (ℕ → Bool) → Bool
arms_within [] declared = true
arms_within (a ∷ arms) declared = a declared && arms_within arms declared

-- a statement that declares nothing
abbrev pub declaring_nothing : ((ℕ → Bool) → Bool) → Scope
declaring_nothing within = record { within = within; behind = λ declared. declared }

module _ (globals : Globals) (locals : ℕ) (sizes : ℕ → Option ℕ) where
  abbrev pub all_exprs_within : List Expr → (ℕ → Bool) → Bool
  all_exprs_within [] declared = true
  all_exprs_within (e ∷ es) declared = is_within globals locals sizes declared e && all_exprs_within es declared

  abbrev pub optional_within : Option Expr → (ℕ → Bool) → Bool
  optional_within None declared = true
  optional_within (Some e) declared = is_within globals locals sizes declared e

  -- a declared local may be named by its own first values
  abbrev pub stmt_scope_layer : Stmt-F Scope ArmScope → Scope
  stmt_scope_layer (stmt.Block body) = declaring_nothing (λ d. all_within body d)
  stmt_scope_layer (stmt.Clear l values) = record {
    within = λ d. nat_lt l locals && all_exprs_within values (cond (any_of (map (names_local l) values)) (with_local l d) d);
    behind = with_local l;
  }
  stmt_scope_layer (stmt.Express e) = declaring_nothing (λ d. is_within globals locals sizes d e)
  stmt_scope_layer (stmt.If e a b) = declaring_nothing (λ d. is_within globals locals sizes d e && (all_within a d && all_within b d))
  stmt_scope_layer (stmt.While e body) = declaring_nothing (λ d. is_within globals locals sizes d e && all_within body d)
  stmt_scope_layer (stmt.Do body e) = declaring_nothing (λ d. is_within globals locals sizes d e && all_within body d)
  stmt_scope_layer (stmt.For first test step body) = declaring_nothing (λ d.
      all_within first d &&
      (optional_within test (all_behind first d) && (optional_within step (all_behind first d) && all_within body (all_behind first d))))
  stmt_scope_layer (stmt.Switch e arms) = declaring_nothing (λ d. is_within globals locals sizes d e && arms_within arms d)
  stmt_scope_layer stmt.Break = declaring_nothing (λ d. true)
  stmt_scope_layer stmt.Continue = declaring_nothing (λ d. true)
  stmt_scope_layer (stmt.Return e) = declaring_nothing (optional_within e)

  abbrev pub arm_scope_layer : Arm-F Scope ArmScope → ArmScope
  arm_scope_layer a = all_within a.body

  abbrev pub stmt_scope : Stmt → Scope
  stmt_scope = fold-Stmt Scope ArmScope stmt_scope_layer arm_scope_layer

  abbrev pub arm_scope : Arm → ArmScope
  arm_scope = fold-Arm Scope ArmScope stmt_scope_layer arm_scope_layer

-- ---- functions

abbrev pub scopes_of : Globals → Function → List Scope
scopes_of globals g = map (stmt_scope globals (length g.locals) (size_in g.locals)) g.body

-- A function whose statements name only what is there, and read only globals of these sets. Its parameters are declared.
pub record IsAsked (p : Program) (globals : Globals) (g : Function) : Type 0 where
  pub params : g.params ≤ 8
  pub params_are_locals : g.params ≤ length g.locals
  pub params_are_scalars : (l : ℕ) → l < g.params → is_scalar (size_in g.locals l) ≡ true
  pub there : (k : ℕ) → globals.there k ≡ true → k < length p.globals
  pub scalars : (k : ℕ) → globals.scalars k ≡ true → k < length p.globals
  pub within : all_within (scopes_of globals g) (λ l. nat_lt l g.params) ≡ true
  pub jumps : all_jump (map stmt_jumps g.body) false false ≡ true
