-- That a local is named only where it is declared (C11 6.2.1): no control comes to a name but through its declaration.
use Rattle.std.specs.Prelude.{ℕ, Bool, true, ◌&&◌, ◌||◌, List, [], ◌∷◌, map, Option, Some, None, nat_eq}
use Rattle.mv_ast.specs.declared.program.Expr.{Expr, Expr-F, fold-Expr}
use Rattle.mv_ast.specs.declared.program.Form.{Form, Form-F, fold-Form}
use Rattle.mv_ast.specs.declared.program.Form.TheOpen as form
use Rattle.mv_ast.specs.declared.program.Target.{Target, Target-F, fold-Target}
use Rattle.mv_ast.specs.declared.program.Stmt.{Stmt, Stmt-F, fold-Stmt}
use Rattle.mv_ast.specs.declared.program.Stmt.TheOpen as stmt
use Rattle.mv_ast.specs.declared.program.Arm.{Arm, Arm-F, fold-Arm}
use Rattle.mv_ast.specs.Layers.{form_parts}
use Rattle.mv_source_forms.specs.Lists.{all_of}

-- the locals that are declared
abbrev pub Scope : Type 0
Scope = ℕ → Bool

abbrev pub with_local : ℕ → Scope → Scope
with_local l scope k = nat_eq k l || scope k

abbrev pub with_declared : Option ℕ → Scope → Scope
with_declared None scope = scope
with_declared (Some l) scope = with_local l scope

-- ---- expressions

abbrev pub form_in : Form-F Bool Bool Bool → Bool
form_in f = all_of (form_parts f)

abbrev pub target_in : Scope → Target-F Bool Bool Bool → Bool
target_in scope (form.Global g) = true
target_in scope (form.Local l) = scope l
target_in scope (form.GlobalAt g e) = e
target_in scope (form.LocalAt l e) = scope l && e

abbrev pub layer_in : Expr-F Bool Bool Bool → Bool
layer_in e = e.what

-- whether the locals that an expression names are declared
abbrev pub names_declared : Scope → Expr → Bool
names_declared scope = fold-Expr Bool Bool Bool form_in (target_in scope) layer_in

abbrev pub form_names_declared : Scope → Form → Bool
form_names_declared scope = fold-Form Bool Bool Bool form_in (target_in scope) layer_in

abbrev pub target_names_declared : Scope → Target → Bool
target_names_declared scope = fold-Target Bool Bool Bool form_in (target_in scope) layer_in

abbrev pub option_declared : Scope → Option Expr → Bool
option_declared scope None = true
option_declared scope (Some e) = names_declared scope e

-- ---- statements

-- the local that a statement declares, and whether the locals that it names are declared
pub record Scoped : Type 0 where
  pub declares : Option ℕ
  pub holds : Scope → Bool

-- of statements in order, each of which stands in the scope of those before it
abbrev pub all_scoped : List Scoped → Scope → Bool
all_scoped [] scope = true
all_scoped (s ∷ ss) scope = s.holds scope && all_scoped ss (with_declared s.declares scope)

abbrev pub scope_behind : List Scoped → Scope → Scope
scope_behind [] scope = scope
scope_behind (s ∷ ss) scope = scope_behind ss (with_declared s.declares scope)

abbrev pub plainly : (Scope → Bool) → Scoped
plainly holds = record { declares = None; holds = holds }

-- the values of a declared local may name it
abbrev pub scoped_layer : Stmt-F Scoped (Scope → Bool) → Scoped
scoped_layer (stmt.Block body) = plainly (all_scoped body)
scoped_layer (stmt.Clear l values) = record { declares = Some l; holds = λ scope. all_of (map (names_declared (with_local l scope)) values) }
scoped_layer (stmt.Express e) = plainly (λ scope. names_declared scope e)
scoped_layer (stmt.If e yes_part no_part) = plainly (λ scope. names_declared scope e && (all_scoped yes_part scope && all_scoped no_part scope))
scoped_layer (stmt.While e body) = plainly (λ scope. names_declared scope e && all_scoped body scope)
scoped_layer (stmt.Do body e) = plainly (λ scope. names_declared scope e && all_scoped body scope)
scoped_layer (stmt.For first test step body) = plainly (λ scope.
    let inner = scope_behind first scope in
    all_scoped first scope && (option_declared inner test && (option_declared inner step && all_scoped body inner)))
scoped_layer (stmt.Switch e arms) = plainly (λ scope. names_declared scope e && all_of (map (λ a. a scope) arms))
scoped_layer stmt.Break = plainly (λ scope. true)
scoped_layer stmt.Continue = plainly (λ scope. true)
scoped_layer (stmt.Return e) = plainly (λ scope. option_declared scope e)

abbrev pub arm_scoped_layer : Arm-F Scoped (Scope → Bool) → Scope → Bool
arm_scoped_layer a = all_scoped a.body

abbrev pub stmt_scoped : Stmt → Scoped
stmt_scoped = fold-Stmt Scoped (Scope → Bool) scoped_layer arm_scoped_layer

abbrev pub arm_scoped : Arm → Scope → Bool
arm_scoped = fold-Arm Scoped (Scope → Bool) scoped_layer arm_scoped_layer
