-- Which objects an expression names.
use Rattle.std.specs.Prelude.{ℕ, Bool, false, ◌||◌, List, [], ◌∷◌, nat_eq}
use Rattle.mv_ast.specs.declared.program.Expr.{Expr, Expr-F, fold-Expr}
use Rattle.mv_ast.specs.declared.program.Form.{Form-F}
use Rattle.mv_ast.specs.declared.program.Form.TheOpen as form
use Rattle.mv_ast.specs.declared.program.Target.{Target, Target-F, fold-Target}
use Rattle.mv_ast.specs.Layers.{form_parts, target_parts}

-- whether one of them holds
abbrev pub any_of : List Bool → Bool
any_of [] = false
any_of (b ∷ bs) = b || any_of bs

-- whether a target is this local or an element of it
abbrev pub is_local : {A B C : Type 0} → ℕ → Target-F A B C → Bool
is_local l (form.Global g) = false
is_local l (form.Local m) = nat_eq m l
is_local l (form.GlobalAt g e) = false
is_local l (form.LocalAt m e) = nat_eq m l

abbrev pub form_names : Form-F Bool Bool Bool → Bool
form_names f = any_of (form_parts f)

abbrev pub target_names : ℕ → Target-F Bool Bool Bool → Bool
target_names l t = is_local l t || any_of (target_parts t)

abbrev pub inner_names : Expr-F Bool Bool Bool → Bool
inner_names e = e.what

-- whether the name of this local stands in an expression
abbrev pub names_local : ℕ → Expr → Bool
names_local l = fold-Expr Bool Bool Bool form_names (target_names l) inner_names

-- whether the name of this local stands in an lvalue
abbrev pub target_names_local : ℕ → Target → Bool
target_names_local l = fold-Target Bool Bool Bool form_names (target_names l) inner_names
