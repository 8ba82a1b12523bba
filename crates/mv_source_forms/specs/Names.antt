-- What expressions and statements name is there, as what they take it for.
use Rattle.std.specs.Prelude.{ℕ, Bool, true, false, ◌&&◌, ◌||◌, List, map, length, Option, Some, None, nat_eq, nat_lt, nat_le, not, slice_get}
use Rattle.mv_ast.specs.declared.program.CType.{CType}
use Rattle.mv_ast.specs.declared.program.Program.{Program}
use Rattle.mv_ast.specs.declared.program.Global.{Global}
use Rattle.mv_ast.specs.declared.program.Local.{Local}
use Rattle.mv_ast.specs.declared.program.Function.{Function}
use Rattle.mv_ast.specs.declared.program.Expr.{Expr, Expr-F, fold-Expr}
use Rattle.mv_ast.specs.declared.program.Form.{Form, Form-F, fold-Form}
use Rattle.mv_ast.specs.declared.program.Form.TheOpen as form
use Rattle.mv_ast.specs.declared.program.Target.{Target, Target-F, fold-Target}
use Rattle.mv_ast.specs.declared.program.Stmt.{Stmt, Stmt-F, fold-Stmt}
use Rattle.mv_ast.specs.declared.program.Stmt.TheOpen as stmt
use Rattle.mv_ast.specs.declared.program.Arm.{Arm, Arm-F, fold-Arm}
use Rattle.mv_ast.specs.Counts.{words_of_size}
use Rattle.mv_ast.specs.Names.{any_of, names_local}
use Rattle.mv_bindings.specs.Bindings.{same_truth}
use Rattle.mv_num.specs.Lists.{is_among}
use Rattle.mv_ast.specs.Switches.{switch_global}
use Rattle.mv_source_forms.specs.Lists.{all_of}
pub use Rattle.mv_ast.specs.Types.{is_void}

-- ---- what there is

abbrev pub size_of_local : Option Local → Option ℕ
size_of_local None = None
size_of_local (Some l) = l.size

-- the size of a local, by its number, where it is an array
abbrev pub size_in : List Local → ℕ → Option ℕ
size_in locals l = size_of_local (slice_get locals l)

abbrev pub takes : Option Function → ℕ → Bool → Bool
takes None n void = false
takes (Some g) n void = nat_eq g.params n && same_truth (is_void g.result) void

-- whether a number is that of a function with so many parameters, which is void or not
abbrev pub is_callable : Program → ℕ → ℕ → Bool → Bool
is_callable p f n void = takes (slice_get p.functions f) n void

abbrev pub words_of_global : Option Global → ℕ
words_of_global None = 0
words_of_global (Some g) = words_of_size g.size

-- how many words a global has
abbrev pub global_words : Program → ℕ → ℕ
global_words p g = words_of_global (slice_get p.globals g)

abbrev pub is_scalar : Option ℕ → Bool
is_scalar None = true
is_scalar (Some n) = false

-- whether a global is one of a function's switches
abbrev pub is_own_switch : Program → Option Function → ℕ → Bool
is_own_switch p None g = false
is_own_switch p (Some f) g = is_among g (map (switch_global p) f.switches)

module _ (p : Program) (function locals : ℕ) (sizes : ℕ → Option ℕ) (free : ℕ → Bool) where
  -- a local is named as the scalar or the array that it is, and none that is being declared, and no switch of the function nor a pointer switch as an array
  abbrev pub names_target : Target-F (CType → Bool) Bool Bool → Bool
  names_target (form.Global g) = true
  names_target (form.Local l) = nat_lt l locals && (free l && is_scalar (sizes l))
  names_target (form.GlobalAt g e) = not (is_own_switch p (slice_get p.functions function) g) && (not (is_among g p.pointers) && e)
  names_target (form.LocalAt l e) = nat_lt l locals && (free l && (not (is_scalar (sizes l)) && e))

  -- a called function takes as many arguments, and is void where the call is
  abbrev pub names_form : Form-F (CType → Bool) Bool Bool → CType → Bool
  names_form (form.Number n) t = true
  names_form (form.Read target) t = target
  names_form (form.Function f) t = true
  names_form (form.Unary op a) t = a
  names_form (form.Binary op a b) t = a && b
  names_form (form.Both a b) t = a && b
  names_form (form.Either a b) t = a && b
  names_form (form.Choose c a b) t = c && (a && b)
  names_form (form.Convert a) t = a
  names_form (form.Set target a) t = target && a
  names_form (form.Change op kind target a) t = target && a
  names_form (form.After up target) t = target
  names_form (form.Direct f args) t = is_callable p f (length args) (is_void t) && all_of args
  names_form (form.Through args f) t = all_of args && f
  names_form (form.Known k args) t = all_of args

  abbrev pub names_layer : Expr-F (CType → Bool) Bool Bool → Bool
  names_layer e = e.what e.ctype

  abbrev pub form_is_well_named : Form → CType → Bool
  form_is_well_named = fold-Form (CType → Bool) Bool Bool names_form names_target names_layer

  abbrev pub target_is_well_named : Target → Bool
  target_is_well_named = fold-Target (CType → Bool) Bool Bool names_form names_target names_layer

  -- whether an expression names only what there is
  abbrev pub is_well_named : Expr → Bool
  is_well_named = fold-Expr (CType → Bool) Bool Bool names_form names_target names_layer

-- ---- statements

-- all locals but one
abbrev pub but_for : ℕ → ℕ → Bool
but_for l k = not (nat_eq k l)

module _ (p : Program) (function locals : ℕ) (sizes : ℕ → Option ℕ) (void : Bool) where
  abbrev pub named : Expr → Bool
  named = is_well_named p function locals sizes (λ l. true)

  abbrev pub named_option : Option Expr → Bool
  named_option None = true
  named_option (Some e) = named e

  -- A statement's expressions name what there is; a declared local has a word for each value, and a value that doesn't name the local itself
  -- names what else there is; a function returns a value where it isn't void.
  abbrev pub stmt_named_layer : Stmt-F Bool Bool → Bool
  stmt_named_layer (stmt.Block body) = all_of body
  stmt_named_layer (stmt.Clear l values) =
      nat_lt l locals && (nat_le (length values) (words_of_size (sizes l)) && (all_of (map named values) &&
      (any_of (map (names_local l) values) || all_of (map (is_well_named p function locals sizes (but_for l)) values))))
  stmt_named_layer (stmt.Express e) = named e
  stmt_named_layer (stmt.If e a b) = named e && (all_of a && all_of b)
  stmt_named_layer (stmt.While e body) = named e && all_of body
  stmt_named_layer (stmt.Do body e) = named e && all_of body
  stmt_named_layer (stmt.For first test step body) = all_of first && (named_option test && (named_option step && all_of body))
  stmt_named_layer (stmt.Switch e arms) = named e && all_of arms
  stmt_named_layer stmt.Break = true
  stmt_named_layer stmt.Continue = true
  stmt_named_layer (stmt.Return None) = void
  stmt_named_layer (stmt.Return (Some e)) = not void && named e

  abbrev pub arm_named_layer : Arm-F Bool Bool → Bool
  arm_named_layer a = all_of a.body

  abbrev pub stmt_is_well_formed : Stmt → Bool
  stmt_is_well_formed = fold-Stmt Bool Bool stmt_named_layer arm_named_layer

  abbrev pub arm_is_well_formed : Arm → Bool
  arm_is_well_formed = fold-Arm Bool Bool stmt_named_layer arm_named_layer
