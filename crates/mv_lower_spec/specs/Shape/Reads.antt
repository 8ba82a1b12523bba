-- Which globals a function reads: a scalar where its value is taken, an array where an element's is. An assignment reads nothing of what it
-- stores to; a compound one, `++` and `--` read it (C11 6.5.16, 6.5.2.4).
use Rattle.std.specs.Prelude.{ℕ, Bool, false, ◌||◌, map, nat_eq}
use Rattle.mv_ast.specs.declared.program.Function.{Function}
use Rattle.mv_ast.specs.declared.program.Expr.{Expr, Expr-F, fold-Expr}
use Rattle.mv_ast.specs.declared.program.Form.{Form, Form-F, fold-Form}
use Rattle.mv_ast.specs.declared.program.Form.TheOpen as form
use Rattle.mv_ast.specs.declared.program.Target.{Target, Target-F, fold-Target}
use Rattle.mv_ast.specs.declared.program.Stmt.{Stmt, Stmt-F, fold-Stmt}
use Rattle.mv_ast.specs.declared.program.Arm.{Arm, Arm-F, fold-Arm}
use Rattle.mv_ast.specs.Layers.{stmt_parts, stmt_expressions}
use Rattle.mv_ast.specs.Names.{any_of}

-- an lvalue: whether it is one of the globals that are asked for, or an element of one, and whether its index reads one
pub record LvalueReads : Type 0 where
  pub itself : Bool
  pub index : Bool

-- the scalars and the arrays that are asked for
module _ (scalar array : ℕ → Bool) where
  abbrev pub lvalue_reads : Target-F Bool LvalueReads Bool → LvalueReads
  lvalue_reads (form.Global g) = record { itself = scalar g; index = false }
  lvalue_reads (form.Local l) = record { itself = false; index = false }
  lvalue_reads (form.GlobalAt g e) = record { itself = array g; index = e }
  lvalue_reads (form.LocalAt l e) = record { itself = false; index = e }

  abbrev pub reads_layer : Form-F Bool LvalueReads Bool → Bool
  reads_layer (form.Number n) = false
  reads_layer (form.Read target) = target.itself || target.index
  reads_layer (form.Function f) = false
  reads_layer (form.Unary op a) = a
  reads_layer (form.Binary op a b) = a || b
  reads_layer (form.Both a b) = a || b
  reads_layer (form.Either a b) = a || b
  reads_layer (form.Choose c a b) = c || (a || b)
  reads_layer (form.Convert a) = a
  reads_layer (form.Set target a) = target.index || a
  reads_layer (form.Change op kind target a) = (target.itself || target.index) || a
  reads_layer (form.After up target) = target.itself || target.index
  reads_layer (form.Direct f args) = any_of args
  reads_layer (form.Through args callee) = any_of args || callee
  reads_layer (form.Known k args) = any_of args

  abbrev pub inner_reads : Expr-F Bool LvalueReads Bool → Bool
  inner_reads e = e.what

  abbrev pub form_reads : Form → Bool
  form_reads = fold-Form Bool LvalueReads Bool reads_layer lvalue_reads inner_reads

  abbrev pub target_reads : Target → LvalueReads
  target_reads = fold-Target Bool LvalueReads Bool reads_layer lvalue_reads inner_reads

  -- whether an expression reads one of them
  abbrev pub expr_reads : Expr → Bool
  expr_reads = fold-Expr Bool LvalueReads Bool reads_layer lvalue_reads inner_reads

  abbrev pub stmt_reads_layer : Stmt-F Bool Bool → Bool
  stmt_reads_layer s = any_of (map expr_reads (stmt_expressions s)) || any_of (stmt_parts s)

  abbrev pub arm_reads_layer : Arm-F Bool Bool → Bool
  arm_reads_layer a = any_of a.body

  abbrev pub stmt_reads : Stmt → Bool
  stmt_reads = fold-Stmt Bool Bool stmt_reads_layer arm_reads_layer

  abbrev pub arm_reads : Arm → Bool
  arm_reads = fold-Arm Bool Bool stmt_reads_layer arm_reads_layer

  abbrev pub function_reads : Function → Bool
  function_reads g = any_of (map stmt_reads g.body)

abbrev pub none : ℕ → Bool
none k = false

-- whether a function reads a global scalar
abbrev pub reads_scalar : Function → ℕ → Bool
reads_scalar g k = function_reads (nat_eq k) none g

-- whether it reads an element of a global array
abbrev pub reads_array : Function → ℕ → Bool
reads_array g k = function_reads none (nat_eq k) g
