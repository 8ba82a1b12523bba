-- Well-typed programs (C11 6.5 to 6.8): the facts about types by which integers and function pointers are told apart.
use Rattle.std.specs.Prelude.{◌≡◌, ℕ, suc, All, ◌⊎◌, List, map, take, Option, Some, None, slice_get}
use Rattle.mv_ast.specs.declared.program.CType.{CType}
use Rattle.mv_ast.specs.declared.program.CType.TheVariants.{Void, Scalar, Pointer}
use Rattle.mv_ast.specs.declared.program.Program.{Program}
use Rattle.mv_ast.specs.declared.program.Signature.{Signature}
use Rattle.mv_ast.specs.declared.program.Switch.{Switch}
use Rattle.mv_ast.specs.declared.program.Function.{Function}
use Rattle.mv_ast.specs.declared.program.Expr.{Expr, every-Expr}
use Rattle.mv_ast.specs.declared.program.Form.{Form, Form-F, out-Form}
use Rattle.mv_ast.specs.declared.program.Form.TheOpen as form
use Rattle.mv_ast.specs.declared.program.Target.{Target, Target-F, out-Target}
use Rattle.mv_ast.specs.declared.program.Stmt.{Stmt, Stmt-F, every-Stmt}
use Rattle.mv_ast.specs.declared.program.Stmt.TheOpen as stmt
use Rattle.mv_ast.specs.declared.program.Arm.{Arm}
use Rattle.mv_ast.specs.Worlds.{World, Came}
use Rattle.mv_meaning.specs.declared.state.Frame.{Frame}
use Rattle.mv_meaning.specs.Meaning.{Context, value_of}

-- ---- types

abbrev pub IsInteger : CType → Type 0
IsInteger Void = ⊥
IsInteger (Scalar kind) = Unit {0}
IsInteger (Pointer signature) = ⊥

-- the type environment: the types of the globals, and of the locals of a function, its parameters first
abbrev pub global_types : Program → List CType
global_types p = map (λ g. g.ctype) p.globals

abbrev pub local_types : Function → List CType
local_types f = map (λ l. l.ctype) f.locals

abbrev pub parameter_types : Function → List CType
parameter_types f = map (λ l. l.ctype) (take f.params f.locals)

abbrev pub types_of : List Expr → List CType
types_of es = map (λ e. e.ctype) es

-- a function of the program and its type, the signature with a number
pub record IsFunctionOf (p : Program) (s f : ℕ) : Type 0 where
  pub signature : Signature
  pub function : Function
  pub declared : slice_get p.signatures s ≡ Some signature
  pub defined : slice_get p.functions f ≡ Some function
  pub result : signature.result ≡ function.result
  pub parameters : signature.params ≡ parameter_types function

-- ---- expressions, each with the type that its node has (C11 6.5)

-- an lvalue is an object of a type, or an element of an array of such, with an integer for its index
abbrev pub LvalueHasType : Program → Function → CType → Target-F Form Target Expr → Type 0
LvalueHasType p f t (form.Global g) = slice_get (global_types p) g ≡ Some t
LvalueHasType p f t (form.Local l) = slice_get (local_types f) l ≡ Some t
LvalueHasType p f t (form.GlobalAt g i) = (slice_get (global_types p) g ≡ Some t) × IsInteger i.ctype
LvalueHasType p f t (form.LocalAt l i) = (slice_get (local_types f) l ≡ Some t) × IsInteger i.ctype

-- the only constant of a pointer type is null
abbrev pub IsConstantOf : CType → ℕ → Type 0
IsConstantOf Void n = Unit {0}
IsConstantOf (Scalar kind) n = Unit {0}
IsConstantOf (Pointer signature) n = n ≡ 0

-- `!` takes any operand, the other operators on one operand take integers
abbrev pub TakesOne : (op : ℕ) → CType → Type 0
TakesOne op t = IsInteger t ⊎ (op ≡ 11)

-- `==` and `!=` also take two function pointers of one type
abbrev pub TakesTwo : (op : ℕ) → CType → CType → Type 0
TakesTwo op s t = (IsInteger s × IsInteger t) ⊎ (((op ≡ 29) ⊎ (op ≡ 30)) × (signature : ℕ) × (s ≡ Pointer signature) × (t ≡ Pointer signature))

-- an expression comes to a value wherever it is evaluated, at some work, and does nothing else
pub record ComesTo (p : Program) (e : Expr) (v : ℕ) : Type 0 where
  pub work : ℕ
  pub value : (context : Context) (frame : Frame) (world : World) → value_of p context e frame world ≡ Came v frame world work

-- a null pointer constant (C11 6.3.2.3)
abbrev pub IsNull : Program → Expr → Type 0
IsNull p e = IsInteger e.ctype × ComesTo p e 0

-- An integer converts to an integer, everything to void, and a null pointer constant to a function pointer.
abbrev pub ConvertsTo : Program → CType → Expr → Type 0
ConvertsTo p Void a = Unit {0}
ConvertsTo p (Scalar kind) a = IsInteger a.ctype
ConvertsTo p (Pointer signature) a = (a.ctype ≡ Pointer signature) ⊎ IsNull p a

abbrev pub HasType : Program → Function → CType → Form-F Form Target Expr → Type 0
HasType p f t (form.Number n) = IsConstantOf t n
HasType p f t (form.Read target) = LvalueHasType p f t (out-Target target)
HasType p f t (form.Function g) = (s : ℕ) × (t ≡ Pointer s) × IsFunctionOf p s g
HasType p f t (form.Unary op a) = IsInteger t × TakesOne op a.ctype
HasType p f t (form.Binary op a b) = IsInteger t × TakesTwo op a.ctype b.ctype
HasType p f t (form.Both a b) = IsInteger t
HasType p f t (form.Either a b) = IsInteger t
HasType p f t (form.Choose c a b) = (a.ctype ≡ t) × (b.ctype ≡ t)
HasType p f t (form.Convert a) = ConvertsTo p t a
HasType p f t (form.Set target a) = LvalueHasType p f t (out-Target target) × (a.ctype ≡ t)
HasType p f t (form.Change op kind target a) = IsInteger t × IsInteger a.ctype × LvalueHasType p f t (out-Target target)
HasType p f t (form.After up target) = IsInteger t × LvalueHasType p f t (out-Target target)
HasType p f t (form.Direct g args) =
    (callee : Function) × (slice_get p.functions g ≡ Some callee) × (t ≡ callee.result) × (types_of args ≡ parameter_types callee)
HasType p f t (form.Through args callee) =
    (s : ℕ) × (signature : Signature) × (callee.ctype ≡ Pointer s) × (slice_get p.signatures s ≡ Some signature)
    × (t ≡ signature.result) × (types_of args ≡ signature.params)
HasType p f t (form.Known k args) = IsInteger t × All IsInteger (types_of args)

-- An expression in a function is well typed where each of its nodes has its type.
abbrev pub IsTypedExpr : Program → Function → Expr → Type 0
IsTypedExpr p f = every-Expr (λ what. Unit {0}) (λ target. Unit {0}) (λ e. HasType p f e.ctype (out-Form e.what))

-- a well-typed expression of a type
abbrev pub IsTypedAt : Program → Function → CType → Expr → Type 0
IsTypedAt p f t e = IsTypedExpr p f e × (e.ctype ≡ t)

abbrev pub IsTypedOption : Program → Function → Option Expr → Type 0
IsTypedOption p f None = Unit {0}
IsTypedOption p f (Some e) = IsTypedExpr p f e

-- ---- statements (C11 6.8)

-- what is returned has the function's result type
abbrev pub ReturnsTyped : Program → Function → Option Expr → Type 0
ReturnsTyped p f None = Unit {0}
ReturnsTyped p f (Some e) = IsTypedAt p f f.result e

abbrev pub HasTypedParts : Program → Function → Stmt-F Stmt Arm → Type 0
HasTypedParts p f (stmt.Block body) = Unit {0}
HasTypedParts p f (stmt.Clear l values) = (t : CType) × (slice_get (local_types f) l ≡ Some t) × All (IsTypedAt p f t) values
HasTypedParts p f (stmt.Express e) = IsTypedExpr p f e
HasTypedParts p f (stmt.If e yes_part no_part) = IsTypedExpr p f e
HasTypedParts p f (stmt.While e body) = IsTypedExpr p f e
HasTypedParts p f (stmt.Do body e) = IsTypedExpr p f e
HasTypedParts p f (stmt.For first test step body) = IsTypedOption p f test × IsTypedOption p f step
HasTypedParts p f (stmt.Switch e arms) = IsTypedExpr p f e × IsInteger e.ctype
HasTypedParts p f stmt.Break = Unit {0}
HasTypedParts p f stmt.Continue = Unit {0}
HasTypedParts p f (stmt.Return e) = ReturnsTyped p f e

-- A statement in a function is well typed where it and each statement in it has well-typed parts.
abbrev pub IsTypedStmt : Program → Function → Stmt → Type 0
IsTypedStmt p f = every-Stmt (HasTypedParts p f) (λ arm. Unit {0})

-- ---- programs (C11 6.7, 6.9)

-- a switch is a global integer
pub record IsIntegerSwitch (p : Program) (s : ℕ) : Type 0 where
  pub switch : Switch
  pub ctype : CType
  pub there : slice_get p.switches s ≡ Some switch
  pub global : slice_get (global_types p) switch.global ≡ Some ctype
  pub integer : IsInteger ctype

-- a pointer switch is a global function pointer
pub record IsPointerSwitch (p : Program) (g : ℕ) : Type 0 where
  pub signature : ℕ
  pub global : slice_get (global_types p) g ≡ Some (Pointer signature)

pub record IsTypedFunction (p : Program) (f : Function) : Type 0 where
  pub switches : All (IsIntegerSwitch p) f.switches
  pub body : All (IsTypedStmt p f) f.body

-- a first value of a function pointer is 0, or one more than the index of a function of its type
abbrev pub IsFirstValue : Program → CType → ℕ → Type 0
IsFirstValue p Void v = Unit {0}
IsFirstValue p (Scalar kind) v = Unit {0}
IsFirstValue p (Pointer s) v = (v ≡ 0) ⊎ ((f : ℕ) × (v ≡ suc f) × IsFunctionOf p s f)

-- `main` has no parameters and gives an integer (C11 5.1.2.2.1)
pub record HasTypedMain (p : Program) : Type 0 where
  pub main : Function
  pub defined : slice_get p.functions p.main ≡ Some main
  pub bare : main.params ≡ 0
  pub result : IsInteger main.result

-- A program is well typed where its functions, its pointer switches, the first values of its globals and its `main` are.
pub record IsTyped (p : Program) : Type 0 where
  pub functions : All (IsTypedFunction p) p.functions
  pub pointers : All (IsPointerSwitch p) p.pointers
  pub globals : All (λ g. All (IsFirstValue p g.ctype) g.first) p.globals
  pub entry : HasTypedMain p
