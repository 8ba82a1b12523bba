-- The nodes of declarations and statements, each as it is found where no part of it breaks a rule. Expressions have nodes of their own.
use Rattle.std.specs.Prelude.{ℕ, Bool, List, Option}
use Rattle.mv_num.specs.declared.kind.Kind.{Kind}
use Rattle.mv_ast.specs.declared.program.CType.{CType}
use Rattle.mv_ast.specs.declared.program.Expr.{Expr}
use Rattle.mv_check_expressions.specs.declared.constant.Constant.{Constant}

-- ---- declarations

-- what a name is declared to be; an array has the constant that is written as its size
pub data Declared : Type 0 where
  Scalar : CType → (constant : Bool) → Declared
  Array : CType → (constant : Bool) → (size : Option Constant) → Declared
  Function : (signature : ℕ) → Declared

-- what a declarator is given as its initial value
pub data Given : Type 0 where
  Nothing : Given
  Value : Expr → Given
  Values : List Expr → Given
  Characters : List ℕ → Given

-- an enum among specifiers: a tag that isn't declared, a tag that its scope has with a list already, or an enumeration, by its number
pub data Enumeration : Type 0 where
  Undeclared : Enumeration
  Again : Enumeration
  Numbered : Option ℕ → Enumeration

-- what an attribute stands on
pub data Bearer : Type 0 where
  Switch : Bearer
  PointerSwitch : Bearer
  Function : Bearer
  Main : Bearer
  Array : Bearer
  ConstantObject : Bearer
  LocalObject : Bearer
  Parameter : Bearer

-- an object of the unit, by its declarations so far: its first words where one of them gives an initial value, its domain where one has an attribute
pub record Global : Type 0 where
  pub name : List ℕ
  pub ctype : CType
  pub size : Option ℕ
  pub words : Option (List ℕ)
  pub domain : Option (List ℕ)

-- ---- nodes

pub data Node : Type 0 where
  -- an expression where a constant is needed, by its value if it is one
  Needed : Option ℕ → Node
  -- an enumerator, by the `int` that it is if it is one
  Enumerator : (name : List ℕ) → Option ℕ → Node
  -- a value of the domain of a switch of a type, behind other values
  DomainValue : Kind → (before : List ℕ) → Constant → Node
  -- an attribute; another may hold already for what it stands on
  Attribute : List Bearer → (again valued : Bool) → Node
  -- the specifiers of a declaration: whether `static` is misplaced among them, the enums, and the type that words and enums name
  Specifiers : (misplaced : Bool) → List Enumeration → Option CType → Node
  -- a parameter of a function's type, or of a function that is defined
  Parameter : (defined : Bool) → (name : Option (List ℕ)) → Declared → Node
  -- a declarator in a block
  Local : (name : List ℕ) → Declared → Given → Node
  -- a declarator of an object at file scope, the domain that its attribute gives it, what is declared of the object already, and whether a block follows
  Object : (name : List ℕ) → Declared → Given → (domain : Option (List ℕ)) → (earlier : Option Global) → (block : Bool) → Node
  -- a declarator of a function at file scope, and whether the function is defined already, an initial value is given, a block follows
  Routine : (name : List ℕ) → (signature : ℕ) → (defined given block : Bool) → Node
  -- a declarator without a name that isn't a parameter's
  Nameless : Node
  -- a declaration at file scope, and whether it declares nothing
  Declaration : (empty : Bool) → Node
  -- a declaration or a label where none may stand
  Misplaced : Node
  -- `case` in a `switch` on a value of a type, behind the labels of other cases
  Case : CType → (before : List ℕ) → Constant → Node
  -- `default`, and whether its `switch` has another
  Default : (again : Bool) → Node
  -- `switch` on a value of a type, and whether its body is a block
  Switch : CType → (block : Bool) → Node
  -- `break`, and whether something around it can be left
  Break : (inside : Bool) → Node
  -- `continue`, and whether there is a loop around it
  Continue : (inside : Bool) → Node
  -- `return` in a function with a result
  Return : (result : CType) → Option Expr → Node
  -- the end of a unit, and the number of its `main`
  End : Option ℕ → Node
