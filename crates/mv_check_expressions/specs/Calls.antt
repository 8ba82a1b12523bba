-- Calls (C11 6.5.2.2).
use Rattle.std.specs.Prelude.{ℕ, Bool, true, ◌&&◌, nat_eq, nat_lt, if◌then◌else◌, List, [], ◌∷◌, length, Option, Some, None, slice_get}
use Rattle.mv_ast.specs.declared.program.CType.{CType}
use Rattle.mv_ast.specs.declared.program.CType.TheVariants.{Void, Pointer}
use Rattle.mv_ast.specs.declared.program.Signature.{Signature}
use Rattle.mv_ast.specs.declared.program.Known.{Known}
use Rattle.mv_ast.specs.declared.program.Known.TheVariants as known
use Rattle.mv_ast.specs.declared.program.Expr.{Expr}
use Rattle.mv_ast.specs.declared.program.Form.{Form, Form-F, out-Form}
use Rattle.mv_ast.specs.declared.program.Form.TheVariants as form
use Rattle.mv_ast.specs.declared.program.Form.TheOpen as open_form
use Rattle.mv_ast.specs.declared.program.Target.{Target}
use Rattle.mv_bindings.specs.OrderNumbers as orders
use Rattle.mv_check_scope.specs.Conversions.{int, typed, is_pointer, converted_to}
use Rattle.mv_check_scope.specs.Constants.{converts}
use Rattle.mv_check_expressions.specs.declared.seen.Seen.{Seen}
use Rattle.mv_check_expressions.specs.declared.seen.Seen.TheVariants as seen
use Rattle.mv_check_expressions.specs.declared.seen.Use.{Use}
use Rattle.mv_check_expressions.specs.declared.seen.Use.TheVariants as «use»
use Rattle.mv_check_expressions.specs.Seen.{value_of, type_of, number_or_zero}

-- ---- what is called

abbrev pub pointed : List Signature → CType → Option Signature
pointed signatures (Pointer s) = slice_get signatures s
pointed signatures _ = None

abbrev pub params_of : Option Signature → List CType
params_of None = []
params_of (Some s) = s.params

abbrev pub result_of : Option Signature → CType
result_of None = Void
result_of (Some s) = s.result

-- what the values of a known function's arguments convert to
abbrev pub known_params : Known → List CType
known_params known.Putchar = int ∷ []
known_params _ = []

-- the commit and revert of one function, of a switch's functions and of a pointer switch name it
abbrev pub known_arity : Known → ℕ
known_arity known.Getchar = 0
known_arity known.Putchar = 1
known_arity known.Poll = 0
known_arity (known.Plan code index) = if nat_lt code orders.commit_function then 0 else 1

-- what the arguments are used as
abbrev pub planned_use : ℕ → Use
planned_use code =
    if nat_lt code orders.commit_function then «use».Value else if nat_lt code orders.commit_references then «use».Function else «use».Switch

abbrev pub argument_use : Seen → Use
argument_use (seen.Known (known.Plan code index)) = planned_use code
argument_use _ = «use».Value

abbrev pub callee_params : List Signature → Seen → List CType
callee_params signatures (seen.Known k) = known_params k
callee_params signatures x = params_of (pointed signatures (type_of x))

-- whether it is a function or a pointer to one, and takes this number of arguments
abbrev pub takes_count : List Signature → Seen → ℕ → Bool
takes_count signatures (seen.Known k) n = nat_eq n (known_arity k)
takes_count signatures x n = is_pointer (type_of x) && nat_eq n (length (params_of (pointed signatures (type_of x))))

-- ---- its arguments

-- the values of arguments, each converted to its parameter's type
abbrev pub passed : List CType → List Seen → List Expr
passed ts [] = []
passed [] (a ∷ args) = []
passed (t ∷ ts) (a ∷ args) = converted_to t (value_of a) ∷ passed ts args

abbrev pub all_convert : List CType → List Seen → Bool
all_convert ts [] = true
all_convert [] (a ∷ args) = true
all_convert (t ∷ ts) (a ∷ args) = converts (value_of a) t && all_convert ts args

-- the number that the argument of a commit or revert names
abbrev pub named_index : List Seen → ℕ
named_index (seen.Function f ∷ args) = number_or_zero f.attributed
named_index (seen.Switch s ∷ args) = s
named_index _ = 0

-- ---- the call

-- the function whose name an expression is, if it is one
abbrev pub function_form : Form-F Form Target Expr → Option ℕ
function_form (open_form.Function f) = Some f
function_form _ = None

abbrev pub direct_or_through : Option ℕ → Expr → List Expr → Form
direct_or_through None callee args = form.Through args callee
direct_or_through (Some f) callee args = form.Direct f args

abbrev pub named_function : Expr → Option ℕ
named_function e = function_form (out-Form e.what)

abbrev pub with_index : Known → ℕ → Known
with_index (known.Plan code unknown) index = known.Plan code index
with_index k index = k

-- the call of what an expression is, with the number that its argument names and the converted values
unfoldable pub called_with : List Signature → Seen → ℕ → List Expr → Expr
called_with signatures (seen.Known k) index values = typed int (form.Known (with_index k index) values)
called_with signatures x index values =
    typed (result_of (pointed signatures (type_of x))) (direct_or_through (named_function (value_of x)) (value_of x) values)

abbrev pub call_of : List Signature → Seen → List Seen → Expr
call_of signatures x args = called_with signatures x (named_index args) (passed (callee_params signatures x) args)
