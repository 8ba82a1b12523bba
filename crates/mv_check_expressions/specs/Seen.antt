-- What an expression is found to be, and what is asked of it.
use Rattle.std.specs.Prelude.{ℕ, Bool, true, false, ◌||◌, not, if◌then◌else◌, is_none, is_some, Option, Some, None}
use Rattle.mv_ast.specs.declared.program.CType.{CType}
use Rattle.mv_ast.specs.declared.program.CType.TheVariants.{Void, Pointer}
use Rattle.mv_ast.specs.declared.program.Expr.{Expr}
use Rattle.mv_ast.specs.declared.program.Form.TheVariants as form
use Rattle.mv_ast.specs.declared.program.Target.{Target}
use Rattle.mv_ast.specs.declared.program.Target.TheVariants as target
use Rattle.mv_check_scope.specs.declared.meaning.Storage.{Storage}
use Rattle.mv_check_scope.specs.declared.meaning.Storage.TheVariants as storage
use Rattle.mv_check_scope.specs.declared.meaning.Elements.{Elements}
use Rattle.mv_check_scope.specs.declared.meaning.Variable.{Variable}
use Rattle.mv_check_scope.specs.declared.meaning.Meaning.{Meaning}
use Rattle.mv_check_scope.specs.declared.meaning.Meaning.TheVariants as meaning
use Rattle.mv_check_scope.specs.Conversions.{int, typed, is_void}
use Rattle.mv_check_expressions.specs.declared.seen.Object.{Object}
use Rattle.mv_check_expressions.specs.declared.seen.Seen.{Seen}
use Rattle.mv_check_expressions.specs.declared.seen.Seen.TheVariants as seen

abbrev pub object_at : Storage → Target
object_at (storage.Global g) = target.Global g
object_at (storage.Local l) = target.Local l

abbrev pub element_at : Storage → Expr → Target
element_at (storage.Global g) i = target.GlobalAt g i
element_at (storage.Local l) i = target.LocalAt l i

-- stands for the value of what has none
abbrev pub no_value : Expr
no_value = typed Void (form.Number 0)

abbrev pub number_or_zero : Option ℕ → ℕ
number_or_zero None = 0
number_or_zero (Some n) = n

-- a function's name is a pointer to it (C11 6.3.2.1)
abbrev pub value_of : Seen → Expr
value_of (seen.Value e) = e
value_of (seen.Object o) = typed o.ctype (form.Read o.target)
value_of (seen.Array elements) = no_value
value_of (seen.Function f) = typed (Pointer f.signature) (form.Function (number_or_zero f.number))
value_of (seen.Designator e) = e
value_of (seen.Known known) = no_value
value_of (seen.Switch s) = no_value

abbrev pub type_of : Seen → CType
type_of x = (value_of x).ctype

-- the array that an expression is, if it is one
abbrev pub array_of : Seen → Option Elements
array_of (seen.Array elements) = Some elements
array_of _ = None

abbrev pub is_array : Seen → Bool
is_array x = is_some (array_of x)

abbrev pub object_of : Seen → Option Object
object_of (seen.Object o) = Some o
object_of _ = None

-- a scalar object that may be assigned (C11 6.5.16)
abbrev pub is_assignable : Seen → Bool
is_assignable (seen.Object o) = not (o.fixed || is_void o.ctype)
is_assignable _ = false

-- the switch or pointer switch that an object's name is, where the object isn't `const`, nor of type `void`
abbrev pub switch_of : Seen → Option ℕ
switch_of (seen.Object o) = if is_void o.ctype || o.fixed then None else o.switch
switch_of _ = None

-- a function of the source, by its name or behind `*`
abbrev pub is_function : Seen → Bool
is_function (seen.Function f) = true
is_function (seen.Designator e) = true
is_function _ = false

abbrev pub is_attributed : Seen → Bool
is_attributed (seen.Function f) = is_some f.attributed
is_attributed _ = false

abbrev pub is_undefined : Seen → Bool
is_undefined (seen.Function f) = is_none f.number
is_undefined _ = false

abbrev pub is_known : Seen → Bool
is_known (seen.Known known) = true
is_known _ = false

abbrev pub is_named_switch : Seen → Bool
is_named_switch (seen.Switch s) = true
is_named_switch _ = false

abbrev pub object_of_variable : Variable → Object
object_of_variable v = record { target = object_at v.storage; ctype = v.ctype; fixed = v.fixed; switch = v.switch }

-- what a name is
abbrev pub seen_as : Meaning → Seen
seen_as (meaning.Object v) = seen.Object (object_of_variable v)
seen_as (meaning.Array elements) = seen.Array elements
seen_as (meaning.Function f) = seen.Function f
seen_as (meaning.Enumerator n) = seen.Value (typed int (form.Number n))
seen_as (meaning.Tag e) = seen.Value no_value
seen_as (meaning.Known known) = seen.Known known

abbrev pub seen_name : Option Meaning → Seen
seen_name None = seen.Value no_value
seen_name (Some m) = seen_as m
