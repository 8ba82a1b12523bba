-- The rules of expressions: each is a test on one node whose parts break none.
use Rattle.std.specs.Prelude.{ℕ, Bool, false, ◌&&◌, ◌||◌, not, nat_eq, if◌then◌else◌, length, is_none, is_some}
use Rattle.mv_ast.specs.declared.program.CType.{CType}
use Rattle.mv_ast.specs.declared.program.Expr.{Expr}
use Rattle.mv_syntax.specs.declared.unit.What.TheOpen as what
use Rattle.mv_ast.specs.Marks as marks
use Rattle.mv_check_scope.specs.declared.scope.Scope.{Scope}
use Rattle.mv_check_scope.specs.Conversions.{is_integer, is_pointer, is_void}
use Rattle.mv_check_scope.specs.Constants.{converts}
use Rattle.mv_check_scope.specs.Scoped.{meaning_of}
use Rattle.mv_check_expressions.specs.declared.seen.Seen.{Seen}
use Rattle.mv_check_expressions.specs.declared.seen.Seen.TheVariants as seen
use Rattle.mv_check_expressions.specs.declared.seen.Use.{Use}
use Rattle.mv_check_expressions.specs.declared.seen.Use.TheVariants as «use»
use Rattle.mv_check_expressions.specs.Seen.{value_of, type_of, array_of, is_array, is_assignable, switch_of, is_function, is_attributed, is_undefined, is_known, is_named_switch, seen_name}
use Rattle.mv_check_expressions.specs.Calls.{callee_params, takes_count, all_convert}
use Rattle.mv_check_expressions.specs.Found.{Layer, found, is_address, is_indirection, is_equality, is_both, is_either}

-- ---- what operators take

abbrev pub is_scalar : CType → Bool
is_scalar t = is_integer t || is_pointer t

abbrev pub are_integers : CType → CType → Bool
are_integers s t = is_integer s && is_integer t

-- two integers, or a pointer opposite the same or null
unfoldable pub meet : Expr → Expr → Bool
meet a b = are_integers a.ctype b.ctype || (is_pointer a.ctype && converts b a.ctype) || (is_pointer b.ctype && converts a b.ctype)

unfoldable pub takes_one : ℕ → CType → Bool
takes_one op t = is_integer t || (nat_eq op marks.exclamation && is_pointer t)

unfoldable pub takes_two : ℕ → Expr → Expr → Bool
takes_two op a b =
    if is_both op || is_either op then is_scalar a.ctype && is_scalar b.ctype
    else are_integers a.ctype b.ctype || (is_equality op && meet a b)

-- ---- the rules

-- a name isn't declared
abbrev pub breaks_names : Scope → Layer → Bool
breaks_names scope (what.Name name) = is_none (meaning_of scope name)
breaks_names scope _ = false

-- an operator is applied to operands whose types it doesn't take
abbrev pub breaks_operands : Layer → Bool
breaks_operands (what.Unary op a) = not (is_address op || is_indirection op || takes_one op (type_of a))
breaks_operands (what.Binary op a b) = not (takes_two op (value_of a) (value_of b))
breaks_operands (what.Choose c a b) = not (is_scalar (type_of c) && meet (value_of a) (value_of b))
breaks_operands (what.Assign op a b) = not (nat_eq op marks.assign || are_integers (type_of a) (type_of b))
breaks_operands (what.Before up a) = not (is_integer (type_of a))
breaks_operands (what.After up a) = not (is_integer (type_of a))
breaks_operands (what.Index a i) = not (is_integer (type_of i))
breaks_operands _ = false

-- what is assigned is no scalar object, or is `const`
abbrev pub breaks_assignments : Layer → Bool
breaks_assignments (what.Assign op a b) = not (is_assignable a)
breaks_assignments (what.Before up a) = not (is_assignable a)
breaks_assignments (what.After up a) = not (is_assignable a)
breaks_assignments _ = false

-- a value is converted between types that don't convert
abbrev pub breaks_conversions : Scope → Layer → Bool
breaks_conversions scope (what.Assign op a b) = nat_eq op marks.assign && not (converts (value_of b) (type_of a))
breaks_conversions scope (what.Call f args) = not (all_convert (callee_params scope.signatures f) args)
breaks_conversions scope _ = false

-- what is called is no function, or the number of arguments differs
abbrev pub breaks_calls : Scope → Layer → Bool
breaks_calls scope (what.Call f args) = not (takes_count scope.signatures f (length args))
breaks_calls scope _ = false

-- an array is used without an index
abbrev pub is_bare : Use → Seen → Bool
is_bare «use».Base x = false
is_bare _ x = is_array x

-- or what is indexed is no array
abbrev pub breaks_indexes : Scope → Use → Layer → Bool
breaks_indexes scope u (what.Index a i) = is_none (array_of a)
breaks_indexes scope u layer = is_bare u (found scope u layer)

-- `void` is used as a value; an object is of that type in its own initial value alone
abbrev pub is_valueless : Use → Seen → Bool
is_valueless «use».Value (seen.Value e) = is_void e.ctype
is_valueless «use».Value (seen.Object o) = is_void o.ctype
is_valueless _ _ = false

abbrev pub breaks_void : Scope → Use → Layer → Bool
breaks_void scope u layer = is_valueless u (found scope u layer)

-- an attributed function assigns to a switch or a pointer switch
abbrev pub breaks_switch_assignments : Scope → Layer → Bool
breaks_switch_assignments scope (what.Assign op a b) = scope.attributed && is_some (switch_of a)
breaks_switch_assignments scope (what.Before up a) = scope.attributed && is_some (switch_of a)
breaks_switch_assignments scope (what.After up a) = scope.attributed && is_some (switch_of a)
breaks_switch_assignments scope _ = false

-- the argument of a commit or revert isn't an attributed function's name, or isn't `&` and the name of a switch or pointer switch
abbrev pub is_misnamed : Use → Seen → Bool
is_misnamed «use».Function x = not (is_attributed x)
is_misnamed «use».Switch x = not (is_named_switch x)
is_misnamed _ x = false

abbrev pub breaks_plan_arguments : Scope → Use → Layer → Bool
breaks_plan_arguments scope u layer = is_misnamed u (found scope u layer)

-- a function that isn't defined is used
abbrev pub breaks_definitions : Scope → Layer → Bool
breaks_definitions scope (what.Name name) = is_undefined (seen_name (meaning_of scope name))
breaks_definitions scope _ = false

-- `&` stands before anything other than a function, unless a switch is named
abbrev pub is_misapplied : Use → Seen → Bool
is_misapplied «use».Switch x = false
is_misapplied _ x = not (is_function x)

-- or `*` before anything other than a function pointer
abbrev pub is_wrong_operand : Use → ℕ → Seen → Bool
is_wrong_operand u op x = (is_address op && is_misapplied u x) || (is_indirection op && not (is_pointer (type_of x)))

-- or a known function's name is used other than in a call
abbrev pub is_uncalled : Use → Seen → Bool
is_uncalled «use».Callee x = false
is_uncalled _ x = is_known x

-- or a cast goes to `void` inside an expression, or to an integer from a pointer
abbrev pub is_wrong_cast : Use → CType → CType → Bool
is_wrong_cast «use».Effect t s = not (is_void t) && not (is_integer s)
is_wrong_cast _ t s = is_void t || not (is_integer s)

abbrev pub breaks_placements : Scope → Use → Layer → Bool
breaks_placements scope u (what.Name name) = is_uncalled u (seen_name (meaning_of scope name))
breaks_placements scope u (what.Unary op a) = is_wrong_operand u op a
breaks_placements scope u (what.Cast t a) = is_wrong_cast u t (type_of a)
breaks_placements scope u _ = false
