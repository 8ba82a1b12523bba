-- Initial values (C11 6.7.9).
use Rattle.std.specs.Prelude.{ℕ, ◌+◌, true, ◌&&◌, nat_eq, if◌then◌else◌, List, [], ◌∷◌, ◌++◌, length, Option, Some, None}
use Rattle.mv_ast.specs.declared.program.CType.{CType}
use Rattle.mv_ast.specs.declared.program.CType.TheVariants.{Void}
use Rattle.mv_ast.specs.declared.program.Expr.{Expr}
use Rattle.mv_syntax.specs.declared.unit.Initial.{Initial}
use Rattle.mv_syntax.specs.declared.unit.Initial.TheVariants as initial
use Rattle.mv_syntax.specs.declared.unit.Node.{Node}
use Rattle.mv_check_scope.specs.declared.scope.Scope.{Scope}
use Rattle.mv_check_scope.specs.Constants.{converts}
use Rattle.mv_check_scope.specs.Conversions.{converted_to}
use Rattle.mv_check_expressions.specs.declared.constant.Constant.{Constant}
use Rattle.mv_check_expressions.specs.Judged.{Judged, Good, and_then}
use Rattle.mv_check_expressions.specs.Judgements.{value_judgement}
use Rattle.mv_check_declarations.specs.declared.initials.Converted.{Converted}
use Rattle.mv_check_declarations.specs.Constants.{is_positive}
use Rattle.mv_check_declarations.specs.Turns.{through}

-- ---- the size of an array

abbrev pub unless_zero : ℕ → Option ℕ
unless_zero n = if nat_eq n 0 then None else Some n

-- as many elements as there are values, where no size is written; a string has a 0 behind its characters
abbrev pub size_of_values : Option Initial → Option ℕ
size_of_values (Some (initial.Values nodes)) = unless_zero (length nodes)
size_of_values (Some (initial.Chars bytes)) = Some (length bytes + 1)
size_of_values _ = None

-- the size of an array, if it has one that is at least 1
abbrev pub array_size : Option Constant → Option Initial → Option ℕ
array_size None values = size_of_values values
array_size (Some c) values = if is_positive c then Some c.value else None

-- ---- the values

-- a value converted to a type, behind others; and whether all of them convert
abbrev pub with_converted : CType → Converted → Expr → Converted
with_converted t x e = record { all = x.all && converts e t; values = x.values ++ converted_to t e ∷ [] }

abbrev pub converted_value : CType → Scope → Node → Converted → Judged Converted
converted_value t s node x = and_then (value_judgement s node) (λ e. Good (with_converted t x e))

abbrev pub none_converted : Converted
none_converted = record { all = true; values = [] }

abbrev pub converted_values : CType → Scope → List Node → Judged Converted
converted_values t s nodes = through (converted_value t s) nodes none_converted

-- The values that a declarator gives what it declares, judged as values of a type.
abbrev pub initial_values : CType → Option Initial → Scope → Judged Converted
initial_values t None s = Good none_converted
initial_values t (Some (initial.Value node)) s = converted_value t s node none_converted
initial_values t (Some (initial.Values nodes)) s = converted_values t s nodes
initial_values t (Some (initial.Chars bytes)) s = Good none_converted

-- those of a function, of which nothing is made
abbrev pub plain_values : Option Initial → Scope → Judged Converted
plain_values = initial_values Void
