-- The numbers that constants stand for.
use Rattle.std.specs.Prelude.{ℕ, Bool, true, ◌&&◌, not, nat_eq, nat_lt, if◌then◌else◌, Option, Some, None}
use Rattle.mv_num.specs.declared.kind.Kind.{Kind}
use Rattle.mv_num.specs.declared.kind.Kind.TheVariants as kind
use Rattle.mv_num.specs.Words.{narrow, add}
use Rattle.mv_ast.specs.declared.program.CType.TheVariants.{Scalar}
use Rattle.mv_ast.specs.Operators.{is_unsigned}
use Rattle.mv_check_expressions.specs.declared.constant.Constant.{Constant}

-- A word below 2 ^ 31 is the same number in each type that has it; a greater one is negative in a signed type.
abbrev pub is_small : Constant → Bool
is_small c = nat_lt c.value 2147483648

abbrev pub is_negative : Constant → Bool
is_negative c = not (is_small c) && not (is_unsigned c.ctype)

abbrev pub same_sign : Kind → Constant → Bool
same_sign k c = if is_unsigned (Scalar k) then is_unsigned c.ctype else not (is_unsigned c.ctype)

-- whether an integer type has the number that a constant is
unfoldable pub is_value_of : Kind → Constant → Bool
is_value_of k c = nat_eq (narrow k c.value) c.value && (if is_small c then true else same_sign k c)

-- whether it is at least 1
abbrev pub is_positive : Constant → Bool
is_positive c = not (nat_eq c.value 0) && not (is_negative c)

-- the `int` that a constant is
abbrev pub int_of : Constant → Option ℕ
int_of c = if is_value_of kind.Int c then Some c.value else None

-- the next `int`, if there is one
abbrev pub next_int : ℕ → Option ℕ
next_int v = if nat_eq v 2147483647 then None else Some (add v 1)
