-- What an expression is, given what its parts are (C11 6.5).
use Rattle.std.specs.Prelude.{ℕ, Bool, ◌||◌, ◌-◌, nat_eq, nat_lt, if◌then◌else◌, Option, Some, None}
use Rattle.mv_ast.specs.declared.program.CType.{CType}
use Rattle.mv_ast.specs.declared.program.CType.TheVariants.{Scalar}
use Rattle.mv_ast.specs.declared.program.Expr.{Expr}
use Rattle.mv_ast.specs.declared.program.Form.TheVariants as form
use Rattle.mv_syntax.specs.declared.unit.What.{What-F}
use Rattle.mv_syntax.specs.declared.unit.What.TheOpen as what
use Rattle.mv_ast.specs.Marks as marks
use Rattle.mv_check_scope.specs.declared.meaning.Elements.{Elements}
use Rattle.mv_check_scope.specs.declared.scope.Scope.{Scope}
use Rattle.mv_check_scope.specs.Conversions.{is_pointer, int, typed, usual, promotion, promoted, converted_to}
use Rattle.mv_check_scope.specs.Scoped.{meaning_of}
use Rattle.mv_check_expressions.specs.declared.seen.Object.{Object}
use Rattle.mv_check_expressions.specs.declared.seen.Seen.{Seen}
use Rattle.mv_check_expressions.specs.declared.seen.Seen.TheVariants as seen
use Rattle.mv_check_expressions.specs.declared.seen.Use.{Use}
use Rattle.mv_check_expressions.specs.declared.seen.Use.TheVariants as «use»
use Rattle.mv_check_expressions.specs.Seen.{value_of, array_of, object_of, switch_of, element_at, no_value, seen_name}
use Rattle.mv_check_expressions.specs.Calls.{call_of}

-- ---- operators, by the numbers of their marks

abbrev pub is_address : ℕ → Bool
is_address op = nat_eq op marks.ampersand

abbrev pub is_indirection : ℕ → Bool
is_indirection op = nat_eq op marks.star

abbrev pub is_shift : ℕ → Bool
is_shift op = nat_eq op marks.shift_left || nat_eq op marks.shift_right

abbrev pub is_equality : ℕ → Bool
is_equality op = nat_eq op marks.equal || nat_eq op marks.not_equal

abbrev pub is_comparison : ℕ → Bool
is_comparison op =
    nat_eq op marks.less || nat_eq op marks.greater || nat_eq op marks.less_or_equal || nat_eq op marks.greater_or_equal || is_equality op

abbrev pub is_both : ℕ → Bool
is_both op = nat_eq op marks.logical_and

abbrev pub is_either : ℕ → Bool
is_either op = nat_eq op marks.logical_or

-- The operator of a compound assignment: `+=` to `^=` stand in the order of `+` to `^`, and `<<=` and `>>=` in that of `<<` and `>>`.
abbrev pub compound_operator : ℕ → ℕ
compound_operator op =
    if nat_lt op marks.shift_left_assign then op - (marks.plus_assign - marks.plus)
    else op - (marks.shift_left_assign - marks.shift_left)

-- the type in which two operands meet: that of a pointer, opposite the same or null, else by the usual arithmetic conversions
abbrev pub common_type : CType → CType → CType
common_type s t = if is_pointer s then s else if is_pointer t then t else usual s t

-- ---- values

unfoldable pub unary_of : ℕ → Expr → Expr
unary_of op a =
    if nat_eq op marks.exclamation then typed int (form.Unary op a)
    else typed (promotion a.ctype) (form.Unary op (promoted a))

-- the types in which the operands of an operator are computed: of a shift each is promoted by itself
abbrev pub left_type : ℕ → CType → CType → CType
left_type op s t = if is_shift op then promotion s else common_type s t

abbrev pub right_type : ℕ → CType → CType → CType
right_type op s t = if is_shift op then promotion t else common_type s t

abbrev pub result_type : ℕ → CType → CType
result_type op t = if is_comparison op then int else t

abbrev pub computed_of : ℕ → CType → CType → Expr → Expr → Expr
computed_of op s t a b = typed (result_type op s) (form.Binary op (converted_to s a) (converted_to t b))

unfoldable pub binary_of : ℕ → Expr → Expr → Expr
binary_of op a b =
    if is_both op then typed int (form.Both a b)
    else if is_either op then typed int (form.Either a b)
    else computed_of op (left_type op a.ctype b.ctype) (right_type op a.ctype b.ctype) a b

unfoldable pub choose_of : Expr → Expr → Expr → Expr
choose_of c a b = let t = common_type a.ctype b.ctype in typed t (form.Choose c (converted_to t a) (converted_to t b))

-- ---- assignments

-- a compound assignment computes in the type of its operator's left operand
unfoldable pub change_of : ℕ → Object → Expr → Expr
change_of op o b =
    typed o.ctype (form.Change op (left_type op o.ctype b.ctype) o.target (converted_to (right_type op o.ctype b.ctype) b))

unfoldable pub assign_to : ℕ → Object → Expr → Expr
assign_to op o b =
    if nat_eq op marks.assign then typed o.ctype (form.Set o.target (converted_to o.ctype b)) else change_of (compound_operator op) o b

abbrev pub assign_of : ℕ → Option Object → Expr → Expr
assign_of op None b = no_value
assign_of op (Some o) b = assign_to op o b

abbrev pub one : Expr
one = typed int (form.Number 1)

-- `++l` is `l += 1`
abbrev pub before_of : Bool → Option Object → Expr
before_of up None = no_value
before_of up (Some o) = change_of (if up then marks.plus else marks.minus) o one

abbrev pub after_of : Bool → Option Object → Expr
after_of up None = no_value
after_of up (Some o) = typed o.ctype (form.After up o.target)

-- ---- objects and functions

abbrev pub element_of : Option Elements → Expr → Seen
element_of None i = seen.Value no_value
element_of (Some a) i =
    seen.Object (record { target = element_at a.storage (promoted i); ctype = a.ctype; fixed = a.fixed; switch = None })

abbrev pub named_switch : Option ℕ → Seen
named_switch None = seen.Value no_value
named_switch (Some s) = seen.Switch s

-- `&` before a function gives a pointer to it; where a function, a switch or a pointer switch is named, it names it
abbrev pub address_of : Use → Seen → Seen
address_of «use».Function x = x
address_of «use».Switch x = named_switch (switch_of x)
address_of _ x = seen.Value (value_of x)

abbrev pub unary_seen : Use → ℕ → Seen → Seen
unary_seen u op x =
    if is_address op then address_of u x
    else if is_indirection op then seen.Designator (value_of x)
    else seen.Value (unary_of op (value_of x))

-- ---- a node whose parts are what they were found to be

abbrev pub Layer : Type 0
Layer = What-F Seen (Unit {0}) (Unit {0}) (Unit {0}) Seen CType

abbrev pub found : Scope → Use → Layer → Seen
found scope u (what.Number n k) = seen.Value (typed (Scalar k) (form.Number n))
found scope u (what.Name name) = seen_name (meaning_of scope name)
found scope u (what.Unary op a) = unary_seen u op a
found scope u (what.Binary op a b) = seen.Value (binary_of op (value_of a) (value_of b))
found scope u (what.Choose c a b) = seen.Value (choose_of (value_of c) (value_of a) (value_of b))
found scope u (what.Assign op a b) = seen.Value (assign_of op (object_of a) (value_of b))
found scope u (what.Before up a) = seen.Value (before_of up (object_of a))
found scope u (what.After up a) = seen.Value (after_of up (object_of a))
found scope u (what.Index a i) = element_of (array_of a) (value_of i)
found scope u (what.Call f args) = seen.Value (call_of scope.signatures f args)
found scope u (what.Cast t a) = seen.Value (converted_to t (value_of a))
