-- The operators of the source language, by the numbers of their marks.
use Rattle.std.specs.Prelude.{ℕ, Bool, true, false, not, Option, Some, None, if◌then◌else◌, nat_eq, nat_lt, bit_and, bit_or, bit_xor}
use Rattle.mv_num.specs.declared.kind.Kind.{Kind}
use Rattle.mv_num.specs.declared.kind.Kind.TheVariants.{UInt}
use Rattle.mv_num.specs.Words.{add, sub, mul, div_s, div_u, rem_s, rem_u, shl, shr_s, shr_u, lt_s, lt_u, narrow, as_word}
use Rattle.mv_ast.specs.Marks as marks
use Rattle.mv_ast.specs.declared.program.CType.{CType}
use Rattle.mv_ast.specs.declared.program.CType.TheVariants.{Void, Scalar, Pointer}

abbrev pub is_unsigned_kind : Kind → Bool
is_unsigned_kind UInt = true
is_unsigned_kind _ = false

-- whether the operators of a type are those on unsigned numbers
abbrev pub is_unsigned : CType → Bool
is_unsigned (Scalar kind) = is_unsigned_kind kind
is_unsigned _ = false

-- a value converted to a type; none is left of one that is converted to void
abbrev pub converted : CType → ℕ → ℕ
converted Void a = 0
converted (Scalar kind) a = narrow kind a
converted (Pointer signature) a = a

-- the value of `~`, `!`, `+` or `-` (C11 6.5.3.3)
unfoldable pub unary_value : ℕ → ℕ → ℕ
unary_value op a =
    if nat_eq op marks.tilde then bit_xor a 4294967295
    else if nat_eq op marks.exclamation then as_word (nat_eq a 0)
    else if nat_eq op marks.minus then sub 0 a
    else a

-- whether the first is less, by the order of a type
abbrev pub is_less : CType → ℕ → ℕ → Bool
is_less t a b = if is_unsigned t then lt_u a b else lt_s a b

-- the value of `+`, `-`, `*`, `/` or `%` (C11 6.5.5, 6.5.6); a quotient and a remainder only by a divisor that is not 0
unfoldable pub product_value : ℕ → CType → ℕ → ℕ → Option ℕ
product_value op t a b =
    if nat_eq op marks.plus then Some (add a b)
    else if nat_eq op marks.minus then Some (sub a b)
    else if nat_eq op marks.star then Some (mul a b)
    else if nat_eq b 0 then None
    else if nat_eq op marks.slash then Some (if is_unsigned t then div_u a b else div_s a b)
    else Some (if is_unsigned t then rem_u a b else rem_s a b)

-- the value of an operator on bits, a shift or a comparison (C11 6.5.7 to 6.5.12)
unfoldable pub bit_value : ℕ → CType → ℕ → ℕ → ℕ
bit_value op t a b =
    if nat_eq op marks.ampersand then bit_and a b
    else if nat_eq op marks.bar then bit_or a b
    else if nat_eq op marks.caret then bit_xor a b
    else if nat_eq op marks.less then as_word (is_less t a b)
    else if nat_eq op marks.greater then as_word (is_less t b a)
    else if nat_eq op marks.shift_left then shl a b
    else if nat_eq op marks.shift_right then (if is_unsigned t then shr_u a b else shr_s a b)
    else if nat_eq op marks.less_or_equal then as_word (not (is_less t b a))
    else if nat_eq op marks.greater_or_equal then as_word (not (is_less t a b))
    else if nat_eq op marks.equal then as_word (nat_eq a b)
    else as_word (not (nat_eq a b))

-- The value of an operator whose left operand has this type, or none where it divides by 0. The marks before `&` are those of
-- sums and products.
unfoldable pub binary_value : ℕ → CType → ℕ → ℕ → Option ℕ
binary_value op t a b = if nat_lt op marks.ampersand then product_value op t a b else Some (bit_value op t a b)
