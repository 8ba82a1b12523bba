-- The operators of trees and the divisions, by their numbers.
use Rattle.std.specs.Prelude.{ℕ, Bool, ◌&&◌, leb}

-- ---- operators on one value

-- negation
abbrev pub negate : ℕ
negate = 0

-- the complement of each bit
abbrev pub complement : ℕ
complement = 1

-- 1 for 0, and 0 for all else
abbrev pub logical_not : ℕ
logical_not = 2

-- ---- operators on two values

-- a sum
abbrev pub add : ℕ
add = 0

-- a difference
abbrev pub sub : ℕ
sub = 1

-- a product
abbrev pub mul : ℕ
mul = 2

-- and, bit by bit
abbrev pub bit_and : ℕ
bit_and = 3

-- or, bit by bit
abbrev pub bit_or : ℕ
bit_or = 4

-- exclusive or, bit by bit
abbrev pub bit_xor : ℕ
bit_xor = 5

-- a shift to the left
abbrev pub shift_left : ℕ
shift_left = 6

-- a shift to the right that copies the sign
abbrev pub shift_right_signed : ℕ
shift_right_signed = 7

-- a shift to the right that brings zeros
abbrev pub shift_right_unsigned : ℕ
shift_right_unsigned = 8

-- whether the first is less, as signed numbers
abbrev pub less_signed : ℕ
less_signed = 9

-- whether the first is less, as unsigned numbers
abbrev pub less_unsigned : ℕ
less_unsigned = 10

-- whether both are equal
abbrev pub equal : ℕ
equal = 11

-- whether they differ
abbrev pub not_equal : ℕ
not_equal = 12

-- one that gives 1 or 0, by how two values compare
abbrev pub is_comparison : ℕ → Bool
is_comparison o = leb less_signed o && leb o not_equal

-- ---- divisions, which are statements

-- a quotient of signed numbers
abbrev pub quotient_signed : ℕ
quotient_signed = 0

-- a quotient of unsigned numbers
abbrev pub quotient_unsigned : ℕ
quotient_unsigned = 1

-- a remainder of signed numbers
abbrev pub remainder_signed : ℕ
remainder_signed = 2

-- a remainder of unsigned numbers
abbrev pub remainder_unsigned : ℕ
remainder_unsigned = 3
