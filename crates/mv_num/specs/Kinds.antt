-- The integer types as numbers, their values as words, and the order of these values.
use Rattle.std.specs.Prelude.{ℕ, Bool, true, ◌+◌, ◌-◌, ◌^◌, ◌==◌, ◌||◌, nat_lt, nat_le, if◌then◌else◌}
use Rattle.mv_num.specs.declared.kind.Kind.{Kind}
use Rattle.mv_num.specs.declared.kind.Kind.TheVariants as kinds

abbrev pub kind_number : Kind → ℕ
kind_number kinds.Bool = 0
kind_number kinds.SChar = 1
kind_number kinds.UChar = 2
kind_number kinds.Short = 3
kind_number kinds.UShort = 4
kind_number kinds.Int = 5
kind_number kinds.UInt = 6

-- the greatest of these numbers
abbrev pub last_kind : ℕ
last_kind = 6

abbrev pub is_signed : ℕ → Bool
is_signed kind = kind == 1 || kind == 3 || kind == 5

-- a word that is below the limit, or as a signed number from its negative on
abbrev pub within : ℕ → ℕ → Bool
within limit word = nat_lt word limit || nat_le (2 ^ 32 - limit) word

-- the word is a value of the kind with this number
abbrev pub is_value : ℕ → ℕ → Bool
is_value kind word =
    if kind == 0 then nat_lt word 2 else
    if kind == 1 then within 128 word else
    if kind == 2 then nat_lt word 256 else
    if kind == 3 then within 32768 word else
    if kind == 4 then nat_lt word 65536 else true

-- a number that grows with the value of the word
abbrev pub rank : ℕ → ℕ → ℕ
rank kind word = if is_signed kind then (if nat_lt word (2 ^ 31) then word + 2 ^ 31 else word - 2 ^ 31) else word

-- the order of the kind's values
abbrev pub is_at_most : ℕ → ℕ → ℕ → Bool
is_at_most kind a b = nat_le (rank kind a) (rank kind b)
