-- How numbers are printed.
use Rattle.std.specs.Prelude.{ℕ, ◌^◌, ◌-◌, ◌++◌, false, List, [], codes, if◌then◌else◌}
use Rattle.std.specs.Fmt.{decimal, signed_decimal, digits, format_spec, padded_integral}
use Rattle.std.specs.Int.{w32, cast_signed}
use Rattle.mv_num.specs.Kinds.{is_signed}

-- 0x and eight hexadecimal digits
unfoldable pub address_text : ℕ → List ℕ
address_text address = codes "0x" ++ padded_integral (format_spec 32 0 4 8 (2 ^ 64 - 1)) false [] (digits 16 false address)

-- the decimal value of a word, by the number of its kind
unfoldable pub value_text : ℕ → ℕ → List ℕ
value_text kind word = if is_signed kind then signed_decimal (cast_signed w32 word) else decimal word
