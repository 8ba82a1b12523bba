-- The fields that hold numbers, and which numbers they hold.
use Rattle.std.specs.Prelude.{ℕ, Bool, not, ◌%◌, ◌^◌, ◌==◌, ◌&&◌, nat_lt, nat_le, if◌then◌else◌}
use Rattle.mv_asmtext.specs.declared.field.Field.{Field}
use Rattle.mv_asmtext.specs.declared.field.Field.TheVariants.{Signed12, Offset13, Offset21, Upper20, Count}
use Rattle.mv_asmtext.specs.declared.number.Number.{Number}

-- from 0 up to before a bound
abbrev pub is_below : Number → ℕ → Bool
is_below n bound = not n.negative && nat_lt n.magnitude bound

-- from the negative of a bound up to before the bound
abbrev pub is_signed : Number → ℕ → Bool
is_signed n bound = if n.negative then nat_le n.magnitude bound else nat_lt n.magnitude bound

abbrev pub is_offset : Number → ℕ → Bool
is_offset n bound = is_signed n bound && (n.magnitude % 2 == 0)

unfoldable pub holds : Field → Number → Bool
holds Signed12 n = is_signed n (2 ^ 11)
holds Offset13 n = is_offset n (2 ^ 12)
holds Offset21 n = is_offset n (2 ^ 20)
holds Upper20 n = is_below n (2 ^ 20)
holds Count n = is_below n 32
