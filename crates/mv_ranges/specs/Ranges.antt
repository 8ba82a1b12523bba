-- Numbers in a range.
use Rattle.std.specs.Prelude.{ℕ, ◌≤◌, Option, Some, None}
use Rattle.mv_ranges.specs.declared.range.Range.{Range}

abbrev pub IsIn : Range → ℕ → Type 0
IsIn r v = (r.low ≤ v) × (v ≤ r.high)

-- of a number of which a range is known, or nothing
abbrev pub IsWithin : Option Range → ℕ → Type 0
IsWithin None v = Unit {0}
IsWithin (Some r) v = IsIn r v
