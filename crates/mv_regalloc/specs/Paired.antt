-- The ends of numbers, and above them the lesser end of each two.
use Rattle.std.specs.Prelude.{ℕ, ◌<◌, List, [], length}
use Rattle.mv_regalloc.specs.declared.ends.Pairs.{Pairs}
use Rattle.mv_regalloc.specs.declared.ends.Pairs.TheVariants.{Empty, Lesser}
use Rattle.mv_regalloc.specs.Tracked.{AreLesser}

abbrev pub lesser_of : Pairs → List ℕ
lesser_of Empty = []
lesser_of (Lesser p) = p.value

-- where there is a list of lesser ends, there are ends
abbrev pub IsPaired : List ℕ → Pairs → Type 0
IsPaired ends Empty = AreLesser ends []
IsPaired ends (Lesser p) = (0 < length ends) × AreLesser ends p.value
