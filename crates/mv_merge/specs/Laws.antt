-- What rows come to that are added one by one.
use Rattle.std.specs.Prelude.{List, [], ◌∷◌, ◌++◌}
use Rattle.mv_ir.specs.declared.body.Body.{Body}
use Rattle.mv_ir.specs.Combinations.{AreAllCombinations}
use Rattle.mv_merge.specs.declared.rows.Domain.{Domain}
use Rattle.mv_merge.specs.declared.rows.Bound.{Bound}
use Rattle.mv_merge.specs.declared.rows.Guarded.{Guarded}
use Rattle.mv_merge.specs.declared.rows.Variants.{Variants}
use Rattle.mv_merge.specs.Guards.{domain_values, all_values, IsMerged}
use Rattle.mv_merge.specs.Grouping.{IsAdded, IsGrouped}

-- at first there are none
abbrev pub NoRowsAreGrouped : Type 0
NoRowsAreGrouped = IsGrouped [] [] []

-- one row more keeps rows and bodies grouped
abbrev pub AddingKeepsGroups : Type 0
AddingKeepsGroups =
    (rows : List Bound) (bodies : List Body) (guards : List Guarded) (row : Bound) (bodies' : List Body) (guards' : List Guarded) → IsGrouped rows bodies guards →
    IsAdded bodies guards row bodies' guards' → IsGrouped (rows ++ row ∷ []) bodies' guards'

-- and where the rows are those of all combinations, they are merged
abbrev pub GroupedAreMerged : Type 0
GroupedAreMerged =
    (domains : List Domain) (rows : List Bound) (variants : Variants) → AreAllCombinations (domain_values domains) (all_values rows) →
    IsGrouped rows variants.bodies variants.guards → IsMerged domains rows variants
