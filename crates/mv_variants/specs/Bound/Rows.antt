-- The rows that a merge gives, grouped by variant as an image has them, and where they lead.
use Rattle.std.specs.Prelude.{ℕ, zero, suc, ◌+◌, ◌<◌, ◌≡◌, cond, eqb, List, [], ◌∷◌, ◌++◌, length, Option, Some, None, slice_get}
use Rattle.mv_ir.specs.declared.body.Body.{Body}
use Rattle.mv_ir.specs.Combinations.{In, IsCombination, AreAllCombinations}
use Rattle.mv_ir.specs.Measures.{joined}
use Rattle.mv_descriptors.specs.declared.rows.VariantRow.{VariantRow}
use Rattle.mv_descriptors.specs.declared.rows.GuardRow.{GuardRow}
use Rattle.mv_descriptors.specs.Guards.{holds, fitting}
use Rattle.mv_merge.specs.declared.rows.Domain.{Domain}
use Rattle.mv_merge.specs.declared.rows.Bound.{Bound}
use Rattle.mv_merge.specs.declared.rows.Guarded.{Guarded}
use Rattle.mv_merge.specs.declared.rows.Variants.{Variants}
use Rattle.mv_merge.specs.Guards.{kinds, domain_values, AreValues, all_values, IsMerged}

-- ---- rows grouped by body

-- the rows that lead to a body, in the order in which they stand
abbrev pub rows_of : List Guarded → ℕ → List GuardRow
rows_of [] i = []
rows_of (g ∷ guards) i = cond (eqb g.body i) (g.row ∷ rows_of guards i) (rows_of guards i)

-- the groups of so many bodies from a body on
abbrev pub groups_from : List Guarded → ℕ → ℕ → List (List GuardRow)
groups_from guards i zero = []
groups_from guards i (suc n) = rows_of guards i ∷ groups_from guards (suc i) n

-- of each variant its rows
abbrev pub groups : Variants → List (List GuardRow)
groups variants = groups_from variants.guards 0 (length variants.bodies)

-- each variant's row counts the guard rows of its group
abbrev pub AreCounted : List (List GuardRow) → List VariantRow → Type 0
AreCounted [] [] = Unit {0}
AreCounted [] (v ∷ vrows) = ⊥
AreCounted (rows ∷ groups) [] = ⊥
AreCounted (rows ∷ groups) (v ∷ vrows) = (v.guards ≡ length rows) × AreCounted groups vrows

-- rows of variants that count these groups, and are blank otherwise
abbrev pub counting : List (List GuardRow) → List VariantRow
counting [] = []
counting (rows ∷ groups) = record { address = 0; inlined = 0; words = 0 ∷ 0 ∷ []; guards = length rows } ∷ counting groups

-- the rows of a function: its variants', blank but for their counts, and the guard rows of one variant after the other
abbrev pub grouped : Variants → List VariantRow × List GuardRow
grouped variants = (counting (groups variants), joined (groups variants))

-- ---- where they lead

-- Of the values the rows lead to the body that came with them, where they are a combination of the domains, and else nowhere. The number of the variant counts
-- from a first one; rows of other variants may stand behind.
pub record Leads (domains : List Domain) (rows : List Bound) (bodies : List Body) (first : ℕ) (vs : List ℕ) (found : Option ℕ) : Type 0 where
  pub combination :
      IsCombination (domain_values domains) vs → (j : ℕ) × (found ≡ Some (first + j)) × (j < length bodies)
      × ((r : Bound) → In r rows → r.assignment.values ≡ vs → slice_get bodies j ≡ Some r.body)
  pub came : IsCombination (domain_values domains) vs → In vs (all_values rows)
  pub none : (IsCombination (domain_values domains) vs → ⊥) → found ≡ None

abbrev pub FittingIsLed : Type 0
FittingIsLed =
    (domains : List Domain) (rows : List Bound) (variants : Variants) → AreAllCombinations (domain_values domains) (all_values rows) → IsMerged domains rows variants →
    (vrows : List VariantRow) → AreCounted (groups variants) vrows → (first : ℕ) (more : List GuardRow) (vs : List ℕ) → AreValues domains vs →
    Leads domains rows variants.bodies first vs (fitting (holds (kinds domains) vs) first vrows (joined (groups variants) ++ more))

-- of the function's own rows alone
abbrev pub GroupedIsLed : Type 0
GroupedIsLed =
    (domains : List Domain) (rows : List Bound) (variants : Variants) → AreAllCombinations (domain_values domains) (all_values rows) → IsMerged domains rows variants →
    (vs : List ℕ) → AreValues domains vs → Leads domains rows variants.bodies 0 vs (fitting (holds (kinds domains) vs) 0 (grouped variants).0 (grouped variants).1)
