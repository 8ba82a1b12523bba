-- Guard rows in groups: for each function its variants, and for each of these its guard rows.
use Rattle.std.specs.Prelude.{◌≡◌, ℕ, ◌<◌, List, [], length, map, slice_index_or}
use Rattle.std.specs.Prelude.{All}
use Rattle.std.specs.List.{flat_map}
use Rattle.mv_descriptors.specs.declared.rows.FunctionRow.{FunctionRow}
use Rattle.mv_descriptors.specs.declared.rows.VariantRow.{VariantRow}
use Rattle.mv_descriptors.specs.declared.rows.GuardRow.{GuardRow}
use Rattle.mv_image.specs.Spelling.{Fields}
use Rattle.mv_image.specs.WellFormed.{FitsGuard}
use Rattle.mv_image.specs.Format.{GuardsFit, CountsAddUp}

abbrev pub Groups : Type 0
Groups = List (List (List GuardRow))

-- the groups of all variants, one after the other
abbrev pub variant_groups : Groups → List (List GuardRow)
variant_groups groups = flat_map (λ group. group) groups

-- The tables have the groups of the functions one after the other, with the counts of each in its row.
pub record AreGrouped (image : Fields) (groups : Groups) : Type 0 where
  pub functions : map (λ (row : FunctionRow). row.variants) image.functions ≡ map length groups
  pub variants : map (λ (row : VariantRow). row.guards) image.variants ≡ map length (variant_groups groups)
  pub guards : image.guards ≡ flat_map (λ rows. rows) (variant_groups groups)

-- Each guard row of a function's group fits the function.
abbrev pub GroupsFit : Fields → Groups → Type 0
GroupsFit image groups = (f : ℕ) (d : FunctionRow) → f < length image.functions → All (λ rows. All (FitsGuard image (slice_index_or image.functions f d)) rows) (slice_index_or groups f [])

-- So the counts add up, and each guard row fits the function that it belongs to.
pub record GroupsBelong (image : Fields) : Type 0 where
  pub sums : CountsAddUp image
  pub guards : GuardsFit image

abbrev pub GroupsAreRows : Type 0
GroupsAreRows = (image : Fields) (groups : Groups) → AreGrouped image groups → GroupsFit image groups → GroupsBelong image
