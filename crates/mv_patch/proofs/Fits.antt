-- The variant that fits, by where the rows of its function stand.
use Rattle.std.proofs.Common.{◌≡◌, ℕ, List, take, drop, refl}
use Rattle.mv_descriptors.specs.declared.rows.FunctionRow.{FunctionRow}
use Rattle.mv_descriptors.specs.declared.rows.VariantRow.{VariantRow}
use Rattle.mv_descriptors.specs.declared.rows.GuardRow.{GuardRow}
use Rattle.mv_descriptors.specs.Guards.{holds, fitting}
use Rattle.mv_image.specs.Spelling.{Fields}
use Rattle.mv_image.specs.Patched.{kinds_of, fitting_variant}
use Rattle.mv_patch.specs.declared.groups.Group.{Group}
use Rattle.mv_patch.specs.Groups.{IsGroup, IsRow}

pub fits : (image : Fields) (group : Group) (row : FunctionRow) (values kinds : List ℕ) (variants : List VariantRow) (guards : List GuardRow) → IsGroup image group → IsRow image group.function row → kinds ≡ kinds_of image row
    → variants ≡ take row.variants (drop group.variant image.variants) → guards ≡ drop group.guard image.guards → fitting (holds kinds values) group.variant variants guards ≡ fitting_variant image group.function values
unfolding fitting_variant
fits image group row values kinds variants guards at is e f g =
    let variant = at.variant in
    let guard = at.guard in
    let there = is.there in
    rw (e, f, g, guard, variant, there) refl
