-- The rows of all functions in an image, and the variant of it that fits values.
use Rattle.std.specs.Prelude.{ℕ, ◌+◌, ◌<◌, ◌≤◌, ◌≡◌, List, [], ◌∷◌, length, Some, slice_get, take, drop}
use Rattle.mv_ir.specs.Combinations.{AreAllCombinations}
use Rattle.mv_ir.specs.Measures.{joined}
use Rattle.mv_descriptors.specs.declared.rows.FunctionRow.{FunctionRow}
use Rattle.mv_descriptors.specs.declared.rows.GuardRow.{GuardRow}
use Rattle.mv_image.specs.Spelling.{Fields}
use Rattle.mv_image.specs.Patched.{variants_before, kinds_of, fitting_variant}
use Rattle.mv_merge.specs.declared.rows.Domain.{Domain}
use Rattle.mv_merge.specs.declared.rows.Bound.{Bound}
use Rattle.mv_merge.specs.declared.rows.Variants.{Variants}
use Rattle.mv_merge.specs.Guards.{kinds, domain_values, AreValues, all_values, HasRanges, IsMerged}
use Rattle.mv_descriptors.specs.Rows.{ZerosFrom}
use Rattle.mv_variants.specs.Bound.Rows.{groups, AreCounted, Leads}

-- ---- tables

-- each function's row counts its variants
abbrev pub HaveVariants : List (List (List GuardRow)) → List FunctionRow → Type 0
HaveVariants [] [] = Unit {0}
HaveVariants [] (row ∷ rows) = ⊥
HaveVariants (table ∷ tables) [] = ⊥
HaveVariants (table ∷ tables) (row ∷ rows) = (row.variants ≡ length table) × HaveVariants tables rows

-- An image's rows of variants and guards are these: of each function the guard rows of each of its variants.
pub record HasTables (image : Fields) (tables : List (List (List GuardRow))) : Type 0 where
  pub functions : HaveVariants tables image.functions
  pub variants : AreCounted (joined tables) image.variants
  pub guards : image.guards ≡ joined (joined tables)

-- The variant of a function that fits values is the one whose body came with them, counted from the function's first. Its row is among the function's own.
pub record FitsVariant (image : Fields) (domains : List Domain) (rows : List Bound) (variants : Variants) (n : ℕ) (row : FunctionRow) : Type 0 where
  pub leads : (vs : List ℕ) → AreValues domains vs → Leads domains rows variants.bodies (variants_before image n) vs (fitting_variant image n vs)
  pub own : (j : ℕ) → j < length variants.bodies → slice_get image.variants (variants_before image n + j) ≡ slice_get (take row.variants (drop (variants_before image n) image.variants)) j
  pub there : variants_before image n + length variants.bodies ≤ length image.variants
  pub many : row.variants ≡ length variants.bodies

abbrev pub VariantsAreLed : Type 0
VariantsAreLed =
    (image : Fields) (tables : List (List (List GuardRow))) → HasTables image tables →
    (domains : List Domain) (rows : List Bound) (variants : Variants) → AreAllCombinations (domain_values domains) (all_values rows) → IsMerged domains rows variants →
    (n : ℕ) (row : FunctionRow) → slice_get tables n ≡ Some (groups variants) → slice_get image.functions n ≡ Some row → kinds_of image row ≡ kinds domains →
    FitsVariant image domains rows variants n row

-- ---- counts

-- a group has 1 to so many rows, which give ranges of the domains, and whose unused words are 0
pub record IsGroup (domains : List Domain) (most : ℕ) (group : List GuardRow) : Type 0 where
  pub some : 0 < length group
  pub few : length group ≤ most
  pub ranges : (i : ℕ) (g : GuardRow) → slice_get group i ≡ Some g → HasRanges domains g
  pub clean : (i : ℕ) (g : GuardRow) → slice_get group i ≡ Some g → ZerosFrom (length domains) g.low × ZerosFrom (length domains) g.high

-- Each variant has a row, none has more rows than there are assignments, and all together have no more; so there are no more variants.
pub record AreGroups (domains : List Domain) (rows : List Bound) (variants : Variants) : Type 0 where
  pub many : length (groups variants) ≡ length variants.bodies
  pub each : (j : ℕ) (group : List GuardRow) → slice_get (groups variants) j ≡ Some group → IsGroup domains (length rows) group
  pub together : length (joined (groups variants)) ≤ length rows
  pub bodies : length variants.bodies ≤ length rows

abbrev pub GroupsFit : Type 0
GroupsFit = (domains : List Domain) (rows : List Bound) (variants : Variants) → IsMerged domains rows variants → AreGroups domains rows variants
