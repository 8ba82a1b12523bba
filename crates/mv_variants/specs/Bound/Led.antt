-- Which body a function's values lead to in an image, and what it is of the function's own.
use Rattle.std.specs.Prelude.{ℕ, ◌+◌, ◌<◌, ◌≡◌, ◌^◌, List, [], ◌∷◌, length, Some, None, slice_get, All}
use Rattle.std.specs.List.{zip}
use Rattle.mv_ir.specs.declared.body.Body.{Body}
use Rattle.mv_ir.specs.Shorts.{Shorts}
use Rattle.mv_ir.specs.Combinations.{In, IsCombination, AreAllCombinations}
use Rattle.mv_descriptors.specs.declared.rows.FunctionRow.{FunctionRow}
use Rattle.mv_descriptors.specs.declared.rows.GuardRow.{GuardRow}
use Rattle.mv_image.specs.Spelling.{Fields}
use Rattle.mv_image.specs.Patched.{variants_before, kinds_of, fitting_variant, variant_under}
use Rattle.mv_merge.specs.declared.rows.Domain.{Domain}
use Rattle.mv_merge.specs.declared.rows.Bound.{Bound}
use Rattle.mv_merge.specs.declared.rows.Variants.{Variants}
use Rattle.mv_merge.specs.Guards.{kinds, domain_values, AreValues, all_values, IsMerged}
use Rattle.mv_variants.specs.Bound.Rows.{groups}
use Rattle.mv_variants.specs.Bound.Tables.{HasTables}
use Rattle.mv_variants.specs.Bound.Meant.{IsMadeUnder}

-- each row's body is made of this one under its values
abbrev pub AreMade : Shorts → Body → List Bound → Type 0
AreMade shorts body rows = (r : Bound) → In r rows → IsMadeUnder shorts (zip body.switches r.assignment.values) body r.body

-- each domain has words alone
abbrev pub HaveWords : List Domain → Type 0
HaveWords [] = Unit {0}
HaveWords (d ∷ domains) = All (λ v. v < 2 ^ 32) d.values × HaveWords domains

-- The variant of a function that fits a combination: its number among the function's own, and its body, which is made of the function's under these values.
pub record IsLed (shorts : Shorts) (image : Fields) (body : Body) (bodies : List Body) (n : ℕ) (vs : List ℕ) : Type 0 where
  pub place : ℕ
  pub below : place < length bodies
  pub fits : fitting_variant image n vs ≡ Some (variants_before image n + place)
  pub row : variant_under image n (Some vs) ≡ slice_get image.variants (variants_before image n + place)
  pub result : Body
  pub there : slice_get bodies place ≡ Some result
  pub made : IsMadeUnder shorts (zip body.switches vs) body result

-- each combination leads to such a variant, and other words for the switches to none
pub record AreLed (shorts : Shorts) (image : Fields) (domains : List Domain) (body : Body) (bodies : List Body) (n : ℕ) : Type 0 where
  pub combinations : (vs : List ℕ) → IsCombination (domain_values domains) vs → IsLed shorts image body bodies n vs
  pub others : (vs : List ℕ) → AreValues domains vs → (IsCombination (domain_values domains) vs → ⊥) → fitting_variant image n vs ≡ None

abbrev pub CombinationsAreLed : Type 0
CombinationsAreLed =
    (image : Fields) (tables : List (List (List GuardRow))) → HasTables image tables →
    (domains : List Domain) (rows : List Bound) (variants : Variants) → HaveWords domains → AreAllCombinations (domain_values domains) (all_values rows) → IsMerged domains rows variants →
    (n : ℕ) (row : FunctionRow) → slice_get tables n ≡ Some (groups variants) → slice_get image.functions n ≡ Some row → kinds_of image row ≡ kinds domains →
    (shorts : Shorts) (body : Body) → AreMade shorts body rows → AreLed shorts image domains body variants.bodies n

-- each body of the variants is made of the function's, under the values of some assignment
abbrev pub EachIsMade : Shorts → Body → List Bound → List Body → Type 0
EachIsMade shorts body rows bodies = (i : ℕ) (b : Body) → slice_get bodies i ≡ Some b → (r : Bound) × In r rows × IsMadeUnder shorts (zip body.switches r.assignment.values) body b

abbrev pub BodiesAreMade : Type 0
BodiesAreMade =
    (domains : List Domain) (rows : List Bound) (variants : Variants) → IsMerged domains rows variants → (shorts : Shorts) (body : Body) → AreMade shorts body rows →
    EachIsMade shorts body rows variants.bodies
