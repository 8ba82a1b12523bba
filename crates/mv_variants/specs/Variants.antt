-- What the variants of a function are.
use Rattle.std.specs.Prelude.{ℕ, ◌≡◌, List, length, map, Some, slice_get}
use Rattle.mv_ast.specs.declared.program.Program.{Program}
use Rattle.mv_ast.specs.declared.program.Function.{Function}
use Rattle.mv_ast.specs.Switches.{switch_domain}
use Rattle.mv_ast.specs.Counts.{assignments}
use Rattle.mv_ir.specs.declared.body.Body.{Body}
use Rattle.mv_ir.specs.Shorts.{Shorts}
use Rattle.mv_ir.specs.Combinations.{AreAllCombinations}
use Rattle.mv_descriptors.specs.declared.rows.GuardRow.{GuardRow}
use Rattle.mv_lower_spec.specs.Functions.{lower_function}
use Rattle.mv_merge.specs.declared.rows.Bound.{Bound}
use Rattle.mv_merge.specs.declared.rows.Guarded.{Guarded}
use Rattle.mv_merge.specs.declared.rows.Variants.{Variants}
use Rattle.mv_merge.specs.Guards.{all_values, IsMerged}
use Rattle.mv_variants.specs.Bound.Rows.{groups_from, groups}
use Rattle.mv_variants.specs.Bound.Shorts.{AreShortsOf}
use Rattle.mv_variants.specs.Bound.Led.{AreMade}
use Rattle.mv_variants.specs.Bound.Switches.{domains_in, DomainsAreWords}
use Rattle.mv_variants.specs.declared.variant.Variant.{Variant}
use Rattle.mv_variants.specs.Domains.{switch_kind}

-- a body is what the function with a number is lowered to
abbrev pub IsLoweredFrom : Program → ℕ → Body → Type 0
IsLoweredFrom p f body = (g : Function) → slice_get p.functions f ≡ Some g → body ≡ lower_function p g

abbrev pub bodies_of : List Variant → List Body
bodies_of = map (λ v. v.body)

abbrev pub guards_of : List Variant → List (List GuardRow)
guards_of = map (λ v. v.guards)

-- bodies that stand at the first places, each with the rows that lead there
pub record AreGroupedFrom (guards : List Guarded) (bodies : List Body) (variants : List Variant) : Type 0 where
  pub bodies_are : bodies_of variants ≡ bodies
  pub guards_are : guards_of variants ≡ groups_from guards 0 (length variants)

-- the bodies that a merge keeps, each with the rows that lead to it
pub record AreGrouped (merged : Variants) (variants : List Variant) : Type 0 where
  pub bodies : bodies_of variants ≡ merged.bodies
  pub guards : guards_of variants ≡ groups merged

-- The variants of a function: there is a row for each combination of its switches' values, with a body that is made of the function's lowered one under
-- them, with short bodies of the program; these rows are merged, and each body stands with the rows that lead to it. The values are words of 32 bits.
pub record AreVariants (p : Program) (g : Function) (variants : List Variant) : Type 0 where
  pub words : DomainsAreWords p g.switches
  pub shorts : Shorts
  pub known : AreShortsOf p shorts
  pub rows : List Bound
  pub count : length rows ≡ assignments p g
  pub all : AreAllCombinations (map (switch_domain p) g.switches) (all_values rows)
  pub made : AreMade shorts (lower_function p g) rows
  pub merged : Variants
  pub is_merged : IsMerged (domains_in p (switch_kind p) g) rows merged
  pub grouped : AreGrouped merged variants

-- those of the function with a number
abbrev pub AreVariantsOf : Program → ℕ → List Variant → Type 0
AreVariantsOf p f variants = (g : Function) → slice_get p.functions f ≡ Some g → AreVariants p g variants
