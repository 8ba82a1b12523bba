-- Where the rows of an image's tables lead.
use Rattle.std.specs.Prelude.{ℕ, ◌≡◌, ◌+◌, ◌<◌, ◌^◌, List, map, length, Some, None, slice_get, All}
use Rattle.std.specs.List.{zip}
use Rattle.mv_ast.specs.declared.program.Program.{Program}
use Rattle.mv_ast.specs.declared.program.Function.{Function}
use Rattle.mv_ast.specs.Switches.{switch_domain}
use Rattle.mv_ir.specs.Combinations.{AllApart, IsCombination}
use Rattle.mv_ir.specs.Shorts.{Shorts}
use Rattle.mv_lower_spec.specs.Functions.{lower_function}
use Rattle.mv_variants.specs.Bound.Meant.{IsVariantOf}
use Rattle.mv_variants.specs.Bound.Shorts.{AreShortsOf}
use Rattle.mv_variants.specs.declared.variant.Variant.{Variant}
use Rattle.mv_variants.specs.Variants.{bodies_of}
use Rattle.mv_image.specs.Spelling.{Fields}
use Rattle.mv_image.specs.Patched.{variants_before, fitting_variant}

-- Of an attributed function with its variants, which is the n-th of an image's table.
module _ (p : Program) (g : Function) (image : Fields) (variants : List Variant) (n : ℕ) where
  -- Values of its switches lead to one of its variants: a body that means what the function means wherever the switches are read as these values, at no
  -- greater cost, over callees that do what some short bodies do, reads none of them, and is folded.
  pub record IsLedTo (vs : List ℕ) : Type 0 where
    pub place : ℕ
    pub variant : Variant
    pub there : slice_get variants place ≡ Some variant
    pub fits : fitting_variant image n vs ≡ Some (variants_before image n + place)
    pub shorts : Shorts
    pub known : AreShortsOf p shorts
    pub is_variant : IsVariantOf shorts (zip (lower_function p g).switches vs) (lower_function p g) variant.body

  -- Each of its assignments does, and no other words for the switches lead anywhere. No two variants are equal.
  pub record LeadsToVariants : Type 0 where
    pub assignments : (vs : List ℕ) → IsCombination (map (switch_domain p) g.switches) vs → IsLedTo vs
    pub others : (vs : List ℕ) → length vs ≡ length g.switches → All (λ v. v < 2 ^ 32) vs → (IsCombination (map (switch_domain p) g.switches) vs → ⊥) → fitting_variant image n vs ≡ None
    pub apart : AllApart (bodies_of variants)
