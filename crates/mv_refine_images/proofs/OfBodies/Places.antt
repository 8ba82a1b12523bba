-- The codes of variants stand behind those of the functions, one attributed function's behind another's.
use Rattle.std.proofs.Common.{◌≡◌, ℕ, ◌+◌, Some, length, take, sum_by, slice_get, ap, ◌∙◌, arith}
use Rattle.mv_linker.specs.declared.parts.Parts.{Parts}
use Rattle.mv_linker.specs.declared.parts.PartFunction.{PartFunction}
use Rattle.mv_linker.specs.declared.parts.PartVariant.{PartVariant}
use Rattle.mv_linker.specs.Linked.{codes, function_variants, variant_codes}
use Rattle.mv_parts.proofs.LinkedLists.{variant_count, variant_at}
use Rattle.mv_parts.proofs.Lists.{map_at}
use Rattle.mv_refine_images.specs.Bodies.ProgramBodies.{variant_number}
use Rattle.mv_num.proofs.Lists.{get_right}

-- the code of a variant has its number
pub code_of_variant : (parts : Parts) (n j : ℕ) (a : PartFunction) (v : PartVariant) → slice_get parts.attributed n ≡ Some a → slice_get a.variants j ≡ Some v →
    slice_get (codes parts) (variant_number parts n j) ≡ Some v.code
code_of_variant parts n j a v e at =
    let variants = function_variants parts.attributed in
    let place = sum_by variant_count (take n parts.attributed) + j in
    let number : variant_number parts n j ≡ length parts.functions + place = omega arith in
    ap (slice_get (codes parts)) number ∙ get_right parts.functions (variant_codes variants) place
    ∙ map_at (λ (x : PartVariant). x.code) variants place v (variant_at parts.attributed n j a v e at)
