-- What is counted of the code of parts, function by function, and in how many labels it comes to.
use Rattle.std.proofs.Common.{◌≡◌, ℕ, ◌+◌, List, [], ◌∷◌, length, sum_by, refl, ap, arith, ltb}
use Rattle.std.specs.Prelude.{◌↔◌, IsTrue}
use Rattle.std.proofs.lemmas.Bool.{ltb-true, lt-ltb}
use Rattle.std.proofs.lemmas.List.{map-append}
use Rattle.std.proofs.lemmas.List.Sums.{sum_by-cons, sum_by-append}
use Rattle.mv_isa.specs.declared.labelled.Labelled.{Labelled}
use Rattle.mv_linker.specs.declared.parts.Parts.{Parts}
use Rattle.mv_linker.specs.declared.parts.PartFunction.{PartFunction}
use Rattle.mv_linker.specs.declared.parts.PartVariant.{PartVariant}
use Rattle.mv_linker.specs.Linked.{codes, function_variants, variant_codes, label_count}
use Rattle.mv_parts.specs.declared.counts.Counted.{Counted}
use Rattle.mv_parts.specs.declared.counts.Counted.TheVariants.{Labels}
use Rattle.mv_parts.specs.Counts.{up_to_greatest, count_in, count_in_variant, count_in_function, count_in_parts, HaveFewLabels}

variants_counted : (what : Counted) (variants : List PartVariant) → sum_by (count_in what) (variant_codes variants) ≡ sum_by (count_in_variant what) variants
variants_counted what [] = refl
variants_counted what (v ∷ variants) =
    let rest = variants_counted what variants in
    omega (arith, rest, sum_by-cons (count_in what) v.code (variant_codes variants), sum_by-cons (count_in_variant what) v variants)

functions_counted : (what : Counted) (attributed : List PartFunction) →
    sum_by (count_in what) (variant_codes (function_variants attributed)) ≡ sum_by (count_in_function what) attributed
functions_counted what [] = refl
functions_counted what (a ∷ attributed) =
    let rest = functions_counted what attributed in
    let here = variants_counted what a.variants in
    let all = ap (sum_by (count_in what)) (map-append (λ (v : PartVariant). v.code) a.variants (function_variants attributed)) in
    omega (
      arith,
      rest,
      here,
      all,
      sum_by-append (count_in what) (variant_codes a.variants) (variant_codes (function_variants attributed)),
      sum_by-cons (count_in_function what) a attributed,
    )

-- the functions' own code, and that of all variants
pub parts_counted : (what : Counted) (parts : Parts) (functions : List Labelled) (attributed : List PartFunction) (own all : ℕ) → functions ≡ parts.functions → attributed ≡ parts.attributed →
    own ≡ up_to_greatest (0 + sum_by (count_in what) functions) → all ≡ up_to_greatest (own + sum_by (count_in_function what) attributed) → all ≡ up_to_greatest (count_in_parts what parts)
parts_counted what parts functions attributed own all functions_are attributed_are first second =
    let own_codes = ap (sum_by (count_in what)) functions_are in
    let others = ap (sum_by (count_in_function what)) attributed_are in
    let variants = functions_counted what parts.attributed in
    let sum = sum_by-append (count_in what) parts.functions (variant_codes (function_variants parts.attributed)) in
    omega (arith, first, second, own_codes, others, variants, sum)

-- ---- labels

labels_counted : (codes : List Labelled) → sum_by (count_in Labels) codes ≡ length codes + label_count codes
labels_counted [] = refl
labels_counted (code ∷ codes) =
    let rest = labels_counted codes in
    omega (arith, rest, sum_by-cons (count_in Labels) code codes, sum_by-cons (λ (c : Labelled). c.labels) code codes)

pub few_labels : (parts : Parts) (n : ℕ) → n ≡ up_to_greatest (count_in_parts Labels parts) → IsTrue (ltb n 2147483641) ↔ HaveFewLabels parts
few_labels parts n e =
    let same = labels_counted (codes parts) in
    (λ is. let below = ltb-true n 2147483641 is in omega (arith, e, same, below), λ few. lt-ltb n 2147483641 (omega (arith, e, same, few)))
