-- Where the rows of a function stand.
use Rattle.std.proofs.Common.{◌≡◌, ℕ, suc, ◌+◌, ◌≤◌, List, [], ◌∷◌, length, take, drop, get_or, slice_get, Some, ap, ◌∙◌, arith}
use Rattle.std.specs.List.{sum_by}
use Rattle.std.proofs.Math.Seq.{take-add, take-suc}
use Rattle.std.proofs.lemmas.List.Sums.{sum_by-append, sum_by-take-le}
use Rattle.std.proofs.lemmas.Option.{slice_get_within, get_or_from_slice_get}
use Rattle.mv_descriptors.specs.declared.rows.FunctionRow.{FunctionRow}
use Rattle.mv_descriptors.specs.declared.rows.VariantRow.{VariantRow}
use Rattle.mv_image.specs.Spelling.{Fields}
use Rattle.mv_image.specs.Patched.{variants_before, guards_before}

sum_next : {R : Type 0} (f : R → ℕ) (rows : List R) (k : ℕ) (r : R) → slice_get rows k ≡ Some r → sum_by f (take (k + 1) rows) ≡ sum_by f (take k rows) + f r
sum_next {R = R} f rows k r e =
    let more : k + 1 ≡ suc k = omega arith in
    let all = ap (λ (n : ℕ). sum_by f (take n rows)) more ∙ ap (sum_by f) (take-suc rows k r (slice_get_within rows k r e)) ∙ sum_by-append f (take k rows) (get_or rows k r ∷ []) in
    let last = ap f (get_or_from_slice_get rows k r r e) in
    omega (arith, all, last)

pub variants_next : (image : Fields) (f : ℕ) (row : FunctionRow) → slice_get image.functions f ≡ Some row → variants_before image (f + 1) ≡ variants_before image f + row.variants
variants_next image f row e = sum_next (λ (r : FunctionRow). r.variants) image.functions f row e

pub variants_within : (image : Fields) (f : ℕ) (row : FunctionRow) → sum_by (λ (r : FunctionRow). r.variants) image.functions ≡ length image.variants → slice_get image.functions f ≡ Some row
    → variants_before image f + row.variants ≤ length image.variants
variants_within image f row total e =
    let next = variants_next image f row e in
    let few = sum_by-take-le (λ (r : FunctionRow). r.variants) image.functions (f + 1) in
    omega (arith, next, few, total)

pub guards_next : (image : Fields) (v n : ℕ) → guards_before image (v + n) ≡ guards_before image v + sum_by (λ (r : VariantRow). r.guards) (take n (drop v image.variants))
guards_next image v n = ap (sum_by (λ (r : VariantRow). r.guards)) (take-add v n image.variants) ∙ sum_by-append (λ (r : VariantRow). r.guards) (take v image.variants) (take n (drop v image.variants))

pub guards_within : (image : Fields) (v : ℕ) → sum_by (λ (r : VariantRow). r.guards) image.variants ≡ length image.guards → guards_before image v ≤ length image.guards
guards_within image v total =
    let few = sum_by-take-le (λ (r : VariantRow). r.guards) image.variants v in
    omega (arith, few, total)
