-- Elements of lists, and lists joined.
use Rattle.std.proofs.Common.{◌≡◌, ℕ, zero, suc, ◌+◌, List, [], ◌∷◌, ◌++◌, Some, length, map, take, sum_by, slice_get, All, refl, sym, ap, ◌∙◌, subst, arith}
use Rattle.std.specs.List.{flat_map}
use Rattle.std.proofs.lemmas.List.{map-append}
use Rattle.std.proofs.lemmas.List.Elements.{All-nil, All-append, All-map, All-get_or}
use Rattle.std.proofs.lemmas.List.Sums.{sum_by-cons}
use Rattle.std.proofs.lemmas.Option.{slice_get_within, get_or_from_slice_get, slice_get-get_or, same_Some}
use Rattle.mv_isa.specs.declared.labelled.Labelled.{Labelled}
use Rattle.mv_ir.specs.Combinations.{In}
use Rattle.mv_ir.specs.Measures.{joined}
use Rattle.mv_linker.specs.declared.parts.PartFunction.{PartFunction}
use Rattle.mv_linker.specs.declared.parts.PartVariant.{PartVariant}
use Rattle.mv_linker.specs.Linked.{function_variants, variant_codes}
use Rattle.mv_parts.proofs.Lists.{all_by_index, map_at}
use Rattle.mv_num.proofs.Lists.{slice_get_left, get_right}

-- what stands in a list
pub one_in : {X : Type 0} (P : X → Type 0) (xs : List X) → All P xs → (x : X) → In x xs → P x
one_in P xs all x (i, below, is) = subst P (is x) (All-get_or P xs i x below all)

pub in_at : {X : Type 0} (xs : List X) (i : ℕ) (x : X) → slice_get xs i ≡ Some x → In x xs
in_at xs i x e = (i, slice_get_within xs i x e, λ d. get_or_from_slice_get xs i x d e)

pub in_map : {X Y : Type 0} (f : X → Y) (xs : List X) (x : X) → In x xs → In (f x) (map f xs)
in_map f xs x (i, below, is) = in_at (map f xs) i (f x) (map_at f xs i x (slice_get-get_or xs i x below ∙ ap (λ y. Some y) (is x)))

-- what holds of the code of each variant of each function
pub all_variants : (P : Labelled → Type 0) (attributed : List PartFunction) →
    ((n : ℕ) (a : PartFunction) → slice_get attributed n ≡ Some a → (j : ℕ) (v : PartVariant) → slice_get a.variants j ≡ Some v → P v.code) →
    All P (variant_codes (function_variants attributed))
all_variants P [] h = All-nil P
all_variants P (a ∷ attributed) h =
    let code = λ (v : PartVariant). v.code in
    let own : All P (map code a.variants) = All-map P code a.variants (all_by_index (λ (v : PartVariant). P v.code) a.variants (h 0 a refl)) in
    subst (All P) (sym (map-append code a.variants (function_variants attributed)))
    (All-append P (map code a.variants) (variant_codes (function_variants attributed)) own (all_variants P attributed (λ n b is. h (suc n) b is)))

-- lists that are made of elements, one behind the other
pub flat_is_joined : {X Y : Type 0} (f : X → List Y) (xs : List X) → flat_map f xs ≡ joined (map f xs)
flat_is_joined f [] = refl
flat_is_joined f (x ∷ xs) = ap (λ l. f x ++ l) (flat_is_joined f xs)

-- ---- variants among those of all functions

abbrev pub variant_count : PartFunction → ℕ
variant_count a = length a.variants

pub variant_at : (attributed : List PartFunction) (n j : ℕ) (a : PartFunction) (v : PartVariant) → slice_get attributed n ≡ Some a → slice_get a.variants j ≡ Some v →
    slice_get (function_variants attributed) (sum_by variant_count (take n attributed) + j) ≡ Some v
variant_at [] n j a v e at = absurd (cc e)
variant_at (b ∷ attributed) zero j a v e at =
    let same = same_Some b a e in
    let place : sum_by variant_count (take zero (b ∷ attributed)) + j ≡ j = omega arith in
    ap (slice_get (function_variants (b ∷ attributed))) place
    ∙ slice_get_left b.variants (function_variants attributed) j v (subst (λ (z : PartFunction). slice_get z.variants j ≡ Some v) (sym same) at)
variant_at (b ∷ attributed) (suc n) j a v e at =
    let more = sum_by-cons variant_count b (take n attributed) in
    let place : sum_by variant_count (take (suc n) (b ∷ attributed)) + j ≡ length b.variants + (sum_by variant_count (take n attributed) + j) = omega (arith, more) in
    ap (slice_get (function_variants (b ∷ attributed))) place ∙ get_right b.variants (function_variants attributed) (sum_by variant_count (take n attributed) + j)
    ∙ variant_at attributed n j a v e at
