-- Guard rows in groups belong to the functions of their groups.
use Rattle.std.proofs.Common.{◌≡◌, ℕ, ◌+◌, ◌-◌, ◌<◌, ◌≤◌, List, [], length, take, map, get_or, All, sym, ap, subst, ◌∙◌, arith}
use Rattle.std.specs.Prelude.{sum, sum_by}
use Rattle.std.specs.List.{flat_map}
use Rattle.std.proofs.Math.Seq.{take-length}
use Rattle.std.proofs.lemmas.List.{length-map, take-map}
use Rattle.std.proofs.lemmas.List.Concat.{length-flat_map, get_or-flat_map}
use Rattle.std.proofs.lemmas.List.Sums.{sum_by_more, sum-map}
use Rattle.mv_descriptors.specs.declared.rows.FunctionRow.{FunctionRow}
use Rattle.mv_descriptors.specs.declared.rows.VariantRow.{VariantRow}
use Rattle.mv_descriptors.specs.declared.rows.GuardRow.{GuardRow}
use Rattle.mv_image.specs.Patched.{variants_before, guards_before}
use Rattle.mv_image.specs.WellFormed.{FitsGuard}
use Rattle.mv_image.specs.Groups.{variant_groups, GroupsAreRows}

-- sums of the same numbers
same_sums : {X Y : Type 0} (f : X → ℕ) (g : Y → ℕ) (xs : List X) (ys : List Y) (n : ℕ) → map f xs ≡ map g ys → sum_by f (take n xs) ≡ sum_by g (take n ys)
same_sums f g xs ys n e =
    sym (sum-map f (take n xs)) ∙ ap sum (sym (take-map f n xs)) ∙ ap (λ (ns : List ℕ). sum (take n ns)) e ∙ ap sum (take-map g n ys) ∙ sum-map g (take n ys)

same_count : {X Y : Type 0} (f : X → ℕ) (g : Y → ℕ) (xs : List X) (ys : List Y) → map f xs ≡ map g ys → length xs ≡ length ys
same_count f g xs ys e = sym (length-map xs f) ∙ ap length e ∙ length-map ys g

-- how many there are before a list, among lists one after the other
joined_before : {A : Type 0} (xs : List (List A)) (k : ℕ) → length (flat_map (λ x. x) (take k xs)) ≡ sum_by length (take k xs)
joined_before xs k = length-flat_map (λ x. x) (take k xs)

joined_length : {A : Type 0} (xs : List (List A)) → length (flat_map (λ x. x) xs) ≡ sum_by length xs
joined_length xs = length-flat_map (λ x. x) xs

-- an item among those of lists one after the other is one of its list's
pub item_within : {A : Type 0} (xs : List (List A)) (k i : ℕ) → k < length xs → sum_by length (take k xs) ≤ i → i < sum_by length (take (k + 1) xs) → i - sum_by length (take k xs) < length (get_or xs k [])
item_within xs k i lt from to = omega (arith, from, to, sum_by_more length xs k [] lt)

pub item_is : {A : Type 0} (xs : List (List A)) (k i : ℕ) (d : A) → k < length xs → sum_by length (take k xs) ≤ i → i < sum_by length (take (k + 1) xs)
    → get_or (flat_map (λ x. x) xs) i d ≡ get_or (get_or xs k []) (i - sum_by length (take k xs)) d
item_is xs k i d lt from to =
    let start : ℕ = sum_by length (take k xs) in
    let e : i ≡ length (flat_map (λ x. x) (take k xs)) + (i - start) = omega (arith, from, joined_before xs k) in
    ap (λ (j : ℕ). get_or (flat_map (λ x. x) xs) j d) e ∙ get_or-flat_map (λ x. x) xs k (i - start) [] d lt (item_within xs k i lt from to)

pub groups_are_rows : GroupsAreRows
groups_are_rows a groups are fit =
    let all : List (List GuardRow) = variant_groups groups in
    let f : FunctionRow → ℕ = λ row. row.variants in
    let g : VariantRow → ℕ = λ row. row.guards in
    let variants : (n : ℕ) → variants_before a n ≡ sum_by length (take n groups) = λ n. same_sums f length a.functions groups n are.functions in
    let guards : (n : ℕ) → guards_before a n ≡ sum_by length (take n all) = λ n. same_sums g length a.variants all n are.variants in
    let functions_count : length a.functions ≡ length groups = same_count f length a.functions groups are.functions in
    let variants_count : length a.variants ≡ length all = same_count g length a.variants all are.variants in
    record {
      sums = record {
        variants = ap (sum_by f) (sym (take-length a.functions)) ∙ variants (length a.functions) ∙ ap (λ (n : ℕ). sum_by length (take n groups)) functions_count ∙ ap (sum_by length) (take-length groups)
            ∙ sym (joined_length groups) ∙ sym variants_count;
        guards = ap (sum_by g) (sym (take-length a.variants)) ∙ guards (length a.variants) ∙ ap (λ (n : ℕ). sum_by length (take n all)) variants_count ∙ ap (sum_by length) (take-length all)
            ∙ sym (joined_length all) ∙ sym (ap length are.guards);
      };
      guards = λ function variant guard d e own. (
          let hf : function < length groups = omega (arith, functions_count, own.function_there) in
          let hv : variant < length all = omega (arith, variants_count, own.variant_there) in
          let from : sum_by length (take function groups) ≤ variant = omega (arith, variants function, own.first_variant) in
          let to : variant < sum_by length (take (function + 1) groups) = omega (arith, variants (function + 1), own.last_variant) in
          let first : sum_by length (take variant all) ≤ guard = omega (arith, guards variant, own.first_guard) in
          let last : guard < sum_by length (take (variant + 1) all) = omega (arith, guards (variant + 1), own.last_guard) in
          let row : FunctionRow = get_or a.functions function d in
          let group : List (List GuardRow) = get_or groups function [] in
          let place : ℕ = variant - sum_by length (take function groups) in
          let rows : All (FitsGuard a row) (get_or group place []) = fit function d own.function_there place [] (item_within groups function variant hf from to) in
          let mine : All (FitsGuard a row) (get_or all variant []) = subst (λ (x : List GuardRow). All (FitsGuard a row) x) (sym (item_is groups function variant [] hf from to)) rows in
          let there : get_or a.guards guard e ≡ get_or (get_or all variant []) (guard - sum_by length (take variant all)) e = ap (λ (x : List GuardRow). get_or x guard e) are.guards ∙ item_is all variant guard e hv first last in
          subst (FitsGuard a row) (sym there) (mine (guard - sum_by length (take variant all)) e (item_within all variant guard hv first last)));
    }
