-- The first variant with a row that holds.
use Rattle.std.proofs.Common.{◌≡◌, ℕ, zero, suc, ◌+◌, ◌-◌, ◌<◌, ◌≤◌, ◌⊎◌, Bool, true, false, List, [], ◌∷◌, length, take, drop, get_or, Some, None, refl, sym, ap, ◌∙◌, arith, inl, inr}
use Rattle.std.specs.List.{list_any}
use Rattle.std.proofs.lemmas.List.{drop_more, drop-drop, length-drop, drop_all}
use Rattle.mv_descriptors.specs.declared.rows.VariantRow.{VariantRow}
use Rattle.mv_descriptors.specs.declared.rows.GuardRow.{GuardRow}
use Rattle.mv_descriptors.specs.Guards.{fitting}

take_past : {R : Type 0} (n : ℕ) (xs : List R) → length xs ≤ n → take n xs ≡ xs
take_past zero [] h = refl
take_past zero (x ∷ xs) h = absurd (omega arith)
take_past (suc n) [] h = refl
take_past {R} (suc n) (x ∷ xs) h = ap (λ (t : List R). x ∷ t) (take_past n xs (omega arith))

-- as many rows as a variant has, or all that are left
own_rows : {R : Type 0} (rows : List R) (at end n : ℕ) → at ≤ length rows → ((end ≡ at + n) × (at + n ≤ length rows)) ⊎ ((end ≡ length rows) × (length rows ≤ at + n)) → take (end - at) (drop at rows) ≡ take n (drop at rows)
own_rows {R} rows at end n le (inl few) = let e : end - at ≡ n = omega (arith, few.0) in ap (λ (k : ℕ). take k (drop at rows)) e
own_rows rows at end n le (inr all) =
    take_past (end - at) (drop at rows) (omega (arith, all.0, length-drop at rows)) ∙ sym (take_past n (drop at rows) (omega (arith, all.1, length-drop at rows)))

other_rows : {R : Type 0} (rows : List R) (at end n : ℕ) → at ≤ length rows → ((end ≡ at + n) × (at + n ≤ length rows)) ⊎ ((end ≡ length rows) × (length rows ≤ at + n)) → drop end rows ≡ drop n (drop at rows)
other_rows {R} rows at end n le (inl few) = let e : end ≡ at + n = few.0 in sym (drop-drop n at rows ∙ ap (λ (k : ℕ). drop k rows) (sym e))
other_rows rows at end n le (inr all) = drop_all end rows (omega (arith, all.0)) ∙ sym (drop_all n (drop at rows) (omega (arith, all.1, length-drop at rows)))

pub fits_here : (test : GuardRow → Bool) (n i at end : ℕ) (d : VariantRow) (variants : List VariantRow) (rows : List GuardRow) → i < length variants → at ≤ length rows
    → ((end ≡ at + (get_or variants i d).guards) × (at + (get_or variants i d).guards ≤ length rows)) ⊎ ((end ≡ length rows) × (length rows ≤ at + (get_or variants i d).guards))
    → list_any test (take (end - at) (drop at rows)) ≡ true → fitting test n (drop i variants) (drop at rows) ≡ Some n
unfolding fitting
fits_here test n i at end d variants rows lt le ends holds =
    let own = own_rows rows at end (get_or variants i d).guards le ends in
    let here : list_any test (take (get_or variants i d).guards (drop at rows)) ≡ true = ap (list_any test) (sym own) ∙ holds in
    ap (λ (vs : List VariantRow). fitting test n vs (drop at rows)) (drop_more variants i d lt) ∙ rw here refl

pub fits_later : (test : GuardRow → Bool) (n i at end : ℕ) (d : VariantRow) (variants : List VariantRow) (rows : List GuardRow) → i < length variants → at ≤ length rows
    → ((end ≡ at + (get_or variants i d).guards) × (at + (get_or variants i d).guards ≤ length rows)) ⊎ ((end ≡ length rows) × (length rows ≤ at + (get_or variants i d).guards))
    → list_any test (take (end - at) (drop at rows)) ≡ false → fitting test n (drop i variants) (drop at rows) ≡ fitting test (n + 1) (drop (i + 1) variants) (drop end rows)
unfolding fitting
fits_later test n i at end d variants rows lt le ends holds =
    let own = own_rows rows at end (get_or variants i d).guards le ends in
    let here : list_any test (take (get_or variants i d).guards (drop at rows)) ≡ false = ap (list_any test) (sym own) ∙ holds in
    let next : suc n ≡ n + 1 = omega arith in
    ap (λ (vs : List VariantRow). fitting test n vs (drop at rows)) (drop_more variants i d lt)
    ∙ rw here (ap (λ (m : ℕ). fitting test m (drop (i + 1) variants) (drop (get_or variants i d).guards (drop at rows))) next)
    ∙ ap (λ (r : List GuardRow). fitting test (n + 1) (drop (i + 1) variants) r) (sym (other_rows rows at end (get_or variants i d).guards le ends))

pub fits_none : (test : GuardRow → Bool) (n i : ℕ) (variants : List VariantRow) (rows : List GuardRow) → length variants ≤ i → fitting test n (drop i variants) rows ≡ None
unfolding fitting
fits_none test n i variants rows past = ap (λ (vs : List VariantRow). fitting test n vs rows) (drop_all i variants past)
