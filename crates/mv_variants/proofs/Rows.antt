-- Bodies under assignments, one more at a time.
use Rattle.std.proofs.Common.{arith, ◌≡◌, ◌⊎◌, inl, inr, ℕ, zero, suc, ◌+◌, ◌<◌, ◌≤◌, List, [], ◌∷◌, ◌++◌, length, take, get_or, refl, sym, ◌∙◌, ap, subst, length-append}
use Rattle.std.specs.List.{zip}
use Rattle.std.proofs.lemmas.List.{get_or_append_left, take_more}
use Rattle.std.proofs.lemmas.Bool.{cases_lt}
use Rattle.std.proofs.Math.Seq.{get_or-append_seam}
use Rattle.mv_ir.specs.declared.body.Body.{Body}
use Rattle.mv_ir.specs.declared.body.Assignment.{Assignment}
use Rattle.mv_ir.specs.Shorts.{Shorts}
use Rattle.mv_ir.specs.Combinations.{In, IsCombination, values_of}
use Rattle.mv_ir.proofs.Keeping.{map_append}
use Rattle.mv_merge.specs.declared.rows.Bound.{Bound}
use Rattle.mv_merge.specs.declared.rows.Guarded.{Guarded}
use Rattle.mv_merge.specs.declared.rows.Variants.{Variants}
use Rattle.mv_merge.specs.Grouping.{IsAdded, IsGrouped}
use Rattle.mv_merge.specs.Laws.{AddingKeepsGroups, NoRowsAreGrouped}
use Rattle.mv_variants.specs.Bound.Meant.{IsMadeUnder}
use Rattle.mv_variants.specs.Bound.Led.{AreMade}
use Rattle.mv_variants.specs.Rows.{AreMergedUnder, AreRowsUnder, IsRowUnder}
use Rattle.mv_ir_worlds.proofs.Functions.{combination_length}

in_push : {A : Type 0} (x y : A) (xs : List A) → In x (xs ++ y ∷ []) → In x xs ⊎ (y ≡ x)
in_push x y xs h = by (cases_lt h.0 (length xs))
  where
    by : (h.0 < length xs) ⊎ (length xs ≤ h.0) → In x xs ⊎ (y ≡ x)
    by (inl below) = inl (h.0, below, λ d. sym (get_or_append_left xs (y ∷ []) d h.0 below) ∙ h.2 d)
    by (inr past) =
        let last : h.0 ≡ length xs = omega (arith, past, h.1, length-append xs (y ∷ [])) in
        inr (sym (get_or-append_seam xs y [] x) ∙ subst (λ k. get_or (xs ++ y ∷ []) k x ≡ x) last (h.2 x))

made_push : (shorts : Shorts) (body : Body) (rows : List Bound) (row : Bound) → AreMade shorts body rows → IsMadeUnder shorts (zip body.switches row.assignment.values) body row.body →
    AreMade shorts body (rows ++ row ∷ [])
made_push shorts body rows row made here r at = by (in_push r row rows at)
  where
    by : In r rows ⊎ (row ≡ r) → IsMadeUnder shorts (zip body.switches r.assignment.values) body r.body
    by (inl before) = made r before
    by (inr same) = subst (λ (x : Bound). IsMadeUnder shorts (zip body.switches x.assignment.values) body x.body) same here

pub none_merged : (shorts : Shorts) (body : Body) (variants : Variants) → variants.bodies ≡ [] → variants.guards ≡ [] → NoRowsAreGrouped → AreMergedUnder shorts body [] variants
none_merged shorts body variants bodies guards none = record {
  rows = [];
  under = record { values = refl; made = λ r at. absurd (omega (arith, at.1)) };
  grouped = subst (λ (bs : List Body). IsGrouped [] bs variants.guards) (sym bodies) (subst (IsGrouped [] []) (sym guards) none);
}

module _ (shorts : Shorts) (body : Body) (all : List Assignment) (k : ℕ) (a : Assignment) (below : k < length all) (at : a ≡ get_or all k a) (row : Bound) (is : IsRowUnder shorts body a row) where
  row_push : (rows : List Bound) → AreRowsUnder shorts body (take k all) rows → AreRowsUnder shorts body (take (k + 1) all) (rows ++ row ∷ [])
  row_push rows are =
      let more : take (k + 1) all ≡ take k all ++ a ∷ [] = take_more all k a below ∙ ap (λ x. take k all ++ x ∷ []) (sym at) in
      record {
        values =
            map_append (λ (r : Bound). r.assignment.values) rows (row ∷ []) ∙ ap (λ vs. vs ++ row.assignment.values ∷ []) are.values ∙
            ap (λ v. values_of (take k all) ++ v ∷ []) is.values ∙ sym (map_append (λ (x : Assignment). x.values) (take k all) (a ∷ [])) ∙ ap values_of (sym more);
        made = made_push shorts body rows row are.made (subst (λ vs. IsMadeUnder shorts (zip body.switches vs) body row.body) (sym is.values) is.made);
      }

  pub merged_push : (variants new : Variants) → AddingKeepsGroups → AreMergedUnder shorts body (take k all) variants → IsAdded variants.bodies variants.guards row new.bodies new.guards →
      AreMergedUnder shorts body (take (k + 1) all) new
  merged_push variants new keeps are added = record {
    rows = are.rows ++ row ∷ [];
    under = row_push are.rows are.under;
    grouped = keeps are.rows variants.bodies variants.guards row new.bodies new.guards are.grouped added;
  }

  -- its values are as few as the switches
  pub row_short : length body.switches ≡ length a.values → length body.switches ≤ 6 → length row.assignment.values ≤ 6
  row_short each few = omega (arith, ap length is.values, each, few)

-- one body more at most
pub few_more : (bodies : List Body) (guards : List Guarded) (row : Bound) (bodies' : List Body) (guards' : List Guarded) → IsAdded bodies guards row bodies' guards' → (k : ℕ) →
    length bodies ≤ k → length bodies' ≤ k + 1
few_more bodies guards row bodies' guards' added k few = by added.grown
  where
    by : (bodies' ≡ bodies) ⊎ ((bodies' ≡ bodies ++ row.body ∷ []) × (added.place ≡ length bodies) × ((i : ℕ) (d : Body) → i < length bodies → get_or bodies i d ≡ row.body → ⊥)) → length bodies' ≤ k + 1
    by (inl e) = omega (arith, ap length e, few)
    by (inr h) = omega (arith, ap length h.0, length-append bodies (row.body ∷ []), few)

-- ---- how long assignments are

pub values_long : (ds : List (List ℕ)) (all : List Assignment) → ((vs : List ℕ) → In vs (values_of all) → IsCombination ds vs) → (k : ℕ) (d : Assignment) → k < length all → length (get_or all k d).values ≡ length ds
values_long ds [] only k d below = absurd (omega arith)
values_long ds (a ∷ all) only zero d below =
    let first : 0 < suc (length (values_of all)) = omega arith in
    combination_length ds a.values (only a.values (0, first, λ e. refl))
values_long ds (a ∷ all) only (suc k) d below =
    let less : suc k < suc (length all) = below in
    values_long ds all (λ vs at. let more : suc at.0 < suc (length (values_of all)) = omega (arith, at.1) in only vs (suc at.0, more, at.2)) k d (omega arith)
