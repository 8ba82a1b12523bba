-- The rows that lead to each body, one more at a time.
use Rattle.std.proofs.Common.{arith, ◌≡◌, ◌≢◌, ℕ, zero, suc, ◌+◌, ◌<◌, Bool, true, false, cond, eqb, List, [], ◌∷◌, ◌++◌, length, take, get_or, refl, sym, ◌∙◌, ap, subst, length-append}
use Rattle.std.proofs.lemmas.Bool.{eq-eqb, ne_eqb}
use Rattle.std.proofs.lemmas.List.{take_more, length-map}
use Rattle.mv_ir.specs.declared.body.Body.{Body}
use Rattle.mv_ir.proofs.Keeping.{map_append}
use Rattle.mv_descriptors.specs.declared.rows.GuardRow.{GuardRow}
use Rattle.mv_merge.specs.declared.rows.Guarded.{Guarded}
use Rattle.mv_merge.specs.declared.rows.Variants.{Variants}
use Rattle.mv_variants.specs.Bound.Rows.{rows_of, groups_from}
use Rattle.mv_variants.specs.declared.variant.Variant.{Variant}
use Rattle.mv_variants.specs.Variants.{AreGroupedFrom, AreGrouped}

rows_append : (xs : List Guarded) (g : Guarded) (i : ℕ) → rows_of (xs ++ g ∷ []) i ≡ cond (eqb g.body i) (rows_of xs i ++ g.row ∷ []) (rows_of xs i)
rows_append [] g i = refl
rows_append (x ∷ xs) g i = ap (λ l. cond (eqb x.body i) (x.row ∷ l) l) (rows_append xs g i) ∙ by (eqb x.body i) (eqb g.body i)
  where
    by : (b c : Bool) →
        cond b (x.row ∷ cond c (rows_of xs i ++ g.row ∷ []) (rows_of xs i)) (cond c (rows_of xs i ++ g.row ∷ []) (rows_of xs i)) ≡
        cond c (cond b (x.row ∷ rows_of xs i) (rows_of xs i) ++ g.row ∷ []) (cond b (x.row ∷ rows_of xs i) (rows_of xs i))
    by true true = refl
    by true false = refl
    by false true = refl
    by false false = refl

-- one guard more
pub rows_step : (guards : List Guarded) (k i : ℕ) (any : Guarded) (old new : List GuardRow) → k < length guards → old ≡ rows_of (take k guards) i →
    new ≡ cond (eqb (get_or guards k any).body i) (old ++ (get_or guards k any).row ∷ []) old → new ≡ rows_of (take (k + 1) guards) i
rows_step guards k i any old new below is e =
    let g = get_or guards k any in
    e ∙ ap (λ rows. cond (eqb g.body i) (rows ++ g.row ∷ []) rows) is ∙ sym (rows_append (take k guards) g i) ∙ ap (λ xs. rows_of xs i) (sym (take_more guards k any below))

groups_push : (guards : List Guarded) (i n : ℕ) → groups_from guards i (suc n) ≡ groups_from guards i n ++ rows_of guards (i + n) ∷ []
groups_push guards i zero = ap (λ k. rows_of guards k ∷ []) (let e : i ≡ i + 0 = omega arith in e)
groups_push guards i (suc n) =
    ap (λ l. rows_of guards i ∷ l) (groups_push guards (suc i) n ∙ ap (λ k. groups_from guards (suc i) n ++ rows_of guards k ∷ []) (let e : suc i + n ≡ i + suc n = omega arith in e))

pub group_push : (guards : List Guarded) (bodies : List Body) (variants new : List Variant) (body : Body) (rows : List GuardRow) → AreGroupedFrom guards bodies variants →
    rows ≡ rows_of guards (length variants) → new ≡ variants ++ record { body = body; guards = rows } ∷ [] → AreGroupedFrom guards (bodies ++ body ∷ []) new
group_push guards bodies variants new body rows are e n =
    let v : Variant = record { body = body; guards = rows } in
    let long : length (variants ++ v ∷ []) ≡ suc (length variants) = omega (arith, length-append variants (v ∷ [])) in
    subst (λ (vs : List Variant). AreGroupedFrom guards (bodies ++ body ∷ []) vs) (sym n) (record {
      bodies_are = map_append (λ (x : Variant). x.body) variants (v ∷ []) ∙ ap (λ l. l ++ body ∷ []) are.bodies_are;
      guards_are =
          map_append (λ (x : Variant). x.guards) variants (v ∷ []) ∙ ap (λ l. l ++ rows ∷ []) are.guards_are ∙
          ap (λ r. groups_from guards 0 (length variants) ++ r ∷ []) (e ∙ ap (rows_of guards) (let same : length variants ≡ 0 + length variants = omega arith in same)) ∙
          sym (groups_push guards 0 (length variants)) ∙ ap (groups_from guards 0) (sym long);
    })

pub all_grouped : (merged : Variants) (variants : List Variant) (guards : List Guarded) (bodies : List Body) → guards ≡ merged.guards → bodies ≡ merged.bodies →
    AreGroupedFrom guards bodies variants → AreGrouped merged variants
all_grouped merged variants guards bodies g b are = record {
  bodies = are.bodies_are ∙ b;
  guards =
      are.guards_are ∙ ap (λ gs. groups_from gs 0 (length variants)) g ∙
      ap (groups_from merged.guards 0) (sym (length-map variants (λ (v : Variant). v.body)) ∙ ap length (are.bodies_are ∙ b));
}

-- ---- tests

pub chosen : (a b : ℕ) (xs ys : List GuardRow) → a ≡ b → cond (eqb a b) xs ys ≡ xs
chosen a b xs ys e = ap (λ t. cond t xs ys) (eq-eqb a b e)

pub other : (a b : ℕ) (xs ys : List GuardRow) → a ≢ b → cond (eqb a b) xs ys ≡ ys
other a b xs ys e = ap (λ t. cond t xs ys) (ne_eqb a b e)
