-- The size of code, one body more at a time.
use Rattle.std.proofs.Common.{arith, ◌≡◌, ◌⊎◌, inl, inr, ℕ, ◌<◌, ◌≤◌, List, [], ◌∷◌, ◌++◌, All, None, Some, length, get_or, slice_get, refl, sym, subst}
use Rattle.std.proofs.lemmas.List.Elements.{All-push}
use Rattle.std.proofs.lemmas.List.Sums.{sum_by-append}
use Rattle.mv_ir.specs.declared.body.Body.{Body}
use Rattle.mv_ir.specs.Shorts.{Shorts}
use Rattle.mv_ir.specs.Measures.{deepest}
use Rattle.mv_ir.specs.WellFormed.{IsWellFormed}
use Rattle.mv_merge.specs.declared.rows.Bound.{Bound}
use Rattle.mv_merge.specs.declared.rows.Guarded.{Guarded}
use Rattle.mv_merge.specs.Grouping.{IsAdded}
use Rattle.mv_variants.specs.Bound.Meant.{IsMadeUnder, IsVariantOf, MadeAreVariants}
use Rattle.mv_variants.specs.declared.size.Size.{Size}
use Rattle.mv_variants.specs.Fronts.{AreMeasured, IsFirstOver}
use Rattle.mv_variants.specs.Sizes.{body_sites, body_words, Fits, HasSmallFrame, IfNew, IsMadeAndSelected, IsSelectable, IsWith, IsWithBody, IsWithNew}
use Rattle.mv_variants.proofs.OfBound.Variants.{room_fits}

-- ---- sizes

pub with_none : (size : Size) → Fits size → IsWith size [] size
with_none size fits = record { words = let few = fits.words in omega arith; sites = let few = fits.sites in omega arith }

pub with_more : (a b c : Size) (xs ys : List Body) → IsWith a xs b → IsWith b ys c → IsWith a (xs ++ ys) c
with_more a b c xs ys first second = record {
  words = omega (arith, first.words, second.words, sum_by-append body_words xs ys);
  sites = omega (arith, first.sites, second.sites, sum_by-append body_sites xs ys);
}

pub with_less : (a b c : Size) (xs ys : List Body) → IsWith a xs b → IsWith a (xs ++ ys) c → IsWith b ys c
with_less a b c xs ys first all = record {
  words = omega (arith, first.words, all.words, sum_by-append body_words xs ys);
  sites = omega (arith, first.sites, all.sites, sum_by-append body_sites xs ys);
}

-- ---- bodies that are made

pub made_selectable : MadeAreVariants → (shorts : Shorts) (ps : List (ℕ × ℕ)) (body b : Body) → IsWellFormed body → deepest body.code ≤ 4 → HasSmallFrame body →
    IsMadeUnder shorts ps body b → IsSelectable b
made_selectable made shorts ps body b formed shallow small m =
    let variant : IsVariantOf shorts ps body b = made shorts ps body b m in
    record { formed = variant.well_formed formed; shallow = variant.deepest shallow; frame = room_fits body b variant.sizes variant.room small }

-- ---- one body more

none_behind : (xs : List Body) → slice_get xs (length xs) ≡ None
none_behind [] = refl
none_behind (x ∷ xs) = none_behind xs

last_behind : (xs : List Body) (x : Body) → slice_get (xs ++ x ∷ []) (length xs) ≡ Some x
last_behind [] x = refl
last_behind (y ∷ xs) x = last_behind xs x

-- the size that is told by a view of the bodies and by their old count
pub new_with : (bodies bodies' : List Body) (size with : Size) (view : List Body) (place : ℕ) → view ≡ bodies' → place ≡ length bodies → IsWithNew size (slice_get view place) with →
    IsWithNew size (slice_get bodies' (length bodies)) with
new_with bodies bodies' size with view place same count is =
    subst (λ (n : ℕ). IsWithNew size (slice_get bodies' n) with) count (subst (λ (bs : List Body). IsWithNew size (slice_get bs place) with) same is)

module _ (bodies : List Body) (guards : List Guarded) (row : Bound) (bodies' : List Body) (guards' : List Guarded) (added : IsAdded bodies guards row bodies' guards') where
  abbrev Grown : Type 0
  Grown = (bodies' ≡ bodies) ⊎ ((bodies' ≡ bodies ++ row.body ∷ []) × (added.place ≡ length bodies) × ((k : ℕ) (d : Body) → k < length bodies → get_or bodies k d ≡ row.body → ⊥))

  same_behind : bodies' ≡ bodies → slice_get bodies' (length bodies) ≡ None
  same_behind e = subst (λ (bs : List Body). slice_get bs (length bodies) ≡ None) (sym e) (none_behind bodies)

  new_behind : bodies' ≡ bodies ++ row.body ∷ [] → slice_get bodies' (length bodies) ≡ Some row.body
  new_behind e = subst (λ (bs : List Body). slice_get bs (length bodies) ≡ Some row.body) (sym e) (last_behind bodies row.body)

  -- the new body is one that code can be selected for
  pub new_selectable : IsSelectable row.body → IfNew IsSelectable (slice_get bodies' (length bodies))
  new_selectable h = by added.grown
    where
      by : Grown → IfNew IsSelectable (slice_get bodies' (length bodies))
      by (inl e) = subst (IfNew IsSelectable) (sym (same_behind e)) tt
      by (inr g) = subst (IfNew IsSelectable) (sym (new_behind g.0)) h

  module _ (shorts : Shorts) (body : Body) (ps : List (ℕ × ℕ)) (made : IsMadeUnder shorts ps body row.body) (first size with : Size) (measured : AreMeasured shorts body first bodies size)
      (new : IsWithNew size (slice_get bodies' (length bodies)) with) where
    each_new : IsWithBody size row.body with → All (IsMadeAndSelected shorts body) (bodies ++ row.body ∷ [])
    each_new w =
        All-push (IsMadeAndSelected shorts body) bodies row.body measured.each (record { values = ps; made = made; suitable = w.suitable; frame = w.frame })

    pub measured_more : Fits with → AreMeasured shorts body first bodies' with
    measured_more fits = by added.grown
      where
        by : Grown → AreMeasured shorts body first bodies' with
        by (inl e) =
            let same : with ≡ size = subst (λ o. IsWithNew size o with) (same_behind e) new in
            subst (λ (bs : List Body). AreMeasured shorts body first bs with) (sym e) (subst (AreMeasured shorts body first bodies) (sym same) measured)
        by (inr g) =
            let w : IsWithBody size row.body with = subst (λ o. IsWithNew size o with) (new_behind g.0) new in
            subst (λ (bs : List Body). AreMeasured shorts body first bs with) (sym g.0) (record { each = each_new w; is = with_more first size with bodies (row.body ∷ []) measured.is w.is; fits = fits })

    -- where there is no room for it, it is new
    pub new_over : (Fits with → ⊥) → (bodies' ≡ bodies ++ row.body ∷ []) × IsFirstOver shorts body first bodies row.body with
    new_over past = by added.grown
      where
        by : Grown → (bodies' ≡ bodies ++ row.body ∷ []) × IsFirstOver shorts body first bodies row.body with
        by (inl e) =
            let same : with ≡ size = subst (λ o. IsWithNew size o with) (same_behind e) new in
            absurd (past (subst Fits (sym same) measured.fits))
        by (inr g) =
            let w : IsWithBody size row.body with = subst (λ o. IsWithNew size o with) (new_behind g.0) new in (
              g.0,
              record {
                each = each_new w;
                before = λ other is. record { words = omega (arith, is.words, measured.is.words, measured.fits.words); sites = omega (arith, is.sites, measured.is.sites, measured.fits.sites) };
                is = with_more first size with bodies (row.body ∷ []) measured.is w.is;
                past = past;
              },
            )
