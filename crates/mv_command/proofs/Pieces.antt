-- Texts that stand one for each of some things, with a comma between each two.
use Rattle.std.proofs.Common.{ℕ, zero, suc, ◌≡◌, ◌≢◌, ◌<◌, ◌+◌, false, List, [], ◌∷◌, ◌++◌, length, get_or, take, drop, map, refl, sym, ap, ◌∙◌, arith, eqb, add-one}
use Rattle.std.specs.Prelude.{All}
use Rattle.std.specs.List.{join_with_byte, slice_split}
use Rattle.std.proofs.lemmas.List.{map-append}
use Rattle.std.proofs.lemmas.List.Splits.{slice_split_none, slice_split_at}
use Rattle.std.proofs.lemmas.List.Elements.{All-head, All-tail}

pub first_same : {X : Type 0} {x y : X} {xs ys : List X} → x ∷ xs ≡ y ∷ ys → x ≡ y
first_same {x = x} e = ap (λ l. get_or l 0 x) e

pub rest_same : {X : Type 0} {x y : X} {xs ys : List X} → x ∷ xs ≡ y ∷ ys → xs ≡ ys
rest_same e = ap (drop 1) e

module _ {X : Type 0} (text_of : X → List ℕ) (Fits : X → Type 0) where
  -- where no text has a comma, they are cut apart at the commas
  pub list_cut : ((x : X) → Fits x → All (λ b. eqb b 44 ≡ false) (text_of x)) → (xs : List X) → All Fits xs → (xs ≡ [] → ⊥) →
      slice_split (λ b. eqb b 44) (join_with_byte 44 (map text_of xs)) ≡ map text_of xs
  list_cut plain [] each some = absurd (some refl)
  list_cut plain (x ∷ []) each some = slice_split_none (λ b. eqb b 44) (text_of x) (plain x (All-head Fits x [] each))
  list_cut plain (x ∷ next ∷ rest) each some =
      slice_split_at (λ b. eqb b 44) (text_of x) 44 (join_with_byte 44 (map text_of (next ∷ rest))) (plain x (All-head Fits x (next ∷ rest) each)) refl ∙
      ap (λ parts. text_of x ∷ parts) (list_cut plain (next ∷ rest) (All-tail Fits x (next ∷ rest) each) (λ e. let l : suc (length rest) ≡ 0 = ap length e in omega (arith, l)))

  -- where each thing has one text, they are the only ones that have these texts
  pub same_all : ((x y : X) → Fits x → Fits y → text_of x ≡ text_of y → x ≡ y) → (xs ys : List X) → All Fits xs → All Fits ys → map text_of xs ≡ map text_of ys → xs ≡ ys
  same_all same [] [] each more e = refl
  same_all same [] (y ∷ ys) each more e = let l : 0 ≡ suc (length (map text_of ys)) = ap length e in absurd (omega (arith, l))
  same_all same (x ∷ xs) [] each more e = let l : suc (length (map text_of xs)) ≡ 0 = ap length e in absurd (omega (arith, l))
  same_all same (x ∷ xs) (y ∷ ys) each more e =
      let first = same x y (All-head Fits x xs each) (All-head Fits y ys more) (first_same e) in
      let rest = same_all same xs ys (All-tail Fits x xs each) (All-tail Fits y ys more) (rest_same e) in
      rw (first, rest) refl

  module _ {W : Type 0} (now : W → List ℕ) where
    -- where one of some texts is nothing's, they aren't the texts of such things
    pub no_texts : (texts : List W) (xs : List X) (k : ℕ) (d : W) → k < length texts → ((x : X) → Fits x → now (get_or texts k d) ≢ text_of x) → All Fits xs → map text_of xs ≢ map now texts
    no_texts [] xs k d here none each e = omega (arith, here)
    no_texts (w ∷ ws) [] k d here none each e = let l : 0 ≡ suc (length (map now ws)) = ap length e in omega (arith, l)
    no_texts (w ∷ ws) (x ∷ rest) zero d here none each e = none x (All-head Fits x rest each) (sym (first_same e))
    no_texts (w ∷ ws) (x ∷ rest) (suc k) d here none each e = no_texts ws rest k d (omega (arith, here)) none (All-tail Fits x rest each) (rest_same e)

    take_more : (texts : List W) (k : ℕ) (d : W) → k < length texts → take (suc k) (map now texts) ≡ take k (map now texts) ++ now (get_or texts k d) ∷ []
    take_more [] k d here = absurd (omega (arith, here))
    take_more (w ∷ ws) zero d here = refl
    take_more (w ∷ ws) (suc k) d here = ap (λ l. now w ∷ l) (take_more ws k d (omega (arith, here)))

    pub texts_more : (texts : List W) (xs more : List X) (x : X) (k : ℕ) (d : W) → k < length texts → map text_of xs ≡ take k (map now texts) → now (get_or texts k d) ≡ text_of x →
        more ≡ xs ++ x ∷ [] → map text_of more ≡ take (k + 1) (map now texts)
    texts_more texts xs more x k d here before is grown =
        ap (map text_of) grown ∙ map-append text_of xs (x ∷ []) ∙ ap (λ l. l ++ text_of x ∷ []) before ∙ ap (λ t. take k (map now texts) ++ t ∷ []) (sym is) ∙
        sym (take_more texts k d here) ∙ ap (λ n. take n (map now texts)) (sym (add-one k))
