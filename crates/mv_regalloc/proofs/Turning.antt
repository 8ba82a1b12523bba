-- One row in place of another, a changed bit after the other.
use Rattle.std.proofs.Common.{arith, ◌≡◌, ℕ, ◌+◌, ◌<◌, ◌*◌, ◌/◌, ◌%◌, Bool, true, false, cond, not, eqb, ◌&&◌, ◌||◌, List, length, refl, sym, ap, ◌∙◌, ◌⊎◌, inl, inr, bit_or}
use Rattle.std.specs.Prelude.{slice_index, slice_set}
use Rattle.std.proofs.lemmas.Bool.{cases_eq, eq-eqb, ne_eqb}
use Rattle.mv_regalloc.specs.LiveBits.{in_word, word_bit}
use Rattle.mv_regalloc.specs.Told.{IsPut}
use Rattle.mv_regalloc.proofs.WordBits.{none_in, bits_either, word_put, word_stays}
use Rattle.mv_regalloc.proofs.Putting.{put_same, put_step}
use Rattle.mv_num.proofs.Booleans.{and_false, and_true}

-- ---- the bits of a word

-- those of a place whose bits are turned
abbrev pub turned : ℕ → ℕ → ℕ → Bool
turned place changed t = eqb (t / 64) place && not (in_word changed t)

pub turned_word : (place word t : ℕ) (c : Bool) → (turned place word t && (in_word word t && c)) ≡ false
turned_word place word t c = by (eqb (t / 64) place) (in_word word t)
  where
    by : (e w : Bool) → ((e && not w) && (w && c)) ≡ false
    by false w = refl
    by true true = refl
    by true false = refl

pub turned_all : (place changed t : ℕ) (c : Bool) → changed ≡ 0 → (turned place changed t && c) ≡ (eqb (t / 64) place && c)
turned_all place changed t c e = ap (λ v. (eqb (t / 64) place && not v) && c) (ap (λ w. in_word w t) e ∙ none_in t) ∙ ap (λ v. v && c) (and_true (eqb (t / 64) place))

module _ (place changed bit from temp count : ℕ) (low : bit < 64) (f : from ≡ place * 64) (e : temp < count → temp ≡ from + bit) (past : from + bit < count → temp ≡ from + bit) where
  -- the next one
  pub turned_next : (changed' : ℕ) → ((t : ℕ) → in_word changed' t ≡ cond (eqb (t % 64) bit) false (in_word changed t)) → (t : ℕ) → t < count → (turned place changed t || eqb t temp) ≡ turned place changed' t
  turned_next changed' h t l = by (cases_eq (t / 64) place) (cases_eq t temp)
    where
      end : (c d : Bool) → ((c && d) || false) ≡ (c && d)
      end true true = refl
      end true false = refl
      end false d = refl

      or_true : (c : Bool) → (c || true) ≡ true
      or_true true = refl
      or_true false = refl

      by : (t / 64 ≡ place) ⊎ (t / 64 ≡ place → ⊥) → (t ≡ temp) ⊎ (t ≡ temp → ⊥) → (turned place changed t || eqb t temp) ≡ turned place changed' t
      by (inl k) (inl s) =
          let here : temp ≡ from + bit = e (omega (arith, l, s)) in
          let at : t % 64 ≡ bit = omega (arith, here, s, f, low) in
          ap (λ c. turned place changed t || c) (eq-eqb t temp s) ∙ or_true (turned place changed t) ∙
          sym (ap (λ c. c && not (in_word changed' t)) (eq-eqb (t / 64) place k) ∙ ap not (h t ∙ ap (λ c. cond c false (in_word changed t)) (eq-eqb (t % 64) bit at)))
      by (inl k) (inr ne) =
          let other : t % 64 ≡ bit → ⊥ = λ s. (let here : from + bit ≡ t = omega (arith, s, k, f) in ne (sym (past (omega (arith, here, l)) ∙ here))) in
          ap (λ c. turned place changed t || c) (ne_eqb t temp ne) ∙ end (eqb (t / 64) place) (not (in_word changed t)) ∙
          ap (λ c. eqb (t / 64) place && not c) (sym (h t ∙ ap (λ c. cond c false (in_word changed t)) (ne_eqb (t % 64) bit other)))
      by (inr ne) (inl s) = absurd (let here : temp ≡ from + bit = e (omega (arith, l, s)) in ne (omega (arith, here, s, f, low)))
      by (inr ne) (inr s) =
          ap (λ c. (c && not (in_word changed t)) || eqb t temp) (ne_eqb (t / 64) place ne) ∙ ne_eqb t temp s ∙ ap (λ c. c && not (in_word changed' t)) (sym (ne_eqb (t / 64) place ne))

  pub turned_not : ((t : ℕ) → t % 64 ≡ bit → in_word changed t ≡ true) → (t : ℕ) → t < count → eqb t temp ≡ true → turned place changed t ≡ false
  turned_not h t l s = by (cases_eq t temp)
    where
      by : (t ≡ temp) ⊎ (t ≡ temp → ⊥) → turned place changed t ≡ false
      by (inl k) = let here : temp ≡ from + bit = e (omega (arith, l, k)) in ap (λ c. eqb (t / 64) place && not c) (h t (omega (arith, here, k, f, low))) ∙ and_false (eqb (t / 64) place)
      by (inr ne) = let d : true ≡ false = sym s ∙ ne_eqb t temp ne in absurd cc

  turned_bit : (t : ℕ) → t < count → eqb t temp ≡ true → t % 64 ≡ bit
  turned_bit t l s = by (cases_eq t temp)
    where
      by : (t ≡ temp) ⊎ (t ≡ temp → ⊥) → t % 64 ≡ bit
      by (inl k) = let here : temp ≡ from + bit = e (omega (arith, l, k)) in omega (arith, here, k, f, low)
      by (inr ne) = let d : true ≡ false = sym s ∙ ne_eqb t temp ne in absurd cc

  -- a value for one more of the temporaries of a word
  module _ (word : ℕ) (within : (t : ℕ) → in_word changed t ≡ true → in_word word t ≡ true) (set : (t : ℕ) → t % 64 ≡ bit → in_word changed t ≡ true)
      (changed' : ℕ) (less : (t : ℕ) → in_word changed' t ≡ cond (eqb (t % 64) bit) false (in_word changed t)) where
    pub word_within : (t : ℕ) → in_word changed' t ≡ true → in_word word t ≡ true
    word_within t h = by (eqb (t % 64) bit) (sym (less t) ∙ h)
      where
        by : (c : Bool) → cond c false (in_word changed t) ≡ true → in_word word t ≡ true
        by true h = let d : false ≡ true = h in absurd cc
        by false h = within t h

    pub word_step : (test test' : ℕ → Bool) (v : ℕ) (xs ys zs : List ℕ) → length xs ≡ count → IsPut (λ t. turned place changed t && (in_word word t && test t)) v xs ys → IsPut (λ t. eqb t temp && test' t) v ys zs →
        ((t : ℕ) → t < count → slice_index ys t ≡ slice_index xs t → test' t ≡ test t) → IsPut (λ t. turned place changed' t && (in_word word t && test t)) v xs zs
    word_step test test' v xs ys zs long h g same =
        put_step (turned place changed) (λ t. in_word word t && test t) v xs ys h (λ t. eqb t temp) (turned place changed') test' zs g
        (λ t l k. let low' : t < count = omega (arith, l, long) in
        same t low' (put_same (turned place changed) (λ t. in_word word t && test t) v xs ys h t l (turned_not set t low' k)) ∙ ap (λ c. c && test t) (sym (within t (set t (turned_bit t low' k)))))
        (λ t l. turned_next changed' less t (omega (arith, l, long)))

-- ---- the words of a row

-- of the temporaries of one place
pub place_as : (place t : ℕ) (a b : Bool) → (t / 64 ≡ place → a ≡ b) → (eqb (t / 64) place && a) ≡ (eqb (t / 64) place && b)
place_as place t a b h = by (cases_eq (t / 64) place)
  where
    by : (t / 64 ≡ place) ⊎ (t / 64 ≡ place → ⊥) → (eqb (t / 64) place && a) ≡ (eqb (t / 64) place && b)
    by (inl e) = ap (λ c. eqb (t / 64) place && c) (h e)
    by (inr ne) = ap (λ c. c && a) (ne_eqb (t / 64) place ne) ∙ ap (λ c. c && b) (sym (ne_eqb (t / 64) place ne))

-- the bits of a word are set at a place
pub place_marked : (ws : List ℕ) (place word old : ℕ) → place < length ws → old ≡ slice_index ws place → (t : ℕ) → word_bit (slice_set ws place (bit_or old word)) t ≡ ((eqb (t / 64) place && in_word word t) || word_bit ws t)
place_marked ws place word old room k t = by (cases_eq (t / 64) place)
  where
    swap : (a b : Bool) → (a || b) ≡ (b || a)
    swap true true = refl
    swap true false = refl
    swap false true = refl
    swap false false = refl

    by : (t / 64 ≡ place) ⊎ (t / 64 ≡ place → ⊥) → word_bit (slice_set ws place (bit_or old word)) t ≡ ((eqb (t / 64) place && in_word word t) || word_bit ws t)
    by (inl e) =
        word_put ws place (bit_or old word) room t e ∙ bits_either old word t ∙ swap (in_word old t) (in_word word t) ∙
        ap (λ w. in_word word t || in_word w t) (k ∙ ap (slice_index ws) (sym e)) ∙ ap (λ c. (c && in_word word t) || word_bit ws t) (sym (eq-eqb (t / 64) place e))
    by (inr ne) = word_stays ws place (bit_or old word) t ne ∙ ap (λ c. (c && in_word word t) || word_bit ws t) (sym (ne_eqb (t / 64) place ne))

pub place_past : (place : ℕ) (a b : Bool) (t : ℕ) → (t / 64 ≡ place → ⊥) → b ≡ ((eqb (t / 64) place && a) || b)
place_past place a b t ne = ap (λ c. (c && a) || b) (sym (ne_eqb (t / 64) place ne))
