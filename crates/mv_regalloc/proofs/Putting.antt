-- Values put at the selected places of a list, some places after others.
use Rattle.std.proofs.Common.{arith, ◌≡◌, ℕ, zero, suc, ◌<◌, Bool, true, false, cond, ◌&&◌, ◌||◌, List, [], ◌∷◌, length, refl, sym, ap, ◌∙◌, None, Some}
use Rattle.std.specs.Prelude.{slice_index}
use Rattle.std.specs.List.{slice_get}
use Rattle.mv_regalloc.specs.Told.{IsPut}
use Rattle.mv_num.proofs.Booleans.{or_false, or_true}

pub item_none : (xs : List ℕ) (i : ℕ) → slice_get xs i ≡ None → slice_index xs i ≡ 0
item_none [] i h = refl
item_none (y ∷ xs) zero h = let e : Some y ≡ None = h in absurd cc
item_none (y ∷ xs) (suc i) h = item_none xs i h

pub put_as : (f g : ℕ → Bool) (v : ℕ) (xs ys : List ℕ) → ((t : ℕ) → t < length xs → f t ≡ g t) → IsPut f v xs ys → IsPut g v xs ys
put_as f g v xs ys e h = record { long = h.long; items = λ t l. h.items t l ∙ ap (λ c. cond c v (slice_index xs t)) (e t l) }

pub put_none : (f : ℕ → Bool) (v : ℕ) (xs : List ℕ) → ((t : ℕ) → t < length xs → f t ≡ false) → IsPut f v xs xs
put_none f v xs e = record { long = refl; items = λ t l. ap (λ c. cond c v (slice_index xs t)) (sym (e t l)) }

-- ---- some places after others

module _ (a : ℕ → Bool) (test : ℕ → Bool) (v : ℕ) (xs ys : List ℕ) (h : IsPut (λ t. a t && test t) v xs ys) where
  -- the others are as they were
  pub put_same : (t : ℕ) → t < length xs → a t ≡ false → slice_index ys t ≡ slice_index xs t
  put_same t l e = h.items t l ∙ ap (λ c. cond (c && test t) v (slice_index xs t)) e

  pub put_step : (b c test' : ℕ → Bool) (zs : List ℕ) → IsPut (λ t. b t && test' t) v ys zs → ((t : ℕ) → t < length xs → b t ≡ true → test' t ≡ test t) → ((t : ℕ) → t < length xs → (a t || b t) ≡ c t) → IsPut (λ t. c t && test t) v xs zs
  put_step b c test' zs g same all = record {
    long = g.long ∙ h.long;
    items = λ t l. g.items t (let k = h.long in omega (arith, k, l)) ∙ ap (cond (b t && test' t) v) (h.items t l) ∙ by t l (b t) refl;
  }
    where
      pick : (t : ℕ) (d p : Bool) → cond p v (cond (d && p) v (slice_index xs t)) ≡ cond p v (slice_index xs t)
      pick t d true = refl
      pick t true false = refl
      pick t false false = refl

      by : (t : ℕ) → t < length xs → (d : Bool) → b t ≡ d → cond (b t && test' t) v (cond (a t && test t) v (slice_index xs t)) ≡ cond (c t && test t) v (slice_index xs t)
      by t l true e =
          ap (λ d. cond (d && test' t) v (cond (a t && test t) v (slice_index xs t))) e ∙ ap (λ d. cond d v (cond (a t && test t) v (slice_index xs t))) (same t l e) ∙
          pick t (a t) (test t) ∙ ap (λ d. cond (d && test t) v (slice_index xs t)) (sym (sym (all t l) ∙ ap (λ d. a t || d) e ∙ or_true (a t)))
      by t l false e =
          ap (λ d. cond (d && test' t) v (cond (a t && test t) v (slice_index xs t))) e ∙ ap (λ d. cond (d && test t) v (slice_index xs t)) (sym (sym (all t l) ∙ ap (λ d. a t || d) e ∙ or_false (a t)))
