-- Bits in words: what an edit of a word does to them.
use Rattle.std.proofs.Common.{arith, ◌≡◌, ℕ, zero, suc, ◌-◌, ◌*◌, ◌/◌, ◌%◌, ◌^◌, ◌<◌, ◌≤◌, min, max, true, false, cond, eqb, not, ◌&&◌, ◌||◌, List, length, get_or, refl, sym, ap, ◌∙◌, ◌⊎◌, inl, inr, w64, bit_or, bit_and}
use Rattle.std.specs.Prelude.{slice_set}
use Rattle.std.specs.Int.{bit_at, bit_not, trailing_zeros}
use Rattle.std.proofs.lemmas.List.{get_or-set_same, get_or-set_other}
use Rattle.std.proofs.lemmas.Bool.{cases_eq, cases_lt, eq-eqb, ne_eqb}
use Rattle.std.proofs.lemmas.Nat.{and_le_l}
use Rattle.std.proofs.lemmas.Nat.Bits.{bit_at-trailing_zeros, bit_at_not, bit_at_set_same, bit_at_set_other, bit_at_clear_same, bit_at_clear_other, bit_at_or, bit_at_and, bit_at-lt, bit_at-zero}
use Rattle.mv_regalloc.specs.LiveBits.{in_word, word_bit}

-- ---- lists of words

pub word_put : (ws : List ℕ) (place v : ℕ) → place < length ws → (t : ℕ) → t / 64 ≡ place → word_bit (slice_set ws place v) t ≡ in_word v t
word_put ws place v l t e = ap (λ k. in_word (get_or (slice_set ws place v) k 0) t) e ∙ ap (λ w. in_word w t) (get_or-set_same ws place v 0 l)

pub word_stays : (ws : List ℕ) (place v : ℕ) (t : ℕ) → (t / 64 ≡ place → ⊥) → word_bit (slice_set ws place v) t ≡ word_bit ws t
word_stays ws place v t ne = ap (λ w. in_word w t) (get_or-set_other ws place (t / 64) v 0 ne)

-- ---- one word

pub bit_set : (w u t : ℕ) → t / 64 ≡ u / 64 → in_word (bit_or w (1 * 2 ^ (u % 64) % 2 ^ 64)) t ≡ cond (eqb u t) true (in_word w t)
unfolding in_word
bit_set w u t e = by (cases_eq u t)
  where
    low : u % 64 < 64
    low = omega arith

    by : (u ≡ t) ⊎ (u ≡ t → ⊥) → eqb (bit_at (bit_or w (1 * 2 ^ (u % 64) % 2 ^ 64)) (t % 64)) 1 ≡ cond (eqb u t) true (eqb (bit_at w (t % 64)) 1)
    by (inl s) =
        ap (λ k. eqb (bit_at (bit_or w (1 * 2 ^ (u % 64) % 2 ^ 64)) (k % 64)) 1) (sym s) ∙ ap (λ v. eqb v 1) (bit_at_set_same w64 w (u % 64) low) ∙ ap (λ c. cond c true (eqb (bit_at w (t % 64)) 1)) (sym (eq-eqb u t s))
    by (inr n) =
        ap (λ v. eqb v 1) (bit_at_set_other w64 w (u % 64) low (t % 64) (λ s. n (omega (arith, s, e)))) ∙ ap (λ c. cond c true (eqb (bit_at w (t % 64)) 1)) (sym (ne_eqb u t n))

pub bit_cleared : (w u t : ℕ) → t / 64 ≡ u / 64 → in_word (bit_and w (bit_not w64 (1 * 2 ^ (u % 64) % 2 ^ 64))) t ≡ cond (eqb u t) false (in_word w t)
unfolding in_word
bit_cleared w u t e = by (cases_eq u t)
  where
    low : u % 64 < 64
    low = omega arith

    by : (u ≡ t) ⊎ (u ≡ t → ⊥) → eqb (bit_at (bit_and w (bit_not w64 (1 * 2 ^ (u % 64) % 2 ^ 64))) (t % 64)) 1 ≡ cond (eqb u t) false (eqb (bit_at w (t % 64)) 1)
    by (inl s) =
        ap (λ k. eqb (bit_at (bit_and w (bit_not w64 (1 * 2 ^ (u % 64) % 2 ^ 64))) (k % 64)) 1) (sym s) ∙ ap (λ v. eqb v 1) (bit_at_clear_same w64 w (u % 64) low) ∙ ap (λ c. cond c false (eqb (bit_at w (t % 64)) 1)) (sym (eq-eqb u t s))
    by (inr n) =
        ap (λ v. eqb v 1) (bit_at_clear_other w64 w (u % 64) low (t % 64) (omega arith) (λ s. n (omega (arith, s, e)))) ∙ ap (λ c. cond c false (eqb (bit_at w (t % 64)) 1)) (sym (ne_eqb u t n))

pub bit_without : (w k t : ℕ) → k < 64 → in_word (bit_and w (bit_not w64 (1 * 2 ^ k % 2 ^ 64))) t ≡ cond (eqb (t % 64) k) false (in_word w t)
unfolding in_word
bit_without w k t low = by (cases_eq (t % 64) k)
  where
    by : (t % 64 ≡ k) ⊎ (t % 64 ≡ k → ⊥) → eqb (bit_at (bit_and w (bit_not w64 (1 * 2 ^ k % 2 ^ 64))) (t % 64)) 1 ≡ cond (eqb (t % 64) k) false (eqb (bit_at w (t % 64)) 1)
    by (inl e) =
        ap (λ i. eqb (bit_at (bit_and w (bit_not w64 (1 * 2 ^ k % 2 ^ 64))) i) 1) e ∙ ap (λ v. eqb v 1) (bit_at_clear_same w64 w k low) ∙ ap (λ c. cond c false (eqb (bit_at w (t % 64)) 1)) (sym (eq-eqb (t % 64) k e))
    by (inr ne) =
        ap (λ v. eqb v 1) (bit_at_clear_other w64 w k low (t % 64) (omega arith) ne) ∙ ap (λ c. cond c false (eqb (bit_at w (t % 64)) 1)) (sym (ne_eqb (t % 64) k ne))

pub without_less : (w k : ℕ) → k < 64 → in_word w k ≡ true → bit_and w (bit_not w64 (1 * 2 ^ k % 2 ^ 64)) < w
without_less w k low h = by (cases_lt (bit_and w (bit_not w64 (1 * 2 ^ k % 2 ^ 64))) w)
  where
    most : bit_and w (bit_not w64 (1 * 2 ^ k % 2 ^ 64)) ≤ w
    most = and_le_l w (bit_not w64 (1 * 2 ^ k % 2 ^ 64))

    here : k % 64 ≡ k
    here = omega (arith, low)

    by : (bit_and w (bit_not w64 (1 * 2 ^ k % 2 ^ 64)) < w) ⊎ (w ≤ bit_and w (bit_not w64 (1 * 2 ^ k % 2 ^ 64))) → bit_and w (bit_not w64 (1 * 2 ^ k % 2 ^ 64)) < w
    by (inl l) = l
    by (inr l) =
        let same : bit_and w (bit_not w64 (1 * 2 ^ k % 2 ^ 64)) ≡ w = omega (arith, l, most) in
        let d : false ≡ true = sym (bit_without w k k low ∙ ap (λ c. cond c false (in_word w k)) (eq-eqb (k % 64) k here)) ∙ ap (λ v. in_word v k) same ∙ h in absurd cc

pub lowest_set : (w t : ℕ) → 0 < w → w < 2 ^ 64 → t % 64 ≡ trailing_zeros w64 w → in_word w t ≡ true
unfolding in_word
lowest_set w t some fits e = ap (λ i. eqb (bit_at w i) 1) e ∙ ap (λ v. eqb v 1) (bit_at-trailing_zeros w64 w some fits).1

pub bits_either : (a b t : ℕ) → in_word (bit_or a b) t ≡ (in_word a t || in_word b t)
unfolding in_word
bits_either a b t = ap (λ v. eqb v 1) (bit_at_or a b (t % 64)) ∙ by (bit_at a (t % 64)) (bit_at b (t % 64)) (bit_at-lt a (t % 64)) (bit_at-lt b (t % 64))
  where
    by : (x y : ℕ) → x < 2 → y < 2 → eqb (max x y) 1 ≡ (eqb x 1 || eqb y 1)
    by zero zero l m = refl
    by zero (suc zero) l m = refl
    by (suc zero) zero l m = refl
    by (suc zero) (suc zero) l m = refl
    by (suc (suc x)) y l m = absurd (omega (arith, l))
    by x (suc (suc y)) l m = absurd (omega (arith, m))

pub none_in : (t : ℕ) → in_word 0 t ≡ false
unfolding in_word
none_in t = ap (λ v. eqb v 1) (bit_at-zero (t % 64))

-- ---- the words of so many bits

pub bits_except : (a b t : ℕ) → b < 2 ^ 64 → in_word (bit_and a (bit_not w64 b)) t ≡ (in_word a t && not (in_word b t))
unfolding in_word
bits_except a b t fits =
    ap (λ v. eqb v 1) (bit_at_and a (bit_not w64 b) (t % 64)) ∙ ap (λ v. eqb (min (bit_at a (t % 64)) v) 1) (bit_at_not w64 b (t % 64) fits (omega arith)) ∙
    by (bit_at a (t % 64)) (bit_at b (t % 64)) (bit_at-lt a (t % 64)) (bit_at-lt b (t % 64))
  where
    by : (x y : ℕ) → x < 2 → y < 2 → eqb (min x (1 - y)) 1 ≡ (eqb x 1 && not (eqb y 1))
    by zero zero l m = refl
    by zero (suc zero) l m = refl
    by (suc zero) zero l m = refl
    by (suc zero) (suc zero) l m = refl
    by (suc (suc x)) y l m = absurd (omega (arith, l))
    by x (suc (suc y)) l m = absurd (omega (arith, m))
