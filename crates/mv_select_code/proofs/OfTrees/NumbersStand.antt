-- What the immediates of operators stand for.
use Rattle.std.proofs.Common.{◌≡◌, ℕ, ◌^◌, ◌<◌, Bool, true, false, cond, eqb, ltb, Some, None, ℤ, pos, refl, sym, ◌∙◌, arith}
use Rattle.std.proofs.lemmas.Bool.{eqb-true, ltb-true}
use Rattle.mv_num.specs.Words.{word_of, add, sub}
use Rattle.mv_num.proofs.Signed.{sub_is}
use Rattle.mv_select_code.specs.Trees.TreeCode.{upper_bits, lower_bits, short_immediate, count_immediate}
use Rattle.mv_select_code.proofs.OfTrees.Words.{add_zero, lower_add}
use Rattle.mv_num.proofs.Numbers.{word_of_pos, word_small}

pub short_stands : (n : ℕ) (i : ℤ) → n < 2 ^ 32 → short_immediate n ≡ Some i → word_of i ≡ n
short_stands n i h = by_test (eqb (upper_bits n) 0) refl
  where
    by_test : (is_short : Bool) → eqb (upper_bits n) 0 ≡ is_short → cond is_short (Some (lower_bits n)) None ≡ Some i → word_of i ≡ n
    by_test true e k =
        let same : lower_bits n ≡ i = cc in
        rw (← same) (sym (add_zero (word_of (lower_bits n)) (word_small (lower_bits n))) ∙ lower_add n h (eqb-true (upper_bits n) 0 e))
    by_test false e k = absurd cc

pub count_stands : (n : ℕ) (i : ℤ) → count_immediate n ≡ Some i → word_of i ≡ n
count_stands n i = by_test (ltb n 32) refl
  where
    by_test : (is_low : Bool) → ltb n 32 ≡ is_low → cond is_low (Some (pos n)) None ≡ Some i → word_of i ≡ n
    by_test true e k = let low = ltb-true n 32 e in let same : pos n ≡ i = cc in rw (← same) (word_of_pos n (omega arith))
    by_test false e k = absurd cc

-- a difference is a sum with the negative
pub add_negative : (a n : ℕ) → a < 2 ^ 32 → n < 2 ^ 32 → add a (sub 0 n) ≡ sub a n
unfolding add
add_negative a n p q = omega (arith, sub_is 0 n (omega arith) q, sub_is a n p q)
