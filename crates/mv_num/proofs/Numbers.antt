-- Lemmas on numbers that the crates above share.
use Rattle.std.proofs.Common.{◌≡◌, ℕ, zero, suc, replicate, refl, ◌^◌, ◌<◌, pos, arith, ℤ, negsuc, ◌-◌}
use Rattle.std.specs.Prelude.{slice_index}
use Rattle.mv_num.specs.Words.{word_of}

pub zeros_at : (n q : ℕ) → slice_index (replicate n 0) q ≡ 0
zeros_at zero q = refl
zeros_at (suc n) zero = refl
zeros_at (suc n) (suc q) = zeros_at n q

pub word_of_pos : (n : ℕ) → n < 2 ^ 32 → word_of (pos n) ≡ n
unfolding word_of
word_of_pos n h = omega arith

pub word_small : (z : ℤ) → word_of z < 2 ^ 32
unfolding word_of
word_small (pos n) = omega arith
word_small (negsuc n) = omega arith

pub word_of_negsuc : (n : ℕ) → n < 2 ^ 32 → word_of (negsuc n) ≡ 2 ^ 32 - suc n
unfolding word_of
word_of_negsuc n h = omega (arith, h)
