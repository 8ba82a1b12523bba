-- Lemmas on this crate's words that the crates above share.
use Rattle.std.proofs.Common.{◌≡◌, ℕ, ◌+◌, ◌*◌, ◌/◌, ◌%◌, ◌^◌, ◌<◌, arith}
use Rattle.mv_image.specs.Jumps as image

pub jal_is : (rd : ℕ) (x : ℕ) → x < 2 ^ 21 → 0x6f + rd * 2 ^ 7 + x / 2 ^ 12 % 2 ^ 8 * 2 ^ 12 + x / 2 ^ 11 % 2 * 2 ^ 20 + x / 2 % 2 ^ 10 * 2 ^ 21 + x / 2 ^ 20 * 2 ^ 31 ≡ image.jal_word rd x
jal_is rd x h = omega (arith, h)
