-- The offset of a branch as a word.
use Rattle.std.proofs.Common.{◌≡◌, ℕ, ◌+◌, ◌-◌, ◌*◌, ◌/◌, ◌%◌, ◌^◌, ◌<◌, ◌≤◌, ⊎_elim, pos, ◌-ℤ◌, ap, ◌∙◌, arith}
use Rattle.std.proofs.lemmas.Bool.{cases_lt}
use Rattle.mv_num.specs.Words.{word_of, sub}
use Rattle.mv_num.proofs.Signed.{sub_is}
use Rattle.mv_isa.specs.Formats.{signed_in, b_imm}
use Rattle.mv_isa.proofs.Immediates.{signed_low, signed_high}
use Rattle.mv_num.proofs.Numbers.{word_of_pos}

word_less : (x m : ℕ) → x < 2 ^ 32 → m < 2 ^ 32 → word_of (pos x -ℤ pos m) ≡ (x + (2 ^ 32 - m)) % 2 ^ 32
unfolding sub
word_less x m p q = sub_is x m p q

-- a signed number of 13 bits
word_13 : (top low : ℕ) → top < 2 → low < 2 ^ 12 → top * 0xffff_f000 + low ≡ word_of (signed_in (2 ^ 12) (top * 2 ^ 12 + low))
word_13 top low t l = ⊎_elim
    (λ (s : top * 2 ^ 12 + low < 2 ^ 12).
    let e = ap word_of (signed_low (2 ^ 12) (top * 2 ^ 12 + low) s) ∙ word_of_pos (top * 2 ^ 12 + low) (omega (arith, s)) in
    omega (arith, e, s))
    (λ (g : 2 ^ 12 ≤ top * 2 ^ 12 + low).
    let e = ap word_of (signed_high (2 ^ 12) (top * 2 ^ 12 + low) g) ∙ word_less (top * 2 ^ 12 + low) (2 * 2 ^ 12) (omega (arith, t, l)) (omega arith) in
    omega (arith, e, g, t, l))
    (cases_lt (top * 2 ^ 12 + low) (2 ^ 12))

pub branch_offset : (w : ℕ) → w < 2 ^ 32 → w / 2 ^ 31 * 0xffff_f000 + (w / 2 ^ 7 % 2 * 2 ^ 11 + w / 2 ^ 25 % 2 ^ 6 * 2 ^ 5 + w / 2 ^ 8 % 2 ^ 4 * 2) ≡ word_of (b_imm w)
unfolding b_imm
branch_offset w h =
    let e : w / 2 ^ 31 * 2 ^ 12 + (w / 2 ^ 7 % 2 * 2 ^ 11 + w / 2 ^ 25 % 2 ^ 6 * 2 ^ 5 + w / 2 ^ 8 % 2 ^ 4 * 2) ≡ w / 2 ^ 31 * 2 ^ 12 + w / 2 ^ 7 % 2 * 2 ^ 11 + w / 2 ^ 25 % 2 ^ 6 * 2 ^ 5 + w / 2 ^ 8 % 2 ^ 4 * 2 = omega arith in
    word_13 (w / 2 ^ 31) (w / 2 ^ 7 % 2 * 2 ^ 11 + w / 2 ^ 25 % 2 ^ 6 * 2 ^ 5 + w / 2 ^ 8 % 2 ^ 4 * 2) (omega (arith, h)) (omega arith) ∙ ap (λ (x : ℕ). word_of (signed_in (2 ^ 12) x)) e
