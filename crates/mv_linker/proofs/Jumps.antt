-- The jumps that an image's text is given are JAL.
use Rattle.std.proofs.Common.{◌≡◌, ℕ, ◌+◌, ◌-◌, ◌*◌, ◌/◌, ◌%◌, ◌^◌, pos, ◌+ℤ◌, unsigned_abs, refl, sym, ap, ◌∙◌, arith}
use Rattle.std.proofs.lemmas.Int.{ints, int_rem_euclid_is}
use Rattle.mv_isa.specs.declared.instr.Instr.TheVariants.{Jal}
use Rattle.mv_isa.specs.Formats.{low_in, j_word}
use Rattle.mv_isa.specs.Encoding.{encode}
use Rattle.mv_isa.specs.Code.{IsPlace, distance}
use Rattle.mv_image.specs.Jumps as image
use Rattle.mv_image.proofs.Common.{jal_is}

low_distance : (from to : ℕ) → IsPlace from → IsPlace to → low_in (2 ^ 21) (distance from to) ≡ image.distance from to
unfolding low_in
low_distance from to p q =
    let ends = p.1 in
    let e : distance from to +ℤ pos (1 * 2 ^ 21) ≡ pos (to + 2 ^ 21 - from) = omega (arith, ints, ends) in
    ap unsigned_abs (int_rem_euclid_is (distance from to) (pos (2 ^ 21)) (2 ^ 21) 1 (to + 2 ^ 21 - from) (omega arith) refl e)

pub jump_is : (rd from to : ℕ) → IsPlace from → IsPlace to → image.jump rd from to ≡ encode (Jal rd (distance from to))
unfolding image.jump encode j_word
jump_is rd from to p q =
    let same = low_distance from to p q in
    sym (ap (λ x. 0x6f + rd * 2 ^ 7 + x / 2 ^ 12 % 2 ^ 8 * 2 ^ 12 + x / 2 ^ 11 % 2 * 2 ^ 20 + x / 2 % 2 ^ 10 * 2 ^ 21 + x / 2 ^ 20 * 2 ^ 31) same ∙ jal_is rd (image.distance from to) (omega arith))
