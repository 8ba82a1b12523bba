-- Rows as lists of bits.
use Rattle.std.proofs.Common.{arith, ◌≡◌, ℕ, zero, suc, ◌<◌, false, ◌||◌, [], ◌∷◌, length, get_or, refl, sym, ◌∙◌}
use Rattle.std.proofs.lemmas.List.{ext_get_or}
use Rattle.mv_ir.specs.Live.{mark_at}
use Rattle.mv_regalloc.specs.Rows.{Bits, either_bits}
use Rattle.mv_num.proofs.Booleans.{or_false}

pub at_get : (xs : Bits) (t : ℕ) → mark_at xs t ≡ get_or xs t false
at_get [] t = refl
at_get (x ∷ xs) zero = refl
at_get (x ∷ xs) (suc t) = at_get xs t

pub same_bits : (xs ys : Bits) → length xs ≡ length ys → ((t : ℕ) → t < length xs → mark_at xs t ≡ mark_at ys t) → xs ≡ ys
same_bits xs ys e h = ext_get_or false xs ys e (λ t l. sym (at_get xs t) ∙ h t l ∙ at_get ys t)

pub either_or : (xs ys : Bits) (t : ℕ) → t < length xs → mark_at (either_bits xs ys) t ≡ (mark_at xs t || mark_at ys t)
either_or [] ys t l = absurd (omega (arith, l))
either_or (x ∷ xs) [] t l = sym (or_false (mark_at (x ∷ xs) t))
either_or (x ∷ xs) (y ∷ ys) zero l = refl
either_or (x ∷ xs) (y ∷ ys) (suc t) l = either_or xs ys t (omega (arith, l))
