-- The jumps that a plan puts into text are JAL.
use Rattle.std.proofs.Common.{◌≡◌, ℕ, ◌^◌, ◌<◌, Option, Some, refl, ap, ◌∙◌, arith}
use Rattle.std.proofs.lemmas.Int.{ints}
use Rattle.mv_isa.specs.declared.instr.Instr.TheVariants.{Jal}
use Rattle.mv_isa.specs.Formats.{low_in, i_word}
use Rattle.mv_isa.specs.Encoding.{encode, IsOffset}
use Rattle.mv_isa.specs.Code.{IsPlace, distance, nop}
use Rattle.mv_isa.specs.Standing.{InstrStands}
use Rattle.mv_image.specs.Jumps as image
use Rattle.mv_refine_machine.specs.Laws.{IsWordOf, BoundWordsAreInstructions}
use Rattle.mv_linker.proofs.Jumps.{jump_is}

offset_fits : (from to : ℕ) → IsPlace from → IsPlace to → IsOffset (2 ^ 20) (distance from to)
offset_fits from to p q =
    let starts = p.0 in let ends = p.1 in let even = p.2 in
    let starts' = q.0 in let ends' = q.1 in let even' = q.2 in
    ((omega (arith, ints, starts, ends, starts', ends'), omega (arith, ints, starts, ends, starts', ends')), omega (arith, ints, even, even'))

-- a jump of the plan stands as one of code does
pub jump_stands : (text : ℕ → Option ℕ) (rd from to : ℕ) → rd < 32 → IsPlace from → IsPlace to → text from ≡ Some (image.jump rd from to) → InstrStands text from (Jal rd (distance from to))
jump_stands text rd from to r p q e = record { fields = (r, offset_fits from to p q); word = e ∙ ap Some (jump_is rd from to p q) }

nop_is : IsWordOf image.nop nop
unfolding encode i_word low_in
nop_is = ((omega arith, omega arith, (omega (arith, ints), omega (arith, ints))), refl)

pub nop_stands : (text : ℕ → Option ℕ) (a : ℕ) → text a ≡ Some image.nop → InstrStands text a nop
nop_stands text a e = record { fields = nop_is.0; word = e ∙ ap Some nop_is.1 }

pub bound_words : BoundWordsAreInstructions
bound_words = record { jumps = λ rd from to r p q. ((r, offset_fits from to p q), jump_is rd from to p q); fills = nop_is }
