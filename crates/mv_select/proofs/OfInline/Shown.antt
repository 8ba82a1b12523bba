-- Two words that stand in text are the two instructions.
use Rattle.std.proofs.Common.{◌≡◌, ℕ, [], ◌∷◌, Option, Some, None, refl, sym, ap, ◌∙◌}
use Rattle.std.proofs.lemmas.Option.{none-some}
use Rattle.mv_isa.specs.declared.instr.Instr.{Instr}
use Rattle.mv_isa.specs.Encoding.{encode, Fits}
use Rattle.mv_select.specs.Inline.InlineOf.{inline_of, encoded}
use Rattle.mv_select.specs.Inline.Laws.{InlineWordsAnswer}
use Rattle.mv_select.proofs.OfInline.Bodies.{inline_answers}
use Rattle.mv_select.proofs.OfInline.Fit.{inline_fits}

record Pair (pair : Option (Instr × Instr)) (a b : ℕ) : Type 0 where
  one : Instr
  two : Instr
  is : pair ≡ Some (one, two)
  first_word : encode one ≡ a
  second_word : encode two ≡ b

pair_of : (pair : Option (Instr × Instr)) (a b : ℕ) → encoded pair ≡ Some (a ∷ b ∷ []) → Pair pair a b
pair_of None a b e = absurd (none-some (a ∷ b ∷ []) e)
pair_of (Some p) a b e = record { one = p.0; two = p.1; is = refl; first_word = cc; second_word = cc }

pub inline_words_answer : (M : Type 0) → InlineWordsAnswer M
inline_words_answer M access y laid machine memory reach ample runs setting budget far levels attributed bound is_fine body fn a b is at here p q depth live args count contents k i =
    inline_answers M access y laid machine memory reach ample runs setting budget far levels attributed bound is_fine body fn pair.one pair.two pair.is at here
    (record { fields = fit.0; word = p ∙ ap Some (sym pair.first_word) }) (record { fields = fit.1; word = q ∙ ap Some (sym pair.second_word) }) depth live args count contents k i
  where
    pair : Pair (inline_of y.place body) a b
    pair = pair_of (inline_of y.place body) a b is

    fit : Fits pair.one × Fits pair.two
    fit = inline_fits y.place body fn.params pair.one pair.two pair.is
