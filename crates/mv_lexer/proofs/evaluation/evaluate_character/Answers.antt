use Rattle.std.proofs.Common.{◌≡◌, ℕ, ◌<◌, ◌≤◌, List, [], ◌∷◌, length, get_or, refl, sym, ap, ◌∙◌, subst, arith}
use Rattle.mv_syntax.specs.declared.token.Piece.TheVariants as Is
use Rattle.mv_num.specs.declared.kind.Kind.TheVariants.{Int}
use Rattle.mv_lexer.specs.Characters.{IsQuoted}
use Rattle.mv_lexer.specs.declared.class.TokenClass.TheVariants.{CharacterConstant}
use Rattle.mv_lexer.specs.Reading as spec
use Rattle.mv_lexer.proofs.evaluation.evaluate_character.Goals as goal

none : (s values : List ℕ) → IsQuoted 39 s values → length values < 1 → spec.Evaluates CharacterConstant s spec.bad
none s [] is short = spec.no_character is
none s (v ∷ vs) is short = absurd (omega arith)

one : (s values : List ℕ) (n : ℕ) → IsQuoted 39 s values → 1 ≤ length values → length values < 2 → n ≡ get_or values 0 0 → spec.Evaluates CharacterConstant s (spec.token (Is.Number n Int))
one s [] n is long short first = absurd (omega arith)
one s (v ∷ []) n is long short first = subst (λ (m : ℕ). spec.Evaluates CharacterConstant s (spec.token (Is.Number m Int))) (sym first) (spec.character v is)
one s (v ∷ w ∷ vs) n is long short first = absurd (omega arith)

several : (s values : List ℕ) → IsQuoted 39 s values → 2 ≤ length values → spec.Evaluates CharacterConstant s spec.unsupported
several s [] is long = absurd (omega arith)
several s (v ∷ []) is long = absurd (omega arith)
several s (v ∷ w ∷ vs) is long = spec.characters v w vs is

pub returns-in-empty : goal.returns-in-empty
returns-in-empty c = (none c.args.text.now c.in-Ok.values c.in-Ok.ensures (omega (arith, c.in-empty.len_below, ap length c.as_slice.ensures)), refl)

pub returns-in-len1 : goal.returns-in-len1
returns-in-len1 c =
    one c.args.text.now c.in-Ok.values c.from.result c.in-Ok.ensures (omega (arith, c.in-len1.len_at_least, ap length c.as_slice.ensures))
    (omega (arith, c.in-len1.len_below, ap length c.as_slice.ensures)) (c.from.ensures ∙ ap (λ (vs : List ℕ). get_or vs 0 0) c.as_slice.ensures)

pub returns : goal.returns
returns c = (several c.args.text.now c.in-Ok.values c.in-Ok.ensures (omega (arith, c.in_default.len_at_least, ap length c.as_slice.ensures)), refl)
