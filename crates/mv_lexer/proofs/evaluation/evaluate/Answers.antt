use Rattle.std.proofs.Common.{◌≡◌, ℕ, List, sym, refl, subst, inl, inr}
use Rattle.std.specs.Prelude.{◌⊎◌}
use Rattle.mv_lexer.specs.Reading as spec
use Rattle.mv_lexer.specs.declared.class.TokenClass.{TokenClass}
use Rattle.mv_lexer.specs.declared.class.TokenClass.TheVariants.{WhiteSpace, Comment, UnclosedComment, Other}
use Rattle.mv_lexer.proofs.evaluation.evaluate.Goals as goal

white_space : (class : TokenClass) (s : List ℕ) → (class ≡ WhiteSpace) ⊎ (class ≡ Comment) → spec.Evaluates class s spec.skipped
white_space class s (inl is) = subst (λ (x : TokenClass). spec.Evaluates x s spec.skipped) (sym is) spec.white_space
white_space class s (inr is) = subst (λ (x : TokenClass). spec.Evaluates x s spec.skipped) (sym is) spec.comment

no_token : (class : TokenClass) (s : List ℕ) → (class ≡ UnclosedComment) ⊎ (class ≡ Other) → spec.Evaluates class s spec.bad
no_token class s (inl is) = subst (λ (x : TokenClass). spec.Evaluates x s spec.bad) (sym is) spec.unclosed
no_token class s (inr is) = subst (λ (x : TokenClass). spec.Evaluates x s spec.bad) (sym is) spec.other

pub returns-in-WhiteSpace : goal.returns-in-WhiteSpace
returns-in-WhiteSpace c = white_space c.args.class c.args.bytes.now c.in-WhiteSpace.is

pub returns-in-PreprocessingNumber : goal.returns-in-PreprocessingNumber
returns-in-PreprocessingNumber c = rw c.in-PreprocessingNumber.is c.evaluate_number.ensures

pub returns-in-Punctuator : goal.returns-in-Punctuator
returns-in-Punctuator c = rw c.in-Punctuator.is (spec.punctuator c.in-Punctuator.number)

pub returns-in-UnsupportedPunctuator : goal.returns-in-UnsupportedPunctuator
returns-in-UnsupportedPunctuator c = (rw c.in-UnsupportedPunctuator.is spec.unsupported_punctuator, refl)

pub returns-in-UnclosedComment : goal.returns-in-UnclosedComment
returns-in-UnclosedComment c = (no_token c.args.class c.args.bytes.now c.in-UnclosedComment.is, refl)
