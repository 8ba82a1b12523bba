-- Lemmas on the kinds of integers that the crates above share.
use Rattle.std.proofs.Common.{◌≡◌, ℕ, zero, suc, refl, sym, ◌∙◌, ap}
use Rattle.mv_num.specs.declared.kind.Kind.{Kind}
use Rattle.mv_num.specs.declared.kind.Kind.TheVariants as kinds
use Rattle.mv_num.specs.Kinds.{kind_number}

kind_of : ℕ → Kind
kind_of zero = kinds.Bool
kind_of (suc zero) = kinds.SChar
kind_of (suc (suc zero)) = kinds.UChar
kind_of (suc (suc (suc zero))) = kinds.Short
kind_of (suc (suc (suc (suc zero)))) = kinds.UShort
kind_of (suc (suc (suc (suc (suc zero))))) = kinds.Int
kind_of (suc (suc (suc (suc (suc (suc _)))))) = kinds.UInt

kind_again : (k : Kind) → kind_of (kind_number k) ≡ k
unfolding kind_of
kind_again kinds.Bool = refl
kind_again kinds.SChar = refl
kind_again kinds.UChar = refl
kind_again kinds.Short = refl
kind_again kinds.UShort = refl
kind_again kinds.Int = refl
kind_again kinds.UInt = refl

pub one_kind : (a b : Kind) → kind_number a ≡ kind_number b → a ≡ b
one_kind a b e = sym (kind_again a) ∙ ap kind_of e ∙ kind_again b
