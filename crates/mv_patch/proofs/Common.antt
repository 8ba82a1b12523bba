-- Lemmas on this crate's words that the crates above share.
use Rattle.std.proofs.Common.{◌≡◌, ℕ, ◌+◌, cond, List, [], ◌∷◌, refl, ap, ◌∙◌, eq-eqb}
use Rattle.mv_patch.specs.Pairs.{differing, pair_of}

pub none_differ : (a : ℕ) (xs : List ℕ) → differing a xs xs ≡ []
unfolding differing
none_differ a [] = refl
none_differ a (x ∷ xs) = ap (λ b. cond b (differing (a + 4) xs xs) (pair_of a x ∷ differing (a + 4) xs xs)) (eq-eqb x x refl) ∙ none_differ (a + 4) xs
