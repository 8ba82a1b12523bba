-- Lemmas on this crate's words that the crates above share.
use Rattle.std.proofs.Common.{◌≡◌, ℕ, List, [], ◌∷◌, refl, Bool, true, false, sym}
use Rattle.mv_bindings.specs.Bindings.{same_truth, events_from}
use Rattle.mv_num.proofs.Booleans.{from_falsity}
use Rattle.mv_bindings.specs.declared.binding.Binding.{Binding}

pub truth_same : (a : Bool) → same_truth a a ≡ true
truth_same true = refl
truth_same false = refl

pub truth_told : (a b : Bool) → same_truth a b ≡ true → a ≡ b
truth_told true b q = sym q
truth_told false true q = from_falsity q
truth_told false false q = refl

pub events_from-end : (i : ℕ) (old : List Binding) → events_from i old [] ≡ []
events_from-end i [] = refl
events_from-end i (b ∷ old) = refl
