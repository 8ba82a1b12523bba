-- Tests that hold together.
use Rattle.std.proofs.Common.{◌≡◌, Bool, true, false, refl, List, [], ◌∷◌, ◌++◌, map}
use Rattle.std.specs.List.{AllByRecursion}
use Rattle.std.proofs.lemmas.Bool.{and_from}
use Rattle.mv_source_forms.specs.Lists.{all_of}

module _ {A : Type 0} (test : A → Bool) where
  pub all_tested : (xs : List A) → AllByRecursion (λ x. test x ≡ true) xs → all_of (map test xs) ≡ true
  all_tested [] h = refl
  all_tested (x ∷ xs) h = and_from (test x) (all_of (map test xs)) h.0 (all_tested xs h.1)

pub all_last_tested : (bs : List Bool) (b : Bool) → all_of bs ≡ true → b ≡ true → all_of (bs ++ b ∷ []) ≡ true
all_last_tested [] b h k = and_from b true k refl
all_last_tested (true ∷ bs) b h k = all_last_tested bs b h k
all_last_tested (false ∷ bs) b h k = absurd (cc)

pub all_both_tested : (bs cs : List Bool) → all_of bs ≡ true → all_of cs ≡ true → all_of (bs ++ cs) ≡ true
all_both_tested [] cs h k = k
all_both_tested (true ∷ bs) cs h k = all_both_tested bs cs h k
all_both_tested (false ∷ bs) cs h k = absurd (cc)

pub one_tested : (a : Bool) → a ≡ true → all_of (a ∷ []) ≡ true
one_tested a h = and_from a true h refl

pub two_tested : (a b : Bool) → a ≡ true → b ≡ true → all_of (a ∷ b ∷ []) ≡ true
two_tested a b h k = and_from a (all_of (b ∷ [])) h (one_tested b k)

pub three_tested : (a b c : Bool) → a ≡ true → b ≡ true → c ≡ true → all_of (a ∷ b ∷ c ∷ []) ≡ true
three_tested a b c h k l = and_from a (all_of (b ∷ c ∷ [])) h (two_tested b c k l)
