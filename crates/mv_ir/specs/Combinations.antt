-- The combinations of some domains' values.
use Rattle.std.specs.Prelude.{ℕ, ◌<◌, ◌≡◌, List, [], ◌∷◌, map, length, slice_index_or}
use Rattle.mv_ir.specs.declared.body.Assignment.{Assignment}
use Rattle.mv_ir.specs.Measures.{joined}

-- each list that has one value of each domain, the last one changing fastest
abbrev pub combinations : List (List ℕ) → List (List ℕ)
combinations [] = [] ∷ []
combinations (d ∷ ds) = joined (map (λ v. map (λ rest. v ∷ rest) (combinations ds)) d)

abbrev pub values_of : List Assignment → List (List ℕ)
values_of = map (λ a. a.values)

-- ---- what they are

-- it stands somewhere in the list
abbrev pub In : {A : Type 0} → A → List A → Type 0
In x xs = (i : ℕ) × (i < length xs) × ((d : _) → slice_index_or xs i d ≡ x)

-- it stands nowhere in the list
abbrev pub Fresh : {A : Type 0} → A → List A → Type 0
Fresh x [] = Unit {0}
Fresh x (y ∷ ys) = (x ≡ y → ⊥) × Fresh x ys

-- no two are equal
abbrev pub AllApart : {A : Type 0} → List A → Type 0
AllApart [] = Unit {0}
AllApart (x ∷ xs) = Fresh x xs × AllApart xs

-- one value of each domain
abbrev pub IsCombination : List (List ℕ) → List ℕ → Type 0
IsCombination [] [] = Unit {0}
IsCombination [] (v ∷ vs) = ⊥
IsCombination (d ∷ ds) [] = ⊥
IsCombination (d ∷ ds) (v ∷ vs) = In v d × IsCombination ds vs

-- they are all combinations, each once
pub record AreAllCombinations (domains all : List (List ℕ)) : Type 0 where
  pub only : (vs : List ℕ) → In vs all → IsCombination domains vs
  pub every : (vs : List ℕ) → IsCombination domains vs → In vs all
  pub once : AllApart all

-- no domain has a value twice
abbrev pub AreDomains : List (List ℕ) → Type 0
AreDomains [] = Unit {0}
AreDomains (d ∷ ds) = AllApart d × AreDomains ds
