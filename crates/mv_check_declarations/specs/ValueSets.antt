-- Lists of values in which each stands once.
use Rattle.std.specs.Prelude.{◌≡◌, ℕ, List, [], ◌∷◌, ◌++◌, if◌then◌else◌}
use Rattle.std.specs.List.{list_any}
use Rattle.std.specs.Ordering.{is_eq, nat_cmp}
use Rattle.mv_num.specs.Lists.{is_among}

-- a value goes last, unless it is there already
abbrev pub with_member : List ℕ → ℕ → List ℕ
with_member values value = if is_among value values then values else values ++ value ∷ []

-- the keys of an ordered set are the values
abbrev pub HasEach : List ℕ → List ℕ → Type 0
HasEach keys values = (value : ℕ) → list_any (λ k. is_eq (nat_cmp value k)) keys ≡ is_among value values
