-- Lists of names in which each stands once.
use Rattle.std.specs.Prelude.{ℕ, ◌+◌, Bool, List, [], ◌∷◌, ◌++◌, map, fold, Option, Some, None, filter, position, unwrap_or, nat_eq, if◌then◌else◌}
use Rattle.std.specs.List.{list_any}
use Rattle.std.specs.Cmp.Lexicographic.{pointwise}
use Rattle.std.specs.declared.vec.Vec.{Vec}
use Rattle.std.specs.declared.alloc.Global.{Global}

abbrev pub same_name : List ℕ → List ℕ → Bool
same_name = pointwise nat_eq

abbrev pub is_among : List ℕ → List (List ℕ) → Bool
is_among name = list_any (same_name name)

-- a name goes last, unless it is there already
abbrev pub with_name : List (List ℕ) → List ℕ → List (List ℕ)
with_name names name = if is_among name names then names else names ++ name ∷ []

-- the names that are added in this order to some that are there
abbrev pub with_names : List (List ℕ) → List (List ℕ) → List (List ℕ)
with_names = fold with_name

-- each name once, in order of first appearance
abbrev pub each_once : List (List ℕ) → List (List ℕ)
each_once = with_names []

-- the place of a name
abbrev pub place_of : List ℕ → List (List ℕ) → Option ℕ
place_of name names = position (same_name name) names

-- a place behind so many others
abbrev pub place_behind : ℕ → Option ℕ → Option ℕ
place_behind count None = None
place_behind count (Some n) = Some (count + n)

-- the place of a name among some that have it
abbrev pub number_in : List (List ℕ) → List ℕ → ℕ
number_in names name = unwrap_or (place_of name names) 0

-- the names that the keys of a set hold
abbrev pub names_of : List (Vec ℕ Global) → List (List ℕ)
names_of = map (λ k. k.items)

-- those of some names that stand among others
abbrev pub among : List (List ℕ) → List (List ℕ) → List (List ℕ)
among others names = each_once (filter (λ n. is_among n others) names)
