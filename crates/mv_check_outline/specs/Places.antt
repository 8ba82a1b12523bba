-- An ordered map finds each of some names at its place.
use Rattle.std.specs.Prelude.{◌≡◌, ℕ, List, Option}
use Rattle.std.specs.Ordering.{is_eq, nat_cmp}
use Rattle.std.specs.Cmp.Lexicographic.{slice_cmp}
use Rattle.std.specs.Map.{lookup}
use Rattle.std.specs.declared.vec.Vec.{Vec}
use Rattle.std.specs.declared.alloc.Global.{Global}
use Rattle.mv_check_outline.specs.Names.{place_of}

-- what the entries of a map have at a name
abbrev pub place_in : List ℕ → List (Vec ℕ Global × ℕ) → Option ℕ
place_in name = lookup (λ k. is_eq (slice_cmp nat_cmp name k.items))

abbrev pub ArePlaces : List (Vec ℕ Global × ℕ) → List (List ℕ) → Type 0
ArePlaces es names = (name : List ℕ) → place_in name es ≡ place_of name names
