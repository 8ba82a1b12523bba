-- What a name means at a place.
use Rattle.std.specs.Prelude.{ℕ, List, [], ◌∷◌, Option, Some, None, nat_eq, if◌then◌else◌}
use Rattle.std.specs.Cmp.Lexicographic.{pointwise}
use Rattle.mv_check_scope.specs.declared.meaning.Meaning.{Meaning}
use Rattle.mv_check_scope.specs.Names.{Names}

-- what a name means in one block
abbrev pub named : List ℕ → Names → Option Meaning
named name [] = None
named name (n ∷ names) = if pointwise nat_eq name n.0 then Some n.1 else named name names

-- the first, or else the second
abbrev pub or_else : Option Meaning → Option Meaning → Option Meaning
or_else None other = other
or_else (Some m) other = Some m

-- what a name means in some blocks: the innermost that has it, which comes last, decides
abbrev pub meaning_in : List Names → List ℕ → Option Meaning
meaning_in [] name = None
meaning_in (block ∷ inner) name = or_else (meaning_in inner name) (named name block)
