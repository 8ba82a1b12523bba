-- What decides the meaning of a name: its innermost declaration, with how many blocks stand around that one's block.
use Rattle.std.specs.Prelude.{◌≡◌, ℕ, ◌+◌, nat_eq, if◌then◌else◌, length, List, [], ◌∷◌, Option, Some, None}
use Rattle.std.specs.Cmp.Lexicographic.{pointwise}
use Rattle.std.specs.Map.{lookup}
use Rattle.mv_check_outline.specs.Names.{place_of}
use Rattle.mv_check_scope.specs.declared.meaning.Meaning.{Meaning}
use Rattle.mv_check_scope.specs.declared.step.Binding.{Binding}
use Rattle.mv_check_scope.specs.Names.{Names, Space}
use Rattle.mv_check_scope.specs.Spaces.{named}

abbrev pub at_depth : ℕ → Option Meaning → Option Binding
at_depth depth None = None
at_depth depth (Some m) = Some (record { depth = depth; meaning = m })

-- the first, or else the second
abbrev pub or_outer : Option Binding → Option Binding → Option Binding
or_outer None outer = outer
or_outer (Some b) outer = Some b

-- in some blocks, the first of which stands at a depth
abbrev pub binding_in : ℕ → List Names → List ℕ → Option Binding
binding_in depth [] name = None
binding_in depth (block ∷ inner) name = or_outer (binding_in (depth + 1) inner name) (at_depth depth (named name block))

abbrev pub binding : Space → List ℕ → Option Binding
binding space name = or_outer (at_depth (length space.around) (named name space.here)) (binding_in 0 space.around name)

-- ---- what is declared, under the numbers of names

abbrev pub Entries : Type 0
Entries = List (ℕ × Binding)

abbrev pub at_number : Entries → Option ℕ → Option Binding
at_number entries None = None
at_number entries (Some n) = lookup (nat_eq n) entries

-- a name's number is its place among all that were ever declared
abbrev pub binding_among : List (List ℕ) → Entries → List ℕ → Option Binding
binding_among names entries name = at_number entries (place_of name names)

-- a number is bound anew, or to nothing, and the others stay
abbrev pub IsBoundAt : Entries → Entries → ℕ → Option Binding → Type 0
IsBoundAt before after number b = (n : ℕ) → lookup (nat_eq n) after ≡ (if nat_eq number n then b else lookup (nat_eq n) before)

-- a name is bound anew, or to nothing, and the others stay
abbrev pub IsBoundTo : List (List ℕ) → Entries → Entries → List ℕ → Option Binding → Type 0
IsBoundTo names before after name b =
    (other : List ℕ) → binding_among names after other ≡ (if pointwise nat_eq other name then b else binding_among names before other)
