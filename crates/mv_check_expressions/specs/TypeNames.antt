-- The types that specifiers name (C11 6.7.2).
use Rattle.std.specs.Prelude.{ℕ, Bool, true, false, ◌&&◌, ◌||◌, nat_eq, if◌then◌else◌, List, [], ◌∷◌, map, length, Option, Some, None, is_none}
use Rattle.mv_num.specs.declared.kind.Kind.{Kind}
use Rattle.mv_num.specs.declared.kind.Kind.TheVariants as kind
use Rattle.mv_syntax.specs.declared.place.Place.{Place}
use Rattle.mv_ast.specs.declared.program.CType.{CType}
use Rattle.mv_ast.specs.declared.program.CType.TheVariants.{Void, Scalar}
use Rattle.mv_syntax.specs.declared.unit.Specs.{Specs, out-Specs}
use Rattle.mv_syntax.specs.declared.unit.EnumSpec.{EnumSpec, out-EnumSpec}
use Rattle.mv_syntax.specs.Keywords as keywords
use Rattle.mv_ast.specs.Names.{any_of}
use Rattle.mv_check_scope.specs.declared.scope.Scope.{Scope}
use Rattle.mv_check_scope.specs.Scoped.{tag_of}
use Rattle.mv_check_expressions.specs.RuleNumbers as rules
use Rattle.mv_check_expressions.specs.Judged.{Judged, Good, Broken}

abbrev pub stands_in : List ℕ → ℕ → Bool
stands_in [] word = false
stands_in (w ∷ words) word = nat_eq w word || stands_in words word

abbrev pub all_stand_in : List ℕ → List ℕ → Bool
all_stand_in words [] = true
all_stand_in words (w ∷ ws) = stands_in words w && all_stand_in words ws

-- the words are these different ones, each once and in any order
abbrev pub are : List ℕ → List ℕ → Bool
are words these = nat_eq (length words) (length these) && all_stand_in words these

-- the integer type that type words name
unfoldable pub named_kind : List ℕ → Option Kind
named_kind words =
    if are words (keywords.bool ∷ []) then Some kind.Bool
    else if are words (keywords.signed ∷ keywords.char ∷ []) then Some kind.SChar
    else if are words (keywords.char ∷ []) || are words (keywords.unsigned ∷ keywords.char ∷ []) then Some kind.UChar
    else if are words (keywords.short ∷ []) || are words (keywords.signed ∷ keywords.short ∷ []) || are words (keywords.short ∷ keywords.int ∷ []) || are words (keywords.signed ∷ keywords.short ∷ keywords.int ∷ []) then Some kind.Short
    else if are words (keywords.unsigned ∷ keywords.short ∷ []) || are words (keywords.unsigned ∷ keywords.short ∷ keywords.int ∷ []) then Some kind.UShort
    else if are words (keywords.int ∷ []) || are words (keywords.signed ∷ []) || are words (keywords.signed ∷ keywords.int ∷ []) then Some kind.Int
    else if are words (keywords.unsigned ∷ []) || are words (keywords.unsigned ∷ keywords.int ∷ []) then Some kind.UInt
    else None

abbrev pub as_scalar : Option Kind → Option CType
as_scalar None = None
as_scalar (Some k) = Some (Scalar k)

-- one enum names `int`, and type words name what they name; the two don't stand together
abbrev pub named_type : (enums : ℕ) → List ℕ → Option CType
named_type enums words =
    if nat_eq enums 0 then (if are words (keywords.void ∷ []) then Some Void else as_scalar (named_kind words))
    else if nat_eq enums 1 && nat_eq (length words) 0 then Some (Scalar kind.Int)
    else None

-- an enum without a list of its own whose tag isn't declared
abbrev pub is_undeclared : Scope → Option (List ℕ) → Bool → Bool
is_undeclared scope None without_list = false
is_undeclared scope (Some tag) without_list = without_list && is_none (tag_of scope tag)

abbrev pub type_or_broken : Place → Option CType → Judged CType
type_or_broken place None = Broken place rules.declarations
type_or_broken place (Some t) = Good t

-- names: a tag isn't declared; declarations: the words and enums name no type
abbrev pub judged_type : Place → List Bool → List ℕ → Judged CType
judged_type place undeclared words =
    if any_of undeclared then Broken place rules.names else type_or_broken place (named_type (length undeclared) words)

abbrev pub undeclared_enum : Scope → EnumSpec → Bool
undeclared_enum scope e = let f = out-EnumSpec e in is_undeclared scope f.tag (is_none f.members)

-- The type that specifiers name in a scope in which the enums that they declare themselves are declared already.
abbrev pub type_of : Scope → Specs → Judged CType
type_of scope specs = let f = out-Specs specs in judged_type f.place (map (undeclared_enum scope) f.tags) f.words
