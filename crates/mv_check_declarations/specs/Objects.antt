-- The objects that declarators declare, and the rules that they break (C11 6.7, 6.7.9).
use Rattle.std.specs.Prelude.{ℕ, Bool, true, false, ◌&&◌, ◌||◌, not, nat_eq, nat_le, is_some, length, Option, Some, None, unwrap_or}
use Rattle.mv_num.specs.declared.kind.Kind.TheVariants as kind
use Rattle.mv_syntax.specs.declared.place.Place.{Place}
use Rattle.mv_ast.specs.declared.program.CType.{CType}
use Rattle.mv_ast.specs.declared.program.CType.TheVariants.{Scalar}
use Rattle.mv_ast.specs.declared.program.Local.{Local}
use Rattle.mv_syntax.specs.declared.unit.Initial.{Initial}
use Rattle.mv_syntax.specs.declared.unit.Initial.TheVariants as initial
use Rattle.mv_check_scope.specs.Conversions.{is_void}
use Rattle.mv_check_expressions.specs.Breaches.{if_broken}
use Rattle.mv_check_expressions.specs.Judged.{Judged, Good, Broken}
use Rattle.mv_check_expressions.specs.RuleNumbers as rules
use Rattle.mv_check_declarations.specs.declared.objects.Breaches.{Breaches}

abbrev pub scalar : CType → Local
scalar t = record { ctype = t; size = None }

abbrev pub array : CType → ℕ → Local
array t n = record { ctype = t; size = Some n }

-- an array without a size that is at least 1 is of size 0
abbrev pub sized : CType → Option ℕ → Local
sized t n = array t (unwrap_or n 0)

-- ---- the rules of objects

-- whether one value stands without a list
abbrev pub is_single : Option Initial → Bool
is_single (Some (initial.Value node)) = true
is_single _ = false

-- A value doesn't convert, or is one where an array is initialised. What a `void` object is given needn't convert.
abbrev pub is_unconverted : Local → Option Initial → (all : Bool) → Bool
is_unconverted l values all = not (is_void l.ctype) && (not all || (is_some l.size && is_single values))

-- whether an array has room for some values; a scalar has none for a list
abbrev pub has_room : Option ℕ → ℕ → Bool
has_room None n = false
has_room (Some size) n = nat_le n size

abbrev pub is_char : CType → Bool
is_char (Scalar kind.SChar) = true
is_char (Scalar kind.UChar) = true
is_char _ = false

abbrev pub string_fits : Local → ℕ → Bool
string_fits l n = is_char l.ctype && has_room l.size n

abbrev pub is_empty : Option ℕ → Bool
is_empty None = false
is_empty (Some n) = nat_eq n 0

-- whether an object has no room for what it is given, so many values; a string goes into a global array of a char type
abbrev pub is_overfull : (global : Bool) → Local → Option Initial → (count : ℕ) → Bool
is_overfull global l (Some (initial.Values nodes)) count = not (has_room l.size count)
is_overfull global l (Some (initial.Chars bytes)) count = not (global && string_fits l (length bytes))
is_overfull global l _ count = false

-- an array has no size that is at least 1, or there is no room
abbrev pub breaks_extents : (global : Bool) → Local → Option Initial → (count : ℕ) → Bool
breaks_extents global l values count = is_empty l.size || is_overfull global l values count

-- the least rule that is broken
unfoldable pub least : Breaches → Option ℕ
least b =
    if_broken b.redeclared rules.redeclarations
    (if_broken b.unconverted rules.conversions
    (if_broken b.void rules.void
    (if_broken b.extents rules.extents
    (if_broken b.block rules.declarations None))))

module _ {A : Type 0} where
  abbrev pub unless_broken : Place → Option ℕ → A → Judged A
  unless_broken place None a = Good a
  unless_broken place (Some rule) a = Broken place rule
