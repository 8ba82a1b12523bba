-- What is known of a unit's names before its first declaration is judged, from its items alone: a declaration may say of a name what
-- holds for its uses further up.
use Rattle.std.specs.Prelude.{ℕ, Bool, if◌then◌else◌, List, ◌++◌, map, filter, Option, Some, None, unwrap_or}
use Rattle.std.specs.List.{flat_map}
use Rattle.mv_syntax.specs.declared.unit.Item.{Item}
use Rattle.mv_syntax.specs.declared.unit.Declarator.{Declarator}
use Rattle.mv_syntax.specs.declared.unit.Shape.{out-Shape}
use Rattle.mv_syntax.specs.declared.unit.Specs.{out-Specs}
use Rattle.mv_check_declarations.specs.Attributes.{is_constant_form}
use Rattle.mv_check_outline.specs.declared.outline.Outline.{Outline}
use Rattle.mv_check_outline.specs.declared.outline.Wanted.TheVariants as wanted
use Rattle.mv_check_outline.specs.Names.{each_once, is_among, among, place_of, number_in}
use Rattle.mv_check_outline.specs.Outlined as outlined
use Rattle.mv_check_outline.specs.Outlined.{name_of, is_wanted, functions}
use Rattle.mv_types.specs.declared.contents.Foreknown.{Foreknown}
use Rattle.mv_types.specs.declared.foreknown.Said.{Said}
use Rattle.mv_types.specs.declared.foreknown.Said.TheVariants as said

-- ---- objects that are `const`

abbrev pub is_constant : Item → Declarator → Bool
is_constant i d = is_constant_form (out-Specs i.specs).fixed (out-Shape d.shape)

-- ---- the names of which a declaration says something

abbrev pub is_said : Said → Item → Declarator → Bool
is_said said.Constant i d = is_constant i d
is_said said.Attributed i d = is_wanted wanted.MarkedFunctions i d

abbrev pub names_in : Said → Item → List (List ℕ)
names_in w i = map name_of (filter (is_said w i) i.names)

abbrev pub all_names : Said → List Item → List (List ℕ)
all_names w = flat_map (names_in w)

abbrev pub names : Said → List Item → List (List ℕ)
names w items = each_once (all_names w items)

-- ---- all together

abbrev pub outline : List Item → Outline
outline items = record {
  functions = functions items;
  attributed = among (outlined.names wanted.MarkedFunctions items) (functions items);
  objects = outlined.names wanted.Objects items;
  switches = among (outlined.names wanted.MarkedSwitches items) (outlined.names wanted.Objects items);
  pointers = among (outlined.names wanted.MarkedPointers items) (outlined.names wanted.Objects items);
}

unfoldable pub foreknown : List Item → Foreknown
foreknown items = record { outline = outline items; attributed = names said.Attributed items; constants = names said.Constant items }

-- ---- one name

abbrev pub is_fixed : Foreknown → List ℕ → Bool
is_fixed k name = is_among name k.constants

abbrev pub is_attributed : Foreknown → List ℕ → Bool
is_attributed k name = is_among name k.attributed

-- the number of an object that has the attribute: the switches come first, and behind them the pointer switches
abbrev pub switch_number : Foreknown → List ℕ → Option ℕ
switch_number k name = place_of name (k.outline.switches ++ k.outline.pointers)

-- the pointer switches, by their numbers among the objects
abbrev pub pointers_of : Foreknown → List ℕ
pointers_of k = map (number_in k.outline.objects) k.outline.pointers

-- An attributed function has its number among those that are defined. One that isn't defined breaks a rule at each use, whatever its
-- number is.
abbrev pub attributed_number : Foreknown → List ℕ → Option ℕ
attributed_number k name = if is_attributed k name then Some (unwrap_or (place_of name k.outline.attributed) 0) else None
