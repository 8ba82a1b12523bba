-- What a unit declares at file scope (C11 6.9), by its items alone: which functions it defines, which objects it has, and
-- which of them are marked. So a name has its number before its first use is judged.
use Rattle.std.specs.Prelude.{◌≡◌, ℕ, Bool, true, false, ◌&&◌, ◌||◌, not, List, [], ◌∷◌, map, filter, Option, Some, None}
use Rattle.std.specs.List.{flat_map}
use Rattle.mv_syntax.specs.declared.unit.Item.{Item}
use Rattle.mv_syntax.specs.declared.unit.Specs.{out-Specs}
use Rattle.mv_syntax.specs.declared.unit.Declarator.{Declarator}
use Rattle.mv_syntax.specs.declared.unit.Shape.{Shape-F, out-Shape}
use Rattle.mv_syntax.specs.declared.unit.Shape.TheOpen as form
use Rattle.mv_check_outline.specs.declared.outline.Wanted.{Wanted}
use Rattle.mv_check_outline.specs.declared.outline.Wanted.TheVariants as wanted
use Rattle.mv_check_outline.specs.declared.outline.Outline.{Outline}
use Rattle.mv_check_outline.specs.Names.{each_once, among}

-- ---- one declarator of an item

abbrev pub is_function_form : {A B C : Type 0} → Shape-F A B C → Bool
is_function_form form.Plain = false
is_function_form (form.Array n) = false
is_function_form (form.Function params) = true
is_function_form (form.Pointer c params) = false
is_function_form (form.PointerArray c n params) = false

abbrev pub is_function : Declarator → Bool
is_function d = is_function_form (out-Shape d.shape)

-- a pointer to a function, no array of them
abbrev pub is_pointer_form : {A B C : Type 0} → Shape-F A B C → Bool
is_pointer_form form.Plain = false
is_pointer_form (form.Array n) = false
is_pointer_form (form.Function params) = false
is_pointer_form (form.Pointer c params) = true
is_pointer_form (form.PointerArray c n params) = false

abbrev pub declares_pointer : Declarator → Bool
declares_pointer d = is_pointer_form (out-Shape d.shape)

abbrev pub is_there : {A : Type 0} → Option A → Bool
is_there None = false
is_there (Some x) = true

abbrev pub is_filled : {A : Type 0} → List A → Bool
is_filled [] = false
is_filled (x ∷ xs) = true

-- an attribute among the specifiers holds for every declarator, one behind a declarator for that one
abbrev pub is_marked : Item → Declarator → Bool
is_marked i d = is_filled (out-Specs i.specs).marks || is_filled d.marks

abbrev pub name_of : Declarator → List ℕ
name_of d = or_nothing d.name
  where
    or_nothing : Option (List ℕ) → List ℕ
    or_nothing None = []
    or_nothing (Some name) = name

abbrev pub is_wanted : Wanted → Item → Declarator → Bool
is_wanted wanted.Functions i d = is_function d
is_wanted wanted.DefinedFunctions i d = is_function d && is_there i.body
is_wanted wanted.MarkedFunctions i d = is_function d && is_marked i d
is_wanted wanted.Objects i d = not (is_function d)
is_wanted wanted.MarkedSwitches i d = not (is_function d) && (not (declares_pointer d) && is_marked i d)
is_wanted wanted.MarkedPointers i d = declares_pointer d && is_marked i d

-- ---- the names of a unit

abbrev pub names_in : Wanted → Item → List (List ℕ)
names_in w i = map name_of (filter (is_wanted w i) i.names)

abbrev pub all_names : Wanted → List Item → List (List ℕ)
all_names w = flat_map (names_in w)

-- each once, in order of first declaration
abbrev pub names : Wanted → List Item → List (List ℕ)
names w is = each_once (all_names w is)

-- the functions that a unit defines, in order of their first declarations
abbrev pub functions : List Item → List (List ℕ)
functions is = among (names wanted.DefinedFunctions is) (names wanted.Functions is)

-- The functions that a unit defines and its objects, and those of them of which any declaration is marked: attributed functions, switches and pointer switches.
pub record IsOutlineOf (items : List Item) (o : Outline) : Type 0 where
  pub defined : o.functions ≡ functions items
  pub attributed : o.attributed ≡ among (names wanted.MarkedFunctions items) o.functions
  pub objects : o.objects ≡ names wanted.Objects items
  pub switches : o.switches ≡ among (names wanted.MarkedSwitches items) o.objects
  pub pointers : o.pointers ≡ among (names wanted.MarkedPointers items) o.objects
