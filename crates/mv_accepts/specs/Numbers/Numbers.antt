-- The numbers that a unit's names have before its first declaration is judged are those that they have in its program.
use Rattle.std.specs.Prelude.{◌≡◌, ◌≢◌, ℕ, ◌<◌, true, All, AllPairs, List, map, length, Some, None, nat_lt, is_some, slice_get}
use Rattle.mv_ast.specs.declared.program.CType.TheVariants.{Pointer}
use Rattle.mv_ast.specs.declared.program.Function.{Function}
use Rattle.mv_ast.specs.declared.program.Switch.{Switch}
use Rattle.mv_syntax.specs.declared.unit.Item.{Item}
use Rattle.mv_syntax.specs.declared.unit.Line.{Line}
use Rattle.mv_ast.specs.Switches.{attributed_functions}
use Rattle.mv_check_expressions.specs.Judged.{Good}
use Rattle.mv_check_declarations.specs.Turns.{through}
use Rattle.mv_check_outline.specs.Names.{is_among, place_of}
use Rattle.mv_check_outline.specs.Outlined.{is_function, name_of}
use Rattle.mv_types.specs.declared.contents.Contents.{Contents}
use Rattle.mv_types.specs.declared.contents.Foreknown.{Foreknown}
use Rattle.mv_types.specs.declared.contents.Object.{Object}
use Rattle.mv_types.specs.Contents.{nothing_declared, present}
use Rattle.mv_types.specs.Foreknown.{foreknown, is_attributed, attributed_number, pointers_of}
use Rattle.mv_types.specs.Units.{item_judgement, program_of}

-- what the items of a unit that keep the rules come to
abbrev pub AreJudged : List Item → Contents → Type 0
AreJudged items c = through (item_judgement (foreknown items)) items (nothing_declared (foreknown items)) ≡ Good c

-- ---- functions

-- All the functions that are known are defined, in their order. One has the attribute where any of its declarations has it.
pub record AreDefined (k : Foreknown) (c : Contents) : Type 0 where
  pub all : c.functions ≡ map (λ f. Some f) (present c.functions)
  pub each : (g : ℕ) → g < length c.functions → (f : Function) × (slice_get c.functions g ≡ Some (Some f))
  pub named : map (λ f. f.name) (present c.functions) ≡ k.outline.functions
  pub attributed : All (λ f. f.attributed ≡ is_attributed k f.name) (present c.functions)

abbrev pub FunctionsAreDefined : Type 0
FunctionsAreDefined = (items : List Item) (c : Contents) → AreJudged items c → AreDefined (foreknown items) c

-- each function that an item defines has a number
abbrev pub IsForeknown : Foreknown → Item → Type 0
IsForeknown k i =
    (body : Line) → i.body ≡ Some body → All (λ d. is_function d ≡ true → (g : ℕ) × (place_of (name_of d) k.outline.functions ≡ Some g)) i.names

abbrev pub ItemsAreForeknown : Type 0
ItemsAreForeknown = (items : List Item) → All (IsForeknown (foreknown items)) items

-- the function with a number, by its name
abbrev pub HasNumber : List Function → ℕ → List ℕ → Type 0
HasNumber functions n name = (f : Function) × (slice_get functions n ≡ Some f) × (f.name ≡ name)

-- The attributed functions of the program are those that are known, in their order; one that is defined has its number among them.
pub record AreAttributed (k : Foreknown) (functions : List Function) : Type 0 where
  pub named : map (λ f. f.name) functions ≡ k.outline.attributed
  pub numbered : (name : List ℕ) (g n : ℕ) → place_of name k.outline.functions ≡ Some g → attributed_number k name ≡ Some n → HasNumber functions n name
  pub below : (name : List ℕ) (g n : ℕ) → place_of name k.outline.functions ≡ Some g → attributed_number k name ≡ Some n → nat_lt n (length functions) ≡ true

abbrev pub AttributedAreCounted : Type 0
AttributedAreCounted =
    (items : List Item) (c : Contents) (pointers : List ℕ) (main : ℕ) → AreJudged items c →
    AreAttributed (foreknown items) (attributed_functions (program_of c pointers main))

-- ---- objects

-- the switch with a number, by its global
abbrev pub IsSwitchOf : List Switch → ℕ → ℕ → Type 0
IsSwitchOf switches n global = (s : Switch) × (slice_get switches n ≡ Some s) × (s.global ≡ global)

-- The objects are those that are known, in their order. Those that any declaration marks and that are no pointers have a domain, and are the switches; a name has
-- its number among them.
pub record AreSwitches (k : Foreknown) (c : Contents) (switches : List Switch) : Type 0 where
  pub named : map (λ o. o.global.name) c.objects ≡ k.outline.objects
  pub marked : All (λ o. is_some o.domain ≡ is_among o.global.name k.outline.switches) c.objects
  pub globals : map (λ s. Some s.global) switches ≡ map (λ name. place_of name k.outline.objects) k.outline.switches
  pub numbered : (name : List ℕ) (g n : ℕ) → place_of name k.outline.objects ≡ Some g → place_of name k.outline.switches ≡ Some n → IsSwitchOf switches n g
  pub below : (name : List ℕ) (n : ℕ) → place_of name k.outline.switches ≡ Some n → nat_lt n (length switches) ≡ true

abbrev pub SwitchesAreCounted : Type 0
SwitchesAreCounted =
    (items : List Item) (c : Contents) (pointers : List ℕ) (main : ℕ) → AreJudged items c → AreSwitches (foreknown items) c (program_of c pointers main).switches

-- the object with a number is a function pointer, and no array
pub record IsPointerAt (c : Contents) (number : ℕ) : Type 0 where
  pub object : Object
  pub there : slice_get c.objects number ≡ Some object
  pub signature : ℕ
  pub ctype : object.global.ctype ≡ Pointer signature
  pub scalar : object.global.size ≡ None

-- The pointer switches are different ones of the objects, each a function pointer.
pub record ArePointers (k : Foreknown) (c : Contents) : Type 0 where
  pub each : All (IsPointerAt c) (pointers_of k)
  pub different : AllPairs (λ g h. g ≢ h) (pointers_of k)

abbrev pub PointersAreCounted : Type 0
PointersAreCounted = (items : List Item) (c : Contents) → AreJudged items c → ArePointers (foreknown items) c
