-- Which names stand in the text of a function and mean nothing that the function declares (C11 6.2.1), by the tree of the unit alone.
use Rattle.std.specs.Prelude.{ℕ, not, List, [], ◌∷◌, ◌++◌, map, filter, if◌then◌else◌, Option, Some, None}
use Rattle.std.specs.List.{flat_map}
use Rattle.mv_syntax.specs.declared.unit.Act.{Act-F}
use Rattle.mv_syntax.specs.declared.unit.Act.TheOpen as act
use Rattle.mv_syntax.specs.declared.unit.Declarator.{Declarator}
use Rattle.mv_syntax.specs.declared.unit.EnumSpec.{out-EnumSpec}
use Rattle.mv_syntax.specs.declared.unit.Initial.{Initial}
use Rattle.mv_syntax.specs.declared.unit.Initial.TheVariants as initial
use Rattle.mv_syntax.specs.declared.unit.Item.{Item}
use Rattle.mv_syntax.specs.declared.unit.Line.{Line, Line-F, fold-Line}
use Rattle.mv_syntax.specs.declared.unit.Member.{Member, out-Member}
use Rattle.mv_syntax.specs.declared.unit.Param.{Param}
use Rattle.mv_syntax.specs.declared.unit.Specs.{Specs, out-Specs}
use Rattle.mv_check_outline.specs.Names.{is_among, same_name}
use Rattle.mv_check_outline.specs.Outlined.{is_function, name_of}
use Rattle.mv_check_rules.specs.Units.{params_of}
use Rattle.mv_accepts_texts.specs.Expressions.{NameList, names_in, names_in_any}

-- ---- declarations: where constants are needed, as for sizes, enumerators and labels, no object is named

abbrev pub members_of : Option (List Member) → NameList
members_of None = []
members_of (Some ms) = map (λ m. (out-Member m).name) ms

abbrev pub enumerators_of : Specs → NameList
enumerators_of s = flat_map (λ e. members_of (out-EnumSpec e).members) (out-Specs s).tags

abbrev pub names_in_initial : Option Initial → NameList
names_in_initial None = []
names_in_initial (Some (initial.Value n)) = names_in n
names_in_initial (Some (initial.Values ns)) = flat_map names_in ns
names_in_initial (Some (initial.Chars bytes)) = []

-- ---- statements

-- A part of a function's text, behind declarations of these names: the names that are declared behind it, and those that stand in it and aren't declared.
abbrev pub Part : Type 0
Part = (declared : NameList) → NameList × NameList

abbrev pub undeclared : NameList → NameList → NameList
undeclared declared names = filter (λ name. not (is_among name declared)) names

abbrev pub naming : NameList → Part
naming names declared = (declared, undeclared declared names)

abbrev pub declaring : NameList → Part
declaring names declared = (names ++ declared, [])

abbrev pub next : Part → Part → Part
next first second declared = let a = first declared in let b = second a.0 in (b.0, a.1 ++ b.1)

abbrev pub in_turn : List Part → Part
in_turn [] = naming []
in_turn (part ∷ parts) = next part (in_turn parts)

-- what it declares isn't declared behind it
abbrev pub block : Part → Part
block part declared = (declared, (part declared).1)

abbrev pub if_there : Option Part → Part
if_there None = naming []
if_there (Some part) = part

-- a name is declared in its own initial value
abbrev pub declarator : Declarator → Part
declarator d = next (declaring (name_of d ∷ [])) (naming (names_in_initial d.initial))

abbrev pub act_part : Act-F Part Part → Part
act_part (act.Block lines) = block (in_turn lines)
act_part (act.Declare specs ds) = next (declaring (enumerators_of specs)) (in_turn (map declarator ds))
act_part (act.Express e) = naming (names_in_any e)
act_part (act.If e first second) = next (naming (names_in e)) (next first (if_there second))
act_part (act.While e body) = next (naming (names_in e)) body
act_part (act.Do body e) = next body (naming (names_in e))
act_part (act.For first test step body) = block (next (if_there first) (next (naming (names_in_any test)) (next (naming (names_in_any step)) body)))
act_part (act.Switch e body) = next (naming (names_in e)) body
act_part (act.Case e) = naming []
act_part act.Default = naming []
act_part act.Break = naming []
act_part act.Continue = naming []
act_part (act.Return e) = naming (names_in_any e)

abbrev pub line_part : Line-F Part Part → Part
line_part l = l.what

unfoldable pub part_of : Line → Part
part_of = fold-Line Part Part act_part line_part

-- ---- functions

abbrev pub parameter : Param → Part
parameter p = declaring (name_of p.name ∷ enumerators_of p.specs)

-- the names in the body of a function that are declared outside of it
abbrev pub names_in_function : List Param → Line → NameList
names_in_function params body = (next (in_turn (map parameter params)) (part_of body) []).1

-- ---- units

-- the names of the objects that a declarator without a block declares
abbrev pub object_names : Option Line → Declarator → NameList
object_names body d = if is_function d then [] else name_of d ∷ []

-- the names that a declarator, with the block behind it, has in the body of the function that it defines if it is the one with this name
abbrev pub names_in_definition : List ℕ → Option Line → Declarator → NameList
names_in_definition name None d = []
names_in_definition name (Some body) d = if same_name name (name_of d) then names_in_function (params_of d) body else []

-- behind declarations of these objects: the objects that are declared behind some declarators, and those of them that the function with this name names
abbrev pub declarator_objects : List ℕ → Option Line → Declarator → NameList → NameList × NameList
declarator_objects name body d objects = (objects ++ object_names body d, filter (λ n. is_among n objects) (names_in_definition name body d))

abbrev pub item_objects : List ℕ → Item → Part
item_objects name i = in_turn (map (declarator_objects name i.body) i.names)

-- the names of the objects of a unit that stand in the body of its function with this name and mean the object
unfoldable pub objects_named : List ℕ → List Item → NameList
objects_named name items = (in_turn (map (item_objects name) items) []).1
