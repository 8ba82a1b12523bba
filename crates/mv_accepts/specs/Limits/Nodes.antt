-- The nodes of a unit: expressions, statements, labels, declared names, parameters and given values, each counted once.
use Rattle.std.specs.Prelude.{◌≡◌, ℕ, ◌+◌, ◌≤◌, List, map, length, sum, Option, Some, None}
use Rattle.mv_num.specs.Limits.{node_limit}
use Rattle.mv_ast.specs.declared.program.Program.{Program}
use Rattle.mv_syntax.specs.declared.unit.Unit as unit
use Rattle.mv_syntax.specs.declared.unit.Item.{Item}
use Rattle.mv_syntax.specs.declared.unit.Initial.{Initial}
use Rattle.mv_syntax.specs.declared.unit.Initial.TheVariants as initial
use Rattle.mv_syntax.specs.declared.unit.Node.{Node, Node-F, fold-Node}
use Rattle.mv_syntax.specs.declared.unit.What.{What-F}
use Rattle.mv_syntax.specs.declared.unit.What.TheOpen as what
use Rattle.mv_syntax.specs.declared.unit.EnumSpec.{EnumSpec-F}
use Rattle.mv_syntax.specs.declared.unit.Mark.{Mark, Mark-F, fold-Mark}
use Rattle.mv_syntax.specs.declared.unit.Member.{Member-F}
use Rattle.mv_syntax.specs.declared.unit.Specs.{Specs, Specs-F, fold-Specs}
use Rattle.mv_syntax.specs.declared.unit.Shape.{Shape-F}
use Rattle.mv_syntax.specs.declared.unit.Shape.TheOpen as shape
use Rattle.mv_syntax.specs.declared.unit.Declarator.{Declarator, Declarator-F, fold-Declarator}
use Rattle.mv_syntax.specs.declared.unit.Param.{Param-F}
use Rattle.mv_syntax.specs.declared.unit.Line.{Line, Line-F, fold-Line}
use Rattle.mv_syntax.specs.declared.unit.Act.{Act-F}
use Rattle.mv_syntax.specs.declared.unit.Act.TheOpen as act
use Rattle.mv_check_expressions.specs.Judged.{Good}
use Rattle.mv_check_expressions.specs.Seen.{number_or_zero}
use Rattle.mv_types.specs.Units.{unit_judgement}
use Rattle.mv_source_forms.specs.WellFormed.{program_nodes}

-- ---- what may be left out

abbrev pub all_if_there : Option (List ℕ) → ℕ
all_if_there None = 0
all_if_there (Some ns) = sum ns

abbrev pub one_if_named : Option (List ℕ) → ℕ
one_if_named None = 0
one_if_named (Some name) = 1

-- ---- expressions and specifiers

abbrev pub what_count : What-F ℕ ℕ ℕ ℕ ℕ ℕ → ℕ
what_count (what.Number n k) = 0
what_count (what.Name name) = 0
what_count (what.Unary op a) = a
what_count (what.Binary op a b) = a + b
what_count (what.Choose c a b) = c + (a + b)
what_count (what.Assign op a b) = a + b
what_count (what.Before up a) = a
what_count (what.After up a) = a
what_count (what.Index a i) = a + i
what_count (what.Call f args) = f + sum args
what_count (what.Cast specs a) = specs + a

-- a tag and each enumerator are declared names
abbrev pub enum_count : EnumSpec-F ℕ ℕ ℕ ℕ ℕ ℕ → ℕ
enum_count e = one_if_named e.tag + all_if_there e.members

abbrev pub mark_count : Mark-F ℕ ℕ ℕ ℕ ℕ ℕ → ℕ
mark_count m = all_if_there m.values

abbrev pub member_count : Member-F ℕ ℕ ℕ ℕ ℕ ℕ → ℕ
member_count m = 1 + number_or_zero m.value

abbrev pub node_count : Node-F ℕ ℕ ℕ ℕ ℕ ℕ → ℕ
node_count n = 1 + n.what

abbrev pub specs_count : Specs-F ℕ ℕ ℕ ℕ ℕ ℕ → ℕ
specs_count s = sum s.tags + sum s.marks

abbrev pub node_nodes : Node → ℕ
node_nodes = fold-Node ℕ ℕ ℕ ℕ ℕ ℕ what_count enum_count mark_count member_count node_count specs_count

abbrev pub mark_nodes : Mark → ℕ
mark_nodes = fold-Mark ℕ ℕ ℕ ℕ ℕ ℕ what_count enum_count mark_count member_count node_count specs_count

abbrev pub specs_nodes : Specs → ℕ
specs_nodes = fold-Specs ℕ ℕ ℕ ℕ ℕ ℕ what_count enum_count mark_count member_count node_count specs_count

abbrev pub optional_nodes : Option Node → ℕ
optional_nodes None = 0
optional_nodes (Some n) = node_nodes n

-- ---- declarators

-- each value is a given value and an expression; so is each character a given value
abbrev pub initial_nodes : Option Initial → ℕ
initial_nodes None = 0
initial_nodes (Some (initial.Value node)) = 1 + node_nodes node
initial_nodes (Some (initial.Values nodes)) = length nodes + sum (map node_nodes nodes)
initial_nodes (Some (initial.Chars bytes)) = length bytes

abbrev pub shape_count : Shape-F ℕ ℕ ℕ → ℕ
shape_count shape.Plain = 0
shape_count (shape.Array size) = optional_nodes size
shape_count (shape.Function params) = sum params
shape_count (shape.Pointer fixed params) = sum params
shape_count (shape.PointerArray fixed size params) = optional_nodes size + sum params

-- the declared name, or the parameter that has none
abbrev pub declarator_count : Declarator-F ℕ ℕ ℕ → ℕ
declarator_count d = 1 + (d.shape + (sum (map mark_nodes d.marks) + initial_nodes d.initial))

abbrev pub param_count : Param-F ℕ ℕ ℕ → ℕ
param_count p = specs_nodes p.specs + p.name

abbrev pub declarator_nodes : Declarator → ℕ
declarator_nodes = fold-Declarator ℕ ℕ ℕ shape_count declarator_count param_count

-- ---- statements

abbrev pub act_count : Act-F ℕ ℕ → ℕ
act_count (act.Block ls) = sum ls
act_count (act.Declare specs names) = specs_nodes specs + sum (map declarator_nodes names)
act_count (act.Express e) = optional_nodes e
act_count (act.If e first second) = node_nodes e + (first + number_or_zero second)
act_count (act.While e l) = node_nodes e + l
act_count (act.Do l e) = l + node_nodes e
act_count (act.For first test step l) = number_or_zero first + (optional_nodes test + (optional_nodes step + l))
act_count (act.Switch e l) = node_nodes e + l
act_count (act.Case e) = node_nodes e
act_count act.Default = 0
act_count act.Break = 0
act_count act.Continue = 0
act_count (act.Return e) = optional_nodes e

-- a statement or a label
abbrev pub line_count : Line-F ℕ ℕ → ℕ
line_count l = 1 + l.what

abbrev pub line_nodes : Line → ℕ
line_nodes = fold-Line ℕ ℕ act_count line_count

abbrev pub body_nodes : Option Line → ℕ
body_nodes None = 0
body_nodes (Some l) = line_nodes l

-- ---- units

-- A body is that of each declarator before it, of which a definition has one (C11 6.9.1).
abbrev pub item_nodes : Item → ℕ
item_nodes i = specs_nodes i.specs + sum (map (λ d. declarator_nodes d + body_nodes i.body) i.names)

abbrev pub unit_nodes : unit.Unit → ℕ
unit_nodes u = sum (map item_nodes u.items)

-- conversions, cleared locals and first elements that are written out make a program at most four times as large as its unit
abbrev pub UnitsAreSmall : Type 0
UnitsAreSmall = (u : unit.Unit) (p : Program) → unit_judgement u ≡ Good p → unit_nodes u ≤ 4194304 → program_nodes p ≤ node_limit
