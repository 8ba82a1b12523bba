-- Which names stand in an expression, by the tree of the unit alone.
use Rattle.std.specs.Prelude.{ℕ, Bool, false, List, [], ◌∷◌, ◌++◌, if◌then◌else◌, Option, Some, None}
use Rattle.std.specs.List.{flat_map}
use Rattle.mv_syntax.specs.declared.unit.EnumSpec.{EnumSpec-F}
use Rattle.mv_syntax.specs.declared.unit.Mark.{Mark-F}
use Rattle.mv_syntax.specs.declared.unit.Member.{Member-F}
use Rattle.mv_syntax.specs.declared.unit.Node.{Node, Node-F, fold-Node}
use Rattle.mv_syntax.specs.declared.unit.Specs.{Specs-F}
use Rattle.mv_syntax.specs.declared.unit.What.{What-F}
use Rattle.mv_syntax.specs.declared.unit.What.TheOpen as what
use Rattle.mv_check_expressions.specs.Found.{is_address}

abbrev pub NameList : Type 0
NameList = List (List ℕ)

-- The names that stand in an expression, which may be the operand of `&`. There the name of an object stands only as the argument of a call on references, and
-- isn't counted.
abbrev pub Standing : Type 0
Standing = (addressed : Bool) → NameList

abbrev pub what_names : What-F Standing (Unit {0}) (Unit {0}) (Unit {0}) Standing (Unit {0}) → Standing
what_names (what.Number n k) addressed = []
what_names (what.Name name) addressed = if addressed then [] else name ∷ []
what_names (what.Unary op a) addressed = a (is_address op)
what_names (what.Binary op a b) addressed = a false ++ b false
what_names (what.Choose c a b) addressed = c false ++ (a false ++ b false)
what_names (what.Assign op a b) addressed = a false ++ b false
what_names (what.Before up a) addressed = a false
what_names (what.After up a) addressed = a false
what_names (what.Index a i) addressed = a false ++ i false
what_names (what.Call f args) addressed = f false ++ flat_map (λ a. a false) args
what_names (what.Cast specs a) addressed = a false

abbrev pub no_enum : EnumSpec-F Standing (Unit {0}) (Unit {0}) (Unit {0}) Standing (Unit {0}) → Unit {0}
no_enum e = tt

abbrev pub no_mark : Mark-F Standing (Unit {0}) (Unit {0}) (Unit {0}) Standing (Unit {0}) → Unit {0}
no_mark m = tt

abbrev pub no_member : Member-F Standing (Unit {0}) (Unit {0}) (Unit {0}) Standing (Unit {0}) → Unit {0}
no_member m = tt

abbrev pub node_names : Node-F Standing (Unit {0}) (Unit {0}) (Unit {0}) Standing (Unit {0}) → Standing
node_names n = n.what

abbrev pub no_specs : Specs-F Standing (Unit {0}) (Unit {0}) (Unit {0}) Standing (Unit {0}) → Unit {0}
no_specs s = tt

unfoldable pub standing : Node → Standing
standing = fold-Node Standing (Unit {0}) (Unit {0}) (Unit {0}) Standing (Unit {0}) what_names no_enum no_mark no_member node_names no_specs

abbrev pub names_in : Node → NameList
names_in n = standing n false

abbrev pub names_in_any : Option Node → NameList
names_in_any None = []
names_in_any (Some n) = names_in n
