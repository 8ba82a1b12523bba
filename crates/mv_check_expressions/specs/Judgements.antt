-- The judgement on an expression: its parts first, in their order, and then the node by itself.
use Rattle.std.specs.Prelude.{ℕ, Bool, if◌then◌else◌, List, map, is_none}
use Rattle.mv_syntax.specs.declared.place.Place.{Place}
use Rattle.mv_ast.specs.declared.program.CType.{CType}
use Rattle.mv_ast.specs.declared.program.Expr.{Expr}
use Rattle.mv_syntax.specs.declared.unit.Node.{Node, Node-F, fold-Node}
use Rattle.mv_syntax.specs.declared.unit.What.{What-F}
use Rattle.mv_syntax.specs.declared.unit.What.TheOpen as what
use Rattle.mv_syntax.specs.declared.unit.EnumSpec.{EnumSpec-F}
use Rattle.mv_syntax.specs.declared.unit.Mark.{Mark-F}
use Rattle.mv_syntax.specs.declared.unit.Member.{Member-F}
use Rattle.mv_syntax.specs.declared.unit.Specs.{Specs-F}
use Rattle.mv_check_scope.specs.declared.scope.Scope.{Scope}
use Rattle.mv_check_scope.specs.Conversions.{is_void}
use Rattle.mv_check_expressions.specs.declared.seen.Seen.{Seen}
use Rattle.mv_check_expressions.specs.declared.seen.Use.{Use}
use Rattle.mv_check_expressions.specs.declared.seen.Use.TheVariants as «use»
use Rattle.mv_check_expressions.specs.Judged.{Judged, Good, and_then, each}
use Rattle.mv_check_expressions.specs.TypeNames.{is_undeclared, judged_type}
use Rattle.mv_check_expressions.specs.Seen.{value_of}
use Rattle.mv_check_expressions.specs.Calls.{argument_use}
use Rattle.mv_check_expressions.specs.Found.{Layer, is_address}
use Rattle.mv_check_expressions.specs.Breaches.{by_itself}

abbrev pub Judges : Type 0
Judges = Use → Judged Seen

-- what the operand of `&` and of the other operators is used as
abbrev pub operand_use : ℕ → Use
operand_use op = if is_address op then «use».Address else «use».Value

-- what is cast to `void` is used for its effect
abbrev pub cast_use : CType → Use
cast_use t = if is_void t then «use».Discarded else «use».Value

-- one node with the judgements on its parts
abbrev pub Parts : Type 0
Parts = What-F (Place → Judges) Bool (Unit {0}) (Unit {0}) Judges (Judged CType)

-- the parts of a node, each judged by what it is used as, and then what follows of them
abbrev pub with_parts : Parts → (Layer → Judged Seen) → Judged Seen
with_parts (what.Number n k) next = next (what.Number n k)
with_parts (what.Name name) next = next (what.Name name)
with_parts (what.Unary op a) next = and_then (a (operand_use op)) (λ x. next (what.Unary op x))
with_parts (what.Binary op a b) next = and_then (a «use».Value) (λ x. and_then (b «use».Value) (λ y. next (what.Binary op x y)))
with_parts (what.Choose c a b) next =
    and_then (c «use».Value) (λ x. and_then (a «use».Value) (λ y. and_then (b «use».Value) (λ z. next (what.Choose x y z))))
with_parts (what.Assign op a b) next = and_then (a «use».Place) (λ x. and_then (b «use».Value) (λ y. next (what.Assign op x y)))
with_parts (what.Before up a) next = and_then (a «use».Place) (λ x. next (what.Before up x))
with_parts (what.After up a) next = and_then (a «use».Place) (λ x. next (what.After up x))
with_parts (what.Index a i) next = and_then (a «use».Base) (λ x. and_then (i «use».Value) (λ y. next (what.Index x y)))
with_parts (what.Call f args) next =
    and_then (f «use».Callee) (λ x. and_then (each (map (λ a. a (argument_use x)) args)) (λ ys. next (what.Call x ys)))
with_parts (what.Cast specs a) next = and_then specs (λ t. and_then (a (cast_use t)) (λ x. next (what.Cast t x)))

abbrev pub mark_step : Mark-F (Place → Judges) Bool (Unit {0}) (Unit {0}) Judges (Judged CType) → Unit {0}
mark_step mark = tt

abbrev pub member_step : Member-F (Place → Judges) Bool (Unit {0}) (Unit {0}) Judges (Judged CType) → Unit {0}
member_step member = tt

abbrev pub specs_step : Specs-F (Place → Judges) Bool (Unit {0}) (Unit {0}) Judges (Judged CType) → Judged CType
specs_step specs = judged_type specs.place specs.tags specs.words

module _ (scope : Scope) where
  abbrev pub what_step : Parts → Place → Judges
  what_step parts place u = with_parts parts (by_itself scope place u)

  abbrev pub enum_step : EnumSpec-F (Place → Judges) Bool (Unit {0}) (Unit {0}) Judges (Judged CType) → Bool
  enum_step e = is_undeclared scope e.tag (is_none e.members)

  abbrev pub node_step : Node-F (Place → Judges) Bool (Unit {0}) (Unit {0}) Judges (Judged CType) → Judges
  node_step node u = node.what node.place u

  -- what an expression that is used as something is, or the first place in it at which a rule is broken
  abbrev pub judgement : Node → Judges
  judgement =
      fold-Node (Place → Judges) Bool (Unit {0}) (Unit {0}) Judges (Judged CType) what_step enum_step mark_step member_step node_step specs_step

  -- expressions that are used alike, in their order
  abbrev pub judgements : List Node → Use → Judged (List Seen)
  judgements nodes u = each (map (λ j. j u) (map judgement nodes))

  -- the value of an expression
  abbrev pub value_judgement : Node → Judged Expr
  value_judgement node = and_then (judgement node «use».Value) (λ x. Good (value_of x))

  -- the computation of an expression that is used for its effect
  abbrev pub effect_judgement : Node → Judged Expr
  effect_judgement node = and_then (judgement node «use».Effect) (λ x. Good (value_of x))
