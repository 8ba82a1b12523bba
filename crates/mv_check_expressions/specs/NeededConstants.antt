-- Where a constant is needed (C11 6.6).
use Rattle.std.specs.Prelude.{ℕ, Option, Some, None}
use Rattle.mv_syntax.specs.declared.place.Place.{Place}
use Rattle.mv_ast.specs.declared.program.CType.{CType}
use Rattle.mv_ast.specs.declared.program.Expr.{Expr}
use Rattle.mv_syntax.specs.declared.unit.Node.{Node}
use Rattle.mv_check_scope.specs.declared.scope.Scope.{Scope}
use Rattle.mv_check_scope.specs.Constants.{constant_value}
use Rattle.mv_check_expressions.specs.RuleNumbers as rules
use Rattle.mv_check_expressions.specs.declared.constant.Constant.{Constant}
use Rattle.mv_check_expressions.specs.Judged.{Judged, Good, Broken, and_then}
use Rattle.mv_check_expressions.specs.Judgements.{value_judgement}

-- constants: the expression isn't a constant, or its evaluation divides by 0
abbrev pub unless_inconstant : Place → Option ℕ → CType → Judged Constant
unless_inconstant place None t = Broken place rules.constants
unless_inconstant place (Some v) t = Good (record { value = v; ctype = t })

abbrev pub constant_of : Place → Expr → Judged Constant
constant_of place e = unless_inconstant place (constant_value e) e.ctype

abbrev pub constant_judgement : Scope → Node → Judged Constant
constant_judgement scope node = and_then (value_judgement scope node) (constant_of node.place)
