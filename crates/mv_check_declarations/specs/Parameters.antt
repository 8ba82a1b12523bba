-- The parameters of a defined function (C11 6.9.1), which are its first locals.
use Rattle.std.specs.Prelude.{ℕ, Bool, if◌then◌else◌, List, length, Option, Some, None, []}
use Rattle.mv_syntax.specs.declared.place.Place.{Place}
use Rattle.mv_ast.specs.declared.program.CType.{CType}
use Rattle.mv_syntax.specs.declared.unit.Param.{Param}
use Rattle.mv_check_scope.specs.declared.scope.Scope.{Scope}
use Rattle.mv_check_scope.specs.Conversions.{is_void}
use Rattle.mv_check_scope.specs.Scoped.{declared, with_local}
use Rattle.mv_check_expressions.specs.RuleNumbers as rules
use Rattle.mv_check_expressions.specs.Judged.{Judged, Good, Broken, and_then}
use Rattle.mv_check_declarations.specs.declared.attributes.Position.TheVariants as position
use Rattle.mv_check_declarations.specs.declared.declarators.Entity.{Entity}
use Rattle.mv_check_declarations.specs.declared.declarators.Entity.TheVariants as entity
use Rattle.mv_check_declarations.specs.Attributes.{attributes, nothing_holds}
use Rattle.mv_check_declarations.specs.Declarators.{designated, is_taken_by}
use Rattle.mv_check_declarations.specs.Locals.{scalar_meaning}
use Rattle.mv_check_declarations.specs.Objects.{scalar}
use Rattle.mv_check_declarations.specs.Specifiers.{specifiers}
use Rattle.mv_check_declarations.specs.Turns.{through}

abbrev pub named_parameter : Place → Option (List ℕ) → CType → Bool → Scope → Judged Scope
named_parameter place None t fixed s = Broken place rules.declarations
named_parameter place (Some name) t fixed s = Good (declared (with_local s (scalar t)) name (scalar_meaning (length s.locals) t fixed))

-- void: it is of type `void`
abbrev pub defined_parameter : Place → Option (List ℕ) → Entity → Scope → Judged Scope
defined_parameter place name (entity.Scalar t fixed) s = if is_void t then Broken place rules.void else named_parameter place name t fixed s
defined_parameter place name (entity.Array t fixed size) s = Broken place rules.declarations
defined_parameter place name (entity.Function f) s = Broken place rules.declarations

-- redeclarations: its name is declared already; declarations: it has no name, or is no scalar
unfoldable pub new_defined : Place → Option (List ℕ) → Entity → Scope → Judged Scope
new_defined place name e s = if is_taken_by s name then Broken place rules.redeclarations else defined_parameter place name e s

abbrev pub parameter_judgement : Param → Scope → Judged Scope
parameter_judgement p s =
    and_then (specifiers position.Parameter [] p.specs s) (λ b.
    and_then (designated p.name.shape b.1.ctype b.1.fixed b.0) (λ e.
    and_then (attributes nothing_holds None e.0 p.name.marks b.1.attribute) (λ a.
    new_defined p.name.place p.name.name e.1 e.0)))

-- the scope behind the parameters of a function that is defined
abbrev pub parameters_judgement : Scope → List Param → Judged Scope
parameters_judgement s params = through parameter_judgement params s
