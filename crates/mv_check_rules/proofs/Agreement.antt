-- What it is for the definitions by rules to agree with the judgements in the order of the code: what one finds is what the other finds, in other words.
use Rattle.std.proofs.Common.{◌≡◌, Bool, ◌||◌, not, List, Option, Some, None}
use Rattle.std.specs.List.{list_any}
use Rattle.mv_num.specs.declared.kind.Kind.{Kind}
use Rattle.mv_ast.specs.declared.program.CType.{CType}
use Rattle.mv_syntax.specs.declared.unit.Declarator.{Declarator}
use Rattle.mv_syntax.specs.declared.unit.Line.{Line}
use Rattle.mv_syntax.specs.declared.unit.Mark.{Mark}
use Rattle.mv_syntax.specs.declared.unit.Param.{Param}
use Rattle.mv_syntax.specs.declared.unit.Shape.{Shape}
use Rattle.mv_syntax.specs.declared.unit.Specs.{Specs, out-Specs}
use Rattle.mv_check_scope.specs.declared.scope.Scope.{Scope}
use Rattle.mv_check_expressions.specs.Judged.{Judged, Good, Broken}
use Rattle.mv_check_declarations.specs.declared.attributes.Attribute.{Attribute}
use Rattle.mv_check_declarations.specs.declared.attributes.Holder.{Holder}
use Rattle.mv_check_declarations.specs.declared.attributes.Position.{Position}
use Rattle.mv_check_declarations.specs.declared.declarators.Entity.{Entity}
use Rattle.mv_check_declarations.specs.declared.declarators.Entity.TheVariants as entity
use Rattle.mv_check_declarations.specs.declared.specifiers.Specified.{Specified}
use Rattle.mv_check_declarations.specs.Attributes as code
use Rattle.mv_check_declarations.specs.Declarators.{designated}
use Rattle.mv_check_declarations.specs.Specifiers as code_specifiers
use Rattle.mv_check_declarations.specs.Locals.{locals_judgement}
use Rattle.mv_check_declarations.specs.Parameters.{parameters_judgement}
use Rattle.mv_check_statements.specs.Statements.{body_judgement}
use Rattle.mv_check_rules.specs.Nodes.{Declared, Bearer}
use Rattle.mv_check_rules.specs.Nodes as node
use Rattle.mv_check_rules.specs.Rules.{bears_none, is_empty}
use Rattle.mv_check_rules.specs.Declarations.{Attribution, Base, attributes, is_switch, specifiers, declared_as, parameters, local_declaration}
use Rattle.mv_check_rules.specs.Statements.{body}

-- ---- what is found, in other words

module _ {A B : Type 0} (f : A → B) where
  abbrev pub mapped : Judged A → Judged B
  mapped (Good a) = Good (f a)
  mapped (Broken place rule) = Broken place rule

  abbrev pub over : Scope × A → Scope × B
  over d = (d.0, f d.1)

abbrev pub declared_of : Entity → Declared
declared_of (entity.Scalar t fixed) = node.Scalar t fixed
declared_of (entity.Array t fixed size) = node.Array t fixed size
declared_of (entity.Function f) = node.Function f

abbrev pub attribution_of : Option Attribute → Option Attribution
attribution_of None = None
attribution_of (Some a) = Some a.values

abbrev pub base_of_specified : Specified → Base
base_of_specified x = record { ctype = x.ctype; constant = x.fixed; enumeration = x.enumeration; attribute = attribution_of x.attribute }

-- what may stand on all of these
abbrev pub holder : List Bearer → Holder
holder bs = record { plainly = not (is_empty bs || list_any bears_none bs); with_values = not (is_empty bs || list_any (λ b. not (is_switch b)) bs) }

abbrev pub is_local : Position → Bool
is_local p = not (code_specifiers.at_file p)

-- ---- the statements

abbrev pub AttributesAgree : Type 0
AttributesAgree = (bs : List Bearer) (k : Option Kind) (s : Scope) (ms : List Mark) (a : Option Attribute) →
    attributes bs k s ms (attribution_of a) ≡ mapped attribution_of (code.attributes (holder bs) k s ms a)

abbrev pub SpecifiersAgree : Type 0
SpecifiersAgree = (p : Position) (bs : List Bearer) (names : List Declarator) (specs : Specs) (s : Scope) →
    code.holder_of_all p (out-Specs specs).fixed names ≡ holder bs →
    specifiers (is_local p) bs specs s ≡ mapped (over base_of_specified) (code_specifiers.specifiers p names specs s)

abbrev pub DeclaredAgrees : Type 0
DeclaredAgrees = (x : Shape) (t : CType) (fixed : Bool) (s : Scope) → declared_as x t fixed s ≡ mapped (over declared_of) (designated x t fixed s)

abbrev pub ParametersAgree : Type 0
ParametersAgree = (s : Scope) (ps : List Param) → parameters ps s ≡ parameters_judgement s ps

abbrev pub LocalDeclarationAgrees : Type 0
LocalDeclarationAgrees = (s : Scope) (specs : Specs) (ds : List Declarator) → local_declaration s specs ds ≡ locals_judgement s specs ds

abbrev pub BodyAgrees : Type 0
BodyAgrees = (t : CType) (b : Line) (s : Scope) → body t b s ≡ body_judgement t b s
