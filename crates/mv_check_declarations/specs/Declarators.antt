-- Declarators and parameters (C11 6.7.6).
use Rattle.std.specs.Prelude.{ℕ, Bool, false, if◌then◌else◌, List, [], Option, Some, None}
use Rattle.mv_syntax.specs.declared.place.Place.{Place}
use Rattle.mv_ast.specs.declared.program.CType.{CType}
use Rattle.mv_ast.specs.declared.program.CType.TheVariants.{Pointer}
use Rattle.mv_ast.specs.declared.program.Signature.{Signature}
use Rattle.mv_syntax.specs.declared.unit.Declarator.{Declarator, Declarator-F, fold-Declarator}
use Rattle.mv_syntax.specs.declared.unit.Node.{Node}
use Rattle.mv_syntax.specs.declared.unit.Param.{Param, Param-F, fold-Param}
use Rattle.mv_syntax.specs.declared.unit.Shape.{Shape, Shape-F, fold-Shape}
use Rattle.mv_syntax.specs.declared.unit.Shape.TheOpen as shape
use Rattle.mv_check_scope.specs.declared.meaning.Meaning.TheVariants as meaning
use Rattle.mv_check_scope.specs.declared.meaning.Storage.TheVariants as storage
use Rattle.mv_check_scope.specs.declared.scope.Scope.{Scope}
use Rattle.mv_check_scope.specs.Conversions.{is_void}
use Rattle.mv_check_scope.specs.Scoped.{block_entered, block_left, declared}
use Rattle.mv_check_scope.specs.Signatures.{place_of, with_signature}
use Rattle.mv_check_expressions.specs.RuleNumbers as rules
use Rattle.mv_check_expressions.specs.declared.constant.Constant.{Constant}
use Rattle.mv_check_expressions.specs.Judged.{Judged, Good, Broken, and_then}
use Rattle.mv_check_expressions.specs.NeededConstants.{constant_judgement}
use Rattle.mv_check_declarations.specs.declared.attributes.Position.TheVariants as position
use Rattle.mv_check_declarations.specs.declared.declarators.Entity.{Entity}
use Rattle.mv_check_declarations.specs.declared.declarators.Entity.TheVariants as entity
use Rattle.mv_check_declarations.specs.declared.specifiers.Specified.{Specified}
use Rattle.mv_check_declarations.specs.Attributes.{attributes, nothing_holds}
use Rattle.mv_check_declarations.specs.Enumerators.{is_taken}
use Rattle.mv_check_declarations.specs.Specifiers.{specifiers}
use Rattle.mv_check_declarations.specs.Turns.{Behind, in_turn}

-- ---- the types of functions

abbrev pub signature_of : CType → List CType → Signature
signature_of result params = record { result = result; params = params }

-- the number of a signature, which is declared by its first use
abbrev pub numbered : CType → List CType → Scope → Scope × ℕ
numbered result params s =
    (record s { signatures = with_signature (signature_of result params) s.signatures }, place_of (signature_of result params) s.signatures)

-- parameters have a scope of their own
abbrev pub function_type : CType → List (Scope → Behind CType) → Scope → Behind ℕ
function_type result params s =
    and_then (in_turn params (block_entered s, [])) (λ d. Good (numbered result d.1 (block_left d.0)))

-- ---- what a declarator designates, by the type of its specifiers and whether `const` is one of them

abbrev pub Shapes : Type 0
Shapes = CType → Bool → Scope → Behind Entity

abbrev pub Declarators : Type 0
Declarators = Specified → Scope → Behind CType

abbrev pub Params : Type 0
Params = Scope → Behind CType

-- the size of an array, where it is written
abbrev pub size_of : Scope → Option Node → Judged (Option Constant)
size_of s None = Good None
size_of s (Some node) = and_then (constant_judgement s node) (λ c. Good (Some c))

abbrev pub shape_step : Shape-F Shapes Declarators Params → Shapes
shape_step shape.Plain t fixed s = Good (s, entity.Scalar t fixed)
shape_step (shape.Array size) t fixed s = and_then (size_of s size) (λ n. Good (s, entity.Array t fixed n))
shape_step (shape.Function params) t fixed s = and_then (function_type t params s) (λ d. Good (d.0, entity.Function d.1))
shape_step (shape.Pointer constant params) t fixed s =
    and_then (function_type t params s) (λ d. Good (d.0, entity.Scalar (Pointer d.1) constant))
shape_step (shape.PointerArray constant size params) t fixed s =
    and_then (size_of s size) (λ n. and_then (function_type t params s) (λ d. Good (d.0, entity.Array (Pointer d.1) constant n)))

-- ---- parameters

abbrev pub is_taken_by : Scope → Option (List ℕ) → Bool
is_taken_by s None = false
is_taken_by s (Some name) = is_taken s name

-- only the type of a parameter of a declaration is ever asked for
abbrev pub parameter_declared : Option (List ℕ) → CType → Bool → Scope → Scope
parameter_declared None t fixed s = s
parameter_declared (Some name) t fixed s =
    declared s name (meaning.Object (record { storage = storage.Local 0; ctype = t; fixed = fixed; switch = None }))

-- void: it is of type `void`
abbrev pub scalar_parameter : Place → Option (List ℕ) → CType → Bool → Scope → Behind CType
scalar_parameter place name t fixed s = if is_void t then Broken place rules.void else Good (parameter_declared name t fixed s, t)

abbrev pub parameter_of : Place → Option (List ℕ) → Entity → Scope → Behind CType
parameter_of place name (entity.Scalar t fixed) s = scalar_parameter place name t fixed s
parameter_of place name (entity.Array t fixed size) s = Broken place rules.declarations
parameter_of place name (entity.Function f) s = Broken place rules.declarations

-- redeclarations: its name is declared already; declarations: it is no scalar
unfoldable pub new_parameter : Place → Option (List ℕ) → Entity → Scope → Behind CType
new_parameter place name e s = if is_taken_by s name then Broken place rules.redeclarations else parameter_of place name e s

abbrev pub declarator_step : Declarator-F Shapes Declarators Params → Declarators
declarator_step d base s =
    and_then (d.shape base.ctype base.fixed s) (λ e.
    and_then (attributes nothing_holds None e.0 d.marks base.attribute) (λ a.
    new_parameter d.place d.name e.1 e.0))

abbrev pub param_step : Param-F Shapes Declarators Params → Params
param_step p s = and_then (specifiers position.Parameter [] p.specs s) (λ d. p.name d.1 d.0)

-- what a declarator designates
abbrev pub designated : Shape → Shapes
designated = fold-Shape Shapes Declarators Params shape_step declarator_step param_step

-- a parameter's type
abbrev pub parameter : Param → Params
parameter = fold-Param Shapes Declarators Params shape_step declarator_step param_step

abbrev pub parameter_declarator : Declarator → Declarators
parameter_declarator = fold-Declarator Shapes Declarators Params shape_step declarator_step param_step
