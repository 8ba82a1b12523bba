-- Functions: how often one may be declared, and what its definition is (C11 6.7.6.3, 6.9.1).
use Rattle.std.specs.Prelude.{ℕ, Bool, true, false, ◌&&◌, not, nat_eq, is_some, if◌then◌else◌, List, [], length, Option, Some, None, slice_get, unwrap_or}
use Rattle.mv_syntax.specs.declared.place.Place.{Place}
use Rattle.mv_ast.specs.declared.program.CType.{CType}
use Rattle.mv_ast.specs.declared.program.Function.{Function}
use Rattle.mv_ast.specs.declared.program.Known.{Known}
use Rattle.mv_ast.specs.declared.program.Signature.{Signature}
use Rattle.mv_ast.specs.declared.program.Stmt.{Stmt}
use Rattle.mv_syntax.specs.declared.unit.Declarator.{Declarator}
use Rattle.mv_syntax.specs.declared.unit.Line.{Line}
use Rattle.mv_syntax.specs.declared.unit.Param.{Param}
use Rattle.mv_syntax.specs.declared.unit.Shape.{Shape-F, out-Shape}
use Rattle.mv_syntax.specs.declared.unit.Shape.TheOpen as shape
use Rattle.mv_check_scope.specs.declared.meaning.Meaning.{Meaning}
use Rattle.mv_check_scope.specs.declared.meaning.Meaning.TheVariants as meaning
use Rattle.mv_check_scope.specs.declared.scope.Scope.{Scope}
use Rattle.mv_check_scope.specs.Conversions.{int, same_signature}
use Rattle.mv_check_scope.specs.Known.{known_function}
use Rattle.mv_check_scope.specs.Scoped.{declared, block_entered, block_left}
use Rattle.mv_check_scope.specs.Spaces.{named}
use Rattle.mv_check_expressions.specs.RuleNumbers as rules
use Rattle.mv_check_expressions.specs.Calls.{known_arity, known_params}
use Rattle.mv_check_expressions.specs.Judged.{Judged, Good, Broken, and_then}
use Rattle.mv_check_outline.specs.Names.{place_of}
use Rattle.mv_check_declarations.specs.Declarators.{signature_of}
use Rattle.mv_check_declarations.specs.Initials.{plain_values}
use Rattle.mv_check_declarations.specs.Parameters.{parameters_judgement}
use Rattle.mv_check_declarations.specs.Turns.{Behind}
use Rattle.mv_check_statements.specs.Statements.{body_judgement}
use Rattle.mv_types.specs.declared.contents.Contents.{Contents}
use Rattle.mv_types.specs.declared.contents.Foreknown.{Foreknown}
use Rattle.mv_types.specs.declared.functions.Before.{Before}
use Rattle.mv_types.specs.Contents.{in_scope, with_function}
use Rattle.mv_types.specs.Foreknown.{is_attributed, attributed_number}

-- ---- what one more declaration may say

-- whether it is the prototype of a known function; one whose argument is a name and no value has none
abbrev pub is_prototype : Known → Option Signature → Bool
is_prototype k None = false
is_prototype k (Some t) = nat_eq (known_arity k) (length (known_params k)) && same_signature t (signature_of int (known_params k))

-- Whether a function of the type with this number may be declared: the name is new, or that of a function of this type, or it is known
-- without a declaration and this is its prototype.
abbrev pub may_declare : List Signature → (signature : ℕ) → (block : Bool) → Option Meaning → Option Known → Bool
may_declare signatures signature block (Some (meaning.Function r)) known = nat_eq r.signature signature
may_declare signatures signature block (Some _) known = false
may_declare signatures signature block None (Some k) = not block && is_prototype k (slice_get signatures signature)
may_declare signatures signature block None None = true

abbrev pub is_defined : Option (Option Function) → Bool
is_defined (Some (Some f)) = true
is_defined _ = false

abbrev pub is_defined_at : List (Option Function) → Option ℕ → Bool
is_defined_at functions None = false
is_defined_at functions (Some n) = is_defined (slice_get functions n)

-- redeclarations: the name is declared already, in a way that doesn't go with this; definitions: the function is defined a second time; declarations: it has
-- an initial value
unfoldable pub broken_rule : (allowed twice given : Bool) → Option ℕ
broken_rule allowed twice given = if not allowed then Some rules.redeclarations else if twice then Some rules.definitions else if given then Some rules.declarations else None

-- ---- what declarations come to

abbrev pub function_meaning : Foreknown → List ℕ → ℕ → Meaning
function_meaning k name signature =
    meaning.Function (record { number = place_of name k.outline.functions; signature = signature; attributed = attributed_number k name })

-- a prototype of a known function declares nothing
unfoldable pub function_scope : Foreknown → List ℕ → ℕ → Option Meaning → Option Known → Scope → Scope
function_scope k name signature None None s = declared s name (function_meaning k name signature)
function_scope k name signature _ _ s = s

-- ---- definitions

abbrev pub params_of_form : {A : Type 0} → {B : Type 0} → Shape-F A B Param → List Param
params_of_form (shape.Function params) = params
params_of_form _ = []

abbrev pub params_of : Declarator → List Param
params_of d = params_of_form (out-Shape d.shape)

-- a function's parameters and locals stand in a block of their own
abbrev pub body_entered : (attributed : Bool) → Scope → Scope
body_entered attributed s = record (block_entered s) { locals = []; attributed = attributed }

abbrev pub body_left : Scope → Scope
body_left s = record (block_left s) { locals = []; attributed = false }

-- The parameters of a declarator that a block follows are judged as those of a definition before all else that the declarator says.
abbrev pub definition_parameters : Declarator → Option Line → Scope → Judged Scope
definition_parameters d None s = Good s
definition_parameters d (Some body) s = and_then (parameters_judgement (body_entered false s) (params_of d)) (λ p. Good (body_left p))

-- the function of a body that has been judged, and the scope behind it; its switches are found once all of the unit are known
abbrev pub left_with : List ℕ → (attributed : Bool) → CType → (params : ℕ) → List Stmt → Scope → Scope × Function
left_with name attributed result params body s = (
  body_left s,
  record {
    name = name;
    attributed = attributed;
    result = result;
    params = params;
    locals = s.locals;
    switches = [];
    body = body;
  },
)

-- the function that a definition is
abbrev pub function_of : Foreknown → List ℕ → CType → List Param → Line → Scope → Behind Function
function_of k name result params body s =
    and_then (parameters_judgement (body_entered (is_attributed k name) s) params) (λ p.
    and_then (body_judgement result body p) (λ b.
    Good (left_with name (is_attributed k name) result (length params) b.1 b.0)))

-- a block defines the function with this number
abbrev pub defined : Foreknown → List ℕ → CType → List Param → Option Line → Option ℕ → Contents → Judged Contents
defined k name result params None number c = Good c
defined k name result params (Some body) number c =
    and_then (function_of k name result params body c.scope) (λ f. Good (with_function (in_scope c f.0) (unwrap_or number 0) f.1))

-- ---- a declarator that designates a function

abbrev pub unless_broken : Place → Option ℕ → Judged Contents → Judged Contents
unless_broken place None judged = judged
unless_broken place (Some rule) judged = Broken place rule

-- what its name means before it, the known function of that name, and its number if the unit defines it
abbrev pub before_of : Foreknown → List ℕ → Scope → Before
before_of k name s = record { meaning = named name s.names.here; builtin = known_function name; number = place_of name k.outline.functions }

abbrev pub rule_of : Declarator → (signature : ℕ) → Option Line → Contents → Before → Option ℕ
rule_of d signature body c b =
    broken_rule (may_declare c.scope.signatures signature (is_some body) b.meaning b.builtin) (is_some body && is_defined_at c.functions b.number)
    (is_some d.initial)

-- The initial value is judged before the declarator, and breaks a rule of it. A name that is new means the function in it.
abbrev pub function_behind : Foreknown → Declarator → List ℕ → CType → (signature : ℕ) → Option Line → Contents → Before → Judged Contents
function_behind k d name result signature body c b =
    let s = function_scope k name signature b.meaning b.builtin c.scope in
    and_then (plain_values d.initial s) (λ x.
    unless_broken d.place (rule_of d signature body c b) (defined k name result (params_of d) body b.number (in_scope c s)))

-- by the result, the number of its type and the block that follows if it is defined
unfoldable pub function_judgement : Foreknown → Declarator → List ℕ → CType → (signature : ℕ) → Option Line → Contents → Judged Contents
function_judgement k d name result signature body c = function_behind k d name result signature body c (before_of k name c.scope)
