-- The judgement on the functions of generated texts, besides `main`.
use Rattle.std.proofs.Common.{◌≡◌, ℕ, ◌<◌, Bool, true, false, List, [], ◌∷◌, ◌++◌, Option, Some, None, refl, ap, ◌∙◌}
use Rattle.std.specs.Prelude.{codes, slice_get, slice_set}
use Rattle.mv_ast.specs.declared.program.Function.{Function}
use Rattle.mv_ast.specs.declared.program.Signature.{Signature}
use Rattle.mv_ast.specs.declared.program.Stmt.TheVariants as stmt
use Rattle.mv_syntax.specs.declared.unit.Declarator.{fold_out-Declarator}
use Rattle.mv_syntax.specs.declared.unit.Mark.{out-roll-Mark}
use Rattle.mv_syntax.specs.declared.unit.Param.{fold_out-Param}
use Rattle.mv_syntax.specs.declared.unit.Shape.{fold_out-Shape}
use Rattle.mv_syntax.specs.declared.unit.Shape.TheVariants as shape
use Rattle.mv_syntax.specs.declared.unit.Specs.{out-roll-Specs}
use Rattle.mv_check_scope.specs.declared.meaning.Meaning.TheVariants as meaning
use Rattle.mv_check_scope.specs.declared.scope.Scope.{Scope}
use Rattle.mv_check_scope.specs.Conversions.{int}
use Rattle.mv_check_scope.specs.Names.{Names}
use Rattle.mv_check_scope.specs.Scoped.{declared, block_entered}
use Rattle.mv_check_scope.specs.Spaces.{named}
use Rattle.mv_check_expressions.specs.Judged.{Good}
use Rattle.mv_check_expressions.specs.TypeNames.{named_kind}
use Rattle.mv_check_outline.specs.Names.{is_among, place_of}
use Rattle.mv_check_declarations.specs.declared.attributes.Attribute.{Attribute}
use Rattle.mv_check_declarations.specs.declared.attributes.Position.TheVariants as position
use Rattle.mv_check_declarations.specs.declared.declarators.Entity.TheVariants as entity
use Rattle.mv_check_declarations.specs.declared.specifiers.Specified.{Specified}
use Rattle.mv_check_declarations.specs.Attributes.{held, holder_of}
use Rattle.mv_check_declarations.specs.Declarators.{designated, parameter, new_parameter, Shapes, Declarators, Params, shape_step, declarator_step, param_step}
use Rattle.mv_check_declarations.specs.Globals.{file_declarator}
use Rattle.mv_check_declarations.specs.Objects.{scalar}
use Rattle.mv_check_declarations.specs.Parameters.{parameters_judgement, new_defined}
use Rattle.mv_check_declarations.specs.Specifiers.{specifiers, type_by_rules}
use Rattle.mv_types.specs.declared.contents.Contents.{Contents}
use Rattle.mv_types.specs.declared.contents.Foreknown.{Foreknown}
use Rattle.mv_types.specs.declared.contents.Object.{Object}
use Rattle.mv_types.specs.Functions.{function_judgement, function_scope, broken_rule, definition_parameters, body_entered, params_of}
use Rattle.mv_gen_programs.proofs.Lines.{function_name}
use Rattle.mv_gen_programs.proofs.Trees.{Places, marked_specs, argument, definition_declarator, definition_body}
use Rattle.mv_gen_programs.proofs.Bodies.{switch_meanings, local_variable, form_expression, body_value}
use Rattle.mv_gen_programs.proofs.MainBody.{int_specified, plain_designated, function_signature, routine}

-- ---- specifiers

abbrev pub plainly : Attribute
plainly = record { values = None }

-- `__attribute__((multiverse)) int`, before a function
pub marked_specified : (p : Places) (i : ℕ) (s : Scope) →
    specifiers position.File (definition_declarator p i ∷ []) (marked_specs p) s ≡ Good (s, record { ctype = int; fixed = false; enumeration = None; attribute = Some plainly })
unfolding type_by_rules named_kind held
marked_specified p i s = simp (out-roll-Specs, out-roll-Mark, shape.outs-Function, holder_of)

-- ---- parameters

pub parameters_given : (p : Places) (s : Scope) → s.names.here ≡ [] → s.locals ≡ [] →
    parameters_judgement s (argument p ∷ []) ≡ Good (record s { names = record s.names { here = (codes "a", meaning.Object local_variable) ∷ [] }; locals = scalar int ∷ [] })
unfolding new_defined
parameters_given p s h l = rw (int_specified position.Parameter [] (p 9) s, plain_designated int false s) (rw (h, l) refl)

parameter_is : (p : Places) (s : Scope) → s.names.here ≡ [] →
    parameter (argument p) s ≡ Good (declared s (codes "a") (meaning.Object local_variable), int)
unfolding new_parameter
parameter_is p s h =
    ap (λ (f : Params). f s) (fold_out-Param Shapes Declarators Params shape_step declarator_step param_step (argument p))
    ∙ (rw (int_specified position.Parameter [] (p 9) s)
    (ap (λ (f : Declarators). f (record { ctype = int; fixed = false; enumeration = None; attribute = None }) s)
    (fold_out-Declarator Shapes Declarators Params shape_step declarator_step param_step (argument p).name)
    ∙ rw (plain_designated int false s, h) refl))

-- ---- a function's declarator

-- the type of a function of one `int`, in a scope that has it or no type yet
abbrev pub signatures_at : Bool → List Signature
signatures_at true = []
signatures_at false = function_signature ∷ []

abbrev pub file_scope : Names → List Signature → Scope
file_scope names signatures = record {
  names = record { here = names; around = [] };
  tags = record { here = []; around = [] };
  enumerations = [];
  signatures = signatures;
  locals = [];
  attributed = false;
}

function_designated : (p : Places) (names : Names) (new : Bool) →
    designated (shape.Function (argument p ∷ [])) int false (file_scope names (signatures_at new)) ≡ Good (file_scope names (function_signature ∷ []), entity.Function 0)
function_designated p names true =
    ap (λ (f : Shapes). f int false (file_scope names [])) (fold_out-Shape Shapes Declarators Params shape_step declarator_step param_step (shape.Function (argument p ∷ [])))
    ∙ rw shape.outs-Function (rw (parameter_is p (block_entered (file_scope names [])) refl) refl)
function_designated p names false =
    ap (λ (f : Shapes). f int false (file_scope names (function_signature ∷ []))) (fold_out-Shape Shapes Declarators Params shape_step declarator_step param_step (shape.Function (argument p ∷ [])))
    ∙ rw shape.outs-Function (rw (parameter_is p (block_entered (file_scope names (function_signature ∷ []))) refl) refl)

abbrev pub marked_int : Specified
marked_int = record { ctype = int; fixed = false; enumeration = None; attribute = Some plainly }

pub function_declarator : (p : Places) (i : ℕ) (names : Names) (new : Bool) →
    file_declarator marked_int (definition_declarator p i) (file_scope names (signatures_at new)) ≡ Good (file_scope names (function_signature ∷ []), record { entity = entity.Function 0; attribute = Some plainly })
function_declarator p i names new = rw (function_designated p names new) refl

pub parameters_first : (p : Places) (i f j c : ℕ) (names : Names) (new : Bool) →
    definition_parameters (definition_declarator p i) (Some (definition_body p f j c)) (file_scope names (signatures_at new)) ≡ Good (file_scope names (signatures_at new))
parameters_first p i f j c names new =
    let s = body_entered false (file_scope names (signatures_at new)) in
    rw (shape.outs-Function, params_of) (rw (parameters_given p s refl refl) refl)

-- ---- a function

-- what a function is, before its switches are found
abbrev pub plain_function : (i form switch constant : ℕ) → Function
plain_function i f j c = record {
  name = function_name i;
  attributed = true;
  result = int;
  params = 1;
  locals = scalar int ∷ [];
  switches = [];
  body = stmt.Return (Some (form_expression f j c)) ∷ [];
}

-- what is known of a function's name beforehand
pub record IsForeknown (k : Foreknown) (i : ℕ) : Type 0 where
  pub number : place_of (function_name i) k.outline.functions ≡ Some i
  pub marked : is_among (function_name i) k.attributed ≡ true
  pub among_marked : place_of (function_name i) k.outline.attributed ≡ Some i
  pub changing : is_among (function_name i) k.constants ≡ false

abbrev pub contents_at : Names → List Signature → List Object → List (Option Function) → Contents
contents_at names signatures objects functions = record { scope = file_scope (switch_meanings ++ names) signatures; objects = objects; functions = functions }

pub function_judged : (k : Foreknown) (p : Places) (i f j c : ℕ) (names : Names) (objects : List Object) (functions : List (Option Function)) → j < 4 → IsForeknown k i →
    named (function_name i) names ≡ None → slice_get functions i ≡ Some None →
    function_judgement k (definition_declarator p i) (function_name i) int 0 (Some (definition_body p f j c)) (contents_at names (function_signature ∷ []) objects functions)
    ≡ Good (contents_at (names ++ (function_name i, meaning.Function (routine i)) ∷ []) (function_signature ∷ []) objects (slice_set functions i (Some (plain_function i f j c))))
unfolding function_judgement broken_rule function_scope
function_judged k p i f j c names objects functions h known new empty =
    let more = names ++ (function_name i, meaning.Function (routine i)) ∷ [] in
    let s = file_scope (switch_meanings ++ more) (function_signature ∷ []) in
    rw (new, known.number)
    (rw (empty, known.marked, known.among_marked)
    (rw (shape.outs-Function, params_of)
    (rw (parameters_given p (body_entered true s) refl refl) (rw (body_value more (function_signature ∷ []) p j c h f) refl))))
