-- Declarators of functions agree.
use Rattle.std.proofs.Common.{◌≡◌, ℕ, refl, sym, ◌∙◌, ap, Bool, true, false, ◌&&◌, ◌||◌, not, is_some, if◌then◌else◌, Option, Some, None, List, [], ◌∷◌, slice_get}
use Rattle.mv_syntax.specs.declared.place.Place.{Place}
use Rattle.mv_ast.specs.declared.program.CType.{CType}
use Rattle.mv_ast.specs.declared.program.CType.TheVariants.{Void}
use Rattle.mv_ast.specs.declared.program.Function.{Function}
use Rattle.mv_ast.specs.declared.program.Known.{Known}
use Rattle.mv_ast.specs.declared.program.Signature.{Signature}
use Rattle.mv_syntax.specs.declared.unit.Declarator.{Declarator}
use Rattle.mv_syntax.specs.declared.unit.Initial.{Initial}
use Rattle.mv_syntax.specs.declared.unit.Initial.TheVariants as initial
use Rattle.mv_syntax.specs.declared.unit.Item.{Item}
use Rattle.mv_syntax.specs.declared.unit.Line.{Line}
use Rattle.mv_syntax.specs.declared.unit.Param.{Param}
use Rattle.mv_syntax.specs.declared.unit.Shape.{Shape-F, out-Shape}
use Rattle.mv_syntax.specs.declared.unit.Shape.TheOpen as shape
use Rattle.mv_check_scope.specs.declared.meaning.Meaning.{Meaning}
use Rattle.mv_check_scope.specs.declared.meaning.Meaning.TheVariants as meaning
use Rattle.mv_check_scope.specs.declared.scope.Scope.{Scope}
use Rattle.mv_check_scope.specs.Known.{known_function}
use Rattle.mv_check_scope.specs.Scoped.{declared}
use Rattle.mv_check_expressions.specs.Judged.{Judged, Good, Broken, and_then, unless_broken, first_broken}
use Rattle.mv_check_expressions.specs.Judgements.{value_judgement}
use Rattle.mv_check_declarations.specs.Initials.{plain_values}
use Rattle.mv_check_declarations.specs.Parameters.{parameters_judgement}
use Rattle.mv_types.specs.declared.contents.Contents.{Contents}
use Rattle.mv_types.specs.Contents.{in_scope}
use Rattle.mv_types.specs.Foreknown.{foreknown}
use Rattle.mv_types.specs.Functions as code
use Rattle.mv_types.specs.Functions.{may_declare, broken_rule, function_scope, function_meaning, definition_parameters, function_judgement}
use Rattle.mv_check_rules.specs.Nodes.{Given, Nothing, Value, Values, Characters}
use Rattle.mv_check_rules.specs.Nodes as node
use Rattle.mv_check_rules.specs.Rules.{is_prototype, allows_function, is_given, meaning_here, concluded}
use Rattle.mv_check_rules.specs.Declarations.{given}
use Rattle.mv_check_rules.specs.Units.{Declarations, behind, function_number, is_attributed, is_defined, is_defined_at, routine_named, params_of_form, params_of, function_entered, function_left, definition, defined_if, defined_parameters, routine}
use Rattle.mv_check_rules.proofs.Agreement.{mapped, ParametersAgree, BodyAgrees}
use Rattle.mv_check_rules.proofs.Parts.{IfGood, then_same, then_to}
use Rattle.mv_check_rules.proofs.Program.{contents_of}
use Rattle.mv_check_rules.proofs.Values.{IsOf, given_is, converted_of, initial_agrees}

-- ---- what is given

pub given_same : (values : Option Initial) (g : Given) → IsOf values g → is_some values ≡ is_given g
given_same None Nothing h = refl
given_same None (Value e) h = absurd h
given_same None (Values es) h = absurd h
given_same None (Characters bytes) h = absurd h
given_same (Some (initial.Value n)) Nothing h = absurd h
given_same (Some (initial.Values ns)) Nothing h = absurd h
given_same (Some (initial.Chars bytes)) Nothing h = absurd h
given_same (Some values) (Value e) h = refl
given_same (Some values) (Values es) h = refl
given_same (Some values) (Characters bytes) h = refl

-- ---- what a declaration may say

prototype_same : (k : Known) (t : Option Signature) → is_prototype k t ≡ code.is_prototype k t
prototype_same k None = refl
prototype_same k (Some t) = refl

allowed_same : (signatures : List Signature) (signature : ℕ) (block : Bool) (m : Option Meaning) (known : Option Known) →
    may_declare signatures signature block m known ≡ allows_function m known signatures signature block
allowed_same signatures signature block None None = refl
allowed_same signatures signature block None (Some k) = ap (λ b. not block && b) (sym (prototype_same k (slice_get signatures signature)))
allowed_same signatures signature block (Some (meaning.Function f)) known = refl
allowed_same signatures signature block (Some m) known = refl

defined_same : (functions : List (Option Function)) (number : Option ℕ) → code.is_defined_at functions number ≡ is_defined_at functions number
defined_same functions None = refl
defined_same functions (Some n) = by (slice_get functions n)
  where
    by : (f : Option (Option Function)) → code.is_defined f ≡ is_defined f
    by None = refl
    by (Some None) = refl
    by (Some (Some f)) = refl

rules_same : (place : Place) (s : Scope) (name : List ℕ) (signature : ℕ) (defined given block allowed : Bool) (c : Declarations) →
    allowed ≡ allows_function (meaning_here s name) (known_function name) s.signatures signature block →
    concluded place s (node.Routine name signature defined given block) c ≡ unless_broken place (broken_rule allowed (block && defined) given) c
unfolding broken_rule
rules_same place s name signature defined given block allowed c e =
    ap (λ a. unless_broken place (chain a) c) (sym e) ∙ by allowed (block && defined) given
  where
    chain : Bool → Option ℕ
    chain a = first_broken ((2, not a) ∷ (19, block && defined) ∷ (22, given) ∷ [])

    by : (a twice there : Bool) → unless_broken place (first_broken ((2, not a) ∷ (19, twice) ∷ (22, there) ∷ [])) c ≡
        unless_broken place (if not a then Some 2 else if twice then Some 19 else if there then Some 22 else None) c
    by false twice there = refl
    by true true there = refl
    by true false true = refl
    by true false false = refl

-- ---- what the name means

scope_same : (items : List Item) (name : List ℕ) (signature : ℕ) (s : Scope) (m : Option Meaning) (known : Option Known) →
    function_scope (foreknown items) name signature m known s ≡
    (if is_some m || is_some known then s else declared s name (function_meaning (foreknown items) name signature))
unfolding function_scope
scope_same items name signature s None None = refl
scope_same items name signature s None (Some k) = refl
scope_same items name signature s (Some m) known = refl

-- ---- parameters and bodies

params_same : {A B : Type 0} (x : Shape-F A B Param) → code.params_of_form x ≡ params_of_form x
params_same shape.Plain = refl
params_same (shape.Array size) = refl
params_same (shape.Function params) = refl
params_same (shape.Pointer fixed params) = refl
params_same (shape.PointerArray fixed size params) = refl

module _ (parameters_agree : ParametersAgree) where
  pub defined_parameters_agree : (d : Declarator) (b : Option Line) (s : Scope) → definition_parameters d b s ≡ defined_parameters d b s
  defined_parameters_agree d None s = refl
  defined_parameters_agree d (Some b) s =
      ap (λ ps. and_then (parameters_judgement (function_entered false s) ps) (λ p. Good (function_left p))) (params_same (out-Shape d.shape)) ∙
      ap (λ j. and_then j (λ p. Good (function_left p))) (sym (parameters_agree (function_entered false s) (params_of d)))

  module _ (body_agrees : BodyAgrees) where
    function_agrees : (items : List Item) (name : List ℕ) (result : CType) (params : List Param) (b : Line) (s : Scope) →
        code.function_of (foreknown items) name result params b s ≡ definition items name result params b s
    unfolding foreknown
    function_agrees items name result params b s =
        then_same _ _ (λ p. then_same _ _ (λ d. refl) _ _ (sym (body_agrees result b p))) _ _
        (sym (parameters_agree (function_entered (is_attributed items name) s) params))

    block_agrees : (items : List Item) (name : List ℕ) (result : CType) (params : List Param) (b : Option Line) (c : Declarations) →
        code.defined (foreknown items) name result params b (function_number items name) (contents_of c) ≡ mapped contents_of (defined_if items name result params b c)
    block_agrees items name result params None c = refl
    block_agrees items name result params (Some b) c =
        then_to contents_of _ _ (λ f. refl) _ _ (function_agrees items name result params b c.scope)

    -- ---- the whole declarator

    module _ (items : List Item) (d : Declarator) (name : List ℕ) (result : CType) (signature : ℕ) (b : Option Line) (c : Declarations) where
      abbrev allowed : Bool
      allowed = may_declare c.scope.signatures signature (is_some b) (meaning_here c.scope name) (known_function name)

      abbrev twice : Bool
      twice = is_some b && code.is_defined_at c.functions (function_number items name)

      abbrev named_scope : Scope
      named_scope = routine_named items name signature c.scope

      then_block : (o : Option ℕ) (s : Scope) → code.unless_broken d.place o (code.defined (foreknown items) name result (params_of d) b (function_number items name) (in_scope (contents_of c) s)) ≡
          mapped contents_of (and_then (unless_broken d.place o (behind s c)) (defined_if items name result (params_of d) b))
      then_block None s = block_agrees items name result (params_of d) b (behind s c)
      then_block (Some rule) s = refl

      abbrev ruled : Scope → Bool → Judged Contents
      ruled s given = code.unless_broken d.place (broken_rule allowed twice given) (code.defined (foreknown items) name result (params_of d) b (function_number items name) (in_scope (contents_of c) s))

      by_given : (s : Scope) (j : Judged Given) → IfGood (IsOf d.initial) j →
          and_then (mapped (converted_of Void) j) (λ x. ruled s (is_some d.initial)) ≡
          mapped contents_of (and_then j (λ g.
          and_then
          (concluded d.place c.scope (node.Routine name signature (is_defined_at c.functions (function_number items name)) (is_given g) (is_some b)) (behind s c))
          (defined_if items name result (params_of d) b)))
      by_given s (Broken place rule) h = refl
      by_given s (Good g) h =
          ap (ruled s) (given_same d.initial g h) ∙
          (ap (λ t. code.unless_broken d.place (broken_rule allowed (is_some b && t) (is_given g)) (code.defined (foreknown items) name result (params_of d) b (function_number items name) (in_scope (contents_of c) s)))
          (defined_same c.functions (function_number items name)) ∙
          (then_block (broken_rule allowed (is_some b && is_defined_at c.functions (function_number items name)) (is_given g)) s ∙
          ap (λ j. mapped contents_of (and_then j (defined_if items name result (params_of d) b)))
          (sym (rules_same d.place c.scope name signature (is_defined_at c.functions (function_number items name)) (is_given g) (is_some b) allowed (behind s c)
          (allowed_same c.scope.signatures signature (is_some b) (meaning_here c.scope name) (known_function name))))))

      pub routine_agrees : function_judgement (foreknown items) d name result signature b (contents_of c) ≡ mapped contents_of (routine items d name result signature b c)
      unfolding function_judgement foreknown
      routine_agrees =
          ap (λ s. and_then (plain_values d.initial s)
          (λ x. code.unless_broken d.place (code.rule_of d signature b (contents_of c) (code.before_of (foreknown items) name c.scope))
          (code.defined (foreknown items) name result (code.params_of d) b (function_number items name) (in_scope (contents_of c) s))))
          (scope_same items name signature c.scope (meaning_here c.scope name) (known_function name)) ∙
          (ap (λ ps. and_then (plain_values d.initial named_scope)
          (λ x. code.unless_broken d.place (code.rule_of d signature b (contents_of c) (code.before_of (foreknown items) name c.scope))
          (code.defined (foreknown items) name result ps b (function_number items name) (in_scope (contents_of c) named_scope))))
          (params_same (out-Shape d.shape)) ∙
          (ap (λ j. and_then j (λ x. ruled named_scope (is_some d.initial))) (initial_agrees Void d.initial named_scope) ∙
          by_given named_scope (given value_judgement d.initial named_scope) (given_is value_judgement d.initial named_scope)))
