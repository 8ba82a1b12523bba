-- The parameters of functions that are defined agree.
use Rattle.std.proofs.Common.{◌≡◌, ℕ, refl, Bool, true, false, if◌then◌else◌, Option, Some, None, List, [], ◌∷◌}
use Rattle.mv_syntax.specs.declared.place.Place.{Place}
use Rattle.mv_syntax.specs.declared.unit.Param.{Param}
use Rattle.mv_check_scope.specs.declared.scope.Scope.{Scope}
use Rattle.mv_check_scope.specs.Conversions.{is_void}
use Rattle.mv_check_expressions.specs.Judged.{Good, Broken, first_broken, unless_broken}
use Rattle.mv_check_declarations.specs.declared.attributes.Position.TheVariants as position
use Rattle.mv_check_declarations.specs.declared.declarators.Entity.{Entity}
use Rattle.mv_check_declarations.specs.declared.declarators.Entity.TheVariants as entity
use Rattle.mv_check_declarations.specs.Parameters.{new_defined, parameter_judgement}
use Rattle.mv_check_rules.specs.Nodes as node
use Rattle.mv_check_rules.specs.Rules.{stands_here, concluded}
use Rattle.mv_check_rules.specs.Declarations.{defined_parameter, parameter}
use Rattle.mv_check_rules.proofs.Agreement.{over, attribution_of, declared_of, base_of_specified, ParametersAgree}
use Rattle.mv_check_rules.proofs.Parts.{then_from, in_order_same}
use Rattle.mv_check_rules.proofs.Attributes.{attributes_agree}
use Rattle.mv_check_rules.proofs.Bases.{specifiers_agree}
use Rattle.mv_check_rules.proofs.Shapes.{declared_agrees}

-- a parameter that breaks no rule, or the rule that it breaks
defined_concluded : (place : Place) (name : Option (List ℕ)) (e : Entity) (s : Scope) →
    concluded place s (node.Parameter true name (declared_of e)) (defined_parameter name (declared_of e) s) ≡ new_defined place name e s
unfolding new_defined
defined_concluded place None (entity.Scalar t fixed) s = by (is_void t)
  where
    by : (void : Bool) → unless_broken place (first_broken ((8, void) ∷ (22, true) ∷ [])) (defined_parameter None (node.Scalar t fixed) s) ≡
        (if void then Broken place 8 else Broken place 22)
    by true = refl
    by false = refl
defined_concluded place None (entity.Array t fixed size) s = refl
defined_concluded place None (entity.Function f) s = refl
defined_concluded place (Some name) (entity.Scalar t fixed) s = by (stands_here s name) (is_void t)
  where
    found : Scope
    found = defined_parameter (Some name) (node.Scalar t fixed) s

    by : (taken void : Bool) → unless_broken place (first_broken ((2, taken) ∷ (8, void) ∷ [])) found ≡
        (if taken then Broken place 2 else if void then Broken place 8 else Good found)
    by true void = refl
    by false true = refl
    by false false = refl
defined_concluded place (Some name) (entity.Array t fixed size) s = by (stands_here s name)
  where
    by : (taken : Bool) → unless_broken place (first_broken ((2, taken) ∷ (22, true) ∷ [])) (defined_parameter (Some name) (node.Array t fixed size) s) ≡
        (if taken then Broken place 2 else Broken place 22)
    by true = refl
    by false = refl
defined_concluded place (Some name) (entity.Function f) s = by (stands_here s name)
  where
    by : (taken : Bool) → unless_broken place (first_broken ((2, taken) ∷ (22, true) ∷ [])) (defined_parameter (Some name) (node.Function f) s) ≡
        (if taken then Broken place 2 else Broken place 22)
    by true = refl
    by false = refl

parameter_agrees : (p : Param) (s : Scope) → parameter p s ≡ parameter_judgement p s
parameter_agrees p s =
    then_from (over base_of_specified) _ _
    (λ b. then_from (over declared_of) _ _
    (λ e. then_from attribution_of _ _ (λ a. defined_concluded p.name.place p.name.name e.1 e.0) _ _
    (attributes_agree (node.Parameter ∷ []) None e.0 p.name.marks b.1.attribute))
    _ _ (declared_agrees p.name.shape b.1.ctype b.1.fixed b.0))
    _ _ (specifiers_agree position.Parameter (node.Parameter ∷ []) [] p.specs s refl)

pub parameters_agree : ParametersAgree
parameters_agree s ps = in_order_same parameter parameter_judgement parameter_agrees ps s
