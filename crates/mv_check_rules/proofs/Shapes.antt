-- What declarators declare agrees, by induction over them.
use Rattle.std.proofs.Common.{◌≡◌, ℕ, refl, sym, ◌∙◌, ap, subst, Bool, true, false, if◌then◌else◌, Option, Some, None, List, [], ◌∷◌, ◌++◌, map}
use Rattle.mv_syntax.specs.declared.place.Place.{Place}
use Rattle.mv_ast.specs.declared.program.CType.{CType}
use Rattle.mv_syntax.specs.declared.unit.Declarator.{Declarator, Declarator-F, roll-Declarator, map-Declarator, fold-Declarator, fold-roll-Declarator}
use Rattle.mv_syntax.specs.declared.unit.Node.{Node}
use Rattle.mv_syntax.specs.declared.unit.Param.{Param, Param-F, roll-Param, map-Param, fold-Param, fold-roll-Param}
use Rattle.mv_syntax.specs.declared.unit.Shape.{Shape, Shape-F, roll-Shape, map-Shape, ind-Shape, fold-roll-Shape}
use Rattle.mv_syntax.specs.declared.unit.Shape.TheOpen as shape
use Rattle.mv_check_scope.specs.declared.scope.Scope.{Scope}
use Rattle.mv_check_scope.specs.Conversions.{is_void}
use Rattle.mv_check_scope.specs.Scoped.{block_entered, block_left}
use Rattle.mv_check_expressions.specs.Judged.{Judged, Good, Broken, and_then, first_broken, unless_broken}
use Rattle.mv_check_declarations.specs.declared.attributes.Position.TheVariants as position
use Rattle.mv_check_declarations.specs.declared.declarators.Entity.{Entity}
use Rattle.mv_check_declarations.specs.declared.declarators.Entity.TheVariants as entity
use Rattle.mv_check_declarations.specs.declared.specifiers.Specified.{Specified}
use Rattle.mv_check_declarations.specs.Declarators.{new_parameter, size_of}
use Rattle.mv_check_declarations.specs.Declarators as code
use Rattle.mv_check_declarations.specs.Turns.{Behind, next_part, in_turn}
use Rattle.mv_check_rules.specs.Nodes as node
use Rattle.mv_check_rules.specs.Rules.{stands_here, concluded}
use Rattle.mv_check_rules.specs.Declarations.{Found, in_order, found_next, Shapes, Declarators, Params, written_size, parameter_types, function_type, shape_step, type_or_void, parameter_declared, declarator_step, param_step, declared_as}
use Rattle.mv_check_rules.proofs.Agreement.{mapped, over, attribution_of, declared_of, base_of_specified, DeclaredAgrees}
use Rattle.mv_check_rules.proofs.Parts.{then_same, then_to, then_from}
use Rattle.mv_check_rules.proofs.Attributes.{constant_agrees, attributes_agree}
use Rattle.mv_check_rules.proofs.Bases.{specifiers_agree}

-- ---- what agrees of each part

abbrev ShapesAgree : Shapes → code.Shapes → Type 0
ShapesAgree x y = (t : CType) (fixed : Bool) (s : Scope) → x t fixed s ≡ mapped (over declared_of) (y t fixed s)

abbrev DeclaratorsAgree : Declarators → code.Declarators → Type 0
DeclaratorsAgree x y = (base : Specified) (s : Scope) → x (base_of_specified base) s ≡ y base s

abbrev ParamsAgree : Params → code.Params → Type 0
ParamsAgree x y = (s : Scope) → x s ≡ y s

abbrev pub declarator_found : Declarator → Declarators
declarator_found = fold-Declarator Shapes Declarators Params shape_step declarator_step param_step

abbrev pub param_found : Param → Params
param_found = fold-Param Shapes Declarators Params shape_step declarator_step param_step

-- ---- steps

size_agrees : (s : Scope) (size : Option Node) → written_size s size ≡ size_of s size
size_agrees s None = refl
size_agrees s (Some n) = then_same _ _ (λ c. refl) _ _ (constant_agrees s n)

-- a parameter that breaks no rule, or the rule that it breaks
parameter_concluded : (place : Place) (name : Option (List ℕ)) (e : Entity) (s : Scope) →
    concluded place s (node.Parameter false name (declared_of e)) (parameter_declared name (declared_of e) s, type_or_void (declared_of e)) ≡ new_parameter place name e s
unfolding new_parameter
parameter_concluded place None (entity.Scalar t fixed) s = by (is_void t)
  where
    found : Scope × CType
    found = (s, t)

    by : (b : Bool) → unless_broken place (first_broken ((8, b) ∷ [])) found ≡ (if b then Broken place 8 else Good found)
    by true = refl
    by false = refl
parameter_concluded place None (entity.Array t fixed size) s = refl
parameter_concluded place None (entity.Function f) s = refl
parameter_concluded place (Some name) (entity.Scalar t fixed) s = by (stands_here s name) (is_void t)
  where
    found : Scope × CType
    found = (parameter_declared (Some name) (node.Scalar t fixed) s, t)

    by : (taken void : Bool) → unless_broken place (first_broken ((2, taken) ∷ (8, void) ∷ [])) found ≡
        (if taken then Broken place 2 else if void then Broken place 8 else Good found)
    by true void = refl
    by false true = refl
    by false false = refl
parameter_concluded place (Some name) (entity.Array t fixed size) s = by (stands_here s name)
  where
    found : Scope × CType
    found = (parameter_declared (Some name) (node.Array t fixed size) s, t)

    by : (taken : Bool) → unless_broken place (first_broken ((2, taken) ∷ (22, true) ∷ [])) found ≡
        (if taken then Broken place 2 else Broken place 22)
    by true = refl
    by false = refl
parameter_concluded place (Some name) (entity.Function f) s = by (stands_here s name)
  where
    found : Scope × CType
    found = (parameter_declared (Some name) (node.Function f) s, type_or_void (node.Function f))

    by : (taken : Bool) → unless_broken place (first_broken ((2, taken) ∷ (22, true) ∷ [])) found ≡
        (if taken then Broken place 2 else Broken place 22)
    by true = refl
    by false = refl

-- ---- by induction

abbrev ShapeIs : Shape → Type 0
ShapeIs x = ShapesAgree (declared_as x) (code.designated x)

abbrev DeclaratorIs : Declarator → Type 0
DeclaratorIs x = DeclaratorsAgree (declarator_found x) (code.parameter_declarator x)

abbrev ParamIs : Param → Type 0
ParamIs x = ParamsAgree (param_found x) (code.parameter x)

abbrev S : Type 0
S = (x : Shape) × ShapeIs x

abbrev D : Type 0
D = (x : Declarator) × DeclaratorIs x

abbrev P : Type 0
P = (x : Param) × ParamIs x

abbrev shape_of : Shape-F S D P → Shape-F Shape Declarator Param
shape_of = map-Shape S D P Shape Declarator Param (λ a. a.0) (λ a. a.0) (λ a. a.0)

abbrev declarator_of : Declarator-F S D P → Declarator-F Shape Declarator Param
declarator_of = map-Declarator S D P Shape Declarator Param (λ a. a.0) (λ a. a.0) (λ a. a.0)

abbrev param_of : Param-F S D P → Param-F Shape Declarator Param
param_of = map-Param S D P Shape Declarator Param (λ a. a.0) (λ a. a.0) (λ a. a.0)

types_in_order : (ps : List P) (d : Scope × List CType) →
    in_order (found_next (λ p. p)) (map param_found (map (λ (p : P). p.0) ps)) d ≡ in_turn (map code.parameter (map (λ (p : P). p.0) ps)) d
types_in_order [] d = refl
types_in_order (p ∷ ps) d =
    then_same _ _ (types_in_order ps) (found_next (λ p. p) (param_found p.0) d) (next_part (code.parameter p.0) d)
    (ap (λ (j : Found CType). and_then j (λ e. Good (e.0, d.1 ++ e.1 ∷ []))) (p.1 d.0))

-- the scope behind parameters and their function's type, however it is told further
type_then : {B C : Type 0} (g : B → C) (t : CType) (ps : List P) (s : Scope) (next : Scope × ℕ → Judged C) (rest : Scope × ℕ → Judged B) →
    ((f : Scope × ℕ) → next f ≡ mapped g (rest f)) →
    and_then (parameter_types (map param_found (map (λ (p : P). p.0) ps)) s) (λ d. next (function_type t d)) ≡
    mapped g (and_then (code.function_type t (map code.parameter (map (λ (p : P). p.0) ps)) s) rest)
type_then g t ps s next rest h =
    then_to g _ (λ d. rest (function_type t d)) (λ d. h (function_type t d)) _ (in_turn (map code.parameter (map (λ (p : P). p.0) ps)) (block_entered s, []))
    (types_in_order ps (block_entered s, [])) ∙
    ap (mapped g) (sym (again (in_turn (map code.parameter (map (λ (p : P). p.0) ps)) (block_entered s, []))))
  where
    again : (j : Behind (List CType)) → and_then (and_then j (λ d. Good (code.numbered t d.1 (block_left d.0)))) rest ≡ and_then j (λ d. rest (function_type t d))
    again (Good d) = refl
    again (Broken place rule) = refl

shapes_agree : (z : Shape-F S D P) →
    ShapesAgree (shape_step (map-Shape Shape Declarator Param Shapes Declarators Params declared_as declarator_found param_found (shape_of z)))
    (code.shape_step (map-Shape Shape Declarator Param code.Shapes code.Declarators code.Params code.designated code.parameter_declarator code.parameter (shape_of z)))
shapes_agree shape.Plain t fixed s = refl
shapes_agree (shape.Array size) t fixed s = then_to (over declared_of) _ _ (λ n. refl) _ _ (size_agrees s size)
shapes_agree (shape.Function params) t fixed s = type_then (over declared_of) t params s _ _ (λ f. refl)
shapes_agree (shape.Pointer constant params) t fixed s = type_then (over declared_of) t params s _ _ (λ f. refl)
shapes_agree (shape.PointerArray constant size params) t fixed s =
    then_to (over declared_of) _ _ (λ n. type_then (over declared_of) t params s _ _ (λ f. refl)) _ _ (size_agrees s size)

declarators_agree : (z : Declarator-F S D P) →
    DeclaratorsAgree (declarator_step (map-Declarator Shape Declarator Param Shapes Declarators Params declared_as declarator_found param_found (declarator_of z)))
    (code.declarator_step (map-Declarator Shape Declarator Param code.Shapes code.Declarators code.Params code.designated code.parameter_declarator code.parameter (declarator_of z)))
declarators_agree z base s =
    then_from (over declared_of) _ _
    (λ e. then_from attribution_of _ _ (λ a. parameter_concluded z.place z.name e.1 e.0) _ _ (attributes_agree (node.Parameter ∷ []) None e.0 z.marks base.attribute))
    _ _ (z.shape.1 base.ctype base.fixed s)

params_agree : (z : Param-F S D P) →
    ParamsAgree (param_step (map-Param Shape Declarator Param Shapes Declarators Params declared_as declarator_found param_found (param_of z)))
    (code.param_step (map-Param Shape Declarator Param code.Shapes code.Declarators code.Params code.designated code.parameter_declarator code.parameter (param_of z)))
params_agree z s =
    then_from (over base_of_specified) _ _ (λ d. z.name.1 d.1 d.0) _ _ (specifiers_agree position.Parameter (node.Parameter ∷ []) [] z.specs s refl)

shape_is : (y : Shape-F S D P) → ShapeIs (roll-Shape (shape_of y))
shape_is y =
    subst (λ x. ShapesAgree x (code.designated (roll-Shape (shape_of y)))) (sym (fold-roll-Shape Shapes Declarators Params shape_step declarator_step param_step (shape_of y)))
    (subst (ShapesAgree _) (sym (fold-roll-Shape code.Shapes code.Declarators code.Params code.shape_step code.declarator_step code.param_step (shape_of y))) (shapes_agree y))

declarator_is : (y : Declarator-F S D P) → DeclaratorIs (roll-Declarator (declarator_of y))
declarator_is y =
    subst (λ x. DeclaratorsAgree x (code.parameter_declarator (roll-Declarator (declarator_of y))))
    (sym (fold-roll-Declarator Shapes Declarators Params shape_step declarator_step param_step (declarator_of y)))
    (subst (DeclaratorsAgree (declarator_step
    (map-Declarator Shape Declarator Param Shapes Declarators Params declared_as declarator_found param_found (declarator_of y))))
    (sym (fold-roll-Declarator code.Shapes code.Declarators code.Params code.shape_step code.declarator_step code.param_step (declarator_of y)))
    (declarators_agree y))

param_is : (y : Param-F S D P) → ParamIs (roll-Param (param_of y))
param_is y =
    subst (λ x. ParamsAgree x (code.parameter (roll-Param (param_of y)))) (sym (fold-roll-Param Shapes Declarators Params shape_step declarator_step param_step (param_of y)))
    (subst (ParamsAgree _) (sym (fold-roll-Param code.Shapes code.Declarators code.Params code.shape_step code.declarator_step code.param_step (param_of y))) (params_agree y))

pub declared_agrees : DeclaredAgrees
declared_agrees x =
    ind-Shape ShapeIs DeclaratorIs ParamIs (λ x y q. subst (λ z. ShapeIs (roll-Shape z)) q (shape_is y))
    (λ x y q. subst (λ z. DeclaratorIs (roll-Declarator z)) q (declarator_is y)) (λ x y q. subst (λ z. ParamIs (roll-Param z)) q (param_is y)) x
