-- A declarator designates a function where its form is that of one.
use Rattle.std.proofs.Common.{◌≡◌, ℕ, refl, sym, ◌∙◌, ap, subst, Bool, true, false, true≢false, not, ◌&&◌}
use Rattle.mv_ast.specs.declared.program.CType.{CType}
use Rattle.mv_ast.specs.declared.program.CType.TheVariants.{Pointer}
use Rattle.mv_syntax.specs.declared.unit.Declarator.{Declarator}
use Rattle.mv_syntax.specs.declared.unit.Param.{Param}
use Rattle.mv_syntax.specs.declared.unit.Shape.{Shape, Shape-F, out-Shape, map-Shape, fold-roll-Shape}
use Rattle.mv_syntax.specs.declared.unit.Shape.TheOpen as shape
use Rattle.mv_syntax.specs.declared.unit.Shape.TheViews.{roll-out-Shape}
use Rattle.mv_check_scope.specs.declared.scope.Scope.{Scope}
use Rattle.mv_check_outline.specs.Outlined.{is_function, is_function_form, is_pointer_form, declares_pointer}
use Rattle.mv_check_declarations.specs.declared.declarators.Entity.{Entity}
use Rattle.mv_check_declarations.specs.declared.declarators.Entity.TheVariants as entity
use Rattle.mv_check_declarations.specs.declared.attributes.Position.TheVariants as position
use Rattle.mv_check_declarations.specs.declared.specifiers.Specified.{Specified}
use Rattle.mv_check_declarations.specs.Attributes.{attributes, holder_of}
use Rattle.mv_check_declarations.specs.Globals.{file_declarator}
use Rattle.mv_check_declarations.specs.Specifiers.{scalar_kind}
use Rattle.mv_check_declarations.specs.Declarators.{function_type, Shapes, Declarators, Params, size_of, shape_step, declarator_step, param_step, designated, parameter, parameter_declarator}
use Rattle.mv_accepts.proofs.OfStatements.Judging.{IfGood, if_any, if_then}

abbrev pub is_function_entity : Entity → Bool
is_function_entity (entity.Function s) = true
is_function_entity _ = false

abbrev IsAlike : Bool → Shapes → Type 0
IsAlike b x = (t : CType) (fixed : Bool) (s : Scope) → IfGood (x t fixed s) (λ e. is_function_entity e.1 ≡ b)

step_alike : (x : Shape-F Shapes Declarators Params) → IsAlike (is_function_form x) (shape_step x)
step_alike shape.Plain t fixed s = refl
step_alike (shape.Array size) t fixed s =
    if_then (λ n. Unit {0}) (λ e. is_function_entity e.1 ≡ false) (size_of s size) _ (if_any (size_of s size)) (λ n u. refl)
step_alike (shape.Function params) t fixed s =
    if_then (λ d. Unit {0}) (λ e. is_function_entity e.1 ≡ true) (function_type t params s) _ (if_any (function_type t params s)) (λ d u. refl)
step_alike (shape.Pointer constant params) t fixed s =
    if_then (λ d. Unit {0}) (λ e. is_function_entity e.1 ≡ false) (function_type t params s) _ (if_any (function_type t params s)) (λ d u. refl)
step_alike (shape.PointerArray constant size params) t fixed s =
    if_then (λ n. Unit {0}) (λ e. is_function_entity e.1 ≡ false) (size_of s size) _ (if_any (size_of s size)) (λ n u.
    if_then (λ d. Unit {0}) (λ e. is_function_entity e.1 ≡ false) (function_type t params s) _ (if_any (function_type t params s)) (λ d z. refl))

form_kept : (y : Shape-F Shape Declarator Param) →
    is_function_form (map-Shape Shape Declarator Param Shapes Declarators Params designated parameter_declarator parameter y) ≡ is_function_form y
form_kept shape.Plain = refl
form_kept (shape.Array size) = refl
form_kept (shape.Function params) = refl
form_kept (shape.Pointer constant params) = refl
form_kept (shape.PointerArray constant size params) = refl

shape_alike : (x : Shape) → IsAlike (is_function_form (out-Shape x)) (designated x)
shape_alike x =
    let y : Shape-F Shapes Declarators Params = map-Shape Shape Declarator Param Shapes Declarators Params designated parameter_declarator parameter (out-Shape x) in
    subst (λ b. IsAlike b (designated x)) (form_kept (out-Shape x))
    (subst (IsAlike (is_function_form y)) (sym (fold-roll-Shape Shapes Declarators Params shape_step declarator_step param_step (out-Shape x)) ∙ ap designated (roll-out-Shape x))
    (step_alike y))

pub file_alike : (b : Specified) (d : Declarator) (s : Scope) → IfGood (file_declarator b d s) (λ e. is_function_entity e.1.entity ≡ is_function d)
file_alike b d s =
    if_then (λ e. is_function_entity e.1 ≡ is_function d) (λ e. is_function_entity e.1.entity ≡ is_function d) (designated d.shape b.ctype b.fixed s) _ (shape_alike d.shape b.ctype b.fixed s) (λ e q.
    let given = attributes (holder_of position.File b.fixed d) (scalar_kind b.ctype) e.0 d.marks b.attribute in
    if_then (λ a. Unit {0}) (λ x. is_function_entity x.1.entity ≡ is_function d) given _ (if_any given) (λ a u. q))

-- ---- a pointer to a function

abbrev pub IsPointerEntity : Entity → Type 0
IsPointerEntity (entity.Scalar t fixed) = (signature : ℕ) × (t ≡ Pointer signature)
IsPointerEntity _ = ⊥

abbrev IsPointed : Bool → Shapes → Type 0
IsPointed b x = (t : CType) (fixed : Bool) (s : Scope) → IfGood (x t fixed s) (λ e. b ≡ true → IsPointerEntity e.1)

step_pointed : (x : Shape-F Shapes Declarators Params) → IsPointed (is_pointer_form x) (shape_step x)
step_pointed shape.Plain t fixed s = λ q. absurd (true≢false (sym q))
step_pointed (shape.Array size) t fixed s =
    if_then (λ n. Unit {0}) (λ e. false ≡ true → IsPointerEntity e.1) (size_of s size) _ (if_any (size_of s size)) (λ n u q. absurd (true≢false (sym q)))
step_pointed (shape.Function params) t fixed s =
    if_then (λ d. Unit {0}) (λ e. false ≡ true → IsPointerEntity e.1) (function_type t params s) _ (if_any (function_type t params s)) (λ d u q. absurd (true≢false (sym q)))
step_pointed (shape.Pointer constant params) t fixed s =
    if_then (λ d. Unit {0}) (λ e. true ≡ true → IsPointerEntity e.1) (function_type t params s) _ (if_any (function_type t params s)) (λ d u q. (d.1, refl))
step_pointed (shape.PointerArray constant size params) t fixed s =
    if_then (λ n. Unit {0}) (λ e. false ≡ true → IsPointerEntity e.1) (size_of s size) _ (if_any (size_of s size)) (λ n u.
    if_then (λ d. Unit {0}) (λ e. false ≡ true → IsPointerEntity e.1) (function_type t params s) _ (if_any (function_type t params s)) (λ d z q. absurd (true≢false (sym q))))

pointer_kept : (y : Shape-F Shape Declarator Param) →
    is_pointer_form (map-Shape Shape Declarator Param Shapes Declarators Params designated parameter_declarator parameter y) ≡ is_pointer_form y
pointer_kept shape.Plain = refl
pointer_kept (shape.Array size) = refl
pointer_kept (shape.Function params) = refl
pointer_kept (shape.Pointer constant params) = refl
pointer_kept (shape.PointerArray constant size params) = refl

shape_pointed : (x : Shape) → IsPointed (is_pointer_form (out-Shape x)) (designated x)
shape_pointed x =
    let y : Shape-F Shapes Declarators Params = map-Shape Shape Declarator Param Shapes Declarators Params designated parameter_declarator parameter (out-Shape x) in
    subst (λ b. IsPointed b (designated x)) (pointer_kept (out-Shape x))
    (subst (IsPointed (is_pointer_form y)) (sym (fold-roll-Shape Shapes Declarators Params shape_step declarator_step param_step (out-Shape x)) ∙ ap designated (roll-out-Shape x))
    (step_pointed y))

pub file_pointed : (b : Specified) (d : Declarator) (s : Scope) → IfGood (file_declarator b d s) (λ e. declares_pointer d ≡ true → IsPointerEntity e.1.entity)
file_pointed b d s =
    if_then (λ e. declares_pointer d ≡ true → IsPointerEntity e.1) (λ e. declares_pointer d ≡ true → IsPointerEntity e.1.entity) (designated d.shape b.ctype b.fixed s) _
    (shape_pointed d.shape b.ctype b.fixed s) (λ e q.
    let given = attributes (holder_of position.File b.fixed d) (scalar_kind b.ctype) e.0 d.marks b.attribute in
    if_then (λ a. Unit {0}) (λ x. declares_pointer d ≡ true → IsPointerEntity x.1.entity) given _ (if_any given) (λ a u. q))

-- no function is one
pub no_function : (d : Declarator) → (not (is_function d) && declares_pointer d) ≡ declares_pointer d
no_function d = by (out-Shape d.shape)
  where
    by : {A B C : Type 0} (x : Shape-F A B C) → (not (is_function_form x) && is_pointer_form x) ≡ is_pointer_form x
    by shape.Plain = refl
    by (shape.Array size) = refl
    by (shape.Function params) = refl
    by (shape.Pointer constant params) = refl
    by (shape.PointerArray constant size params) = refl
