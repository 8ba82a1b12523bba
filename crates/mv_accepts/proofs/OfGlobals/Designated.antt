-- What a declarator at file scope designates where it has an attribute: a scalar of the type of the specifiers, or a function.
use Rattle.std.proofs.Common.{◌≡◌, refl, sym, subst, Bool, true, false, true≢false}
use Rattle.mv_ast.specs.declared.program.CType.{CType}
use Rattle.mv_syntax.specs.declared.unit.Declarator.{Declarator}
use Rattle.mv_syntax.specs.declared.unit.Param.{Param}
use Rattle.mv_syntax.specs.declared.unit.Shape.{Shape, Shape-F, out-Shape, map-Shape, fold_out-Shape}
use Rattle.mv_syntax.specs.declared.unit.Shape.TheOpen as shape
use Rattle.mv_check_scope.specs.declared.scope.Scope.{Scope}
use Rattle.mv_check_declarations.specs.declared.attributes.Position.TheVariants as position
use Rattle.mv_check_declarations.specs.declared.declarators.Entity.{Entity}
use Rattle.mv_check_declarations.specs.declared.declarators.Entity.TheVariants as entity
use Rattle.mv_check_declarations.specs.declared.globals.Designated.{Designated}
use Rattle.mv_check_declarations.specs.declared.specifiers.Specified.{Specified}
use Rattle.mv_check_outline.specs.Outlined.{is_pointer_form, declares_pointer}
use Rattle.mv_check_declarations.specs.Attributes.{attributes, holder_of}
use Rattle.mv_check_declarations.specs.Declarators.{Shapes, Declarators, Params, function_type, shape_step, declarator_step, param_step, designated, parameter, parameter_declarator}
use Rattle.mv_check_declarations.specs.Globals.{file_declarator}
use Rattle.mv_check_declarations.specs.Specifiers.{scalar_kind}
use Rattle.mv_accepts.proofs.OfStatements.Judging.{IfGood, if_any, if_then}
use Rattle.mv_accepts.proofs.OfGlobals.Tests.{if_given}
use Rattle.mv_accepts.proofs.OfGlobals.Values.{IsOf}
use Rattle.mv_accepts.proofs.OfGlobals.Domains.{IsHeld, attributes_held, held_more}
use Rattle.mv_accepts.proofs.OfGlobals.Specified.{IsHolderShape, MayHold, file_holding, scalar_admits}

-- a scalar, which is of a type if it is no pointer, or a function
abbrev pub IsHolderOf : CType → (pointer : Bool) → Entity → Type 0
IsHolderOf t pointer (entity.Scalar u fixed) = pointer ≡ false → u ≡ t
IsHolderOf t pointer (entity.Array u fixed size) = ⊥
IsHolderOf t pointer (entity.Function f) = Unit {0}

layer_is : (x : Shape-F Shapes Declarators Params) (t : CType) (fixed : Bool) (s : Scope) → IsHolderShape x → IfGood (shape_step x t fixed s) (λ e. IsHolderOf t (is_pointer_form x) e.1)
layer_is shape.Plain t fixed s h = λ q. refl
layer_is (shape.Array size) t fixed s h = absurd h
layer_is (shape.Function params) t fixed s h =
    if_then (λ d. Unit {0}) (λ e. IsHolderOf t false e.1) (function_type t params s) _ (if_any (function_type t params s)) (λ d u. tt)
layer_is (shape.Pointer constant params) t fixed s h =
    if_then (λ d. Unit {0}) (λ e. IsHolderOf t true e.1) (function_type t params s) _ (if_any (function_type t params s)) (λ d u q. absurd (true≢false q))
layer_is (shape.PointerArray constant size params) t fixed s h = absurd h

abbrev layer_of : Shape-F Shape Declarator Param → Shape-F Shapes Declarators Params
layer_of = map-Shape Shape Declarator Param Shapes Declarators Params designated parameter_declarator parameter

same_shape : (x : Shape-F Shape Declarator Param) → IsHolderShape x → IsHolderShape (layer_of x)
same_shape shape.Plain h = tt
same_shape (shape.Array size) h = h
same_shape (shape.Function params) h = tt
same_shape (shape.Pointer constant params) h = tt
same_shape (shape.PointerArray constant size params) h = h

same_pointer : (x : Shape-F Shape Declarator Param) → is_pointer_form (layer_of x) ≡ is_pointer_form x
same_pointer shape.Plain = refl
same_pointer (shape.Array size) = refl
same_pointer (shape.Function params) = refl
same_pointer (shape.Pointer constant params) = refl
same_pointer (shape.PointerArray constant size params) = refl

designated_is : (x : Shape) (t : CType) (fixed : Bool) (s : Scope) →
    IfGood (designated x t fixed s) (λ e. IsHolderShape (out-Shape x) → IsHolderOf t (is_pointer_form (out-Shape x)) e.1)
designated_is x t fixed s =
    if_given (IsHolderShape (out-Shape x)) (λ (e : Scope × Entity). IsHolderOf t (is_pointer_form (out-Shape x)) e.1) (designated x t fixed s) (λ h.
    subst (λ (z : Shapes). IfGood (z t fixed s) (λ e. IsHolderOf t (is_pointer_form (out-Shape x)) e.1))
    (sym (fold_out-Shape Shapes Declarators Params shape_step declarator_step param_step x))
    (subst (λ b. IfGood (shape_step (layer_of (out-Shape x)) t fixed s) (λ e. IsHolderOf t b e.1)) (same_pointer (out-Shape x))
    (layer_is (layer_of (out-Shape x)) t fixed s (same_shape (out-Shape x) h))))

-- whether a declarator has an attribute and what it designates, behind one of the specifiers that it may have
pub file_is : (b : Specified) (d : Declarator) (s : Scope) → IsHeld (MayHold d) (IsOf b.ctype) b.attribute →
    IfGood (file_declarator b d s) (λ e. IsHeld (IsHolderOf b.ctype (declares_pointer d) e.1.entity) (IsOf b.ctype) e.1.attribute)
file_is b d s h =
    if_then (λ e. MayHold d → IsHolderOf b.ctype (declares_pointer d) e.1) Q (designated d.shape b.ctype b.fixed s) _ (designated_is d.shape b.ctype b.fixed s) (λ e f.
    let given = attributes (holder_of position.File b.fixed d) (scalar_kind b.ctype) e.0 d.marks b.attribute in
    if_then (λ a. IsHeld (MayHold d) (IsOf b.ctype) b.attribute → IsHeld (MayHold d) (IsOf b.ctype) a) Q given _
    (attributes_held (IsOf b.ctype) (scalar_kind b.ctype) (scalar_admits b.ctype) (MayHold d) (holder_of position.File b.fixed d) (file_holding b.fixed d) e.0 d.marks b.attribute) (λ a g.
    held_more (MayHold d) (IsHolderOf b.ctype (declares_pointer d) e.1) (IsOf b.ctype) (IsOf b.ctype) f (λ v k. k) a (g h)))
  where
    Q : Scope × Designated → Type 0
    Q e = IsHeld (IsHolderOf b.ctype (declares_pointer d) e.1.entity) (IsOf b.ctype) e.1.attribute
