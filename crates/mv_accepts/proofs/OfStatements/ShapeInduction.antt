-- By induction over declarators: what a shape, a declarator and a parameter have, where their parts have it, each of them has.
use Rattle.std.proofs.Common.{subst}
use Rattle.mv_syntax.specs.declared.unit.Declarator.{Declarator, Declarator-F, roll-Declarator, map-Declarator}
use Rattle.mv_syntax.specs.declared.unit.Param.{Param, Param-F, roll-Param, map-Param, ind-Param}
use Rattle.mv_syntax.specs.declared.unit.Shape.{Shape, Shape-F, roll-Shape, map-Shape, ind-Shape}

module _ (OfShape : Shape → Type 0) (OfDeclarator : Declarator → Type 0) (OfParam : Param → Type 0) where
  abbrev pub ShapesWith : Type 0
  ShapesWith = (x : Shape) × OfShape x

  abbrev pub DeclaratorsWith : Type 0
  DeclaratorsWith = (x : Declarator) × OfDeclarator x

  abbrev pub ParamsWith : Type 0
  ParamsWith = (x : Param) × OfParam x

  -- a shape, a declarator and a parameter of which each part has it
  abbrev pub ShapeOver : Type 0
  ShapeOver = Shape-F ShapesWith DeclaratorsWith ParamsWith

  abbrev pub DeclaratorOver : Type 0
  DeclaratorOver = Declarator-F ShapesWith DeclaratorsWith ParamsWith

  abbrev pub ParamOver : Type 0
  ParamOver = Param-F ShapesWith DeclaratorsWith ParamsWith

  abbrev pub whole_shape : ShapeOver → Shape-F Shape Declarator Param
  whole_shape = map-Shape ShapesWith DeclaratorsWith ParamsWith Shape Declarator Param (λ a. a.0) (λ a. a.0) (λ a. a.0)

  abbrev pub whole_declarator : DeclaratorOver → Declarator-F Shape Declarator Param
  whole_declarator = map-Declarator ShapesWith DeclaratorsWith ParamsWith Shape Declarator Param (λ a. a.0) (λ a. a.0) (λ a. a.0)

  abbrev pub whole_param : ParamOver → Param-F Shape Declarator Param
  whole_param = map-Param ShapesWith DeclaratorsWith ParamsWith Shape Declarator Param (λ a. a.0) (λ a. a.0) (λ a. a.0)

  module _ (shape_has : (y : ShapeOver) → OfShape (roll-Shape (whole_shape y))) (declarator_has : (y : DeclaratorOver) → OfDeclarator (roll-Declarator (whole_declarator y)))
      (param_has : (y : ParamOver) → OfParam (roll-Param (whole_param y))) where
    pub each_shape : (x : Shape) → OfShape x
    each_shape x =
        ind-Shape OfShape OfDeclarator OfParam (λ x y q. subst (λ z. OfShape (roll-Shape z)) q (shape_has y))
        (λ x y q. subst (λ z. OfDeclarator (roll-Declarator z)) q (declarator_has y)) (λ x y q. subst (λ z. OfParam (roll-Param z)) q (param_has y)) x

    pub each_param : (x : Param) → OfParam x
    each_param x =
        ind-Param OfShape OfDeclarator OfParam (λ x y q. subst (λ z. OfShape (roll-Shape z)) q (shape_has y))
        (λ x y q. subst (λ z. OfDeclarator (roll-Declarator z)) q (declarator_has y)) (λ x y q. subst (λ z. OfParam (roll-Param z)) q (param_has y)) x
