-- By induction over declarators: what each step of designating has, where its parts have it, is had by what each shape and each parameter comes to.
use Rattle.std.proofs.Common.{sym, subst, List, [], ◌∷◌, map}
use Rattle.std.specs.List.{AllByRecursion}
use Rattle.mv_syntax.specs.declared.unit.Declarator.{Declarator, Declarator-F, roll-Declarator, map-Declarator, fold-roll-Declarator}
use Rattle.mv_syntax.specs.declared.unit.Param.{Param, Param-F, roll-Param, map-Param, fold-roll-Param}
use Rattle.mv_syntax.specs.declared.unit.Shape.{Shape, Shape-F, roll-Shape, map-Shape, fold-roll-Shape}
use Rattle.mv_syntax.specs.declared.unit.Shape.TheOpen as shape
use Rattle.mv_check_declarations.specs.Declarators.{Shapes, Declarators, Params, shape_step, declarator_step, param_step, designated, parameter, parameter_declarator}
use Rattle.mv_accepts.proofs.OfStatements.ShapeInduction.{ParamsWith, ShapeOver, DeclaratorOver, ParamOver, whole_shape, whole_declarator, whole_param, each_shape, each_param}

-- the parameters of a shape all have it
abbrev pub ShapeParts : (Params → Type 0) → Shape-F Shapes Declarators Params → Type 0
ShapeParts OfParam shape.Plain = Unit {0}
ShapeParts OfParam (shape.Array size) = Unit {0}
ShapeParts OfParam (shape.Function params) = AllByRecursion OfParam params
ShapeParts OfParam (shape.Pointer constant params) = AllByRecursion OfParam params
ShapeParts OfParam (shape.PointerArray constant size params) = AllByRecursion OfParam params

module _ (OfShape : Shapes → Type 0) (OfDeclarator : Declarators → Type 0) (OfParam : Params → Type 0)
    (shape_has : (x : Shape-F Shapes Declarators Params) → ShapeParts OfParam x → OfShape (shape_step x))
    (declarator_has : (x : Declarator-F Shapes Declarators Params) → OfShape x.shape → OfDeclarator (declarator_step x))
    (param_has : (x : Param-F Shapes Declarators Params) → OfDeclarator x.name → OfParam (param_step x)) where
  abbrev ShapeIs : Shape → Type 0
  ShapeIs x = OfShape (designated x)

  abbrev DeclaratorIs : Declarator → Type 0
  DeclaratorIs x = OfDeclarator (parameter_declarator x)

  abbrev ParamIs : Param → Type 0
  ParamIs x = OfParam (parameter x)

  params_are : (xs : List (ParamsWith ShapeIs DeclaratorIs ParamIs)) → AllByRecursion OfParam (map parameter (map (λ (x : ParamsWith ShapeIs DeclaratorIs ParamIs). x.0) xs))
  params_are [] = tt
  params_are (x ∷ xs) = (x.1, params_are xs)

  parts_are : (z : ShapeOver ShapeIs DeclaratorIs ParamIs) → ShapeParts OfParam
      (map-Shape Shape Declarator Param Shapes Declarators Params designated parameter_declarator parameter (whole_shape ShapeIs DeclaratorIs ParamIs z))
  parts_are shape.Plain = tt
  parts_are (shape.Array size) = tt
  parts_are (shape.Function params) = params_are params
  parts_are (shape.Pointer constant params) = params_are params
  parts_are (shape.PointerArray constant size params) = params_are params

  shape_is : (y : ShapeOver ShapeIs DeclaratorIs ParamIs) → ShapeIs (roll-Shape (whole_shape ShapeIs DeclaratorIs ParamIs y))
  shape_is y =
      let x : Shape-F Shape Declarator Param = whole_shape ShapeIs DeclaratorIs ParamIs y in
      subst OfShape (sym (fold-roll-Shape Shapes Declarators Params shape_step declarator_step param_step x))
      (shape_has (map-Shape Shape Declarator Param Shapes Declarators Params designated parameter_declarator parameter x) (parts_are y))

  declarator_is : (y : DeclaratorOver ShapeIs DeclaratorIs ParamIs) → DeclaratorIs (roll-Declarator (whole_declarator ShapeIs DeclaratorIs ParamIs y))
  declarator_is y =
      let x : Declarator-F Shape Declarator Param = whole_declarator ShapeIs DeclaratorIs ParamIs y in
      subst OfDeclarator (sym (fold-roll-Declarator Shapes Declarators Params shape_step declarator_step param_step x))
      (declarator_has (map-Declarator Shape Declarator Param Shapes Declarators Params designated parameter_declarator parameter x) y.shape.1)

  param_is : (y : ParamOver ShapeIs DeclaratorIs ParamIs) → ParamIs (roll-Param (whole_param ShapeIs DeclaratorIs ParamIs y))
  param_is y =
      let x : Param-F Shape Declarator Param = whole_param ShapeIs DeclaratorIs ParamIs y in
      subst OfParam (sym (fold-roll-Param Shapes Declarators Params shape_step declarator_step param_step x))
      (param_has (map-Param Shape Declarator Param Shapes Declarators Params designated parameter_declarator parameter x) y.name.1)

  pub every_shape : (x : Shape) → ShapeIs x
  every_shape = each_shape ShapeIs DeclaratorIs ParamIs shape_is declarator_is param_is

  pub every_param : (x : Param) → ParamIs x
  every_param = each_param ShapeIs DeclaratorIs ParamIs shape_is declarator_is param_is

  pub every_params : (ps : List Param) → AllByRecursion OfParam (map parameter ps)
  every_params [] = tt
  every_params (p ∷ ps) = (every_param p, every_params ps)
