-- A declarator leaves the names as they were, and adds no type of more parameters than its text has: by induction over it.
use Rattle.std.proofs.Common.{◌≡◌, ℕ, ◌+◌, Bool, true, false, refl, sym, ap, subst, if◌then◌else◌, List, [], ◌∷◌, ◌++◌, map, length, length-append, arith, Option, Some, None}
use Rattle.std.specs.List.{concat}
use Rattle.mv_ast.specs.declared.program.CType.{CType}
use Rattle.mv_ast.specs.declared.program.Signature.{Signature}
use Rattle.mv_syntax.specs.declared.unit.Declarator.{Declarator, roll-Declarator, map-Declarator, fold-roll-Declarator}
use Rattle.mv_syntax.specs.declared.unit.Param.{Param, roll-Param, map-Param, fold-roll-Param}
use Rattle.mv_syntax.specs.declared.unit.Shape.{Shape, roll-Shape, map-Shape, fold-roll-Shape}
use Rattle.mv_syntax.specs.declared.unit.Shape.TheOpen as shape
use Rattle.mv_check_scope.specs.declared.scope.Scope.{Scope}
use Rattle.mv_check_scope.specs.Conversions.{same_signature}
use Rattle.mv_check_scope.specs.Scoped.{block_entered}
use Rattle.mv_check_scope.specs.Signatures.{with_signature}
use Rattle.mv_check_limits.specs.Ordered.{of_type, shape_layer, declarator_layer, param_layer, shape_parameters, declarator_parameters, param_parameters}
use Rattle.mv_check_rules.specs.Nodes.{Declared}
use Rattle.mv_check_rules.specs.Nodes as node
use Rattle.mv_check_rules.specs.Rules.{concluded}
use Rattle.mv_check_rules.specs.Declarations.{in_order, Base, found_next, attributes, specifiers, function_type, Shapes, Declarators, Params, parameter_types, written_size, shape_step, parameter_declared, type_or_void, declarator_step, param_step, declared_as}
use Rattle.mv_check_rules.proofs.Shapes.{declarator_found, param_found}
use Rattle.mv_accepts.proofs.OfStatements.ShapeInduction.{ParamsWith, ShapeOver, DeclaratorOver, ParamOver, whole_shape, whole_declarator, whole_param, each_shape}
use Rattle.mv_accepts.proofs.OfStatements.Judging.{IfGood, if_any, if_more, if_then}
use Rattle.mv_accepts.proofs.OfStatements.Names.{left_is}
use Rattle.mv_accepts_texts.proofs.Scopes.{few, FewIn, few_both, few_more, Moves, moves_same, moves_joined}
use Rattle.mv_accepts_texts.proofs.Specifiers.{if_found, specifiers_adds}
use Rattle.mv_accepts_texts.specs.Texts.{enumerators_of}
use Rattle.mv_accepts_texts.proofs.Specifiers.{Adds}

-- ---- what is shown

abbrev pub Keeps : List ℕ → Scope → Scope → Type 0
Keeps counts s t = (t.names ≡ s.names) × (few counts → FewIn s → FewIn t)

abbrev ShapeIs : Shape → Type 0
ShapeIs x = (t : CType) (fixed : Bool) (s : Scope) → IfGood (declared_as x t fixed s) (λ d. Keeps (shape_parameters x) s d.0)

abbrev DeclaratorIs : Declarator → Type 0
DeclaratorIs x = (base : Base) (s : Scope) → IfGood (declarator_found x base s) (λ d. Moves (declarator_parameters x) s d.0)

abbrev ParamIs : Param → Type 0
ParamIs x = (s : Scope) → IfGood (param_found x s) (λ d. Moves (param_parameters x) s d.0)

abbrev params_found : List (ParamsWith ShapeIs DeclaratorIs ParamIs) → List Params
params_found ps = map param_found (map (λ (p : ParamsWith ShapeIs DeclaratorIs ParamIs). p.0) ps)

abbrev counts_of : List (ParamsWith ShapeIs DeclaratorIs ParamIs) → List (List ℕ)
counts_of ps = map param_parameters (map (λ (p : ParamsWith ShapeIs DeclaratorIs ParamIs). p.0) ps)

-- ---- a function's type

with_few : (t : Signature) (ts : List Signature) → few (length t.params ∷ []) → few (map (λ f. length f.params) ts) →
    few (map (λ f. length f.params) (with_signature t ts))
with_few t [] h k = h
with_few t (u ∷ ts) h k =
    let b = few_both (length u.params ∷ []) (map (λ f. length f.params) ts) k in by (same_signature t u) (with_few t ts h b.1) b.0
  where
    by : (b : Bool) → few (map (λ f. length f.params) (with_signature t ts)) → few (length u.params ∷ []) →
        few (map (λ (f : Signature). length f.params) (if b then u ∷ ts else u ∷ with_signature t ts))
    by true i j = k
    by false i j = few_more (length u.params ∷ []) (map (λ f. length f.params) (with_signature t ts)) j i

abbrev Types : List (ParamsWith ShapeIs DeclaratorIs ParamIs) → Scope × List CType → Scope × List CType → Type 0
Types ps d e = Moves (concat (counts_of ps)) d.0 e.0 × (length e.1 ≡ length d.1 + length (counts_of ps))

types_move : (ps : List (ParamsWith ShapeIs DeclaratorIs ParamIs)) (d : Scope × List CType) → IfGood (in_order (found_next (λ p. p)) (params_found ps) d) (Types ps d)
types_move [] d = (moves_same d.0, omega arith)
types_move (p ∷ ps) d =
    if_then (Types (p ∷ []) d) (Types (p ∷ ps) d) (found_next (λ p. p) (param_found p.0) d) (in_order (found_next (λ p. p)) (params_found ps))
    (if_then (λ e. Moves (param_parameters p.0) d.0 e.0) (Types (p ∷ []) d) (param_found p.0 d.0) _ (p.1 d.0)
    (λ e h. (moves_joined (param_parameters p.0) [] d.0 e.0 e.0 h (moves_same e.0), omega (arith, length-append d.1 (e.1 ∷ []))))) (λ e h.
    if_more (Types ps e) (Types (p ∷ ps) d) (in_order (found_next (λ p. p)) (params_found ps) e)
    (λ z k. (joined d e z h.0 k.0, omega (arith, h.1, k.1))) (types_move ps e))
  where
    joined : (d e z : Scope × List CType) → Moves (param_parameters p.0 ++ []) d.0 e.0 → Moves (concat (counts_of ps)) e.0 z.0 →
        Moves (param_parameters p.0 ++ concat (counts_of ps)) d.0 z.0
    joined d e z h k = moves_joined (param_parameters p.0) (concat (counts_of ps)) d.0 e.0 z.0
        (record { around = h.around; few = λ f. h.few (few_more (param_parameters p.0) [] f refl) }) k

type_keeps : (t : CType) (ps : List (ParamsWith ShapeIs DeclaratorIs ParamIs)) (s : Scope) →
    IfGood (parameter_types (params_found ps) s) (λ d. Keeps (of_type (counts_of ps)) s (function_type t d).0)
type_keeps t ps s =
    if_more (Types ps (block_entered s, [])) (λ d. Keeps (of_type (counts_of ps)) s (function_type t d).0) (parameter_types (params_found ps) s)
    (λ d h. (left_is s.names d.0.names h.0.around, fewer d h)) (types_move ps (block_entered s, []))
  where
    fewer : (d : Scope × List CType) → Types ps (block_entered s, []) d → few (of_type (counts_of ps)) → FewIn s → FewIn (function_type t d).0
    fewer d h f k =
        let b = few_both (length (counts_of ps) ∷ []) (concat (counts_of ps)) f in
        let n : length d.1 ≡ length (counts_of ps) = omega (arith, h.1) in
        with_few (record { result = t; params = d.1 }) d.0.signatures (rw n b.0) (h.0.few b.1 k)

-- ---- steps

abbrev shape_judged : ShapeOver ShapeIs DeclaratorIs ParamIs → Shapes
shape_judged z = shape_step (map-Shape Shape Declarator Param Shapes Declarators Params declared_as declarator_found param_found (whole_shape ShapeIs DeclaratorIs ParamIs z))

abbrev shape_counts : ShapeOver ShapeIs DeclaratorIs ParamIs → List ℕ
shape_counts z = shape_layer (map-Shape Shape Declarator Param (List ℕ) (List ℕ) (List ℕ) shape_parameters declarator_parameters param_parameters (whole_shape ShapeIs DeclaratorIs ParamIs z))

shapes_keep : (z : ShapeOver ShapeIs DeclaratorIs ParamIs) (t : CType) (fixed : Bool) (s : Scope) → IfGood (shape_judged z t fixed s) (λ d. Keeps (shape_counts z) s d.0)
shapes_keep shape.Plain t fixed s = (refl, λ f h. h)
shapes_keep (shape.Array size) t fixed s =
    if_then (λ n. Unit {0}) (λ d. Keeps [] s d.0) (written_size s size) _ (if_any (written_size s size)) (λ n u. (refl, λ f h. h))
shapes_keep (shape.Function params) t fixed s =
    if_then (λ d. Keeps (of_type (counts_of params)) s (function_type t d).0) (λ d. Keeps (of_type (counts_of params)) s d.0)
    (parameter_types (params_found params) s) _ (type_keeps t params s) (λ d h. h)
shapes_keep (shape.Pointer constant params) t fixed s =
    if_then (λ d. Keeps (of_type (counts_of params)) s (function_type t d).0) (λ d. Keeps (of_type (counts_of params)) s d.0)
    (parameter_types (params_found params) s) _ (type_keeps t params s) (λ d h. h)
shapes_keep (shape.PointerArray constant size params) t fixed s =
    if_then (λ n. Unit {0}) (λ d. Keeps (of_type (counts_of params)) s d.0) (written_size s size) _ (if_any (written_size s size)) (λ n u.
    if_then (λ d. Keeps (of_type (counts_of params)) s (function_type t d).0) (λ d. Keeps (of_type (counts_of params)) s d.0)
    (parameter_types (params_found params) s) _ (type_keeps t params s) (λ d h. h))

parameter_moves : (counts : List ℕ) (name : Option (List ℕ)) (e : Declared) (s t : Scope) → Keeps counts s t → Moves counts s (parameter_declared name e t)
parameter_moves counts None e s t h = record { around = ap (λ names. names.around) h.0; few = h.1 }
parameter_moves counts (Some name) e s t h = record { around = ap (λ names. names.around) h.0; few = h.1 }

declarators_move : (z : DeclaratorOver ShapeIs DeclaratorIs ParamIs) (base : Base) (s : Scope) →
    IfGood (declarator_step (map-Declarator Shape Declarator Param Shapes Declarators Params declared_as declarator_found param_found (whole_declarator ShapeIs DeclaratorIs ParamIs z)) base s)
    (λ d. Moves (shape_parameters z.shape.0) s d.0)
declarators_move z base s =
    let c : List ℕ = shape_parameters z.shape.0 in
    if_then (λ d. Keeps c s d.0) (λ d. Moves c s d.0) (declared_as z.shape.0 base.ctype base.constant s) _ (z.shape.1 base.ctype base.constant s) (λ e h.
    if_then (λ a. Unit {0}) (λ d. Moves c s d.0) (attributes (node.Parameter ∷ []) None e.0 z.marks base.attribute) _
    (if_any (attributes (node.Parameter ∷ []) None e.0 z.marks base.attribute)) (λ a u.
    let found : Scope × CType = (parameter_declared z.name e.1 e.0, type_or_void e.1) in
    if_more (λ d. d ≡ found) (λ d. Moves c s d.0) (concluded z.place e.0 (node.Parameter false z.name e.1) found)
    (λ d q. subst (λ (d : Scope × CType). Moves c s d.0) (sym q) (parameter_moves c z.name e.1 s e.0 h)) (if_found z.place found _)))

params_move : (z : ParamOver ShapeIs DeclaratorIs ParamIs) (s : Scope) →
    IfGood (param_step (map-Param Shape Declarator Param Shapes Declarators Params declared_as declarator_found param_found (whole_param ShapeIs DeclaratorIs ParamIs z)) s)
    (λ d. Moves (declarator_parameters z.name.0) s d.0)
params_move z s =
    if_then (λ d. Adds (enumerators_of z.specs) s d.0) (λ d. Moves (declarator_parameters z.name.0) s d.0)
    (specifiers true (node.Parameter ∷ []) z.specs s) _ (specifiers_adds true (node.Parameter ∷ []) z.specs s) (λ d h.
    if_more (λ e. Moves (declarator_parameters z.name.0) d.0 e.0) (λ e. Moves (declarator_parameters z.name.0) s e.0) (declarator_found z.name.0 d.1 d.0)
    (λ e k. moves_joined [] (declarator_parameters z.name.0) s d.0 e.0 h.moves k) (z.name.1 d.1 d.0))

-- ---- by induction

shape_is : (y : ShapeOver ShapeIs DeclaratorIs ParamIs) → ShapeIs (roll-Shape (whole_shape ShapeIs DeclaratorIs ParamIs y))
unfolding shape_parameters declarator_parameters param_parameters
shape_is y t fixed s =
    subst (λ (x : Shapes). IfGood (x t fixed s) (λ d. Keeps (shape_parameters (roll-Shape (whole_shape ShapeIs DeclaratorIs ParamIs y))) s d.0))
    (sym (fold-roll-Shape Shapes Declarators Params shape_step declarator_step param_step (whole_shape ShapeIs DeclaratorIs ParamIs y)))
    (subst (λ c. IfGood (shape_judged y t fixed s) (λ d. Keeps c s d.0))
    (sym (fold-roll-Shape (List ℕ) (List ℕ) (List ℕ) shape_layer declarator_layer param_layer (whole_shape ShapeIs DeclaratorIs ParamIs y))) (shapes_keep y t fixed s))

declarator_is : (y : DeclaratorOver ShapeIs DeclaratorIs ParamIs) → DeclaratorIs (roll-Declarator (whole_declarator ShapeIs DeclaratorIs ParamIs y))
unfolding shape_parameters declarator_parameters param_parameters
declarator_is y base s =
    subst (λ (x : Declarators). IfGood (x base s) (λ d. Moves (declarator_parameters (roll-Declarator (whole_declarator ShapeIs DeclaratorIs ParamIs y))) s d.0))
    (sym (fold-roll-Declarator Shapes Declarators Params shape_step declarator_step param_step (whole_declarator ShapeIs DeclaratorIs ParamIs y)))
    (subst (λ c. IfGood (declarator_step (map-Declarator Shape Declarator Param Shapes Declarators Params declared_as declarator_found param_found (whole_declarator ShapeIs DeclaratorIs ParamIs y)) base s) (λ d. Moves c s d.0))
    (sym (fold-roll-Declarator (List ℕ) (List ℕ) (List ℕ) shape_layer declarator_layer param_layer (whole_declarator ShapeIs DeclaratorIs ParamIs y))) (declarators_move y base s))

param_is : (y : ParamOver ShapeIs DeclaratorIs ParamIs) → ParamIs (roll-Param (whole_param ShapeIs DeclaratorIs ParamIs y))
unfolding shape_parameters declarator_parameters param_parameters
param_is y s =
    subst (λ (x : Params). IfGood (x s) (λ d. Moves (param_parameters (roll-Param (whole_param ShapeIs DeclaratorIs ParamIs y))) s d.0))
    (sym (fold-roll-Param Shapes Declarators Params shape_step declarator_step param_step (whole_param ShapeIs DeclaratorIs ParamIs y)))
    (subst (λ c. IfGood (param_step (map-Param Shape Declarator Param Shapes Declarators Params declared_as declarator_found param_found (whole_param ShapeIs DeclaratorIs ParamIs y)) s) (λ d. Moves c s d.0))
    (sym (fold-roll-Param (List ℕ) (List ℕ) (List ℕ) shape_layer declarator_layer param_layer (whole_param ShapeIs DeclaratorIs ParamIs y))) (params_move y s))

pub declared_keeps : (x : Shape) → ShapeIs x
declared_keeps = each_shape ShapeIs DeclaratorIs ParamIs shape_is declarator_is param_is
