-- What each form of a declarator counts.
use Rattle.std.proofs.Common.{◌≡◌, ℕ, ◌+◌, ◌≤◌, ◌∙◌, ap, arith, Bool, true, false, Option, Some, None, List, [], ◌∷◌, if◌then◌else◌}
use Rattle.mv_syntax.specs.declared.place.Place.{Place}
use Rattle.mv_syntax.specs.declared.unit.Declarator.{Declarator, fold_out-Declarator}
use Rattle.mv_syntax.specs.declared.unit.Initial.{Initial}
use Rattle.mv_syntax.specs.declared.unit.Mark.{Mark}
use Rattle.mv_syntax.specs.declared.unit.Node.{Node}
use Rattle.mv_syntax.specs.declared.unit.Param.{Param, fold-Param, fold_out-Param}
use Rattle.mv_syntax.specs.declared.unit.Shape.{Shape, Shape-F, out-Shape, map-Shape, fold-Shape, fold_out-Shape}
use Rattle.mv_syntax.specs.declared.unit.Shape.TheVariants as shape
use Rattle.mv_syntax.specs.declared.unit.Specs.{Specs}
use Rattle.mv_parse_grammar.specs.Declarations.{declarator_of, attributed, initialised, array_shape, pointer_shape, param_of, is_void_parameter, without_void}
use Rattle.mv_accepts.specs.Limits.Nodes.{shape_count, declarator_count, param_count, node_nodes, mark_nodes, specs_nodes, initial_nodes, declarator_nodes}
use Rattle.mv_accepts.proofs.OfLimits.Phrases.{of_some, of_all, all_then}

abbrev pub shape_nodes : Shape → ℕ
shape_nodes = fold-Shape ℕ ℕ ℕ shape_count declarator_count param_count

abbrev pub param_nodes : Param → ℕ
param_nodes = fold-Param ℕ ℕ ℕ shape_count declarator_count param_count

abbrev layer_count : Shape-F Shape Declarator Param → ℕ
layer_count x = shape_count (map-Shape Shape Declarator Param ℕ ℕ ℕ shape_nodes declarator_nodes param_nodes x)

by_shape : (v : Shape) (x : Shape-F Shape Declarator Param) → out-Shape v ≡ x → shape_nodes v ≡ layer_count x
by_shape v x o = fold_out-Shape ℕ ℕ ℕ shape_count declarator_count param_count v ∙ ap layer_count o

nodes_plain : shape_nodes shape.Plain ≡ 0
nodes_plain = let h = by_shape _ _ shape.outs-Plain in omega (arith, h)

nodes_extent : (n : Option (Option Node)) → shape_nodes (array_shape n) ≡ of_some (of_some node_nodes) n
nodes_extent None = nodes_plain
nodes_extent (Some None) = let h = by_shape _ _ (shape.outs-Array None) in omega (arith, h)
nodes_extent (Some (Some x)) = let h = by_shape _ _ (shape.outs-Array (Some x)) in omega (arith, h)

nodes_function : (ps : List Param) → shape_nodes (shape.Function ps) ≡ of_all param_nodes ps
nodes_function ps = let h = by_shape _ _ (shape.outs-Function ps) in omega (arith, h)

nodes_pointer : (c : Bool) (n : Option (Option Node)) (ps : List Param) → shape_nodes (pointer_shape c n ps) ≡ of_some (of_some node_nodes) n + of_all param_nodes ps
nodes_pointer c None ps = let h = by_shape _ _ (shape.outs-Pointer c ps) in omega (arith, h)
nodes_pointer c (Some None) ps = let h = by_shape _ _ (shape.outs-PointerArray c None ps) in omega (arith, h)
nodes_pointer c (Some (Some x)) ps = let h = by_shape _ _ (shape.outs-PointerArray c (Some x) ps) in omega (arith, h)

nodes_declarator : (d : Declarator) → declarator_nodes d ≡ 1 + (shape_nodes d.shape + (of_all mark_nodes d.marks + initial_nodes d.initial))
nodes_declarator d = let h = fold_out-Declarator ℕ ℕ ℕ shape_count declarator_count param_count d in omega (arith, h)

module _ (p : Place) (name : Option (List ℕ)) where
  nodes_of : (s : Shape) → declarator_nodes (declarator_of p name s) ≡ 1 + shape_nodes s
  nodes_of s = omega (arith, nodes_declarator (declarator_of p name s))

  pub nodes_object : declarator_nodes (declarator_of p name shape.Plain) ≡ 1
  nodes_object = omega (arith, nodes_of shape.Plain, nodes_plain)

  pub nodes_array : (n : Option (Option Node)) → declarator_nodes (declarator_of p name (array_shape n)) ≡ 1 + of_some (of_some node_nodes) n
  nodes_array n = omega (arith, nodes_of (array_shape n), nodes_extent n)

  pub nodes_called : (ps : List Param) → declarator_nodes (declarator_of p name (shape.Function ps)) ≡ 1 + of_all param_nodes ps
  nodes_called ps = omega (arith, nodes_of (shape.Function ps), nodes_function ps)

  pub nodes_pointers : (c : Bool) (n : Option (Option Node)) (ps : List Param)
      → declarator_nodes (declarator_of p name (pointer_shape c n ps)) ≡ 1 + (of_some (of_some node_nodes) n + of_all param_nodes ps)
  nodes_pointers c n ps = omega (arith, nodes_of (pointer_shape c n ps), nodes_pointer c n ps)

module _ (d : Declarator) where
  pub nodes_attributed : (m : Mark) → declarator_nodes (attributed d m) ≡ declarator_nodes d + mark_nodes m
  nodes_attributed m = omega (arith, nodes_declarator (attributed d m), nodes_declarator d, all_then mark_nodes d.marks m)

  pub nodes_initialised : (x : Initial) → declarator_nodes (initialised d x) ≤ declarator_nodes d + initial_nodes (Some x)
  nodes_initialised x = omega (arith, nodes_declarator (initialised d x), nodes_declarator d)

pub nodes_param : (s : Specs) (d : Declarator) → param_nodes (param_of s d) ≡ specs_nodes s + declarator_nodes d
nodes_param s d = let h = fold_out-Param ℕ ℕ ℕ shape_count declarator_count param_count (param_of s d) in omega (arith, h)

-- a single `void` counts no more where it is the empty list
pub fewer_parameters : (ps : List Param) → of_all param_nodes (without_void ps) ≤ of_all param_nodes ps
fewer_parameters [] = omega arith
fewer_parameters (p ∷ []) = go (is_void_parameter p)
  where
    go : (b : Bool) → of_all param_nodes (if b then [] else p ∷ []) ≤ of_all param_nodes (p ∷ [])
    go true = omega arith
    go false = omega arith
fewer_parameters (p ∷ q ∷ ps) = omega arith
