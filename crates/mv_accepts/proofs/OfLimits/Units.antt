-- The program of a unit is at most four times as many nodes as the unit.
use Rattle.std.proofs.Common.{◌≡◌, ℕ, zero, suc, ◌+◌, ◌*◌, ◌≤◌, refl, arith, Option, Some, None, is_some, List, [], ◌∷◌, map, length}
use Rattle.std.specs.Prelude.{sum, replicate, codes}
use Rattle.std.proofs.lemmas.List.Sums.{sum_by-cons}
use Rattle.mv_syntax.specs.declared.place.Place.{Place}
use Rattle.mv_ast.specs.declared.program.Function.{Function}
use Rattle.mv_ast.specs.declared.program.Global.{Global}
use Rattle.mv_ast.specs.declared.program.Program.{Program}
use Rattle.mv_ast.specs.declared.program.Switch.{Switch}
use Rattle.mv_syntax.specs.declared.unit.Declarator.{Declarator}
use Rattle.mv_syntax.specs.declared.unit.Item.{Item}
use Rattle.mv_syntax.specs.declared.unit.Line.{Line}
use Rattle.mv_syntax.specs.declared.unit.Unit as unit
use Rattle.mv_ast.specs.Counts.{nodes}
use Rattle.mv_check_expressions.specs.Judged.{Good}
use Rattle.mv_check_declarations.specs.declared.attributes.Attribute.{Attribute}
use Rattle.mv_check_declarations.specs.declared.attributes.Position.TheVariants as position
use Rattle.mv_check_declarations.specs.declared.declarators.Entity.{Entity}
use Rattle.mv_check_declarations.specs.declared.declarators.Entity.TheVariants as entity
use Rattle.mv_check_declarations.specs.declared.globals.Designated.{Designated}
use Rattle.mv_check_declarations.specs.declared.specifiers.Specified.{Specified}
use Rattle.mv_check_declarations.specs.Globals.{file_declarator}
use Rattle.mv_check_declarations.specs.Initials.{array_size}
use Rattle.mv_check_declarations.specs.Objects.{scalar, sized}
use Rattle.mv_check_declarations.specs.Specifiers.{specifiers}
use Rattle.mv_check_declarations.specs.Turns.{through}
use Rattle.mv_check_outline.specs.Outlined.{declares_pointer}
use Rattle.mv_types.specs.declared.contents.Contents.{Contents}
use Rattle.mv_types.specs.declared.contents.Foreknown.{Foreknown}
use Rattle.mv_types.specs.declared.contents.Object.{Object}
use Rattle.mv_types.specs.Contents.{nothing_declared, in_scope, present, switches_from}
use Rattle.mv_types.specs.Foreknown.{foreknown, pointers_of}
use Rattle.mv_types.specs.Functions.{definition_parameters}
use Rattle.mv_types.specs.Objects.{domain_by}
use Rattle.mv_types.specs.Units.{by_entity, nameless_values, named_declarator, base_of, declarator_judgement, holders, declares_nothing, item_judgement, main_of, with_switches, program_of, program_or_broken, program_judgement, unit_judgement}
use Rattle.mv_check_scope.specs.Spaces.{named}
use Rattle.mv_accepts.proofs.OfStatements.Judging.{IfGood, of_good, if_any, if_then, if_kept, if_more}
use Rattle.mv_source_forms.specs.WellFormed.{program_nodes}
use Rattle.mv_accepts.specs.Limits.Nodes.{declarator_nodes, body_nodes, item_nodes, unit_nodes}
use Rattle.mv_accepts.proofs.OfLimits.Totals.{total, sum_total}
use Rattle.mv_accepts.proofs.OfLimits.Definitions.{function_weight, object_weight, weight, Adding, function_adds, object_adds}

-- ---- declarators

module _ (k : Foreknown) (b : Specified) (body : Option Line) where
  abbrev size : Declarator → ℕ
  size d = declarator_nodes d + body_nodes body

  entity_adds : (d : Declarator) (name : List ℕ) (e : Entity) (a : Option Attribute) (c : Contents) → IfGood (by_entity k b body d name e a c) (Adding c (size d))
  entity_adds d name (entity.Function signature) a c = function_adds k d name b.ctype signature body c
  entity_adds d name (entity.Scalar t fixed) a c =
      if_more (Adding c (declarator_nodes d)) (Adding c (size d)) (by_entity k b body d name (entity.Scalar t fixed) a c) (λ x h. omega (arith, h))
      (object_adds k d name (scalar t) (domain_by (declares_pointer d) c.scope b.enumeration a) (is_some body) c)
  entity_adds d name (entity.Array t fixed n) a c =
      if_more (Adding c (declarator_nodes d)) (Adding c (size d)) (by_entity k b body d name (entity.Array t fixed n) a c) (λ x h. omega (arith, h))
      (object_adds k d name (sized t (array_size n d.initial)) (domain_by (declares_pointer d) c.scope b.enumeration a) (is_some body) c)

  named_adds : (d : Declarator) (name : Option (List ℕ)) (e : Designated) (c : Contents) → IfGood (named_declarator k b body d name e c) (Adding c (size d))
  unfolding named_declarator
  named_adds d None e c =
      if_then (λ u. Unit {0}) (Adding c (size d)) (nameless_values e.entity d.initial c.scope) _ (if_any (nameless_values e.entity d.initial c.scope)) (λ u v. tt)
  named_adds d (Some name) e c = entity_adds d name e.entity e.attribute c

  declarator_adds : (d : Declarator) (c : Contents) → IfGood (declarator_judgement k b body d c) (Adding c (size d))
  unfolding declarator_judgement
  declarator_adds d c =
      if_then (λ s. Unit {0}) (Adding c (size d)) (definition_parameters d body c.scope) _ (if_any (definition_parameters d body c.scope)) (λ s u.
      if_then (λ e. Unit {0}) (Adding c (size d)) (file_declarator (base_of k d b) d s) _ (if_any (file_declarator (base_of k d b) d s)) (λ e v.
      named_adds d d.name e.1 (in_scope c e.0)))

  declarators_add : (ds : List Declarator) (c : Contents) → IfGood (through (declarator_judgement k b body) ds c) (Adding c (total size ds))
  declarators_add [] c = omega arith
  declarators_add (d ∷ ds) c =
      if_then (Adding c (size d)) (Adding c (total size (d ∷ ds))) (declarator_judgement k b body d c) _ (declarator_adds d c) (λ e h.
      if_more (Adding e (total size ds)) (Adding c (total size (d ∷ ds))) (through (declarator_judgement k b body) ds e) (λ z g. omega (arith, h, g)) (declarators_add ds e))

-- ---- items

module _ (k : Foreknown) where
  item_adds : (i : Item) (c : Contents) → IfGood (item_judgement k i c) (Adding c (item_nodes i))
  unfolding item_judgement
  item_adds i c =
      let said = specifiers position.File (holders k i.names) i.specs c.scope in
      if_then (λ b. Unit {0}) (Adding c (item_nodes i)) said _ (if_any said) (λ b u.
      if_kept (Adding c (item_nodes i)) (declares_nothing i) _ 22 (through (declarator_judgement k b.1 i.body) i.names (in_scope c b.0)) (λ q.
      if_more (Adding c (total (size k b.1 i.body) i.names)) (Adding c (item_nodes i)) (through (declarator_judgement k b.1 i.body) i.names (in_scope c b.0))
      (λ d h. omega (arith, h, sum_total (size k b.1 i.body) i.names)) (declarators_add k b.1 i.body i.names (in_scope c b.0))))

  items_add : (is : List Item) (c : Contents) → IfGood (through (item_judgement k) is c) (Adding c (total item_nodes is))
  items_add [] c = omega arith
  items_add (i ∷ is) c =
      if_then (Adding c (item_nodes i)) (Adding c (total item_nodes (i ∷ is))) (item_judgement k i c) _ (item_adds i c) (λ e h.
      if_more (Adding e (total item_nodes is)) (Adding c (total item_nodes (i ∷ is))) (through (item_judgement k) is e) (λ z g. omega (arith, h, g)) (items_add is e))

-- ---- the program

none_yet : (n : ℕ) → total function_weight (replicate n None) ≡ 0
none_yet zero = refl
none_yet (suc n) = omega (arith, none_yet n)

functions_weight : (switches : List Switch) (fs : List (Option Function)) →
    length (map (with_switches switches) (present fs)) + sum (map nodes (map (with_switches switches) (present fs))) ≡ total function_weight fs
functions_weight switches [] = refl
functions_weight switches (None ∷ fs) = omega (arith, functions_weight switches fs)
functions_weight switches (Some f ∷ fs) =
    omega (arith, functions_weight switches fs, sum_by-cons (λ n. n) (nodes (with_switches switches f)) (map nodes (map (with_switches switches) (present fs))))

abbrev given_words : Global → ℕ
given_words g = length g.first

objects_weight : (os : List Object) → length (map (λ (o : Object). o.global) os) + sum (map given_words (map (λ (o : Object). o.global) os)) ≡ total object_weight os
objects_weight [] = refl
objects_weight (o ∷ os) = omega (arith, objects_weight os, sum_by-cons (λ n. n) (length o.global.first) (map given_words (map (λ (o : Object). o.global) os)))

program_weight : (c : Contents) (pointers : List ℕ) (main : ℕ) → program_nodes (program_of c pointers main) ≡ weight c
unfolding program_of
program_weight c pointers main = omega (arith, functions_weight (switches_from 0 c.objects) c.functions, objects_weight c.objects)

abbrev IsSmall : ℕ → Program → Type 0
IsSmall n p = program_nodes p ≤ 4 * n

program_small : (place : Place) (pointers : List ℕ) (c : Contents) (n : ℕ) → weight c ≤ 4 * n → IfGood (program_judgement place pointers c) (IsSmall n)
unfolding program_judgement
program_small place pointers c n h = by (main_of c.scope.signatures (named (codes "main") c.scope.names.here))
  where
    by : (o : Option ℕ) → IfGood (program_or_broken place pointers c o) (IsSmall n)
    by None = tt
    by (Some main) = omega (arith, h, program_weight c pointers main)

unit_small : (u : unit.Unit) → IfGood (unit_judgement u) (IsSmall (unit_nodes u))
unfolding unit_judgement
unit_small u =
    let k : Foreknown = foreknown u.items in
    if_then (Adding (nothing_declared k) (total item_nodes u.items)) (IsSmall (unit_nodes u)) (through (item_judgement k) u.items (nothing_declared k)) _ (items_add k u.items (nothing_declared k)) (λ c h.
    program_small u.end (pointers_of k) c (unit_nodes u) (omega (arith, h, sum_total item_nodes u.items, none_yet (length k.outline.functions))))

pub units_small : (u : unit.Unit) (p : Program) → unit_judgement u ≡ Good p → unit_nodes u ≤ 4194304 → program_nodes p ≤ 16777216
units_small u p q few = let h : IsSmall (unit_nodes u) p = of_good (IsSmall (unit_nodes u)) (unit_judgement u) (unit_small u) p q in omega (arith, h, few)
