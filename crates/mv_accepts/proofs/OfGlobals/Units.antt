-- The objects of a unit's contents are formed, through all of its declarations.
use Rattle.std.proofs.Common.{◌≡◌, ℕ, ◌⊎◌, refl, sym, subst, Bool, true, false, is_some, if◌then◌else◌, List, [], ◌∷◌, Option, Some, None}
use Rattle.std.specs.List.{list_any, AllByRecursion}
use Rattle.mv_syntax.specs.declared.place.Place.{Place}
use Rattle.mv_ast.specs.declared.program.CType.{CType}
use Rattle.mv_ast.specs.declared.program.CType.TheVariants.{Scalar}
use Rattle.mv_num.specs.declared.kind.Kind.TheVariants.{Int}
use Rattle.mv_ast.specs.declared.program.Local.{Local}
use Rattle.mv_syntax.specs.declared.unit.Declarator.{Declarator}
use Rattle.mv_syntax.specs.declared.unit.Item.{Item}
use Rattle.mv_syntax.specs.declared.unit.Line.{Line}
use Rattle.mv_syntax.specs.declared.unit.Param.{Param}
use Rattle.mv_syntax.specs.declared.unit.Specs.{out-Specs}
use Rattle.mv_syntax.specs.declared.unit.Unit as unit
use Rattle.mv_check_scope.specs.declared.scope.Scope.{Scope}
use Rattle.mv_check_expressions.specs.Judged.{Judged}
use Rattle.mv_check_declarations.specs.declared.attributes.Attribute.{Attribute}
use Rattle.mv_check_declarations.specs.declared.attributes.Position.TheVariants as position
use Rattle.mv_check_declarations.specs.declared.declarators.Entity.{Entity}
use Rattle.mv_check_declarations.specs.declared.declarators.Entity.TheVariants as entity
use Rattle.mv_check_declarations.specs.declared.globals.Designated.{Designated}
use Rattle.mv_check_declarations.specs.declared.specifiers.Specified.{Specified}
use Rattle.mv_check_declarations.specs.Globals.{file_declarator, domain_of}
use Rattle.mv_check_declarations.specs.Initials.{array_size, plain_values}
use Rattle.mv_check_declarations.specs.Objects.{scalar, sized}
use Rattle.mv_check_declarations.specs.Specifiers.{specifiers}
use Rattle.mv_check_declarations.specs.Turns.{through}
use Rattle.mv_check_outline.specs.Outlined.{declares_pointer}
use Rattle.mv_types.specs.declared.contents.Contents.{Contents}
use Rattle.mv_types.specs.declared.contents.Foreknown.{Foreknown}
use Rattle.mv_types.specs.declared.contents.Object.{Object}
use Rattle.mv_types.specs.declared.functions.Before.{Before}
use Rattle.mv_types.specs.Contents.{nothing_declared, in_scope}
use Rattle.mv_types.specs.Foreknown.{foreknown, pointers_of}
use Rattle.mv_types.specs.Functions as functions
use Rattle.mv_types.specs.Functions.{function_of, function_scope, params_of, defined, before_of, rule_of, function_behind, function_judgement, definition_parameters}
use Rattle.mv_types.specs.Objects.{domain_by}
use Rattle.mv_types.specs.Units.{by_entity, nameless_values, named_declarator, base_of, declarator_judgement, declares_constant, holders, declares_nothing, names_judgement, item_judgement, program_or_broken, program_judgement, unit_judgement}
use Rattle.mv_accepts.proofs.OfStatements.Judging.{IfGood, of_good, if_any, if_then, if_kept, if_more, if_through}
use Rattle.mv_accepts.proofs.OfStatements.Lists.{each_any}
use Rattle.mv_accepts.specs.Globals.Globals.{HasFormedGlobals, GlobalsAreFormed}
use Rattle.mv_accepts.proofs.OfGlobals.Tests.{if_given}
use Rattle.mv_accepts.proofs.OfGlobals.Values.{IsOf}
use Rattle.mv_accepts.proofs.OfGlobals.Domains.{IsDomain, IsHeld, held_more, domain_of_is}
use Rattle.mv_accepts.proofs.OfGlobals.Specified.{MayHold, MayAllHold, IsSpecified, specifiers_are}
use Rattle.mv_accepts.proofs.OfGlobals.Designated.{IsHolderOf, file_is}
use Rattle.mv_accepts.proofs.OfGlobals.Objects.{IsFormedObject, AreFormed, IsDomainFor, object_formed}
use Rattle.mv_accepts.proofs.OfGlobals.Switches.{program_formed}
use Rattle.mv_accepts.proofs.OfExpressions.Plain.{IsPlain}

-- ---- functions are no objects

module _ (P : List Object → Type 0) where
  abbrev Have : Contents → Type 0
  Have c = P c.objects

  defined_have : (k : Foreknown) (name : List ℕ) (result : CType) (params : List Param) (body : Option Line) (number : Option ℕ) (c : Contents) → Have c →
      IfGood (defined k name result params body number c) Have
  defined_have k name result params None number c h = h
  defined_have k name result params (Some body) number c h =
      if_then (λ f. Unit {0}) Have (function_of k name result params body c.scope) _ (if_any (function_of k name result params body c.scope)) (λ f u. h)

  unless_have : (place : Place) (rule : Option ℕ) (j : Judged Contents) → IfGood j Have → IfGood (functions.unless_broken place rule j) Have
  unless_have place None j h = h
  unless_have place (Some rule) j h = tt

  function_behind_has : (k : Foreknown) (d : Declarator) (name : List ℕ) (result : CType) (signature : ℕ) (body : Option Line) (c : Contents) (b : Before) → Have c →
      IfGood (function_behind k d name result signature body c b) Have
  function_behind_has k d name result signature body c b h =
      let s = function_scope k name signature b.meaning b.builtin c.scope in
      if_then (λ x. Unit {0}) Have (plain_values d.initial s) _ (if_any (plain_values d.initial s)) (λ x u.
      unless_have d.place (rule_of d signature body c b) (defined k name result (params_of d) body b.number (in_scope c s))
      (defined_have k name result (params_of d) body b.number (in_scope c s) h))

  pub function_has : (k : Foreknown) (d : Declarator) (name : List ℕ) (result : CType) (signature : ℕ) (body : Option Line) (c : Contents) → Have c →
      IfGood (function_judgement k d name result signature body c) Have
  unfolding function_judgement
  function_has k d name result signature body c h = function_behind_has k d name result signature body c (before_of k name c.scope) h

-- ---- declarators

abbrev IsEnumerated : Specified → Type 0
IsEnumerated b = (b.enumeration ≡ None) ⊎ (b.ctype ≡ Scalar Int)

-- a pointer has no domain
scalar_domain : (b : Specified) (pointer : Bool) (t : CType) (a : Option Attribute) (s : Scope) → IsPlain b.ctype → IsEnumerated b →
    IsHeld (pointer ≡ false → t ≡ b.ctype) (IsOf b.ctype) a → IsDomainFor (scalar t) (domain_by pointer s b.enumeration a)
scalar_domain b true t a s plain enum h = tt
scalar_domain b false t None s plain enum h = tt
scalar_domain b false t (Some a) s plain enum h =
    let same : t ≡ b.ctype = h.0 refl in (
      subst IsPlain (sym same) plain,
      refl,
      subst (λ u. IsDomain (IsOf u) (domain_of s b.enumeration a)) (sym same) (domain_of_is b.ctype s b.enumeration enum (t ≡ b.ctype) a (same, h.1)),
    )

array_domain : (b : Specified) (pointer : Bool) (l : Local) (a : Option Attribute) (s : Scope) → IsHeld ⊥ (IsOf b.ctype) a → IsDomainFor l (domain_by pointer s b.enumeration a)
array_domain b true l a s h = tt
array_domain b false l None s h = tt
array_domain b false l (Some a) s h = absurd h.0

entity_formed : (k : Foreknown) (b : Specified) (body : Option Line) (d : Declarator) (name : List ℕ) (e : Entity) (a : Option Attribute) (c : Contents) → AreFormed c →
    IsPlain b.ctype → IsEnumerated b → IsHeld (IsHolderOf b.ctype (declares_pointer d) e) (IsOf b.ctype) a → IfGood (by_entity k b body d name e a c) AreFormed
entity_formed k b body d name (entity.Function signature) a c formed plain enum h = function_has (AllByRecursion IsFormedObject) k d name b.ctype signature body c formed
entity_formed k b body d name (entity.Scalar t fixed) a c formed plain enum h =
    object_formed k d name (domain_by (declares_pointer d) c.scope b.enumeration a) c formed (scalar t) (is_some body) (scalar_domain b (declares_pointer d) t a c.scope plain enum h)
entity_formed k b body d name (entity.Array t fixed size) a c formed plain enum h =
    let l = sized t (array_size size d.initial) in
    object_formed k d name (domain_by (declares_pointer d) c.scope b.enumeration a) c formed l (is_some body) (array_domain b (declares_pointer d) l a c.scope h)

named_formed : (k : Foreknown) (b : Specified) (body : Option Line) (d : Declarator) (name : Option (List ℕ)) (e : Designated) (c : Contents) → AreFormed c →
    IsPlain b.ctype → IsEnumerated b → IsHeld (IsHolderOf b.ctype (declares_pointer d) e.entity) (IsOf b.ctype) e.attribute → IfGood (named_declarator k b body d name e c) AreFormed
unfolding named_declarator
named_formed k b body d None e c formed plain enum h =
    if_then (λ u. Unit {0}) AreFormed (nameless_values e.entity d.initial c.scope) _ (if_any (nameless_values e.entity d.initial c.scope)) (λ u v. tt)
named_formed k b body d (Some name) e c formed plain enum h = entity_formed k b body d name e.entity e.attribute c formed plain enum h

declarator_formed : (k : Foreknown) (b : Specified) (body : Option Line) (d : Declarator) (c : Contents) → AreFormed c →
    IsPlain b.ctype → IsEnumerated b → IsHeld (MayHold d) (IsOf b.ctype) b.attribute → IfGood (declarator_judgement k b body d c) AreFormed
unfolding declarator_judgement
declarator_formed k b body d c formed plain enum h =
    if_then (λ s. Unit {0}) AreFormed (definition_parameters d body c.scope) _ (if_any (definition_parameters d body c.scope)) (λ s u.
    if_then (λ (e : Scope × Designated). IsHeld (IsHolderOf b.ctype (declares_pointer d) e.1.entity) (IsOf b.ctype) e.1.attribute) AreFormed (file_declarator (base_of k d b) d s) _
    (file_is (base_of k d b) d s h) (λ e g. named_formed k b body d d.name e.1 (in_scope c e.0) formed plain enum g))

-- ---- declarations

-- each declarator may have the attribute of the specifiers
each_holds : (k : Foreknown) (ds : List Declarator) → MayAllHold (holders k ds) → AllByRecursion MayHold ds
each_holds k ds = by (list_any (declares_constant k) ds)
  where
    some : (xs : List Declarator) → MayAllHold xs → AllByRecursion MayHold xs
    some [] h = tt
    some (x ∷ xs) h = h

    by : (b : Bool) → MayAllHold (if b then [] else ds) → AllByRecursion MayHold ds
    by true h = absurd h
    by false h = some ds h

abbrev Holds : Specified → Declarator → Type 0
Holds b d = IsHeld (MayHold d) (IsOf b.ctype) b.attribute

each_held : (k : Foreknown) (ds : List Declarator) (b : Specified) → IsHeld (MayAllHold (holders k ds)) (IsOf b.ctype) b.attribute → AllByRecursion (Holds b) ds
each_held k ds b h = all ds (held_more (MayAllHold (holders k ds)) (AllByRecursion MayHold ds) (IsOf b.ctype) (IsOf b.ctype) (each_holds k ds) (λ v q. q) b.attribute h)
  where
    all : (xs : List Declarator) → IsHeld (AllByRecursion MayHold xs) (IsOf b.ctype) b.attribute → AllByRecursion (Holds b) xs
    all [] g = tt
    all (x ∷ xs) g = (
      held_more (AllByRecursion MayHold (x ∷ xs)) (MayHold x) (IsOf b.ctype) (IsOf b.ctype) (λ q. q.0) (λ v q. q) b.attribute g,
      all xs (held_more (AllByRecursion MayHold (x ∷ xs)) (AllByRecursion MayHold xs) (IsOf b.ctype) (IsOf b.ctype) (λ q. q.1) (λ v q. q) b.attribute g),
    )

abbrev Next : Contents → Contents → Type 0
Next c e = AreFormed c → AreFormed e

declarators_formed : (k : Foreknown) (b : Specified) (body : Option Line) (ds : List Declarator) (c : Contents) → IsPlain b.ctype → IsEnumerated b →
    AllByRecursion (Holds b) ds → IfGood (through (declarator_judgement k b body) ds c) (Next c)
declarators_formed k b body ds c plain enum h =
    if_through (declarator_judgement k b body) Next (Holds b) (λ c f. f) (λ c d e f g h. g (f h))
    (λ d q c. if_given (AreFormed c) AreFormed (declarator_judgement k b body d c) (λ f. declarator_formed k b body d c f plain enum q)) ds h c

names_formed : (k : Foreknown) (b : Specified) (i : Item) (c : Contents) → IsSpecified (holders k i.names) b → IfGood (names_judgement k b i c) (Next c)
names_formed k b i c h =
    if_kept (Next c) (declares_nothing i) (out-Specs i.specs).place 22 (through (declarator_judgement k b i.body) i.names c) (λ q.
    declarators_formed k b i.body i.names c h.plain h.enumeration (each_held k i.names b h.attribute))

item_formed : (k : Foreknown) (i : Item) (c : Contents) → IfGood (item_judgement k i c) (Next c)
unfolding item_judgement
item_formed k i c =
    if_then (λ (d : Scope × Specified). IsSpecified (holders k i.names) d.1) (Next c) (specifiers position.File (holders k i.names) i.specs c.scope) _
    (specifiers_are (holders k i.names) i.specs c.scope) (λ b h. names_formed k b.1 i (in_scope c b.0) h)

-- ---- units

pub items_formed : (k : Foreknown) (items : List Item) → IfGood (through (item_judgement k) items (nothing_declared k)) AreFormed
items_formed k items =
    if_more (Next (nothing_declared k)) AreFormed (through (item_judgement k) items (nothing_declared k)) (λ c f. f tt)
    (if_through (item_judgement k) Next (λ i. Unit {0}) (λ c f. f) (λ c d e f g h. g (f h)) (λ i u c. item_formed k i c) items (each_any items) (nothing_declared k))

main_formed : (place : Place) (pointers : List ℕ) (c : Contents) (main : Option ℕ) → AreFormed c → IfGood (program_or_broken place pointers c main) HasFormedGlobals
main_formed place pointers c None h = tt
main_formed place pointers c (Some main) h = program_formed c pointers main h

end_formed : (place : Place) (pointers : List ℕ) (c : Contents) → AreFormed c → IfGood (program_judgement place pointers c) HasFormedGlobals
unfolding program_judgement
end_formed place pointers c h = main_formed place pointers c _ h

unit_formed : (u : unit.Unit) → IfGood (unit_judgement u) HasFormedGlobals
unfolding unit_judgement
unit_formed u =
    let k : Foreknown = foreknown u.items in
    if_then AreFormed HasFormedGlobals (through (item_judgement k) u.items (nothing_declared k)) _ (items_formed k u.items) (λ c h. end_formed u.end (pointers_of k) c h)

pub globals_formed : GlobalsAreFormed
globals_formed u p q = of_good HasFormedGlobals (unit_judgement u) (unit_formed u) p q
