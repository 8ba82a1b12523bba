-- Declarators at file scope agree, and what an attribute among specifiers stands on.
use Rattle.std.proofs.Common.{◌≡◌, ℕ, refl, sym, ◌∙◌, ap, Bool, true, false, ◌&&◌, ◌||◌, not, is_some, unwrap_or, if◌then◌else◌, Option, Some, None, List, [], ◌∷◌, map, fold, slice_get}
use Rattle.std.proofs.lemmas.Bool.{or_parts, true≢false}
use Rattle.std.specs.List.{list_any}
use Rattle.mv_num.specs.declared.kind.Kind.{Kind}
use Rattle.mv_syntax.specs.declared.place.Place.{Place}
use Rattle.mv_ast.specs.declared.program.CType.TheVariants as ctype
use Rattle.mv_syntax.specs.declared.unit.Declarator.{Declarator}
use Rattle.mv_syntax.specs.declared.unit.Item.{Item}
use Rattle.mv_syntax.specs.declared.unit.Line.{Line}
use Rattle.mv_syntax.specs.declared.unit.Shape.{Shape-F, out-Shape}
use Rattle.mv_syntax.specs.declared.unit.Shape.TheOpen as shape
use Rattle.mv_check_scope.specs.declared.scope.Scope.{Scope}
use Rattle.mv_check_scope.specs.Domains.{distinct_behind}
use Rattle.mv_check_expressions.specs.Judged.{Judged, Good, Broken, and_then}
use Rattle.mv_check_expressions.specs.Judgements.{value_judgement}
use Rattle.mv_check_outline.specs.Outlined.{is_function_form, declares_pointer, name_of}
use Rattle.mv_check_declarations.specs.declared.attributes.Attribute.{Attribute}
use Rattle.mv_check_declarations.specs.declared.attributes.Holder.{Holder}
use Rattle.mv_check_declarations.specs.declared.attributes.Position.TheVariants as position
use Rattle.mv_check_declarations.specs.declared.declarators.Entity.{Entity}
use Rattle.mv_check_declarations.specs.declared.declarators.Entity.TheVariants as entity
use Rattle.mv_check_declarations.specs.declared.globals.Designated.{Designated}
use Rattle.mv_check_declarations.specs.declared.specifiers.Specified.{Specified}
use Rattle.mv_check_declarations.specs.Attributes.{is_constant_form}
use Rattle.mv_check_declarations.specs.Attributes as code_attributes
use Rattle.mv_check_declarations.specs.Declarators.{designated}
use Rattle.mv_check_declarations.specs.Globals as code_globals
use Rattle.mv_check_declarations.specs.Initials as code_initials
use Rattle.mv_check_declarations.specs.Objects as code_objects
use Rattle.mv_check_declarations.specs.ValueSets.{with_member}
use Rattle.mv_types.specs.declared.contents.Contents.{Contents}
use Rattle.mv_types.specs.Contents.{in_scope}
use Rattle.mv_types.specs.Foreknown.{foreknown}
use Rattle.mv_types.specs.Objects as code_types
use Rattle.mv_types.specs.Objects.{object_judgement}
use Rattle.mv_types.specs.Units as code
use Rattle.mv_types.specs.Units.{named_declarator, declarator_judgement}
use Rattle.mv_check_rules.specs.Nodes.{Declared, Bearer, Given}
use Rattle.mv_check_rules.specs.Nodes as node
use Rattle.mv_check_rules.specs.Rules.{bears_none, is_empty, concluded}
use Rattle.mv_check_rules.specs.Declarations.{attributes, is_switch, given}
use Rattle.mv_check_rules.specs.Units.{Declarations, behind, is_constant_object, bearer_of_form, is_main, bearer, bearers, constant_expression, distinct, default_domain, domain, by_name, declarator}
use Rattle.mv_check_rules.proofs.Agreement.{mapped, over, attribution_of, declared_of, base_of_specified, holder, ParametersAgree, BodyAgrees}
use Rattle.mv_check_rules.proofs.Attributes.{attributes_agree}
use Rattle.mv_check_rules.proofs.Bases.{holders_agree}
use Rattle.mv_check_rules.proofs.Parts.{then_to}
use Rattle.mv_check_rules.proofs.Shapes.{declared_agrees}
use Rattle.mv_check_rules.proofs.Program.{contents_of}
use Rattle.mv_check_rules.proofs.Values.{converted_of, initial_agrees, words_of, words_agree}
use Rattle.mv_check_rules.proofs.Routines.{defined_parameters_agree, routine_agrees}
use Rattle.mv_check_rules.proofs.Objects.{scalar_agrees, array_agrees}
use Rattle.mv_num.proofs.Booleans.{or_true}
use Rattle.mv_check_declarations.specs.Specifiers.{scalar_kind}

-- ---- what an attribute stands on

main_same : (name : Option (List ℕ)) → code_attributes.is_main name ≡ is_main name
main_same None = refl
main_same (Some name) = refl

held_by_form : {A B C : Type 0} (constant : Bool) (name : Option (List ℕ)) (main : Bool) → code_attributes.is_main name ≡ main → (x : Shape-F A B C) →
    code_attributes.shape_holder constant name x ≡ holder (bearer_of_form main constant x ∷ [])
held_by_form true name main e shape.Plain = refl
held_by_form false name main e shape.Plain = refl
held_by_form constant name main e (shape.Array size) = refl
held_by_form constant name main e (shape.Function params) = ap (λ m. record { plainly = not m; with_values = false }) e ∙ by main
  where
    by : (m : Bool) → record { plainly = not m; with_values = false } ≡ holder ((if m then node.Main else node.Function) ∷ [])
    by true = refl
    by false = refl
held_by_form true name main e (shape.Pointer fixed params) = refl
held_by_form false name main e (shape.Pointer fixed params) = refl
held_by_form constant name main e (shape.PointerArray fixed size params) = refl

pub held_by : (constant : Bool) (d : Declarator) → code_attributes.holder_of position.File constant d ≡ holder (bearer constant d ∷ [])
held_by constant d = held_by_form constant d.name (is_main d.name) (main_same d.name) (out-Shape d.shape)

-- a form of which `const` says nothing bears the same with it
same_by_form : {A B C : Type 0} (main fixed constant : Bool) (x : Shape-F A B C) → (not (is_function_form x) && constant) ≡ false →
    bearer_of_form main fixed x ≡ bearer_of_form main (fixed || constant) x
same_by_form main true constant shape.Plain h = refl
same_by_form main false constant shape.Plain h = ap (λ b. if b then node.ConstantObject else node.Switch) (sym h)
same_by_form main fixed constant (shape.Array size) h = refl
same_by_form main fixed constant (shape.Function params) h = refl
same_by_form main true constant (shape.Pointer own params) h = refl
same_by_form main false constant (shape.Pointer own params) h = ap (λ b. if b then node.ConstantObject else node.PointerSwitch) (sym h)
same_by_form main fixed constant (shape.PointerArray own size params) h = refl

abbrev Barred : Bearer → Type 0
Barred b = (bears_none b ≡ true) × (not (is_switch b) ≡ true)

barred_by_form : {A B C : Type 0} (main fixed constant : Bool) (x : Shape-F A B C) → (not (is_function_form x) && constant) ≡ true →
    Barred (bearer_of_form main (fixed || constant) x)
barred_by_form main true constant shape.Plain h = (refl, refl)
barred_by_form main false true shape.Plain h = (refl, refl)
barred_by_form main false false shape.Plain h = absurd (true≢false (sym h))
barred_by_form main fixed constant (shape.Array size) h = (refl, refl)
barred_by_form main fixed constant (shape.Function params) h = absurd (true≢false (sym h))
barred_by_form main true constant (shape.Pointer own params) h = (refl, refl)
barred_by_form main false true (shape.Pointer own params) h = (refl, refl)
barred_by_form main false false (shape.Pointer own params) h = absurd (true≢false (sym h))
barred_by_form main fixed constant (shape.PointerArray own size params) h = (refl, refl)

module _ (items : List Item) (fixed : Bool) where
  abbrev constant : Declarator → Bool
  constant = code.declares_constant (foreknown items)

  -- by the declaration itself
  abbrev own : Declarator → Bool
  own d = is_constant_form fixed (out-Shape d.shape)

  abbrev own_bearer : Declarator → Bearer
  own_bearer d = bearer (own d) d

  same_bearers : (ds : List Declarator) → list_any constant ds ≡ false → map own_bearer ds ≡ bearers items fixed ds
  unfolding foreknown
  same_bearers [] h = refl
  same_bearers (d ∷ ds) h =
      ap (λ b. b ∷ map own_bearer ds)
      (same_by_form (is_main d.name) (own d) (is_constant_object items (name_of d)) (out-Shape d.shape) (or_parts (constant d) (list_any constant ds) h).0) ∙
      ap (λ (bs : List Bearer). bearer (own d || is_constant_object items (name_of d)) d ∷ bs) (same_bearers ds (or_parts (constant d) (list_any constant ds) h).1)

  barred : (ds : List Declarator) → list_any constant ds ≡ true →
      (list_any bears_none (bearers items fixed ds) ≡ true) × (list_any (λ b. not (is_switch b)) (bearers items fixed ds) ≡ true)
  unfolding foreknown
  barred [] h = absurd (true≢false (sym h))
  barred (d ∷ ds) h = by (constant d) refl h (barred ds)
    where
      by : (b : Bool) → constant d ≡ b → (b || list_any constant ds) ≡ true →
          (list_any constant ds ≡ true → (list_any bears_none (bearers items fixed ds) ≡ true) × (list_any (λ b. not (is_switch b)) (bearers items fixed ds) ≡ true)) →
          (list_any bears_none (bearers items fixed (d ∷ ds)) ≡ true) × (list_any (λ b. not (is_switch b)) (bearers items fixed (d ∷ ds)) ≡ true)
      by true e h rest =
          let x = barred_by_form (is_main d.name) (own d) (is_constant_object items (name_of d)) (out-Shape d.shape) e in
          (ap (λ a. a || list_any bears_none (bearers items fixed ds)) x.0, ap (λ a. a || list_any (λ b. not (is_switch b)) (bearers items fixed ds)) x.1)
      by false e h rest =
          let x = rest h in (
            ap (λ a. bears_none (bearer (own d || is_constant_object items (name_of d)) d) || a) x.0 ∙ or_true (bears_none (bearer (own d || is_constant_object items (name_of d)) d)),
            ap (λ a. not (is_switch (bearer (own d || is_constant_object items (name_of d)) d)) || a) x.1 ∙ or_true (not (is_switch (bearer (own d || is_constant_object items (name_of d)) d))),
          )

  pub held_by_all : (ds : List Declarator) → code_attributes.holder_of_all position.File fixed (code.holders (foreknown items) ds) ≡ holder (bearers items fixed ds)
  held_by_all ds = by (list_any constant ds) refl
    where
      by : (b : Bool) → list_any constant ds ≡ b → code_attributes.holder_of_all position.File fixed (if b then [] else ds) ≡ holder (bearers items fixed ds)
      by true e =
          let x = barred ds e in
          λ i. record {
            plainly = not ((sym (or_true (is_empty (bearers items fixed ds))) ∙ ap (λ a. is_empty (bearers items fixed ds) || a) (sym x.0)) i);
            with_values = not ((sym (or_true (is_empty (bearers items fixed ds))) ∙ ap (λ a. is_empty (bearers items fixed ds) || a) (sym x.1)) i);
          }
      by false e = holders_agree position.File fixed own_bearer (λ d. held_by (own d) d) ds ∙ ap holder (same_bearers ds e)

-- ---- domains

distinct_same : (done values : List ℕ) → distinct_behind done values ≡ fold with_member done values
distinct_same done [] = refl
distinct_same done (v ∷ vs) = distinct_same (with_member done v) vs

default_same : (s : Scope) (enumeration : Option ℕ) → code_globals.default_domain s enumeration ≡ default_domain s enumeration
default_same s None = refl
default_same s (Some n) = by (slice_get s.enumerations n)
  where
    by : (values : Option (List ℕ)) → code_globals.values_of_enumeration values ≡ distinct (unwrap_or values [])
    by None = refl
    by (Some vs) = distinct_same [] vs

domain_same : (pointer : Bool) (s : Scope) (enumeration : Option ℕ) (a : Option Attribute) →
    code_types.domain_by pointer s enumeration a ≡ domain pointer s enumeration (attribution_of a)
domain_same true s enumeration a = refl
domain_same false s enumeration None = refl
domain_same false s enumeration (Some a) = by a.values
  where
    by : (values : Option (List ℕ)) → Some (code_globals.domain_or values (code_globals.default_domain s enumeration)) ≡ Some (unwrap_or values (default_domain s enumeration))
    by None = ap Some (default_same s enumeration)
    by (Some vs) = refl

-- ---- declarators

nameless_same : {X : Type 0} (place : Place) (s : Scope) (c : Declarations) (f : Given → X) (j : Judged Given) →
    and_then (and_then (mapped f j) (λ x. Good tt)) (λ (done : Unit {0}). Broken place 22) ≡ mapped contents_of (and_then j (λ g. concluded place s node.Nameless c))
nameless_same place s c f (Good g) = refl
nameless_same place s c f (Broken at rule) = refl

module _ (parameters_agree : ParametersAgree) (body_agrees : BodyAgrees) (items : List Item) (b : Specified) (body : Option Line) (d : Declarator) where
  named_agrees : (name : Option (List ℕ)) (e : Entity) (a : Option Attribute) (c : Declarations) →
      named_declarator (foreknown items) b body d name (record { entity = e; attribute = a }) (contents_of c) ≡
      mapped contents_of (by_name items (base_of_specified b) (attribution_of a) body d (declared_of e) name c)
  unfolding named_declarator
  named_agrees None (entity.Function signature) a c =
      ap (λ j. and_then (and_then j (λ x. Good tt)) (λ (done : Unit {0}). Broken d.place 22)) (initial_agrees ctype.Void d.initial c.scope) ∙
      nameless_same d.place c.scope c (converted_of ctype.Void) (given value_judgement d.initial c.scope)
  named_agrees None (entity.Scalar t fixed) a c =
      let l = code_objects.scalar t in
      ap (λ j. and_then (and_then j (λ x. Good tt)) (λ (done : Unit {0}). Broken d.place 22)) (words_agree l d.initial c.scope) ∙
      nameless_same d.place c.scope c (words_of l) (given constant_expression d.initial c.scope)
  named_agrees None (entity.Array t fixed size) a c =
      let l = code_objects.sized t (code_initials.array_size size d.initial) in
      ap (λ j. and_then (and_then j (λ x. Good tt)) (λ (done : Unit {0}). Broken d.place 22)) (words_agree l d.initial c.scope) ∙
      nameless_same d.place c.scope c (words_of l) (given constant_expression d.initial c.scope)
  named_agrees (Some name) (entity.Function signature) a c = routine_agrees parameters_agree body_agrees items d name b.ctype signature body c
  named_agrees (Some name) (entity.Scalar t fixed) a c =
      ap (λ values. object_judgement (foreknown items) d name (code_objects.scalar t) values (is_some body) (contents_of c)) (domain_same (declares_pointer d) c.scope b.enumeration a) ∙
      scalar_agrees items d name (domain (declares_pointer d) c.scope b.enumeration (attribution_of a)) (is_some body) c t fixed
  named_agrees (Some name) (entity.Array t fixed size) a c =
      ap (λ values. object_judgement (foreknown items) d name (code_objects.sized t (code_initials.array_size size d.initial)) values (is_some body) (contents_of c))
      (domain_same (declares_pointer d) c.scope b.enumeration a) ∙
      array_agrees items d name (domain (declares_pointer d) c.scope b.enumeration (attribution_of a)) (is_some body) c t fixed size

  abbrev constant_here : Bool
  constant_here = is_constant_object items (name_of d)

  module _ (c : Declarations) where
    abbrev rest : Scope × Designated → Judged Contents
    rest e = named_declarator (foreknown items) b body d d.name e.1 (in_scope (contents_of c) e.0)

    abbrev next : Scope × Declared → Judged Declarations
    next e =
        and_then (attributes (bearer constant_here d ∷ []) (scalar_kind b.ctype) e.0 d.marks (attribution_of b.attribute)) (λ a.
        by_name items (base_of_specified b) a body d e.1 d.name (behind e.0 c))

    by_attribute : (s : Scope) (e : Entity) (j : Judged (Option Attribute)) →
        and_then (and_then j (λ a. Good (s, record { entity = e; attribute = a }))) rest ≡
        mapped contents_of (and_then (mapped attribution_of j) (λ a. by_name items (base_of_specified b) a body d (declared_of e) d.name (behind s c)))
    by_attribute s e (Good a) = named_agrees d.name e a (behind s c)
    by_attribute s e (Broken place rule) = refl

    abbrev marked : Scope → Holder → Option Kind → Judged (Option Attribute)
    marked s h k = code_attributes.attributes h k s d.marks b.attribute

    by_shape : (j : Judged (Scope × Entity)) →
        and_then (and_then j (λ e. and_then (marked e.0 (code_attributes.holder_of position.File constant_here d) (scalar_kind b.ctype)) (λ a.
        Good (e.0, record { entity = e.1; attribute = a })))) rest ≡
        mapped contents_of (and_then (mapped (over declared_of) j) next)
    by_shape (Broken place rule) = refl
    by_shape (Good e) =
        ap (λ h. and_then (and_then (marked e.0 h (scalar_kind b.ctype)) (λ a. Good (e.0, record { entity = e.1; attribute = a }))) rest) (held_by constant_here d) ∙
        (by_attribute e.0 e.1 (marked e.0 (holder (bearer constant_here d ∷ [])) (scalar_kind b.ctype)) ∙
        ap (λ j. mapped contents_of (and_then j (λ a. by_name items (base_of_specified b) a body d (declared_of e.1) d.name (behind e.0 c))))
        (sym (attributes_agree (bearer constant_here d ∷ []) (scalar_kind b.ctype) e.0 d.marks b.attribute)))

    pub declarator_agrees : declarator_judgement (foreknown items) b body d (contents_of c) ≡ mapped contents_of (declarator items (base_of_specified b) body d c)
    unfolding declarator_judgement foreknown
    declarator_agrees =
        then_to contents_of _ _
        (λ s. by_shape (designated d.shape b.ctype constant_here s) ∙
        ap (λ j. mapped contents_of (and_then j next)) (sym (declared_agrees d.shape b.ctype constant_here s)))
        _ _ (defined_parameters_agree parameters_agree d body c.scope)
