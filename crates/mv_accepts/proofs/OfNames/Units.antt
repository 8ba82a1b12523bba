-- Contents stay sound through the declarations of a unit.
use Rattle.std.proofs.Common.{◌≡◌, ℕ, refl, sym, ◌∙◌, ap, subst, Bool, true, false, is_some, List, [], ◌∷◌, map, length, Option, Some, None, slice_get}
use Rattle.std.specs.List.{AllByRecursion}
use Rattle.std.proofs.lemmas.List.Elements.{recursion_from_All}
use Rattle.std.proofs.lemmas.List.{length-replicate}
use Rattle.mv_ast.specs.declared.program.CType.{CType}
use Rattle.mv_ast.specs.declared.program.CType.TheVariants.{Pointer}
use Rattle.mv_ast.specs.declared.program.Function.{Function}
use Rattle.mv_ast.specs.declared.program.Signature.{Signature}
use Rattle.mv_syntax.specs.declared.unit.Declarator.{Declarator}
use Rattle.mv_syntax.specs.declared.unit.Item.{Item}
use Rattle.mv_syntax.specs.declared.unit.Line.{Line}
use Rattle.mv_syntax.specs.declared.unit.Param.{Param}
use Rattle.mv_syntax.specs.declared.unit.Shape.{Shape, Shape-F, out-Shape, map-Shape, fold-roll-Shape, roll-out-Shape}
use Rattle.mv_syntax.specs.declared.unit.Shape.TheOpen as shape
use Rattle.mv_syntax.specs.declared.unit.Specs.{out-Specs}
use Rattle.mv_check_scope.specs.declared.meaning.Meaning.{Meaning}
use Rattle.mv_check_scope.specs.declared.scope.Scope.{Scope}
use Rattle.mv_check_expressions.specs.Judged.{Good, and_then}
use Rattle.mv_check_outline.specs.Names.{place_of}
use Rattle.mv_check_outline.specs.Outlined.{is_function, is_function_form, declares_pointer, name_of}
use Rattle.mv_check_declarations.specs.declared.attributes.Attribute.{Attribute}
use Rattle.mv_check_declarations.specs.declared.attributes.Position.TheVariants as position
use Rattle.mv_check_declarations.specs.declared.declarators.Entity.{Entity}
use Rattle.mv_check_declarations.specs.declared.declarators.Entity.TheVariants as entity
use Rattle.mv_check_declarations.specs.declared.globals.Designated.{Designated}
use Rattle.mv_check_declarations.specs.declared.specifiers.Specified.{Specified}
use Rattle.mv_check_declarations.specs.Attributes.{attributes, holder_of}
use Rattle.mv_check_declarations.specs.Declarators.{Shapes, Declarators, Params, function_type, size_of, shape_step, declarator_step, param_step, designated, parameter, parameter_declarator}
use Rattle.mv_check_declarations.specs.Globals.{file_declarator}
use Rattle.mv_check_declarations.specs.Initials.{array_size}
use Rattle.mv_check_declarations.specs.Objects.{scalar, sized}
use Rattle.mv_check_declarations.specs.Parameters.{parameters_judgement}
use Rattle.mv_check_declarations.specs.Specifiers.{scalar_kind, specifiers}
use Rattle.mv_check_declarations.specs.Turns.{through}
use Rattle.mv_accepts.specs.Statements.Bodies.{BodyGrows, ParametersFit}
use Rattle.mv_accepts.proofs.OfStatements.Judging.{IfGood, of_good, by_good, if_any, if_then, if_kept, if_more, if_through}
use Rattle.mv_accepts.proofs.OfStatements.Places.{keeps_same}
use Rattle.mv_accepts.proofs.OfStatements.Specified.{Specifies}
use Rattle.mv_accepts.proofs.OfStatements.Growing.{declares_same, declares_joined}
use Rattle.mv_accepts.proofs.OfStatements.Designated.{Designates, IsListedEntity, shape_designates}
use Rattle.mv_types.specs.declared.contents.Contents.{Contents}
use Rattle.mv_types.specs.declared.contents.Foreknown.{Foreknown}
use Rattle.mv_types.specs.Contents.{in_scope, nothing_declared}
use Rattle.mv_types.specs.Functions.{params_of, params_of_form, body_entered, body_left, definition_parameters}
use Rattle.mv_types.specs.Objects.{domain_by}
use Rattle.mv_types.specs.Units.{by_entity, nameless_values, named_declarator, base_of, declarator_judgement, holders, declares_nothing, names_judgement, item_judgement}
use Rattle.mv_accepts.specs.Names.Declared.{IsSound}
use Rattle.mv_accepts.specs.Names.Defined.{WereDefined}
use Rattle.mv_accepts.proofs.OfNames.Lists.{nothing_there}
use Rattle.mv_accepts.proofs.OfNames.Extending.{To, to_same, to_joined}
use Rattle.mv_accepts.proofs.OfNames.Widening.{Widens, names_same, names_joined, specifiers_widen, widens_sound}
use Rattle.mv_accepts.proofs.OfNames.Objects.{object_sound}
use Rattle.mv_accepts.proofs.OfNames.Functions.{block_widens, function_sound}
use Rattle.mv_accepts.proofs.OfExpressions.Kept.{went_on, same_good}
use Rattle.mv_accepts.proofs.OfExpressions.Plain.{IsPlain}
use Rattle.mv_accepts.specs.Numbers.Numbers.{IsForeknown}
use Rattle.mv_accepts.proofs.OfNumbers.Common.{named_is}

widens_same : (s : Scope) → Widens s s
widens_same s = record { declares = declares_same s; names = names_same s s refl }

widens_joined : (s t u : Scope) → Widens s t → Widens t u → Widens s u
widens_joined s t u g h = record { declares = declares_joined s t u g.declares h.declares; names = names_joined s t u g.names h.names }

-- ---- what a declarator that designates a function says

module _ (t : CType) (fixed : Bool) (s : Scope) (e : Scope) (n : ℕ) where
  abbrev Says : Shape-F Shape Declarator Param → Type 0
  Says y = (is_function_form y ≡ true) × (function_type t (map parameter (params_of_form y)) s ≡ Good (e, n))

  number_in : Entity → ℕ
  number_in (entity.Function m) = m
  number_in (entity.Scalar u f) = 0
  number_in (entity.Array u f size) = 0

  is_number : Entity → Bool
  is_number (entity.Function m) = true
  is_number (entity.Scalar u f) = false
  is_number (entity.Array u f size) = false

  other : (d : Scope × Entity) → is_number d.1 ≡ false → d ≡ (e, entity.Function n) → ⊥
  unfolding is_number
  other d f q = no (sym (ap (λ (z : Scope × Entity). is_number z.1) q) ∙ f)
    where
      no : true ≡ false → ⊥
      no h = absurd (cc)

  step_says : (y : Shape-F Shape Declarator Param) →
      shape_step (map-Shape Shape Declarator Param Shapes Declarators Params designated parameter_declarator parameter y) t fixed s ≡ Good (e, entity.Function n) → Says y
  unfolding number_in is_number
  step_says shape.Plain q = absurd (other (s, entity.Scalar t fixed) refl (same_good (s, entity.Scalar t fixed) (e, entity.Function n) q))
  step_says (shape.Array size) q =
      let m = went_on (size_of s size) (λ z. Good (s, entity.Array t fixed z)) (e, entity.Function n) q in
      absurd (other (s, entity.Array t fixed m.0) refl (same_good (s, entity.Array t fixed m.0) (e, entity.Function n) m.2))
  step_says (shape.Function params) q =
      let m = went_on (function_type t (map parameter params) s) (λ d. Good (d.0, entity.Function d.1)) (e, entity.Function n) q in
      let r = same_good (m.0.0, entity.Function m.0.1) (e, entity.Function n) m.2 in
      (refl, m.1 ∙ ap (λ (z : Scope × Entity). Good (z.0, number_in z.1)) r)
  step_says (shape.Pointer constant params) q =
      let m = went_on (function_type t (map parameter params) s) (λ d. Good (d.0, entity.Scalar (Pointer d.1) constant)) (e, entity.Function n) q in
      absurd (other (m.0.0, entity.Scalar (Pointer m.0.1) constant) refl (same_good _ (e, entity.Function n) m.2))
  step_says (shape.PointerArray constant size params) q =
      let i = went_on (size_of s size) (λ z. and_then (function_type t (map parameter params) s) (λ d. Good (d.0, entity.Array (Pointer d.1) constant z))) (e, entity.Function n) q in
      let m = went_on (function_type t (map parameter params) s) (λ d. Good (d.0, entity.Array (Pointer d.1) constant i.0)) (e, entity.Function n) i.2 in
      absurd (other (m.0.0, entity.Array (Pointer m.0.1) constant i.0) refl (same_good _ (e, entity.Function n) m.2))

  shape_says : (x : Shape) → designated x t fixed s ≡ Good (e, entity.Function n) → Says (out-Shape x)
  shape_says x q =
      step_says (out-Shape x)
      (ap (λ (g : Shapes). g t fixed s) (sym (fold-roll-Shape Shapes Declarators Params shape_step declarator_step param_step (out-Shape x))) ∙
      (ap (λ z. designated z t fixed s) (roll-out-Shape x) ∙ q))

-- ---- a declarator

file_good : (b : Specified) (d : Declarator) (s : Scope) (e : Scope × Designated) → file_declarator b d s ≡ Good e →
    designated d.shape b.ctype b.fixed s ≡ Good (e.0, e.1.entity)
file_good b d s e q =
    let m = went_on (designated d.shape b.ctype b.fixed s) (λ z.
    and_then (attributes (holder_of position.File b.fixed d) (scalar_kind b.ctype) z.0 d.marks b.attribute) (λ a. Good (z.0, record { entity = z.1; attribute = a }))) e q in
    let a = went_on (attributes (holder_of position.File b.fixed d) (scalar_kind b.ctype) m.0.0 d.marks b.attribute) (λ a. Good (m.0.0, record { entity = m.0.1; attribute = a })) e m.2 in
    m.1 ∙ ap (λ (z : Scope × Designated). Good (z.0, z.1.entity)) (same_good (m.0.0, record { entity = m.0.1; attribute = a.0 }) e a.2)

module _ (fit : ParametersFit) (grow : BodyGrows) (k : Foreknown) where
  -- a function that it defines has a number
  abbrev pub Numbered : Declarator → Type 0
  Numbered d = is_function d ≡ true → (g : ℕ) × (place_of (name_of d) k.outline.functions ≡ Some g)

  abbrev pub Known : Option Line → Declarator → Type 0
  Known body d = (line : Line) → body ≡ Some line → Numbered d

  definition_widens : (d : Declarator) (body : Option Line) (s t : Scope) → s.locals ≡ [] → definition_parameters d body s ≡ Good t → Widens s t
  definition_widens d None s t empty q = subst (λ z. Widens s z) (same_good s t q) (widens_same s)
  definition_widens d (Some line) s t empty q =
      let m = went_on (parameters_judgement (body_entered false s) (params_of d)) (λ p. Good (body_left p)) t q in
      subst (λ z. Widens s z) (same_good (body_left m.0) t m.2)
      (block_widens fit grow false s m.0 empty (fit (params_of d) (body_entered false s) m.0 m.1).grows)

  entity_sound : (b : Specified) (fixed : Bool) (body : Option Line) (d : Declarator) (name : List ℕ) (e : Entity) (a : Option Attribute) (s : Scope) (c : Contents) →
      designated d.shape b.ctype fixed s ≡ Good (c.scope, e) → IsListedEntity c.scope.signatures e → d.name ≡ Some name → Known body d →
      IfGood (by_entity k b body d name e a c) (To k c)
  entity_sound b fixed body d name (entity.Scalar t f) a s c q listed named known =
      object_sound k d name (scalar t) (domain_by (declares_pointer d) c.scope b.enumeration a) (is_some body) c listed
  entity_sound b fixed body d name (entity.Array t f size) a s c q listed named known =
      object_sound k d name (sized t (array_size size d.initial)) (domain_by (declares_pointer d) c.scope b.enumeration a) (is_some body) c listed
  entity_sound b fixed body d name (entity.Function n) a s c q listed named known =
      let says = shape_says b.ctype fixed s c.scope n d.shape q in
      function_sound fit grow k d name b.ctype n c
      (record { scope = s; given = (c.scope, n); judged = says.1; number = refl; kept = keeps_same c.scope.signatures }) body
      (λ line r. subst (λ (z : List ℕ). (g : ℕ) × (place_of z k.outline.functions ≡ Some g)) (named_is d name named) (known line r says.0))

  named_sound : (b : Specified) (fixed : Bool) (body : Option Line) (d : Declarator) (name : Option (List ℕ)) (e : Designated) (s : Scope) (c : Contents) →
      designated d.shape b.ctype fixed s ≡ Good (c.scope, e.entity) → IsListedEntity c.scope.signatures e.entity → d.name ≡ name → Known body d →
      IfGood (named_declarator k b body d name e c) (To k c)
  unfolding named_declarator
  named_sound b fixed body d None e s c q listed named known =
      if_then (λ u. Unit {0}) (To k c) (nameless_values e.entity d.initial c.scope) _ (if_any (nameless_values e.entity d.initial c.scope)) (λ u v. tt)
  named_sound b fixed body d (Some name) e s c q listed named known = entity_sound b fixed body d name e.entity e.attribute s c q listed named known

  pub declarator_sound : (b : Specified) → IsPlain b.ctype → (body : Option Line) (d : Declarator) → Known body d → (c : Contents) →
      IfGood (declarator_judgement k b body d c) (To k c)
  unfolding declarator_judgement
  declarator_sound b plain body d known c = by_good (To k c) (declarator_judgement k b body d c) (λ after q s.
      let f : Bool = (base_of k d b).fixed in
      let m = went_on (definition_parameters d body c.scope) (λ t. and_then (file_declarator (base_of k d b) d t) (λ e. named_declarator k b body d d.name e.1 (in_scope c e.0))) after q in
      let e = went_on (file_declarator (base_of k d b) d m.0) (λ e. named_declarator k b body d d.name e.1 (in_scope c e.0)) after m.2 in
      let g = file_good (base_of k d b) d m.0 e.0 e.1 in
      let z = of_good (Designates m.0) (designated d.shape b.ctype f m.0) (shape_designates d.shape b.ctype f m.0 plain) (e.0.0, e.0.1.entity) g in
      let w = widens_joined c.scope m.0 e.0.0 (definition_widens d body c.scope m.0 s.locals m.1) (record { declares = z.declares; names = names_same m.0 e.0.0 z.names }) in
      let rest = of_good (To k (in_scope c e.0.0)) (named_declarator k b body d d.name e.0.1 (in_scope c e.0.0))
      (named_sound b f body d d.name e.0.1 m.0 (in_scope c e.0.0) g z.listed refl known) after e.2 in
      to_joined k c (in_scope c e.0.0) after (λ t. widens_sound k c e.0.0 w t) rest s)

  -- ---- an item

  pub spread : (body : Option Line) (ds : List Declarator) → ((line : Line) → body ≡ Some line → AllByRecursion Numbered ds) → AllByRecursion (Known body) ds
  spread body [] h = tt
  spread body (d ∷ ds) h = (λ line q. (h line q).0, spread body ds (λ line q. (h line q).1))

  -- a relation of contents that wider scopes and declarators keep
  module _ (R : Contents → Contents → Type 0) (same : (c : Contents) → R c c) (joined : (b c d : Contents) → R b c → R c d → R b d)
      (widened : (c : Contents) (t : Scope) → Widens c.scope t → R c (in_scope c t))
      (declarator : (b : Specified) → IsPlain b.ctype → (body : Option Line) (d : Declarator) → Known body d → (c : Contents) → IfGood (declarator_judgement k b body d c) (R c)) where
    names_keep : (b : Specified) → IsPlain b.ctype → (i : Item) → IsForeknown k i → (c : Contents) → IfGood (names_judgement k b i c) (R c)
    names_keep b plain i h c =
        if_kept (R c) (declares_nothing i) (out-Specs i.specs).place 22 (through (declarator_judgement k b i.body) i.names c) (λ q.
        if_through (declarator_judgement k b i.body) R (Known i.body) same joined (λ d known t. declarator b plain i.body d known t) i.names
        (spread i.body i.names (λ line r. recursion_from_All Numbered i.names (h line r))) c)

    pub item_keeps : (i : Item) → IsForeknown k i → (c : Contents) → IfGood (item_judgement k i c) (R c)
    unfolding item_judgement
    item_keeps i h c =
        if_then (λ d. Widens c.scope d.0 × Specifies c.scope d) (R c) (specifiers position.File (holders k i.names) i.specs c.scope) _
        (specifiers_widen position.File (holders k i.names) i.specs c.scope) (λ b w.
        if_more (R (in_scope c b.0)) (R c) (names_judgement k b.1 i (in_scope c b.0)) (λ after t. joined c (in_scope c b.0) after (widened c b.0 w.0) t)
        (names_keep b.1 w.1.plain i h (in_scope c b.0)))

    pub items_keep : (is : List Item) → AllByRecursion (IsForeknown k) is → (c : Contents) → IfGood (through (item_judgement k) is c) (R c)
    items_keep is h c = if_through (item_judgement k) R (IsForeknown k) same joined (λ i g t. item_keeps i g t) is h c

  pub item_sound : (i : Item) → IsForeknown k i → (c : Contents) → IfGood (item_judgement k i c) (To k c)
  item_sound = item_keeps (To k) (to_same k) (to_joined k) (widens_sound k) declarator_sound

  pub items_sound : (is : List Item) → AllByRecursion (IsForeknown k) is → (c : Contents) → IfGood (through (item_judgement k) is c) (To k c)
  items_sound = items_keep (To k) (to_same k) (to_joined k) (widens_sound k) declarator_sound

-- ---- the start

none_defined : (k : Foreknown) (g : ℕ) (f : Function) → slice_get (nothing_declared k).functions g ≡ Some (Some f) → ⊥
none_defined k g f q = nothing_there (length k.outline.functions) g f q

pub sound_start : (k : Foreknown) → IsSound k (nothing_declared k)
sound_start k = record {
  around = refl;
  locals = refl;
  results = λ n s q. absurd (no_signature n s q);
  count = length-replicate (length k.outline.functions) None;
  names = λ name m q. absurd (no_name m q);
  functions = λ g f q. absurd (none_defined k g f q);
}
  where
    no_signature : (n : ℕ) (s : Signature) → slice_get [] n ≡ Some s → ⊥
    no_signature n s q = absurd (cc)

    no_name : (m : Meaning) → None ≡ Some m → ⊥
    no_name m q = absurd (cc)

pub defined_start : (k : Foreknown) → WereDefined k (nothing_declared k)
defined_start k g f q = absurd (none_defined k g f q)
