-- The objects of a unit through its items.
use Rattle.std.proofs.Common.{◌≡◌, ℕ, refl, sym, ◌∙◌, ap, ap₂, subst, Bool, true, false, ◌&&◌, ◌||◌, not, is_some, if◌then◌else◌, List, [], ◌∷◌, ◌++◌, length, Option, Some, None, slice_get}
use Rattle.std.specs.Prelude.{slice_set}
use Rattle.std.proofs.Math.Bool.{or_comm}
use Rattle.std.proofs.lemmas.Bool.{and_parts}
use Rattle.std.proofs.lemmas.Option.{same_Some}
use Rattle.std.proofs.lemmas.Bool.{not-false}
use Rattle.std.specs.List.{AllByRecursion}
use Rattle.std.proofs.lemmas.List.{append-nil}
use Rattle.mv_ast.specs.declared.program.CType.{CType}
use Rattle.mv_ast.specs.declared.program.CType.TheVariants.{Pointer}
use Rattle.mv_ast.specs.declared.program.Known.{Known}
use Rattle.mv_ast.specs.declared.program.Local.{Local}
use Rattle.mv_syntax.specs.declared.unit.Declarator.{Declarator}
use Rattle.mv_syntax.specs.declared.unit.Item.{Item}
use Rattle.mv_syntax.specs.declared.unit.Line.{Line}
use Rattle.mv_syntax.specs.declared.unit.Param.{Param}
use Rattle.mv_syntax.specs.declared.unit.Specs.{out-Specs}
use Rattle.mv_check_scope.specs.declared.meaning.Meaning.{Meaning}
use Rattle.mv_check_scope.specs.declared.scope.Scope.{Scope}
use Rattle.mv_check_scope.specs.Spaces.{named}
use Rattle.mv_check_scope.specs.Conversions.{same_type}
use Rattle.mv_check_outline.specs.declared.outline.Wanted.{Wanted}
use Rattle.mv_check_outline.specs.declared.outline.Wanted.TheVariants as wanted
use Rattle.mv_check_outline.specs.Outlined.{is_function, is_filled, is_marked, is_wanted, declares_pointer, name_of, all_names}
use Rattle.mv_check_declarations.specs.declared.attributes.Attribute.{Attribute}
use Rattle.mv_check_declarations.specs.declared.attributes.Position.TheVariants as position
use Rattle.mv_check_declarations.specs.declared.declarators.Entity.{Entity}
use Rattle.mv_check_declarations.specs.declared.declarators.Entity.TheVariants as entity
use Rattle.mv_check_declarations.specs.declared.globals.Designated.{Designated}
use Rattle.mv_check_declarations.specs.declared.specifiers.Specified.{Specified}
use Rattle.mv_check_declarations.specs.Attributes.{attributes, holder_of}
use Rattle.mv_check_declarations.specs.Declarators.{designated}
use Rattle.mv_check_declarations.specs.Globals.{file_declarator, global_words}
use Rattle.mv_check_declarations.specs.Initials.{array_size, plain_values}
use Rattle.mv_check_declarations.specs.Objects.{scalar, sized, least}
use Rattle.mv_check_declarations.specs.Parameters.{parameters_judgement}
use Rattle.mv_check_declarations.specs.Specifiers.{specifiers, scalar_kind}
use Rattle.mv_check_declarations.specs.Turns.{through}
use Rattle.mv_check_statements.specs.Statements.{body_judgement}
use Rattle.mv_accepts.specs.Statements.Bodies.{BodyGrows, ParametersFit}
use Rattle.mv_accepts.proofs.OfStatements.Judging.{IfGood, if_any, if_then, if_more, if_both, by_good}
use Rattle.mv_accepts.proofs.OfStatements.Designated.{Designates, shape_designates}
use Rattle.mv_accepts.proofs.OfStatements.Names.{left_is}
use Rattle.mv_accepts.proofs.OfStatements.Specified.{Specifies, specifiers_specify}
use Rattle.mv_types.specs.declared.contents.Contents.{Contents}
use Rattle.mv_types.specs.declared.contents.Foreknown.{Foreknown}
use Rattle.mv_types.specs.declared.contents.Object.{Object}
use Rattle.mv_types.specs.declared.functions.Before.{Before}
use Rattle.mv_types.specs.Contents.{nothing_declared, in_scope}
use Rattle.mv_types.specs.Foreknown.{is_attributed}
use Rattle.mv_types.specs.Functions.{function_meaning, function_scope, params_of, body_entered, definition_parameters, function_of, defined, before_of, rule_of, function_judgement}
use Rattle.mv_types.specs.Objects.{number_of, object_at, same_size, same_domain, agrees, agrees_with, may_declare, breaches, object_words, object_meaning, object_scope, new_object, again, replaced, objects_again, objects_behind, domain_by, object_behind, object_judgement}
use Rattle.mv_types.specs.Units.{by_entity, nameless_values, named_declarator, base_of, declarator_judgement, holders, item_judgement}
use Rattle.mv_accepts.proofs.OfNumbers.Designated.{is_function_entity, file_alike, IsPointerEntity, file_pointed, no_function}
use Rattle.mv_accepts.proofs.OfStatements.Unbroken.{unbroken}
use Rattle.mv_accepts.proofs.OfStatements.Unbroken.{if_unbroken as object_unbroken}
use Rattle.mv_accepts.proofs.OfNumbers.Functions.{if_unbroken}
use Rattle.mv_accepts.proofs.OfNumbers.Items.{one, items_done}
use Rattle.mv_accepts.proofs.OfNumbers.Marks.{specifiers_marked, file_marked}
use Rattle.mv_accepts.proofs.OfNumbers.Objects.{AreObjects, no_objects, others_added, if_marked, either_some, one_new, one_again}
use Rattle.mv_accepts.proofs.OfNumbers.Spaces.{here, AddsTo, adds_same, adds_joined, adds_one, adds_nothing, specifiers_add}
use Rattle.mv_accepts.proofs.OfNumbers.NameLists.{or_nothing}
use Rattle.mv_accepts.proofs.OfExpressions.Plain.{IsPlain}

-- ---- what a declaration of an object may be

words_allowed : (d : Declarator) (before : Option Meaning) (objects : List Object) (l : Local) (domain : Option (List ℕ)) (block : Bool) (s : Scope) →
    IfGood (object_words d before objects l domain block s) (λ words. may_declare before objects l (is_some d.initial) domain ≡ true)
words_allowed d before objects l domain block s =
    let May : List ℕ → Type 0 = λ words. may_declare before objects l (is_some d.initial) domain ≡ true in
    if_then (λ x. Unit {0}) May (global_words l d.initial s) _ (if_any (global_words l d.initial s)) (λ x u.
    let b = breaches before objects l d.initial x domain block in
    object_unbroken May d.place (least b) x.words (λ q. not-false (may_declare before objects l (is_some d.initial) domain) (unbroken b q).redeclared))

-- an object that is declared once more
abbrev IsKnown : List Object → Meaning → Local → (given : Bool) → Option (List ℕ) → Type 0
IsKnown objects m l given domain = (n : ℕ) × (o : Object) × (number_of m ≡ Some n) × (slice_get objects n ≡ Some o) × (agrees o l given domain ≡ true)

known_object : (objects : List Object) (m : Meaning) (l : Local) (given : Bool) (domain : Option (List ℕ)) → may_declare (Some m) objects l given domain ≡ true →
    IsKnown objects m l given domain
known_object objects m l given domain = by (number_of m) refl
  where
    at : (n : ℕ) → number_of m ≡ Some n → (y : Option Object) → slice_get objects n ≡ y → agrees_with y l given domain ≡ true → IsKnown objects m l given domain
    at n e None u r = absurd (cc)
    at n e (Some o) u r = (n, o, e, u, r)

    by : (x : Option ℕ) → number_of m ≡ x → agrees_with (object_at objects x) l given domain ≡ true → IsKnown objects m l given domain
    by None e q = absurd (cc)
    by (Some n) e q = at n e (slice_get objects n) refl q

replaced_is : (objects : List Object) (m : Meaning) (n : ℕ) (o : Object) (words : List ℕ) (given : Bool) (domain : Option (List ℕ)) → number_of m ≡ Some n →
    slice_get objects n ≡ Some o → objects_again objects (number_of m) words given domain ≡ slice_set objects n (again o words given domain)
replaced_is objects m n o words given domain p q =
    ap (λ x. objects_again objects x words given domain) p ∙ ap (λ y. replaced objects n y words given domain) q

number_is : (k : Foreknown) (name : List ℕ) (n : ℕ) (l : Local) (size : Option ℕ) → number_of (object_meaning k name n l size) ≡ Some n
number_is k name n l None = refl
number_is k name n l (Some size) = refl

-- What being marked or not says of an object is so where a declarator makes the object, and stays so where one more says of it what goes with it.
record Marks (R : Object → Bool → Type 0) (l : Local) (given : Bool) (domain : Option (List ℕ)) (mark : Bool) : Type 0 where
  first : (name words : List ℕ) → R (new_object name l words given domain) mark
  later : (o : Object) (words : List ℕ) → agrees o l given domain ≡ true → (b : Bool) → R o b → R (again o words given domain) (b || mark)

every : (items : List Item) → AllByRecursion (λ i. AllByRecursion (λ d. Unit {0}) i.names) items
every [] = tt
every (i ∷ is) = (each i.names, every is)
  where
    each : (ds : List Declarator) → AllByRecursion (λ d. Unit {0}) ds
    each [] = tt
    each (d ∷ ds) = (tt, each ds)

module _ (R : Object → Bool → Type 0) (k : Foreknown) (bodies : BodyGrows) (fit : ParametersFit) where
  abbrev pub Of : List (List ℕ) → List (List ℕ) → Contents → Type 0
  Of xs ys c = AreObjects R xs ys (here c.scope) c.objects

  -- ---- functions

  parameters_around : (params : List Param) (s : Scope) → IfGood (parameters_judgement s params) (λ p. p.names.around ≡ s.names.around)
  parameters_around params s = by_good (λ p. p.names.around ≡ s.names.around) (parameters_judgement s params) (λ p q. (fit params s p q).grows.around)

  function_left : (name : List ℕ) (result : CType) (params : List Param) (body : Line) (s : Scope) → IfGood (function_of k name result params body s) (λ f. f.0.names ≡ s.names)
  function_left name result params body s =
      let inner : Scope = body_entered (is_attributed k name) s in
      if_then (λ p. p.names.around ≡ inner.names.around) (λ f. f.0.names ≡ s.names) (parameters_judgement inner params) _ (parameters_around params inner) (λ p a.
      if_then (λ b. b.0.names.around ≡ p.names.around) (λ f. f.0.names ≡ s.names) (body_judgement result body p) _
      (by_good (λ b. b.0.names.around ≡ p.names.around) (body_judgement result body p) (λ b q. (bodies result body p b.0 b.1 q).around)) (λ b g.
      left_is s.names b.0.names (g ∙ a)))

  parameters_left : (d : Declarator) (body : Option Line) (s : Scope) → IfGood (definition_parameters d body s) (λ t. t.names ≡ s.names)
  parameters_left d None s = refl
  parameters_left d (Some body) s =
      let inner : Scope = body_entered false s in
      if_then (λ p. p.names.around ≡ inner.names.around) (λ t. t.names ≡ s.names) (parameters_judgement inner (params_of d)) _ (parameters_around (params_of d) inner)
      (λ p a. left_is s.names p.names a)

  abbrev SameObjects : Contents → Contents → Type 0
  SameObjects c t = (t.objects ≡ c.objects) × AddsTo c.scope t.scope

  defined_adds : (name : List ℕ) (result : CType) (params : List Param) (body : Option Line) (number : Option ℕ) (c : Contents) →
      IfGood (defined k name result params body number c) (SameObjects c)
  defined_adds name result params None number c = (refl, adds_same (here c.scope))
  defined_adds name result params (Some body) number c =
      if_then (λ f. f.0.names ≡ c.scope.names) (SameObjects c) (function_of k name result params body c.scope) _ (function_left name result params body c.scope)
      (λ f q. (refl, adds_nothing c.scope f.0 q))

  scope_adds : (name : List ℕ) (signature : ℕ) (before : Option Meaning) (builtin : Option Known) (s : Scope) → AddsTo s (function_scope k name signature before builtin s)
  unfolding function_scope
  scope_adds name signature None None s = adds_one (here s) name (function_meaning k name signature) refl
  scope_adds name signature None (Some b) s = adds_same (here s)
  scope_adds name signature (Some m) None s = adds_same (here s)
  scope_adds name signature (Some m) (Some b) s = adds_same (here s)

  function_adds : (d : Declarator) (name : List ℕ) (result : CType) (signature : ℕ) (body : Option Line) (c : Contents) →
      IfGood (function_judgement k d name result signature body c) (SameObjects c)
  unfolding function_judgement
  function_adds d name result signature body c =
      let b : Before = before_of k name c.scope in
      let s : Scope = function_scope k name signature b.meaning b.builtin c.scope in
      if_then (λ x. Unit {0}) (SameObjects c) (plain_values d.initial s) _ (if_any (plain_values d.initial s)) (λ x u.
      if_unbroken (SameObjects c) d (rule_of d signature body c b) (defined k name result (params_of d) body b.number (in_scope c s))
      (if_more (SameObjects (in_scope c s)) (SameObjects c) (defined k name result (params_of d) body b.number (in_scope c s))
      (λ t q. (q.0, adds_joined (here c.scope) (here s) (here t.scope) (scope_adds name signature b.meaning b.builtin c.scope) q.1))
      (defined_adds name result (params_of d) body b.number (in_scope c s))))

  -- ---- objects

  abbrev Next : List (List ℕ) → List (List ℕ) → Bool → List ℕ → Contents → Type 0
  Next xs ys mark name = Of (xs ++ name ∷ []) (ys ++ if_marked mark name)

  behind_of : (d : Declarator) (name : List ℕ) (before : Option Meaning) (domain : Option (List ℕ)) (l : Local) (block : Bool) (c : Contents) (mark : Bool) (xs ys : List (List ℕ)) →
      named name (here c.scope) ≡ before → Of xs ys c → Marks R l (is_some d.initial) domain mark → IfGood (object_behind k d name l domain block c before) (Next xs ys mark name)
  unfolding object_scope objects_behind
  behind_of d name None domain l block c mark xs ys q h e =
      let words = object_words d None c.objects l domain block (object_scope k name None l (length c.objects) c.scope) in
      if_then (λ w. Unit {0}) (Next xs ys mark name) words _ (if_any words) (λ w u.
      one_new R xs ys (here c.scope) c.objects name h (object_meaning k name (length c.objects) l l.size) (new_object name l w (is_some d.initial) domain) mark q
      (number_is k name (length c.objects) l l.size) refl (e.first name w))
  behind_of d name (Some m) domain l block c mark xs ys q h e =
      let s : Scope = object_scope k name (Some m) l (length c.objects) c.scope in
      if_then (λ w. may_declare (Some m) c.objects l (is_some d.initial) domain ≡ true) (Next xs ys mark name) (object_words d (Some m) c.objects l domain block s) _
      (words_allowed d (Some m) c.objects l domain block s) (λ w may.
      let x = known_object c.objects m l (is_some d.initial) domain may in
      let y = h.means name m x.0 q x.2 in
      let goes : agrees y.0 l (is_some d.initial) domain ≡ true =
      subst (λ z. agrees z l (is_some d.initial) domain ≡ true) (same_Some x.1 y.0 (sym x.3 ∙ y.1)) x.4 in
      subst (AreObjects R (xs ++ name ∷ []) (ys ++ if_marked mark name) (here c.scope)) (sym (replaced_is c.objects m x.0 y.0 w (is_some d.initial) domain x.2 y.1))
      (one_again R xs ys (here c.scope) c.objects name h x.0 y.0 y.1 y.2 (again y.0 w (is_some d.initial) domain) refl mark (e.later y.0 w goes)))

  object_of : (d : Declarator) (name : List ℕ) (l : Local) (domain : Option (List ℕ)) (block : Bool) (c : Contents) (mark : Bool) (xs ys : List (List ℕ)) →
      Of xs ys c → Marks R l (is_some d.initial) domain mark → IfGood (object_judgement k d name l domain block c) (Next xs ys mark name)
  unfolding object_judgement
  object_of d name l domain block c mark xs ys h q = behind_of d name (named name (here c.scope)) domain l block c mark xs ys refl h q

  -- ---- declarators

  abbrev Behind : List (List ℕ) → List (List ℕ) → Bool → Bool → List ℕ → Contents → Type 0
  Behind xs ys function mark name = Of (xs ++ (if not function then name ∷ [] else [])) (ys ++ if_marked (not function && mark) name)

  function_of_none : (d : Declarator) (name : List ℕ) (result : CType) (signature : ℕ) (body : Option Line) (c : Contents) (xs ys : List (List ℕ)) → Of xs ys c →
      IfGood (function_judgement k d name result signature body c) (Of (xs ++ []) (ys ++ []))
  function_of_none d name result signature body c xs ys h =
      if_more (SameObjects c) (Of (xs ++ []) (ys ++ [])) (function_judgement k d name result signature body c)
      (λ t q.
      subst (λ zs. AreObjects R zs (ys ++ []) (here t.scope) t.objects) (sym (append-nil xs))
      (subst (λ zs. AreObjects R xs zs (here t.scope) t.objects) (sym (append-nil ys))
      (subst (AreObjects R xs ys (here t.scope)) (sym q.0) (others_added R xs ys (here c.scope) (here t.scope) c.objects q.1 h))))
      (function_adds d name result signature body c)

  abbrev MarksOf : Specified → Declarator → Option Attribute → Scope → Bool → Entity → Type 0
  MarksOf b d a s mark (entity.Function signature) = Unit {0}
  MarksOf b d a s mark (entity.Scalar t fixed) = Marks R (scalar t) (is_some d.initial) (domain_by (declares_pointer d) s b.enumeration a) mark
  MarksOf b d a s mark (entity.Array t fixed size) =
      Marks R (sized t (array_size size d.initial)) (is_some d.initial) (domain_by (declares_pointer d) s b.enumeration a) mark

  entity_of : (b : Specified) (body : Option Line) (d : Declarator) (name : List ℕ) (e : Entity) (a : Option Attribute) (c : Contents) (xs ys : List (List ℕ)) → Of xs ys c →
      (function mark : Bool) → is_function_entity e ≡ function → MarksOf b d a c.scope mark e → IfGood (by_entity k b body d name e a c) (Behind xs ys function mark name)
  entity_of b body d name (entity.Function signature) a c xs ys h true mark q r = function_of_none d name b.ctype signature body c xs ys h
  entity_of b body d name (entity.Function signature) a c xs ys h false mark q r = absurd (cc)
  entity_of b body d name (entity.Scalar t fixed) a c xs ys h true mark q r = absurd (cc)
  entity_of b body d name (entity.Scalar t fixed) a c xs ys h false mark q r =
      object_of d name (scalar t) (domain_by (declares_pointer d) c.scope b.enumeration a) (is_some body) c mark xs ys h r
  entity_of b body d name (entity.Array t fixed size) a c xs ys h true mark q r = absurd (cc)
  entity_of b body d name (entity.Array t fixed size) a c xs ys h false mark q r =
      object_of d name (sized t (array_size size d.initial)) (domain_by (declares_pointer d) c.scope b.enumeration a) (is_some body) c mark xs ys h r

  named_of : (b : Specified) (body : Option Line) (d : Declarator) (name : Option (List ℕ)) (e : Designated) (c : Contents) (xs ys : List (List ℕ)) → Of xs ys c →
      (function mark : Bool) → is_function_entity e.entity ≡ function → MarksOf b d e.attribute c.scope mark e.entity →
      IfGood (named_declarator k b body d name e c) (Behind xs ys function mark (or_nothing name))
  unfolding named_declarator
  named_of b body d None e c xs ys h function mark q r =
      if_then (λ u. Unit {0}) (Behind xs ys function mark []) (nameless_values e.entity d.initial c.scope) _ (if_any (nameless_values e.entity d.initial c.scope)) (λ u v. tt)
  named_of b body d (Some name) e c xs ys h function mark q r = entity_of b body d name e.entity e.attribute c xs ys h function mark q r

  -- what is known of the specifiers of an item
  abbrev Tells : Item → Specified → Type 0
  Tells i b = (is_some b.attribute ≡ is_filled (out-Specs i.specs).marks) × IsPlain b.ctype

  file_names : (b : Specified) (d : Declarator) (s : Scope) → IsPlain b.ctype → IfGood (file_declarator b d s) (λ e. e.0.names ≡ s.names)
  file_names b d s plain =
      if_then (Designates s) (λ e. e.0.names ≡ s.names) (designated d.shape b.ctype b.fixed s) _ (shape_designates d.shape b.ctype b.fixed s plain) (λ e g.
      let given = attributes (holder_of position.File b.fixed d) (scalar_kind b.ctype) e.0 d.marks b.attribute in
      if_then (λ a. Unit {0}) (λ x. x.0.names ≡ s.names) given _ (if_any given) (λ a u. g.names))

  -- which declarators are marked, and that they give their objects this mark
  module _ (w : Wanted) (mark : Item → Declarator → Bool) (wants : (i : Item) (d : Declarator) → is_wanted w i d ≡ (not (is_function d) && mark i d))
      (marks : (i : Item) (b : Specified) → Tells i b → (d : Declarator) (s : Scope) →
      IfGood (file_declarator (base_of k d b) d s) (λ e. (t : Scope) → MarksOf b d e.1.attribute t (mark i d) e.1.entity)) where
    declarator_of : (i : Item) (b : Specified) → Tells i b → (d : Declarator) → Unit {0} → (xs ys : List (List ℕ)) (c : Contents) → Of xs ys c →
        IfGood (declarator_judgement k b i.body d c) (Of (xs ++ one wanted.Objects i d) (ys ++ one w i d))
    unfolding declarator_judgement
    declarator_of i b tells d u xs ys c h =
        let Q : Contents → Type 0 = Of (xs ++ one wanted.Objects i d) (ys ++ if_marked (not (is_function d) && mark i d) (name_of d)) in
        let base : Specified = base_of k d b in
        let Marked : Scope × Designated → Type 0 = λ e. (t : Scope) → MarksOf b d e.1.attribute t (mark i d) e.1.entity in
        subst (λ z. IfGood (declarator_judgement k b i.body d c) (Of (xs ++ one wanted.Objects i d) (ys ++ if_marked z (name_of d)))) (sym (wants i d))
        (if_then (λ s. s.names ≡ c.scope.names) Q (definition_parameters d i.body c.scope) _ (parameters_left d i.body c.scope) (λ s p.
        if_then (λ e. (is_function_entity e.1.entity ≡ is_function d) × (Marked e × (e.0.names ≡ s.names))) Q
        (file_declarator base d s) _
        (if_both (λ e. is_function_entity e.1.entity ≡ is_function d) (λ e. Marked e × (e.0.names ≡ s.names)) (file_declarator base d s)
        (file_alike base d s)
        (if_both Marked (λ e. e.0.names ≡ s.names) (file_declarator base d s) (marks i b tells d s) (file_names base d s tells.1)))
        (λ e f.
        named_of b i.body d d.name e.1 (in_scope c e.0) xs ys
        (others_added R xs ys (here c.scope) (here e.0) c.objects (adds_nothing c.scope e.0 (f.1.1 ∙ p)) h) (is_function d) (mark i d) f.0 (f.1.0 e.0))))

  first_of : (i : Item) (xs ys : List (List ℕ)) (c : Contents) → Of xs ys c →
      IfGood (specifiers position.File (holders k i.names) i.specs c.scope) (λ b. Tells i b.1 × Of xs ys (in_scope c b.0))
  first_of i xs ys c h =
      let judged = specifiers position.File (holders k i.names) i.specs c.scope in
      if_both (λ b. Tells i b.1) (λ b. Of xs ys (in_scope c b.0)) judged
      (if_both (λ b. is_some b.1.attribute ≡ is_filled (out-Specs i.specs).marks) (λ b. IsPlain b.1.ctype) judged
      (specifiers_marked position.File (holders k i.names) i.specs c.scope)
      (if_more (Specifies c.scope) (λ b. IsPlain b.1.ctype) judged (λ b g. g.plain) (specifiers_specify position.File (holders k i.names) i.specs c.scope)))
      (if_more (λ b. AddsTo c.scope b.0) (λ b. Of xs ys (in_scope c b.0)) judged (λ b a. others_added R xs ys (here c.scope) (here b.0) c.objects a h)
      (specifiers_add position.File (holders k i.names) i.specs c.scope))

  module _ (w : Wanted) (mark : Item → Declarator → Bool) (wants : (i : Item) (d : Declarator) → is_wanted w i d ≡ (not (is_function d) && mark i d))
      (marks : (i : Item) (b : Specified) → Tells i b → (d : Declarator) (s : Scope) →
      IfGood (file_declarator (base_of k d b) d s) (λ e. (t : Scope) → MarksOf b d e.1.attribute t (mark i d) e.1.entity)) where
    objects_of : (items : List Item) → IfGood (through (item_judgement k) items (nothing_declared k)) (Of (all_names wanted.Objects items) (all_names w items))
    objects_of items =
        items_done k wanted.Objects w Of Tells (λ i d. Unit {0}) first_of (declarator_of w mark wants marks) items (every items) (nothing_declared k) (no_objects R)

-- ---- switches: those that are marked have a domain

abbrev pub HasDomain : Object → Bool → Type 0
HasDomain o b = is_some o.domain ≡ b

domain_some : (pointer : Bool) (s : Scope) (enumeration : Option ℕ) (a : Option Attribute) → is_some (domain_by pointer s enumeration a) ≡ (not pointer && is_some a)
domain_some true s enumeration a = refl
domain_some false s enumeration None = refl
domain_some false s enumeration (Some a) = refl

domain_marks : (l : Local) (given : Bool) (domain : Option (List ℕ)) (mark : Bool) → is_some domain ≡ mark → Marks HasDomain l given domain mark
domain_marks l given domain mark q = record {
  first = λ name words. q;
  later = λ o words goes b r. either_some o.domain domain ∙ ap₂ (λ x y. x || y) r q;
}

module _ (k : Foreknown) (bodies : BodyGrows) (fit : ParametersFit) where
  abbrev switch_mark : Item → Declarator → Bool
  switch_mark i d = not (declares_pointer d) && is_marked i d

  switch_marks : (i : Item) (b : Specified) → Tells HasDomain k bodies fit i b → (d : Declarator) (s : Scope) →
      IfGood (file_declarator (base_of k d b) d s) (λ e. (t : Scope) → MarksOf HasDomain k bodies fit b d e.1.attribute t (switch_mark i d) e.1.entity)
  switch_marks i b tells d s =
      if_more (λ e. is_some e.1.attribute ≡ (is_filled d.marks || is_some b.attribute)) (λ e. (t : Scope) → MarksOf HasDomain k bodies fit b d e.1.attribute t (switch_mark i d) e.1.entity)
      (file_declarator (base_of k d b) d s)
      (λ e q t. by e.1.entity e.1.attribute t (q ∙ (ap (λ m. is_filled d.marks || m) tells.0 ∙ or_comm (is_filled d.marks) (is_filled (out-Specs i.specs).marks))))
      (file_marked (base_of k d b) d s)
    where
      by : (e : Entity) (a : Option Attribute) (t : Scope) → is_some a ≡ is_marked i d → MarksOf HasDomain k bodies fit b d a t (switch_mark i d) e
      by (entity.Function signature) a t q = tt
      by (entity.Scalar u fixed) a t q =
          domain_marks (scalar u) (is_some d.initial) (domain_by (declares_pointer d) t b.enumeration a) (switch_mark i d)
          (domain_some (declares_pointer d) t b.enumeration a ∙ ap (λ m. not (declares_pointer d) && m) q)
      by (entity.Array u fixed size) a t q =
          domain_marks (sized u (array_size size d.initial)) (is_some d.initial) (domain_by (declares_pointer d) t b.enumeration a) (switch_mark i d)
          (domain_some (declares_pointer d) t b.enumeration a ∙ ap (λ m. not (declares_pointer d) && m) q)

  pub switches_of : (items : List Item) →
      IfGood (through (item_judgement k) items (nothing_declared k)) (Of HasDomain k bodies fit (all_names wanted.Objects items) (all_names wanted.MarkedSwitches items))
  switches_of = objects_of HasDomain k bodies fit wanted.MarkedSwitches switch_mark (λ i d. refl) switch_marks

-- ---- pointer switches: those that are marked are function pointers, and no arrays

abbrev pub IsPointer : Object → Type 0
IsPointer o = (signature : ℕ) × (o.global.ctype ≡ Pointer signature) × (o.global.size ≡ None)

abbrev pub IsPointerIf : Object → Bool → Type 0
IsPointerIf o b = b ≡ true → IsPointer o

pointer_same : (t : CType) (s : ℕ) → same_type t (Pointer s) ≡ true → (r : ℕ) × (t ≡ Pointer r)
pointer_same (Pointer r) s h = (r, refl)
pointer_same t s h = absurd (cc)

size_same : (n : Option ℕ) → same_size n None ≡ true → n ≡ None
size_same None h = refl
size_same (Some m) h = absurd (cc)

scalar_marks : (t : CType) (given : Bool) (domain : Option (List ℕ)) (mark : Bool) → (mark ≡ true → (s : ℕ) × (t ≡ Pointer s)) → Marks IsPointerIf (scalar t) given domain mark
scalar_marks t given domain mark h = record {
  first = λ name words q. let p = h q in (p.0, p.1, refl);
  later = λ o words goes b r q. by o goes b r q;
}
  where
    by : (o : Object) → agrees o (scalar t) given domain ≡ true → (b : Bool) → IsPointerIf o b → (b || mark) ≡ true → IsPointer o
    by o goes true r q = r refl
    by o goes false r q =
        let p = h q in
        let types = and_parts (same_type o.global.ctype t) (same_size o.global.size None && (not (o.given && given) && same_domain o.domain domain)) goes in
        let sizes = and_parts (same_size o.global.size None) (not (o.given && given) && same_domain o.domain domain) types.1 in
        let same = pointer_same o.global.ctype p.0 (subst (λ u. same_type o.global.ctype u ≡ true) p.1 types.0) in
        (same.0, same.1, size_same o.global.size sizes.0)

no_marks : (l : Local) (given : Bool) (domain : Option (List ℕ)) (mark : Bool) → (mark ≡ true → ⊥) → Marks IsPointerIf l given domain mark
no_marks l given domain mark h = record {
  first = λ name words q. absurd (h q);
  later = λ o words goes b r q. by o b r q;
}
  where
    by : (o : Object) (b : Bool) → IsPointerIf o b → (b || mark) ≡ true → IsPointer o
    by o true r q = r refl
    by o false r q = absurd (h q)

module _ (k : Foreknown) (bodies : BodyGrows) (fit : ParametersFit) where
  abbrev pointer_mark : Item → Declarator → Bool
  pointer_mark i d = declares_pointer d && is_marked i d

  pointer_wants : (i : Item) (d : Declarator) → pointer_mark i d ≡ (not (is_function d) && pointer_mark i d)
  pointer_wants i d = by (is_function d) (declares_pointer d) (no_function d)
    where
      by : (f p : Bool) → (not f && p) ≡ p → (p && is_marked i d) ≡ (not f && (p && is_marked i d))
      by true p h = ap (λ b. b && is_marked i d) (sym h)
      by false p h = refl

  pointer_marks : (i : Item) (b : Specified) → Tells IsPointerIf k bodies fit i b → (d : Declarator) (s : Scope) →
      IfGood (file_declarator (base_of k d b) d s) (λ e. (t : Scope) → MarksOf IsPointerIf k bodies fit b d e.1.attribute t (pointer_mark i d) e.1.entity)
  pointer_marks i b tells d s =
      if_more (λ e. declares_pointer d ≡ true → IsPointerEntity e.1.entity) (λ e. (t : Scope) → MarksOf IsPointerIf k bodies fit b d e.1.attribute t (pointer_mark i d) e.1.entity)
      (file_declarator (base_of k d b) d s)
      (λ e h t. by e.1.entity e.1.attribute t (λ q. h (and_parts (declares_pointer d) (is_marked i d) q).0))
      (file_pointed (base_of k d b) d s)
    where
      by : (e : Entity) (a : Option Attribute) (t : Scope) → (pointer_mark i d ≡ true → IsPointerEntity e) → MarksOf IsPointerIf k bodies fit b d a t (pointer_mark i d) e
      by (entity.Function signature) a t h = tt
      by (entity.Scalar u fixed) a t h = scalar_marks u (is_some d.initial) (domain_by (declares_pointer d) t b.enumeration a) (pointer_mark i d) h
      by (entity.Array u fixed size) a t h = no_marks (sized u (array_size size d.initial)) (is_some d.initial) (domain_by (declares_pointer d) t b.enumeration a) (pointer_mark i d) h

  pub pointers_of : (items : List Item) →
      IfGood (through (item_judgement k) items (nothing_declared k)) (Of IsPointerIf k bodies fit (all_names wanted.Objects items) (all_names wanted.MarkedPointers items))
  pointers_of = objects_of IsPointerIf k bodies fit wanted.MarkedPointers pointer_mark pointer_wants pointer_marks
