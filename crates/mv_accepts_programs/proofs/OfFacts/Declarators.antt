-- Objects and functions have names, and the domains of objects have values, through the declarators of a unit.
use Rattle.std.proofs.Common.{◌≡◌, ℕ, refl, sym, ◌∙◌, subst, Bool, true, false, is_some, List, length, Option, Some, None, slice_get, unwrap_or}
use Rattle.std.specs.List.{AllByRecursion}
use Rattle.mv_syntax.specs.declared.place.Place.{Place}
use Rattle.mv_ast.specs.declared.program.CType.{CType}
use Rattle.mv_ast.specs.declared.program.Function.{Function}
use Rattle.mv_ast.specs.declared.program.Known.{Known}
use Rattle.mv_ast.specs.declared.program.Local.{Local}
use Rattle.mv_syntax.specs.declared.unit.Declarator.{Declarator}
use Rattle.mv_syntax.specs.declared.unit.Line.{Line}
use Rattle.mv_syntax.specs.declared.unit.Param.{Param}
use Rattle.mv_check_scope.specs.declared.meaning.Meaning.{Meaning}
use Rattle.mv_check_scope.specs.declared.scope.Scope.{Scope}
use Rattle.mv_check_scope.specs.Spaces.{named}
use Rattle.mv_check_expressions.specs.Judged.{Judged}
use Rattle.mv_check_declarations.specs.declared.attributes.Attribute.{Attribute}
use Rattle.mv_check_declarations.specs.declared.attributes.Position.TheVariants as position
use Rattle.mv_check_declarations.specs.declared.declarators.Entity.{Entity}
use Rattle.mv_check_declarations.specs.declared.declarators.Entity.TheVariants as entity
use Rattle.mv_check_declarations.specs.declared.globals.Designated.{Designated}
use Rattle.mv_check_declarations.specs.declared.specifiers.Specified.{Specified}
use Rattle.mv_check_declarations.specs.Attributes.{attributes, holder_of}
use Rattle.mv_check_declarations.specs.Declarators.{designated}
use Rattle.mv_check_declarations.specs.Globals.{domain_or, default_domain, file_declarator}
use Rattle.mv_check_declarations.specs.Initials.{array_size, plain_values}
use Rattle.mv_check_declarations.specs.Objects.{scalar, sized}
use Rattle.mv_check_declarations.specs.Parameters.{parameters_judgement}
use Rattle.mv_check_declarations.specs.Specifiers.{scalar_kind}
use Rattle.mv_accepts.specs.Statements.Bodies.{Keeps, Grows, BodyGrows, ParametersFit}
use Rattle.mv_accepts.proofs.OfStatements.Designated.{Designates, shape_designates}
use Rattle.mv_accepts.proofs.OfStatements.Growing.{grows_joined}
use Rattle.mv_accepts.proofs.OfStatements.Judging.{IfGood, by_good, if_any, if_then, if_more}
use Rattle.mv_accepts.proofs.OfStatements.Lists.{all_at, all_last}
use Rattle.mv_accepts.proofs.OfStatements.Names.{left_is}
use Rattle.mv_accepts.proofs.OfStatements.Places.{keeps_same, keeps_joined}
use Rattle.mv_accepts.proofs.OfExpressions.Plain.{IsPlain}
use Rattle.mv_check_outline.specs.Outlined.{declares_pointer}
use Rattle.mv_types.specs.declared.contents.Contents.{Contents}
use Rattle.mv_types.specs.declared.contents.Foreknown.{Foreknown}
use Rattle.mv_types.specs.declared.contents.Object.{Object}
use Rattle.mv_types.specs.declared.functions.Before.{Before}
use Rattle.mv_types.specs.Contents.{in_scope}
use Rattle.mv_types.specs.Foreknown.{is_attributed}
use Rattle.mv_types.specs.Functions as functions
use Rattle.mv_types.specs.Functions.{body_entered, body_left, function_of, function_scope, params_of, defined, before_of, rule_of, function_judgement, definition_parameters}
use Rattle.mv_types.specs.Objects.{number_of, object_words, object_scope, new_object, either_domain, again, replaced, objects_again, objects_behind, object_behind, object_judgement, domain_by}
use Rattle.mv_types.specs.Units.{by_entity, nameless_values, named_declarator, base_of, declarator_judgement}
use Rattle.mv_accepts.proofs.OfNames.Functions.{IsBuilt, built_good}
use Rattle.mv_accepts.proofs.OfGlobals.Tests.{all_set}
use Rattle.mv_source_facts.specs.Facts.{IsName}
use Rattle.mv_accepts_programs.specs.Identifiers.Written.{IsWrittenDeclarator}
use Rattle.mv_accepts_programs.proofs.OfIdentifiers.Phrases.{IfSome, HasSome}
use Rattle.mv_accepts_programs.proofs.OfFacts.Attributes.{IsFilledAttribute, attributes_some}
use Rattle.mv_accepts_programs.proofs.OfFacts.Enumerations.{Has, number_more, HasTags, tags_kept, default_some}

-- ---- contents

-- a name, and a domain that has values if there is one
abbrev pub IsWrittenObject : Object → Type 0
IsWrittenObject o = IsName o.global.name × IfSome HasSome o.domain

abbrev pub IsNamedFunction : Option Function → Type 0
IsNamedFunction = IfSome (λ (f : Function). IsName f.name)

pub record AreWritten (c : Contents) : Type 0 where
  pub tags : HasTags c.scope
  pub objects : AllByRecursion IsWrittenObject c.objects
  pub functions : AllByRecursion IsNamedFunction c.functions

-- behind contents of which this holds it does, and their enumerations are still there
pub record IsWrittenBehind (c d : Contents) : Type 0 where
  pub written : AreWritten d
  pub enumerations : Keeps c.scope.enumerations d.scope.enumerations

-- a scope with the same tags, and with more enumerations
pub record Widens (s t : Scope) : Type 0 where
  pub tags : t.tags ≡ s.tags
  pub enumerations : Keeps s.enumerations t.enumerations

pub widens_same : (s : Scope) → Widens s s
widens_same s = record { tags = refl; enumerations = keeps_same s.enumerations }

widens_joined : (s t u : Scope) → Widens s t → Widens t u → Widens s u
widens_joined s t u g h = record { tags = h.tags ∙ g.tags; enumerations = keeps_joined s.enumerations t.enumerations u.enumerations g.enumerations h.enumerations }

written_in : (c : Contents) (t : Scope) → Widens c.scope t → AreWritten c → AreWritten (in_scope c t)
written_in c t w h = record { tags = tags_kept c.scope t w.tags w.enumerations h.tags; objects = h.objects; functions = h.functions }

-- ---- objects

object_scope_widens : (k : Foreknown) (name : List ℕ) (before : Option Meaning) (l : Local) (n : ℕ) (s : Scope) → Widens s (object_scope k name before l n s)
unfolding object_scope
object_scope_widens k name None l n s = record { tags = refl; enumerations = keeps_same s.enumerations }
object_scope_widens k name (Some m) l n s = widens_same s

either_some : (a b : Option (List ℕ)) → IfSome HasSome a → IfSome HasSome b → IfSome HasSome (either_domain a b)
either_some None b h k = k
either_some (Some vs) b h k = h

module _ (words : List ℕ) (given : Bool) (domain : Option (List ℕ)) (some : IfSome HasSome domain) where
  replaced_written : (objects : List Object) (n : ℕ) (o : Option Object) → slice_get objects n ≡ o → AllByRecursion IsWrittenObject objects →
      AllByRecursion IsWrittenObject (replaced objects n o words given domain)
  replaced_written objects n None q h = h
  replaced_written objects n (Some o) q h =
      let k : IsWrittenObject o = all_at IsWrittenObject objects h n o q in
      all_set IsWrittenObject objects n (again o words given domain) (k.0, either_some o.domain domain k.1 some) h

  again_written : (objects : List Object) (n : Option ℕ) → AllByRecursion IsWrittenObject objects → AllByRecursion IsWrittenObject (objects_again objects n words given domain)
  again_written objects None h = h
  again_written objects (Some n) h = replaced_written objects n (slice_get objects n) refl h

  behind_written : (objects : List Object) (name : List ℕ) (before : Option Meaning) (l : Local) → IsName name → AllByRecursion IsWrittenObject objects →
      AllByRecursion IsWrittenObject (objects_behind objects name before l words given domain)
  unfolding objects_behind
  behind_written objects name None l n h = all_last IsWrittenObject objects (new_object name l words given domain) h (n, some)
  behind_written objects name (Some m) l n h = again_written objects (number_of m) h

module _ (k : Foreknown) (d : Declarator) (name : List ℕ) (n : IsName name) (domain : Option (List ℕ)) (some : IfSome HasSome domain) (c : Contents) (h : AreWritten c) where
  behind_has : (l : Local) (block : Bool) (before : Option Meaning) → IfGood (object_behind k d name l domain block c before) (IsWrittenBehind c)
  behind_has l block before =
      let s : Scope = object_scope k name before l (length c.objects) c.scope in
      let w : Widens c.scope s = object_scope_widens k name before l (length c.objects) c.scope in
      let words = object_words d before c.objects l domain block s in
      if_then (λ ws. Unit {0}) (IsWrittenBehind c) words _ (if_any words) (λ ws u. record {
        written = record {
          tags = tags_kept c.scope s w.tags w.enumerations h.tags;
          objects = behind_written ws (is_some d.initial) domain some c.objects name before l n h.objects;
          functions = h.functions;
        };
        enumerations = w.enumerations;
      })

  object_written : (l : Local) (block : Bool) → IfGood (object_judgement k d name l domain block c) (IsWrittenBehind c)
  unfolding object_judgement
  object_written l block = behind_has l block (named name c.scope.names.here)

domain_some : (pointer : Bool) (s : Scope) (enumeration : Option ℕ) (a : Option Attribute) → IfSome (Has s) enumeration → IfSome IsFilledAttribute a →
    IfSome HasSome (domain_by pointer s enumeration a)
domain_some true s enumeration a h k = tt
domain_some false s enumeration None h k = tt
domain_some false s enumeration (Some a) h k = by a.values k
  where
    by : (o : Option (List ℕ)) → IfSome HasSome o → HasSome (domain_or o (default_domain s enumeration))
    by None f = default_some s enumeration h
    by (Some vs) f = f

-- ---- functions

module _ (fit : ParametersFit) (grow : BodyGrows) where
  -- a block that is entered and left
  left_widens : (attributed : Bool) (s t : Scope) → Grows (body_entered attributed s) t → Widens s (body_left t)
  left_widens attributed s t g = record { tags = left_is s.tags t.tags g.tags; enumerations = g.enumerations }

  parameters_widen : (d : Declarator) (body : Option Line) (s : Scope) → IfGood (definition_parameters d body s) (Widens s)
  parameters_widen d None s = widens_same s
  parameters_widen d (Some body) s =
      if_then (λ p. Widens s (body_left p)) (Widens s) (parameters_judgement (body_entered false s) (params_of d)) _
      (by_good (λ p. Widens s (body_left p)) (parameters_judgement (body_entered false s) (params_of d)) (λ p q.
      left_widens false s p (fit (params_of d) (body_entered false s) p q).grows)) (λ p w. w)

  -- what a definition is, and the scope behind it
  abbrev Defines : List ℕ → Scope → Scope × Function → Type 0
  Defines name s d = Widens s d.0 × (d.1.name ≡ name)

  function_defines : (k : Foreknown) (name : List ℕ) (result : CType) (params : List Param) (body : Line) (s : Scope) →
      IfGood (function_of k name result params body s) (Defines name s)
  function_defines k name result params body s = by_good (Defines name s) (function_of k name result params body s) (λ d q.
      let b : IsBuilt fit grow k name result params body s d = built_good fit grow k name result params body s d q in
      let attributed : Bool = is_attributed k name in
      let first : Grows (body_entered attributed s) b.first = (fit params (body_entered attributed s) b.first b.parameters).grows in
      let rest : Grows b.first b.behind.0 = grow result body b.first b.behind.0 b.behind.1 b.judged in
      subst (Defines name s) b.built
      (left_widens attributed s b.behind.0 (grows_joined (body_entered attributed s) b.first b.behind.0 first rest), refl))

  module _ (k : Foreknown) (name : List ℕ) (n : IsName name) where
    defined_written : (result : CType) (params : List Param) (body : Option Line) (number : Option ℕ) (c : Contents) → AreWritten c →
        IfGood (defined k name result params body number c) (IsWrittenBehind c)
    defined_written result params None number c h = record { written = h; enumerations = keeps_same c.scope.enumerations }
    defined_written result params (Some body) number c h =
        if_then (Defines name c.scope) (IsWrittenBehind c) (function_of k name result params body c.scope) _ (function_defines k name result params body c.scope) (λ f w. record {
          written = record {
            tags = tags_kept c.scope f.0 w.0.tags w.0.enumerations h.tags;
            objects = h.objects;
            functions = all_set IsNamedFunction c.functions (unwrap_or number 0) (Some f.1) (subst IsName (sym w.1) n) h.functions;
          };
          enumerations = w.0.enumerations;
        })

    unless_written : (c : Contents) (place : Place) (rule : Option ℕ) (j : Judged Contents) → IfGood j (IsWrittenBehind c) →
        IfGood (functions.unless_broken place rule j) (IsWrittenBehind c)
    unless_written c place None j h = h
    unless_written c place (Some rule) j h = tt

    function_scope_widens : (signature : ℕ) (b : Before) (s : Scope) → Widens s (function_scope k name signature b.meaning b.builtin s)
    unfolding function_scope
    function_scope_widens signature b s = by b.meaning b.builtin
      where
        by : (m : Option Meaning) (o : Option Known) → Widens s (function_scope k name signature m o s)
        by None None = record { tags = refl; enumerations = keeps_same s.enumerations }
        by None (Some x) = widens_same s
        by (Some m) None = widens_same s
        by (Some m) (Some x) = widens_same s

    function_written : (d : Declarator) (result : CType) (signature : ℕ) (body : Option Line) (c : Contents) → AreWritten c →
        IfGood (function_judgement k d name result signature body c) (IsWrittenBehind c)
    unfolding function_judgement
    function_written d result signature body c h =
        let b : Before = before_of k name c.scope in
        let e : Contents = in_scope c (function_scope k name signature b.meaning b.builtin c.scope) in
        let w : Widens c.scope e.scope = function_scope_widens signature b c.scope in
        if_then (λ x. Unit {0}) (IsWrittenBehind c) (plain_values d.initial e.scope) _ (if_any (plain_values d.initial e.scope)) (λ x u.
        unless_written c d.place (rule_of d signature body c b) (defined k name result (params_of d) body b.number e)
        (if_more (IsWrittenBehind e) (IsWrittenBehind c) (defined k name result (params_of d) body b.number e) (λ a g. record {
          written = g.written;
          enumerations = keeps_joined c.scope.enumerations e.scope.enumerations a.scope.enumerations w.enumerations g.enumerations;
        }) (defined_written result (params_of d) body b.number e (written_in c e.scope w h))))

  -- ---- declarators

  module _ (k : Foreknown) where
    entity_written : (b : Specified) (body : Option Line) (d : Declarator) (name : List ℕ) → IsName name → (e : Entity) (a : Option Attribute) → IfSome IsFilledAttribute a →
        (c : Contents) → IfSome (Has c.scope) b.enumeration → AreWritten c → IfGood (by_entity k b body d name e a c) (IsWrittenBehind c)
    entity_written b body d name n (entity.Function signature) a f c m h = function_written k name n d b.ctype signature body c h
    entity_written b body d name n (entity.Scalar t fixed) a f c m h =
        object_written k d name n (domain_by (declares_pointer d) c.scope b.enumeration a) (domain_some (declares_pointer d) c.scope b.enumeration a m f) c h (scalar t) (is_some body)
    entity_written b body d name n (entity.Array t fixed size) a f c m h =
        object_written k d name n (domain_by (declares_pointer d) c.scope b.enumeration a) (domain_some (declares_pointer d) c.scope b.enumeration a m f) c h (sized t (array_size size d.initial)) (is_some body)

    named_written : (b : Specified) (body : Option Line) (d : Declarator) (name : Option (List ℕ)) → ((n : List ℕ) → name ≡ Some n → IsName n) → (e : Designated) →
        IfSome IsFilledAttribute e.attribute → (c : Contents) → IfSome (Has c.scope) b.enumeration → AreWritten c →
        IfGood (named_declarator k b body d name e c) (IsWrittenBehind c)
    unfolding named_declarator
    named_written b body d None n e f c m h =
        if_then (λ u. Unit {0}) (IsWrittenBehind c) (nameless_values e.entity d.initial c.scope) _ (if_any (nameless_values e.entity d.initial c.scope)) (λ u v. tt)
    named_written b body d (Some name) n e f c m h = entity_written b body d name (n name refl) e.entity e.attribute f c m h

    -- what a declarator designates, and the scope behind it
    abbrev Designating : Scope → Scope × Designated → Type 0
    Designating s e = Widens s e.0 × IfSome IsFilledAttribute e.1.attribute

    file_widens : (b : Specified) (d : Declarator) (s : Scope) → IsPlain b.ctype → IsWrittenDeclarator d → IfSome IsFilledAttribute b.attribute →
        IfGood (file_declarator b d s) (Designating s)
    file_widens b d s plain w f =
        if_then (Designates s) (Designating s) (designated d.shape b.ctype b.fixed s) _ (shape_designates d.shape b.ctype b.fixed s plain) (λ e g.
        if_then (IfSome IsFilledAttribute) (Designating s) (attributes (holder_of position.File b.fixed d) (scalar_kind b.ctype) e.0 d.marks b.attribute) _
        (attributes_some (holder_of position.File b.fixed d) (scalar_kind b.ctype) e.0 d.marks w.marks b.attribute f) (λ a q.
        (record { tags = g.tags; enumerations = g.declares.grows.enumerations }, q)))

    pub declarator_written : (b : Specified) (body : Option Line) (d : Declarator) (c : Contents) → IsPlain b.ctype → IsWrittenDeclarator d → IfSome IsFilledAttribute b.attribute →
        IfSome (Has c.scope) b.enumeration → AreWritten c → IfGood (declarator_judgement k b body d c) (IsWrittenBehind c)
    unfolding declarator_judgement
    declarator_written b body d c plain w f m h =
        if_then (Widens c.scope) (IsWrittenBehind c) (definition_parameters d body c.scope) _ (parameters_widen d body c.scope) (λ s v.
        if_then (Designating s) (IsWrittenBehind c) (file_declarator (base_of k d b) d s) _ (file_widens (base_of k d b) d s plain w f) (λ e g.
        let x : Widens c.scope e.0 = widens_joined c.scope s e.0 v g.0 in
        if_more (IsWrittenBehind (in_scope c e.0)) (IsWrittenBehind c) (named_declarator k b body d d.name e.1 (in_scope c e.0)) (λ a q. record {
          written = q.written;
          enumerations = keeps_joined c.scope.enumerations e.0.enumerations a.scope.enumerations x.enumerations q.enumerations;
        }) (named_written b body d d.name w.named e.1 g.1 (in_scope c e.0) (number_more c.scope e.0 x.enumerations b.enumeration m) (written_in c e.0 x h))))
