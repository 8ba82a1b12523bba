-- Contents stay sound where a function is declared or defined.
use Rattle.std.proofs.Common.{◌≡◌, ℕ, ◌⊎◌, inl, inr, refl, sym, ◌∙◌, ap, subst, Bool, true, false, ◌&&◌, is_some, List, [], map, length, take, Option, Some, None, slice_get, unwrap_or, length-set}
use Rattle.std.proofs.lemmas.Option.{same_Some}
use Rattle.std.proofs.lemmas.Bool.{eqb-true}
use Rattle.mv_syntax.specs.declared.place.Place.{Place}
use Rattle.mv_ast.specs.declared.program.CType.{CType}
use Rattle.mv_ast.specs.declared.program.CType.TheVariants.{Pointer}
use Rattle.mv_ast.specs.declared.program.Function.{Function}
use Rattle.mv_ast.specs.declared.program.Known.{Known}
use Rattle.mv_ast.specs.declared.program.Signature.{Signature}
use Rattle.mv_ast.specs.declared.program.Stmt.{Stmt}
use Rattle.mv_syntax.specs.declared.unit.Declarator.{Declarator}
use Rattle.mv_syntax.specs.declared.unit.Line.{Line}
use Rattle.mv_syntax.specs.declared.unit.Param.{Param}
use Rattle.mv_check_scope.specs.declared.meaning.Meaning.{Meaning}
use Rattle.mv_check_scope.specs.declared.meaning.Meaning.TheVariants as meaning
use Rattle.mv_check_scope.specs.declared.meaning.Routine.{Routine}
use Rattle.mv_check_scope.specs.declared.scope.Scope.{Scope}
use Rattle.mv_check_scope.specs.Scoped.{block_entered}
use Rattle.mv_check_scope.specs.Signatures.{with_signature}
use Rattle.mv_check_scope.specs.Spaces.{named}
use Rattle.mv_check_scope.proofs.BoundNames.{names_kept}
use Rattle.mv_check_expressions.specs.Judged.{Judged, Good, and_then}
use Rattle.mv_check_outline.specs.Names.{place_of}
use Rattle.mv_check_declarations.specs.Declarators.{signature_of, function_type, parameter}
use Rattle.mv_check_declarations.specs.Initials.{plain_values}
use Rattle.mv_check_declarations.specs.Parameters.{parameters_judgement}
use Rattle.mv_check_statements.specs.Statements.{body_judgement}
use Rattle.mv_accepts.specs.Expressions.Soundness.{IsListed}
use Rattle.mv_accepts.proofs.OfExpressions.Kept.{went_on, same_good}
use Rattle.mv_accepts.specs.Statements.Bodies.{Keeps, Grows, BodyGrows, AreParameters, ParametersFit}
use Rattle.mv_accepts.proofs.OfStatements.Judging.{IfGood, by_good, if_any, if_then}
use Rattle.mv_accepts.proofs.OfStatements.Names.{left_is}
use Rattle.mv_accepts.proofs.OfStatements.Places.{keeps_same, keeps_joined, keeps_take}
use Rattle.mv_accepts.proofs.OfStatements.Growing.{grows_joined}
use Rattle.mv_types.specs.declared.contents.Contents.{Contents}
use Rattle.mv_types.specs.declared.contents.Foreknown.{Foreknown}
use Rattle.mv_types.specs.Contents.{in_scope, with_function}
use Rattle.mv_types.specs.Foreknown.{is_attributed}
use Rattle.mv_types.specs.Functions.{may_declare, is_defined, is_defined_at, broken_rule, function_meaning, function_scope, params_of, body_entered, body_left, left_with, function_of, defined, unless_broken, before_of, rule_of, function_judgement}
use Rattle.mv_accepts.specs.Names.Declared.{Extends, IsDeclared, IsDefinition, IsSound}
use Rattle.mv_accepts.specs.Names.Defined.{WasDefined, WereDefined}
use Rattle.mv_accepts.specs.Names.Laws.{IsSoundBehind}
use Rattle.mv_accepts.proofs.OfNames.Lists.{set_elsewhere, set_before}
use Rattle.mv_accepts.proofs.OfNames.Named.{names_behind, name_there}
use Rattle.mv_accepts.proofs.OfStatements.Signatures.{signature_at}
use Rattle.mv_accepts.proofs.OfNames.Extending.{To, to_joined, IsLike, like_sound, still_same, extends_same, extends_joined, declared_kept, definition_kept, was_kept}
use Rattle.mv_accepts.proofs.OfNames.Widening.{Widens, names_same, widens_sound}
use Rattle.mv_accepts.proofs.OfNames.Agreeing.{IsType, type_good}
use Rattle.mv_accepts.proofs.OfNames.Parameters.{parameters_match}
use Rattle.mv_accepts.proofs.OfStatements.Places.{signature_kept}

-- ---- the type that a declarator gives a function

pub record HasNumber (signatures : List Signature) (t : CType) (params : List Param) (signature : ℕ) : Type 0 where
  pub scope : Scope
  pub given : Scope × ℕ
  pub judged : function_type t (map parameter params) scope ≡ Good given
  pub number : given.1 ≡ signature
  pub kept : Keeps given.0.signatures signatures

module _ (signatures : List Signature) (t : CType) (params : List Param) (signature : ℕ) (h : HasNumber signatures t params signature) where
  abbrev type : IsType t (map parameter params) h.scope h.given
  type = type_good t (map parameter params) h.scope h.given h.judged

  abbrev its : Signature
  its = signature_of t type.behind.1

  its_there : slice_get signatures signature ≡ Some its
  its_there =
      subst (λ n. slice_get signatures n ≡ Some its) h.number
      (h.kept h.given.1 its (subst (λ ss. slice_get ss h.given.1 ≡ Some its) (sym type.signatures)
      (ap (λ n. slice_get (with_signature its type.behind.0.signatures) n) type.number ∙ signature_at its type.behind.0.signatures)))

  its_kept : Keeps type.behind.0.signatures signatures
  its_kept =
      keeps_joined type.behind.0.signatures h.given.0.signatures signatures
      (subst (λ ss. Keeps type.behind.0.signatures ss) (sym type.signatures) (signature_kept its type.behind.0.signatures)) h.kept

-- ---- declarations

module _ (k : Foreknown) (name : List ℕ) (signature : ℕ) (c : Contents) where
  abbrev Scoped : Option Meaning → Option Known → Contents
  Scoped before builtin = in_scope c (function_scope k name signature before builtin c.scope)

  same_like : IsLike k c (in_scope c c.scope)
  same_like = record { extends = extends_same c; around = refl; locals = refl; results = λ h. h; functions = refl; names = λ n m q. inl q }

  scope_like : (before : Option Meaning) (builtin : Option Known) → IsListed c.scope.signatures (Pointer signature) → IsLike k c (Scoped before builtin)
  unfolding function_scope
  scope_like (Some m) builtin listed = same_like
  scope_like None (Some known) listed = same_like
  scope_like None None listed = record {
    extends = record {
      signatures = keeps_same c.scope.signatures;
      objects = λ n o h. still_same o c.objects n h;
      functions = λ g f h. h;
      names = λ n m h. names_kept n c.scope.names.here (name, function_meaning k name signature) m h;
    };
    around = refl;
    locals = refl;
    results = λ h. h;
    functions = refl;
    names = λ n m q. by n m (names_behind n c.scope.names.here name (function_meaning k name signature) m q);
  }
    where
      by : (n : List ℕ) (m : Meaning) → (named n c.scope.names.here ≡ Some m) ⊎ ((n ≡ name) × (function_meaning k name signature ≡ m)) →
          (named n c.scope.names.here ≡ Some m) ⊎ IsDeclared k (Scoped None None) n m
      by n m (inl q) = inl q
      by n m (inr q) = inr (subst (λ x. IsDeclared k (Scoped None None) x m) (sym q.0) (subst (λ x. IsDeclared k (Scoped None None) name x) q.1 (listed, refl, refl)))

  -- the name means a function of this type where a block may follow
  abbrev MeansIt : Option Meaning → Option Known → Type 0
  MeansIt before builtin =
      (r : Routine) × (named name (function_scope k name signature before builtin c.scope).names.here ≡ Some (meaning.Function r)) × (r.signature ≡ signature)

  means_it : (before : Option Meaning) (builtin : Option Known) → named name c.scope.names.here ≡ before →
      may_declare c.scope.signatures signature true before builtin ≡ true → MeansIt before builtin
  unfolding function_scope
  means_it None None q h = (_, name_there c.scope.names.here name (function_meaning k name signature) q, refl)
  means_it None (Some known) q h = absurd (cc)
  means_it (Some (meaning.Function r)) builtin q h = (r, q, eqb-true r.signature signature h)
  means_it (Some (meaning.Object v)) builtin q h = absurd (cc)
  means_it (Some (meaning.Array a)) builtin q h = absurd (cc)
  means_it (Some (meaning.Enumerator v)) builtin q h = absurd (cc)
  means_it (Some (meaning.Tag n)) builtin q h = absurd (cc)
  means_it (Some (meaning.Known known)) builtin q h = absurd (cc)

-- ---- definitions

module _ (fit : ParametersFit) (grow : BodyGrows) where
  pub record IsBuilt (k : Foreknown) (name : List ℕ) (result : CType) (params : List Param) (body : Line) (s : Scope) (d : Scope × Function) : Type 0 where
    pub first : Scope
    pub parameters : parameters_judgement (body_entered (is_attributed k name) s) params ≡ Good first
    pub behind : Scope × List Stmt
    pub judged : body_judgement result body first ≡ Good behind
    pub built : left_with name (is_attributed k name) result (length params) behind.1 behind.0 ≡ d

  pub built_good : (k : Foreknown) (name : List ℕ) (result : CType) (params : List Param) (body : Line) (s : Scope) (d : Scope × Function) →
      function_of k name result params body s ≡ Good d → IsBuilt k name result params body s d
  built_good k name result params body s d q =
      let attributed : Bool = is_attributed k name in
      let p = went_on (parameters_judgement (body_entered attributed s) params)
      (λ p. and_then (body_judgement result body p) (λ b. Good (left_with name attributed result (length params) b.1 b.0))) d q in
      let b = went_on (body_judgement result body p.0) (λ b. Good (left_with name attributed result (length params) b.1 b.0)) d p.2 in
      record { first = p.0; parameters = p.1; behind = b.0; judged = b.1; built = same_good (left_with name attributed result (length params) b.0.1 b.0.0) d b.2 }

  -- a block that is entered and left
  pub block_widens : (attributed : Bool) (s t : Scope) → s.locals ≡ [] → Grows (body_entered attributed s) t → Widens s (body_left t)
  block_widens attributed s t empty g =
      let back = left_is s.names t.names g.around in
      record {
        declares = record {
          grows = record {
            locals = subst (λ ls. Keeps ls []) (sym empty) (keeps_same []);
            signatures = g.signatures;
            enumerations = g.enumerations;
            around = ap (λ n. n.around) back;
            tags = ap (λ n. n.around) (left_is s.tags t.tags g.tags);
            results = g.results;
          };
          same = sym empty;
        };
        names = names_same s (body_left t) back;
      }

  module _ (k : Foreknown) (name : List ℕ) (result : CType) (params : List Param) (body : Line) (signature g : ℕ) (c : Contents)
      (here : place_of name k.outline.functions ≡ Some g) (new : is_defined (slice_get c.functions g) ≡ false)
      (number : HasNumber c.scope.signatures result params signature)
      (r : Routine) (means : named name c.scope.names.here ≡ Some (meaning.Function r)) (of_type : r.signature ≡ signature)
      (d : Scope × Function) (q : function_of k name result params body c.scope ≡ Good d) (s : IsSound k c) where
    abbrev left : Contents
    left = in_scope c d.0

    abbrev after : Contents
    after = with_function left g d.1

    abbrev y : IsBuilt k name result params body c.scope d
    y = built_good k name result params body c.scope d q

    abbrev first : AreParameters (body_entered (is_attributed k name) c.scope) y.first (length params)
    first = fit params (body_entered (is_attributed k name) c.scope) y.first y.parameters

    then_grows : Grows y.first y.behind.0
    then_grows = grow result body y.first y.behind.0 y.behind.1 y.judged

    widens : Widens c.scope d.0
    widens =
        subst (λ (z : Scope × Function). Widens c.scope z.0) y.built
        (block_widens (is_attributed k name) c.scope y.behind.0 s.locals
        (grows_joined (body_entered (is_attributed k name) c.scope) y.first y.behind.0 first.grows then_grows))

    undefined : (f : Function) → slice_get c.functions g ≡ Some (Some f) → ⊥
    undefined f h = no (sym (ap is_defined h) ∙ new)
      where
        no : true ≡ false → ⊥
        no e = absurd (cc)

    stays : (i : ℕ) (f : Function) → slice_get c.functions i ≡ Some (Some f) → slice_get after.functions i ≡ Some (Some f)
    stays i f h = by (set_before c.functions g i (Some d.1) (Some f) h)
      where
        by : (slice_get after.functions i ≡ Some (Some f)) ⊎ (i ≡ g) → slice_get after.functions i ≡ Some (Some f)
        by (inl e) = e
        by (inr e) = absurd (undefined f (ap (λ j. slice_get c.functions j) (sym e) ∙ h))

    extends_left : Extends left after
    extends_left = record {
      signatures = keeps_same left.scope.signatures;
      objects = λ n o h. still_same o left.objects n h;
      functions = stays;
      names = λ n m h. h;
    }

    abbrev behind : IsSoundBehind k c left
    behind = widens_sound k c d.0 widens s

    extends_all : Extends c after
    extends_all = extends_joined c left after behind.extends extends_left

    -- its parameters have the types of its declarator
    counted : length y.first.locals ≡ length params
    counted = ap length first.scalars.1 ∙ first.scalars.2

    types : (its c.scope.signatures result params signature number).params ≡ map (λ l. l.ctype) (take (length params) y.behind.0.locals)
    types =
        parameters_match params (block_entered number.scope, []) (type c.scope.signatures result params signature number).behind
        (body_entered (is_attributed k name) c.scope) y.first refl refl (type c.scope.signatures result params signature number).judged y.parameters
        (its_kept c.scope.signatures result params signature number) ∙
        ap (λ ls. map (λ l. l.ctype) ls) (sym (keeps_take y.first.locals y.behind.0.locals then_grows.locals) ∙ ap (λ n. take n y.behind.0.locals) counted)

    abbrev Defines : Function → Type 0
    Defines f = IsDefinition k after g f

    new_definition : IsDefinition k after g d.1
    new_definition = subst (λ (z : Scope × Function). Defines z.1) y.built (record {
      routine = r;
      number = here;
      meaning = extends_all.names name (meaning.Function r) means;
      typed = record {
        signature = its c.scope.signatures result params signature number;
        there = extends_all.signatures r.signature (its c.scope.signatures result params signature number)
            (ap (λ n. slice_get c.scope.signatures n) of_type ∙ its_there c.scope.signatures result params signature number);
        result = refl;
        parameters = types;
      };
    })

    definitions : (i : ℕ) (f : Function) → slice_get after.functions i ≡ Some (Some f) → IsDefinition k after i f
    definitions i f h = by (set_elsewhere c.functions g i (Some d.1) (Some f) h)
      where
        by : (slice_get c.functions i ≡ Some (Some f)) ⊎ ((i ≡ g) × (Some d.1 ≡ Some f)) → IsDefinition k after i f
        by (inl e) = definition_kept k left after extends_left i f (behind.sound.functions i f e)
        by (inr e) = subst (λ j. IsDefinition k after j f) (sym e.0) (subst (λ x. IsDefinition k after g x) (same_Some d.1 f e.1) new_definition)

    new_defined : WasDefined k after d.1
    new_defined = record {
      before = c;
      behind = d.0;
      name = name;
      result = result;
      params = params;
      body = body;
      sound = s;
      judged = q;
      extends = extends_all;
      extends_behind = extends_left;
    }

    were_defined : WereDefined k c → WereDefined k after
    were_defined w i f h = by (set_elsewhere c.functions g i (Some d.1) (Some f) h)
      where
        by : (slice_get c.functions i ≡ Some (Some f)) ⊎ ((i ≡ g) × (Some d.1 ≡ Some f)) → WasDefined k after f
        by (inl e) = was_kept k c after extends_all f (w i f e)
        by (inr e) = subst (λ x. WasDefined k after x) (same_Some d.1 f e.1) new_defined

    definition_sound : IsSoundBehind k c after
    definition_sound = record {
      extends = extends_all;
      sound = record {
        around = behind.sound.around;
        locals = behind.sound.locals;
        results = behind.sound.results;
        count = length-set c.functions g (Some d.1) ∙ s.count;
        names = λ n m h. declared_kept k left after extends_left n m (behind.sound.names n m h);
        functions = definitions;
      };
      defined = were_defined;
    }

-- ---- a declarator that designates a function

unless_good : (P : Contents → Type 0) (place : Place) (rule : Option ℕ) (j : Judged Contents) → (rule ≡ None → IfGood j P) → IfGood (unless_broken place rule j) P
unless_good P place None j h = h refl
unless_good P place (Some rule) j h = tt

no_rule : (allowed twice given : Bool) → broken_rule allowed twice given ≡ None → (allowed ≡ true) × (twice ≡ false)
unfolding broken_rule
no_rule false twice given h = absurd (cc)
no_rule true true given h = absurd (cc)
no_rule true false given h = (refl, refl)

module _ (fit : ParametersFit) (grow : BodyGrows) (k : Foreknown) (d : Declarator) (name : List ℕ) (result : CType) (signature : ℕ) (c : Contents)
    (number : HasNumber c.scope.signatures result (params_of d) signature) where
  abbrev before : Option Meaning
  before = named name c.scope.names.here

  abbrev builtin : Option Known
  builtin = (before_of k name c.scope).builtin

  abbrev place : Option ℕ
  place = place_of name k.outline.functions

  abbrev there : Contents
  there = Scoped k name signature c before builtin

  declared_sound : To k c there
  declared_sound = like_sound k c there (scope_like k name signature c before builtin (
    its c.scope.signatures result (params_of d) signature number,
    its_there c.scope.signatures result (params_of d) signature number,
  ))

  same_signatures : Keeps c.scope.signatures there.scope.signatures
  same_signatures = (scope_like k name signature c before builtin (
    its c.scope.signatures result (params_of d) signature number,
    its_there c.scope.signatures result (params_of d) signature number,
  )).extends.signatures

  number_there : HasNumber there.scope.signatures result (params_of d) signature
  number_there = record {
    scope = number.scope;
    given = number.given;
    judged = number.judged;
    number = number.number;
    kept = keeps_joined number.given.0.signatures c.scope.signatures there.scope.signatures number.kept same_signatures;
  }

  -- a block defines it
  block_sound : (body : Line) (g : ℕ) → place ≡ Some g → may_declare c.scope.signatures signature true before builtin ≡ true →
      is_defined_at c.functions place ≡ false → IfGood (defined k name result (params_of d) (Some body) place there) (To k c)
  block_sound body g here allowed new =
      let j : Judged (Scope × Function) = function_of k name result (params_of d) body there.scope in
      if_then (λ f. j ≡ Good f) (To k c) j (λ f. Good (with_function (in_scope there f.0) (unwrap_or place 0) f.1)) (by_good (λ f. j ≡ Good f) j (λ f q. q)) (λ f q s.
      let m = means_it k name signature c before builtin refl allowed in
      let h = declared_sound s in
      to_joined k c there (with_function (in_scope there f.0) (unwrap_or place 0) f.1) declared_sound
      (λ t. subst (λ (n : Option ℕ). IsSoundBehind k there (with_function (in_scope there f.0) (unwrap_or n 0) f.1)) (sym here)
      (definition_sound fit grow k name result (params_of d) body signature g there here (ap (λ n. is_defined_at c.functions n) (sym here) ∙ new) number_there m.0 m.1 m.2 f q t)) s)

  body_sound : (body : Option Line) → ((line : Line) → body ≡ Some line → (g : ℕ) × (place ≡ Some g)) →
      may_declare c.scope.signatures signature (is_some body) before builtin ≡ true → (is_some body && is_defined_at c.functions place) ≡ false →
      IfGood (defined k name result (params_of d) body place there) (To k c)
  body_sound None foreknown allowed new = declared_sound
  body_sound (Some body) foreknown allowed new = let f = foreknown body refl in block_sound body f.0 f.1 allowed new

  pub function_sound : (body : Option Line) → ((line : Line) → body ≡ Some line → (g : ℕ) × (place ≡ Some g)) →
      IfGood (function_judgement k d name result signature body c) (To k c)
  unfolding function_judgement
  function_sound body foreknown =
      if_then (λ x. Unit {0}) (To k c) (plain_values d.initial there.scope) _ (if_any (plain_values d.initial there.scope)) (λ x u.
      unless_good (To k c) d.place (rule_of d signature body c (before_of k name c.scope)) (defined k name result (params_of d) body place there) (λ q.
      let r = no_rule (may_declare c.scope.signatures signature (is_some body) before builtin) (is_some body && is_defined_at c.functions place) (is_some d.initial) q in
      body_sound body foreknown r.0 r.1))
