-- A bare name that stands again in a declaration declares nothing new.
use Rattle.std.proofs.Common.{◌≡◌, ℕ, zero, suc, ◌⊎◌, inl, inr, refl, sym, ◌∙◌, ap, ap₂, subst, Bool, true, false, not, ◌&&◌, ◌||◌, is_some, nat_eq, if◌then◌else◌, List, [], ◌∷◌, ◌++◌, length, Option, Some, None, slice_get, slice_set}
use Rattle.std.specs.Cmp.Lexicographic.{pointwise, same_text}
use Rattle.std.proofs.lemmas.Cmp.{nat_list_eq_equiv}
use Rattle.mv_num.specs.declared.kind.Kind.{Kind}
use Rattle.mv_syntax.specs.declared.place.Place.{Place}
use Rattle.mv_ast.specs.declared.program.CType.{CType}
use Rattle.mv_ast.specs.declared.program.Global.{Global}
use Rattle.mv_syntax.specs.declared.unit.Declarator.{Declarator}
use Rattle.mv_syntax.specs.declared.unit.Initial.{Initial}
use Rattle.mv_syntax.specs.declared.unit.Line.{Line}
use Rattle.mv_syntax.specs.declared.unit.Mark.{Mark}
use Rattle.mv_syntax.specs.declared.unit.Param.{Param}
use Rattle.mv_syntax.specs.declared.unit.Shape.{Shape, Shape-F, out-Shape, map-Shape, fold_out-Shape}
use Rattle.mv_syntax.specs.declared.unit.Shape.TheOpen as shape
use Rattle.mv_check_scope.specs.declared.meaning.Meaning.{Meaning}
use Rattle.mv_check_scope.specs.declared.scope.Scope.{Scope}
use Rattle.mv_check_scope.specs.Conversions.{same_type, is_void}
use Rattle.mv_check_scope.specs.Names.{Names}
use Rattle.mv_check_scope.specs.Spaces.{named}
use Rattle.mv_check_scope.proofs.Types.{type_same}
use Rattle.mv_check_scope.proofs.BoundNames.{named_last, names_kept}
use Rattle.mv_check_scope.specs.Spaces.{or_else}
use Rattle.mv_check_expressions.specs.Judged.{Judged, Good, and_then}
use Rattle.mv_check_outline.specs.Names.{same_name, is_among, with_name}
use Rattle.mv_check_outline.specs.Outlined.{is_filled, is_pointer_form, name_of}
use Rattle.mv_check_declarations.specs.declared.attributes.Attribute.{Attribute}
use Rattle.mv_check_declarations.specs.declared.attributes.Holder.{Holder}
use Rattle.mv_check_declarations.specs.declared.attributes.Position.TheVariants as position
use Rattle.mv_check_declarations.specs.declared.declarators.Entity.TheVariants as entity
use Rattle.mv_check_declarations.specs.declared.specifiers.Specified.{Specified}
use Rattle.mv_check_declarations.specs.Attributes.{attributes, holder_of}
use Rattle.mv_check_declarations.specs.Declarators.{Shapes, Declarators, Params, shape_step, declarator_step, param_step, designated, parameter, parameter_declarator}
use Rattle.mv_check_declarations.specs.Globals.{file_declarator, global_words, values_of_enumeration, domain_or}
use Rattle.mv_check_declarations.specs.Objects.{scalar, least, unless_broken}
use Rattle.mv_check_declarations.specs.Specifiers.{scalar_kind}
use Rattle.mv_types.specs.declared.contents.Contents.{Contents}
use Rattle.mv_types.specs.declared.contents.Foreknown.{Foreknown}
use Rattle.mv_types.specs.declared.contents.Object.{Object}
use Rattle.mv_types.specs.Objects.{number_of, object_at, same_size, same_domain, agrees, agrees_with, may_declare, breaches, object_meaning, object_scope, new_object, either_domain, again, replaced, objects_again, objects_behind, object_behind, object_judgement, domain_by}
use Rattle.mv_types.specs.Contents.{in_scope}
use Rattle.mv_types.specs.Foreknown.{is_fixed}
use Rattle.mv_types.specs.Functions.{definition_parameters}
use Rattle.mv_types.specs.Repeated.{is_bare, IsSettled, AreSettled}
use Rattle.mv_types.specs.Units.{base_of, named_declarator, declarator_judgement}
use Rattle.mv_num.proofs.Lists.{set_there, last_there}
use Rattle.mv_syntax.specs.Shapes.{is_plain_shape}

-- ---- lists

module _ {A : Type 0} where
  set_same : (xs : List A) (n : ℕ) (x : A) → slice_get xs n ≡ Some x → slice_set xs n x ≡ xs
  set_same [] n x h = refl
  set_same (y ∷ ys) zero x h = ap (λ z. z ∷ ys) (cc)
  set_same (y ∷ ys) (suc n) x h = ap (λ zs. y ∷ zs) (set_same ys n x h)

  -- what stands at a place still does, or is what one more declaration makes of it
  set_before : (f : A → A) (xs : List A) (n i : ℕ) (x y : A) → slice_get xs n ≡ Some y → slice_get xs i ≡ Some x →
      (slice_get (slice_set xs n (f y)) i ≡ Some x) ⊎ (slice_get (slice_set xs n (f y)) i ≡ Some (f x))
  set_before f [] n i x y h q = absurd (cc)
  set_before f (z ∷ zs) zero zero x y h q = inr (ap (λ w. Some (f w)) (cc))
  set_before f (z ∷ zs) zero (suc i) x y h q = inl q
  set_before f (z ∷ zs) (suc n) zero x y h q = inl q
  set_before f (z ∷ zs) (suc n) (suc i) x y h q = set_before f zs n i x y h q

  more_before : (xs ys : List A) (i : ℕ) (x : A) → slice_get xs i ≡ Some x → slice_get (xs ++ ys) i ≡ Some x
  more_before [] ys i x h = absurd (cc)
  more_before (z ∷ zs) ys zero x h = h
  more_before (z ∷ zs) ys (suc i) x h = more_before zs ys i x h

-- ---- names

name_same : (n : List ℕ) → pointwise nat_eq n n ≡ true
name_same = nat_list_eq_equiv.refl

named_new : (n : List ℕ) (xs : Names) (m : Meaning) → named n xs ≡ None → named n (xs ++ (n, m) ∷ []) ≡ Some m
named_new n xs m h = named_last n xs (n, m) ∙ (ap (λ o. or_else o (named n ((n, m) ∷ []))) h ∙ ap (λ (b : Bool). if b then Some m else None) (name_same n))

-- ---- what is the same agrees

domain_same : (domain : Option (List ℕ)) → same_domain domain domain ≡ true
domain_same None = refl
domain_same (Some values) = name_same values

-- ---- a bare name

-- one more declaration changes nothing of what it has made
domain_kept : (d e : Option (List ℕ)) → either_domain (either_domain d e) e ≡ either_domain d e
domain_kept (Some values) e = refl
domain_kept None None = refl
domain_kept None (Some values) = refl

given_kept : (g : Bool) → ((g || false) || false) ≡ (g || false)
given_kept true = refl
given_kept false = refl

abbrev object_of : Global → Bool → Option (List ℕ) → Object
object_of global given domain = record { global = global; given = given; domain = domain }

again_kept : (domain : Option (List ℕ)) (o : Object) → again (again o [] false domain) [] false domain ≡ again o [] false domain
again_kept domain o = ap₂ (object_of o.global) (given_kept o.given) (domain_kept o.domain domain)

-- and agrees as before
again_allowed : (t : CType) (domain : Option (List ℕ)) (o : Object) → agrees o (scalar t) false domain ≡ true → agrees (again o [] false domain) (scalar t) false domain ≡ true
again_allowed t domain o h = by (same_type o.global.ctype t) (same_size o.global.size None) o.given o.domain domain h
  where
    by : (a b g : Bool) (d e : Option (List ℕ)) → (a && (b && (not (g && false) && same_domain d e))) ≡ true →
        (a && (b && (not ((g || false) && false) && same_domain (either_domain d e) e))) ≡ true
    by a b true None e h = rw (domain_same e) h
    by a b true (Some values) e h = h
    by a b false None e h = rw (domain_same e) h
    by a b false (Some values) e h = h

-- an object that a bare name may declare again
found : (t : CType) (domain : Option (List ℕ)) (objects : List Object) (m : Meaning) → may_declare (Some m) objects (scalar t) false domain ≡ true →
    (n : ℕ) × (o : Object) × (number_of m ≡ Some n) × (slice_get objects n ≡ Some o) × (agrees o (scalar t) false domain ≡ true)
found t domain objects m h = by (number_of m) refl h
  where
    at : (n : ℕ) → number_of m ≡ Some n → (o : Option Object) → slice_get objects n ≡ o → agrees_with o (scalar t) false domain ≡ true →
        (n : ℕ) × (o : Object) × (number_of m ≡ Some n) × (slice_get objects n ≡ Some o) × (agrees o (scalar t) false domain ≡ true)
    at n p None q g = absurd (cc)
    at n p (Some o) q g = (n, o, p, q, g)

    by : (x : Option ℕ) → number_of m ≡ x → agrees_with (object_at objects x) (scalar t) false domain ≡ true →
        (n : ℕ) × (o : Object) × (number_of m ≡ Some n) × (slice_get objects n ≡ Some o) × (agrees o (scalar t) false domain ≡ true)
    by None p g = absurd (cc)
    by (Some n) p g = at n p (slice_get objects n) refl g

-- what stands there then
replaced_is : (domain : Option (List ℕ)) (objects : List Object) (m : Meaning) (n : ℕ) (o : Object) → number_of m ≡ Some n → slice_get objects n ≡ Some o →
    objects_again objects (number_of m) [] false domain ≡ slice_set objects n (again o [] false domain)
replaced_is domain objects m n o p q =
    ap (λ x. objects_again objects x [] false domain) p ∙ ap (λ x. replaced objects n x [] false domain) q

module _ (k : Foreknown) (t : CType) (domain : Option (List ℕ)) where
  -- what a bare name leaves, where it means this before
  abbrev behind : Contents → List ℕ → Option Meaning → Contents
  behind c name before = record c {
    scope = object_scope k name before (scalar t) (length c.objects) c.scope;
    objects = objects_behind c.objects name before (scalar t) [] false domain;
  }

  abbrev words_of : Place → (may void : Bool) → Judged (List ℕ)
  words_of place may void =
      unless_broken place
      (least (record { redeclared = not may; unconverted = not void && (false || (false && false)); void = void; extents = false || false; block = false }))
      []

  abbrev outcome : Place → (may void : Bool) → Contents → List ℕ → Option Meaning → Judged Contents
  outcome place may void c name before =
      and_then (words_of place may void) (λ words. Good (record c {
        scope = object_scope k name before (scalar t) (length c.objects) c.scope;
        objects = objects_behind c.objects name before (scalar t) words false domain;
      }))

  bare_is : (d : Declarator) → d.initial ≡ None → (c : Contents) (name : List ℕ) (before : Option Meaning) →
      object_behind k d name (scalar t) domain false c before ≡ outcome d.place (may_declare before c.objects (scalar t) false domain) (is_void t) c name before
  bare_is d bare c name before = ap whole bare
    where
      whole : Option Initial → Judged Contents
      whole x =
          let s : Scope = object_scope k name before (scalar t) (length c.objects) c.scope in
          and_then (and_then (global_words (scalar t) x s) (λ w. unless_broken d.place (least (breaches before c.objects (scalar t) x w domain false)) w.words)) (λ words.
          Good (record c { scope = s; objects = objects_behind c.objects name before (scalar t) words (is_some x) domain }))

  -- a bare name that may be declared is
  outcome_good : (place : Place) (may void : Bool) (c : Contents) (name : List ℕ) (before : Option Meaning) → may ≡ true → void ≡ false →
      outcome place may void c name before ≡ Good (behind c name before)
  unfolding least
  outcome_good place true false c name before p q = refl
  outcome_good place true true c name before p q = absurd (cc)
  outcome_good place false void c name before p q = absurd (cc)

  outcome_was : (place : Place) (may void : Bool) (c e : Contents) (name : List ℕ) (before : Option Meaning) → outcome place may void c name before ≡ Good e →
      (may ≡ true) × (void ≡ false) × (behind c name before ≡ e)
  unfolding least
  outcome_was place true false c e name before h = (refl, refl, cc)
  outcome_was place true true c e name before h = absurd (cc)
  outcome_was place false void c e name before h = absurd (cc)

  -- ---- what a bare name leaves is settled, and stays so

  settled_new : (c : Contents) (name : List ℕ) → named name c.scope.names.here ≡ None → is_void t ≡ false → IsSettled t domain (behind c name None) name
  unfolding object_scope objects_behind
  settled_new c name none void = record {
    meaning = object_meaning k name (length c.objects) (scalar t) None;
    number = length c.objects;
    object = new_object name (scalar t) [] false domain;
    sound = void;
    means = named_new name c.scope.names.here (object_meaning k name (length c.objects) (scalar t) None) none;
    numbered = refl;
    there = last_there c.objects (new_object name (scalar t) [] false domain);
    allowed = rw (type_same t) (rw (domain_same domain) refl);
    kept = ap (λ d. record { global = record { name = name; ctype = t; size = None; first = [] }; given = false; domain = d }) (twice domain);
  }
    where
      twice : (d : Option (List ℕ)) → either_domain d d ≡ d
      twice None = refl
      twice (Some values) = refl

  settled_old : (c : Contents) (name : List ℕ) (m : Meaning) → named name c.scope.names.here ≡ Some m → may_declare (Some m) c.objects (scalar t) false domain ≡ true →
      is_void t ≡ false → IsSettled t domain (behind c name (Some m)) name
  unfolding object_scope objects_behind
  settled_old c name m means may void =
      let f = found t domain c.objects m may in
      record {
        meaning = m;
        number = f.0;
        object = again f.1 [] false domain;
        sound = void;
        means = means;
        numbered = f.2;
        there = ap (λ os. slice_get os f.0) (replaced_is domain c.objects m f.0 f.1 f.2 f.3) ∙ set_there c.objects f.0 f.1 (again f.1 [] false domain) f.3;
        allowed = again_allowed t domain f.1 f.4;
        kept = again_kept domain f.1;
      }

  stays_new : (c : Contents) (name other : List ℕ) → IsSettled t domain c other → IsSettled t domain (behind c name None) other
  unfolding object_scope objects_behind
  stays_new c name other s = record {
    meaning = s.meaning;
    number = s.number;
    object = s.object;
    sound = s.sound;
    means = names_kept other c.scope.names.here (name, object_meaning k name (length c.objects) (scalar t) None) s.meaning s.means;
    numbered = s.numbered;
    there = more_before c.objects (new_object name (scalar t) [] false domain ∷ []) s.number s.object s.there;
    allowed = s.allowed;
    kept = s.kept;
  }

  stays_old : (c : Contents) (name other : List ℕ) (m : Meaning) → may_declare (Some m) c.objects (scalar t) false domain ≡ true → IsSettled t domain c other →
      IsSettled t domain (behind c name (Some m)) other
  unfolding object_scope objects_behind
  stays_old c name other m may s =
      let f = found t domain c.objects m may in
      record {
        meaning = s.meaning;
        number = s.number;
        object = s.object;
        sound = s.sound;
        means = s.means;
        numbered = s.numbered;
        there =
            ap (λ os. slice_get os s.number) (replaced_is domain c.objects m f.0 f.1 f.2 f.3) ∙
            by (slice_set c.objects f.0 (again f.1 [] false domain)) (set_before (λ o. again o [] false domain) c.objects f.0 s.number s.object f.1 f.3 s.there);
        allowed = s.allowed;
        kept = s.kept;
      }
    where
      by : (os : List Object) → (slice_get os s.number ≡ Some s.object) ⊎ (slice_get os s.number ≡ Some (again s.object [] false domain)) → slice_get os s.number ≡ Some s.object
      by os (inl q) = q
      by os (inr q) = q ∙ ap (λ o. Some o) s.kept

  -- a bare name declares no enumeration
  domain_stays : (c : Contents) (name : List ℕ) (before : Option Meaning) → (behind c name before).scope.enumerations ≡ c.scope.enumerations
  unfolding object_scope
  domain_stays c name None = refl
  domain_stays c name (Some m) = refl

  -- ---- bare names, judged

  module _ (d : Declarator) (bare : d.initial ≡ None) (name : List ℕ) (c : Contents) where
    repeated : IsSettled t domain c name → object_judgement k d name (scalar t) domain false c ≡ Good c
    unfolding object_judgement object_scope objects_behind
    repeated s =
        ap (object_behind k d name (scalar t) domain false c) s.means ∙
        (bare_is d bare c name (Some s.meaning) ∙
        (outcome_good d.place (may_declare (Some s.meaning) c.objects (scalar t) false domain) (is_void t) c name (Some s.meaning) may s.sound ∙
        ap (λ os. Good (record c { objects = os })) same))
      where
        may : may_declare (Some s.meaning) c.objects (scalar t) false domain ≡ true
        may =
            ap (λ x. agrees_with (object_at c.objects x) (scalar t) false domain) s.numbered ∙
            (ap (λ x. agrees_with x (scalar t) false domain) s.there ∙ s.allowed)

        same : objects_again c.objects (number_of s.meaning) [] false domain ≡ c.objects
        same =
            replaced_is domain c.objects s.meaning s.number s.object s.numbered s.there ∙
            (ap (slice_set c.objects s.number) s.kept ∙ set_same c.objects s.number s.object s.there)

    module _ (e : Contents) (h : object_judgement k d name (scalar t) domain false c ≡ Good e) where
      was : (before : Option Meaning) → named name c.scope.names.here ≡ before →
          (may_declare before c.objects (scalar t) false domain ≡ true) × (is_void t ≡ false) × (behind c name before ≡ e)
      unfolding object_judgement
      was before q =
          outcome_was d.place (may_declare before c.objects (scalar t) false domain) (is_void t) c e name before
          (sym (ap (object_behind k d name (scalar t) domain false c) q ∙ bare_is d bare c name before) ∙ h)

      settled : IsSettled t domain e name
      settled = by (named name c.scope.names.here) refl
        where
          by : (before : Option Meaning) → named name c.scope.names.here ≡ before → IsSettled t domain e name
          by None q = let w = was None q in subst (λ x. IsSettled t domain x name) w.2 (settled_new c name q w.1)
          by (Some m) q = let w = was (Some m) q in subst (λ x. IsSettled t domain x name) w.2 (settled_old c name m q w.0 w.1)

      same_enumerations : e.scope.enumerations ≡ c.scope.enumerations
      same_enumerations =
          let before = named name c.scope.names.here in
          ap (λ (x : Contents). x.scope.enumerations) (sym (was before refl).2) ∙ domain_stays c name before

      stays : (other : List ℕ) → IsSettled t domain c other → IsSettled t domain e other
      stays other s = by (named name c.scope.names.here) refl
        where
          by : (before : Option Meaning) → named name c.scope.names.here ≡ before → IsSettled t domain e other
          by None q = let w = was None q in subst (λ x. IsSettled t domain x other) w.2 (stays_new c name other s)
          by (Some m) q = let w = was (Some m) q in subst (λ x. IsSettled t domain x other) w.2 (stays_old c name other m w.0 s)

-- ---- a bare declarator

same_attributes : (h : Holder) (kind : Option Kind) (s : Scope) (marks : List Mark) (before : Option Attribute) → is_filled marks ≡ false → attributes h kind s marks before ≡ Good before
same_attributes h kind s [] before q = refl
same_attributes h kind s (m ∷ ms) before q = absurd (cc)

abbrev layer_of : Shape-F Shape Declarator Param → Shape-F Shapes Declarators Params
layer_of = map-Shape Shape Declarator Param Shapes Declarators Params designated parameter_declarator parameter

plain_is : (x : Shape) (t : CType) (fixed : Bool) (s : Scope) → is_plain_shape (out-Shape x) ≡ true → designated x t fixed s ≡ Good (s, entity.Scalar t fixed)
plain_is x t fixed s q =
    ap (λ (z : Shapes). z t fixed s) (fold_out-Shape Shapes Declarators Params shape_step declarator_step param_step x) ∙ by (out-Shape x) q
  where
    by : (y : Shape-F Shape Declarator Param) → is_plain_shape y ≡ true → shape_step (layer_of y) t fixed s ≡ Good (s, entity.Scalar t fixed)
    by shape.Plain q = refl
    by (shape.Array size) q = absurd (cc)
    by (shape.Function params) q = absurd (cc)
    by (shape.Pointer constant params) q = absurd (cc)
    by (shape.PointerArray constant size params) q = absurd (cc)

-- what the test of a bare name tells
pub record IsBare (body : Option Line) (d : Declarator) : Type 0 where
  pub plain : is_plain_shape (out-Shape d.shape) ≡ true
  pub called : d.name ≡ Some (name_of d)
  pub unmarked : is_filled d.marks ≡ false
  pub unvalued : d.initial ≡ None
  pub blockless : body ≡ None

-- what the specifiers of a declaration give a bare name
abbrev base_domain : Specified → Contents → Option (List ℕ)
base_domain b c = domain_by false c.scope b.enumeration b.attribute

bare_judged : (k : Foreknown) (b : Specified) (body : Option Line) (d : Declarator) (c : Contents) → IsBare body d →
    declarator_judgement k b body d c ≡ object_judgement k d (name_of d) (scalar b.ctype) (base_domain b c) false c
unfolding declarator_judgement named_declarator
bare_judged k b body d c h =
    ap (λ x. and_then (definition_parameters d x c.scope) (λ s. and_then (file_declarator (base_of k d b) d s) (λ e. named_declarator k b x d d.name e.1 (in_scope c e.0)))) h.blockless ∙
    (ap (λ x. and_then x (λ e. named_declarator k b None d d.name e.1 (in_scope c e.0))) designates ∙
    (ap (λ x. named_declarator k b None d x (record { entity = entity.Scalar b.ctype (is_fixed k (name_of d)); attribute = b.attribute }) c) h.called ∙
    ap (λ x. object_judgement k d (name_of d) (scalar b.ctype) (domain_by x c.scope b.enumeration b.attribute) false c) (no_pointer (out-Shape d.shape) h.plain)))
  where
    no_pointer : {A B C : Type 0} (x : Shape-F A B C) → is_plain_shape x ≡ true → is_pointer_form x ≡ false
    no_pointer shape.Plain q = refl
    no_pointer (shape.Array size) q = absurd (cc)
    no_pointer (shape.Function params) q = absurd (cc)
    no_pointer (shape.Pointer constant params) q = absurd (cc)
    no_pointer (shape.PointerArray constant size params) q = absurd (cc)

    designates : file_declarator (base_of k d b) d c.scope ≡ Good (c.scope, record { entity = entity.Scalar b.ctype (is_fixed k (name_of d)); attribute = b.attribute })
    designates =
        ap (λ x. and_then x (λ e. and_then (attributes (holder_of position.File (is_fixed k (name_of d)) d) (scalar_kind b.ctype) e.0 d.marks b.attribute) (λ a. Good (e.0, record { entity = e.1; attribute = a }))))
        (plain_is d.shape b.ctype (is_fixed k (name_of d)) c.scope h.plain) ∙
        ap (λ x. and_then x (λ a. Good (c.scope, record { entity = entity.Scalar b.ctype (is_fixed k (name_of d)); attribute = a })))
        (same_attributes (holder_of position.File (is_fixed k (name_of d)) d) (scalar_kind b.ctype) c.scope d.marks b.attribute h.unmarked)

name_is : (d : Declarator) (name : List ℕ) → d.name ≡ Some name → d.name ≡ Some (name_of d)
name_is d name h = h ∙ ap (λ o. Some o) (sym (ap (λ (o : Option (List ℕ)). name_of (record d { name = o })) h))

is_bare_parts : (body : Option Line) (d : Declarator) → is_bare body d ≡ true → IsBare body d
is_bare_parts body d h = by (is_plain_shape (out-Shape d.shape)) refl d.name refl (is_filled d.marks) refl d.initial refl body refl h
  where
    by : (a : Bool) → is_plain_shape (out-Shape d.shape) ≡ a → (o : Option (List ℕ)) → d.name ≡ o → (m : Bool) → is_filled d.marks ≡ m → (v : Option Initial) → d.initial ≡ v →
        (l : Option Line) → body ≡ l → (a && (is_some o && (not m && (not (is_some v) && not (is_some l))))) ≡ true → IsBare body d
    by true p (Some name) q false r None s None t h = record { plain = p; called = name_is d name q; unmarked = r; unvalued = s; blockless = t }
    by true p (Some name) q false r None s (Some line) t h = absurd (cc)
    by true p (Some name) q false r (Some value) s l t h = absurd (cc)
    by true p (Some name) q true r v s l t h = absurd (cc)
    by true p None q m r v s l t h = absurd (cc)
    by false p o q m r v s l t h = absurd (cc)

same_domain_by : (b : Specified) (c e : Contents) → e.scope.enumerations ≡ c.scope.enumerations → base_domain b e ≡ base_domain b c
same_domain_by b c e q = by b.attribute b.enumeration
  where
    by : (a : Option Attribute) (n : Option ℕ) → domain_by false e.scope n a ≡ domain_by false c.scope n a
    by None n = refl
    by (Some a) None = refl
    by (Some a) (Some n) = ap (λ es. Some (domain_or a.values (values_of_enumeration (slice_get es n)))) q

-- ---- names

among_more : (name other : List ℕ) (names : List (List ℕ)) → is_among other (names ++ name ∷ []) ≡ true → (is_among other names ≡ true) ⊎ (other ≡ name)
among_more name other [] h = by (same_name other name) refl h
  where
    by : (b : Bool) → same_name other name ≡ b → (b || false) ≡ true → (false ≡ true) ⊎ (other ≡ name)
    by true q h = inr (same_text other name (sym q))
    by false q h = absurd (cc)
among_more name other (n ∷ ns) h = by (same_name other n) (λ q. among_more name other ns q) h
  where
    by : (b : Bool) → (is_among other (ns ++ name ∷ []) ≡ true → (is_among other ns ≡ true) ⊎ (other ≡ name)) → (b || is_among other (ns ++ name ∷ [])) ≡ true →
        ((b || is_among other ns) ≡ true) ⊎ (other ≡ name)
    by true f h = inl refl
    by false f h = f h

among_added : (name other : List ℕ) (names : List (List ℕ)) → is_among other (with_name names name) ≡ true → (is_among other names ≡ true) ⊎ (other ≡ name)
among_added name other names h = by (is_among name names) h
  where
    by : (b : Bool) → is_among other (if b then names else names ++ name ∷ []) ≡ true → (is_among other names ≡ true) ⊎ (other ≡ name)
    by true h = inl h
    by false h = among_more name other names h

-- ---- what the code needs

pub none_settled : (b : Specified) (c : Contents) → AreSettled b c []
none_settled b c = record { settled = λ name h. absurd (cc) }

pub settled_again : (k : Foreknown) (b : Specified) (body : Option Line) (d : Declarator) (c : Contents) (names : List (List ℕ)) → AreSettled b c names →
    is_bare body d ≡ true → is_among (name_of d) names ≡ true → declarator_judgement k b body d c ≡ Good c
settled_again k b body d c names s h q =
    let bare = is_bare_parts body d h in
    bare_judged k b body d c bare ∙ repeated k b.ctype (base_domain b c) d bare.unvalued (name_of d) c (s.settled (name_of d) q)

pub one_settled : (k : Foreknown) (b : Specified) (body : Option Line) (d : Declarator) (c e : Contents) (names : List (List ℕ)) → AreSettled b c names →
    is_bare body d ≡ true → declarator_judgement k b body d c ≡ Good e → AreSettled b e (with_name names (name_of d))
one_settled k b body d c e names s h q =
    let bare = is_bare_parts body d h in
    let judged = sym (bare_judged k b body d c bare) ∙ q in
    let domain = base_domain b c in
    record {
      settled = λ name p.
          subst (λ x. IsSettled b.ctype x e name) (sym (same_domain_by b c e (same_enumerations k b.ctype domain d bare.unvalued (name_of d) c e judged)))
          (by name (stays k b.ctype domain d bare.unvalued (name_of d) c e judged) (settled k b.ctype domain d bare.unvalued (name_of d) c e judged) (among_added (name_of d) name names p));
    }
  where
    by : (name : List ℕ) → ((other : List ℕ) → IsSettled b.ctype (base_domain b c) c other → IsSettled b.ctype (base_domain b c) e other) → IsSettled b.ctype (base_domain b c) e (name_of d) →
        (is_among name names ≡ true) ⊎ (name ≡ name_of d) → IsSettled b.ctype (base_domain b c) e name
    by name more new (inl p) = more name (s.settled name p)
    by name more new (inr p) = subst (IsSettled b.ctype (base_domain b c) e) (sym p) new
