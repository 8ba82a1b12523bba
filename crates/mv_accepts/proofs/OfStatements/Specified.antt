-- What specifiers declare: enumerators and tags. The type that they name is no pointer.
use Rattle.std.proofs.Common.{◌≡◌, ℕ, inl, refl, sym, ◌∙◌, ap, subst, Bool, true, false, is_some, if◌then◌else◌, List, [], ◌∷◌, length, take, drop, Option, Some, None}
use Rattle.mv_num.specs.declared.kind.Kind.{Kind}
use Rattle.mv_syntax.specs.declared.place.Place.{Place}
use Rattle.mv_syntax.specs.declared.unit.Declarator.{Declarator}
use Rattle.mv_syntax.specs.declared.unit.EnumSpec.{EnumSpec, out-EnumSpec}
use Rattle.mv_syntax.specs.declared.unit.Mark.{Mark}
use Rattle.mv_syntax.specs.declared.unit.Member.{Member, out-Member}
use Rattle.mv_syntax.specs.declared.unit.Specs.{Specs, out-Specs}
use Rattle.mv_check_scope.specs.declared.scope.Scope.{Scope}
use Rattle.mv_check_scope.specs.Spaces.{named}
use Rattle.mv_check_expressions.specs.TypeNames.{type_of}
use Rattle.mv_check_declarations.specs.declared.attributes.Holder.{Holder}
use Rattle.mv_check_declarations.specs.declared.attributes.Position.{Position}
use Rattle.mv_check_declarations.specs.declared.specifiers.Said.{Said}
use Rattle.mv_check_declarations.specs.declared.specifiers.Specified.{Specified}
use Rattle.mv_check_declarations.specs.Attributes.{attributes, holder_of_all}
use Rattle.mv_check_declarations.specs.Enumerators.{is_taken, given_value, enumerator_of, new_enumerator, Enumerating, enumerator, enumerators}
use Rattle.mv_check_declarations.specs.Turns.{through}
use Rattle.mv_check_scope.specs.declared.meaning.Meaning.TheVariants as meaning
use Rattle.mv_check_scope.specs.Scoped.{tag_declared, declared}
use Rattle.mv_check_declarations.specs.Specifiers.{with_enumeration, tagged, enumeration_of, count_before_list, nothing_said, enum_specifier, enum_specifiers, kind_of, type_by_rules, specifiers}
use Rattle.mv_check_scope.specs.declared.space.NameSpace.{NameSpace}
use Rattle.mv_check_scope.specs.Known.{known_function}
use Rattle.mv_check_scope.specs.Scopes.{sought}
use Rattle.mv_check_scope.specs.Scoped.{unless_declared}
use Rattle.mv_check_declarations.specs.declared.specifiers.Enumeration.{Enumeration}
use Rattle.mv_accepts.specs.Statements.Bodies.{Keeps, AreListed}
use Rattle.mv_accepts.proofs.OfStatements.Judging.{IfGood, if_any, if_then, if_kept, if_through, if_more}
use Rattle.mv_accepts.proofs.OfStatements.Places.{keeps_same, keeps_more}
use Rattle.mv_accepts.proofs.OfStatements.Growing.{Enumerates, enumerates_same, enumerates_joined, enumerates_one}
use Rattle.mv_accepts.proofs.OfStatements.NamedTypes.{IsNamed, rules_named, named_is_plain}
use Rattle.mv_accepts.proofs.OfStatements.Lists.{each_any}
use Rattle.mv_accepts.proofs.OfExpressions.Plain.{IsPlain}

-- ---- a relation of scopes that specifiers keep

-- it holds behind them, and they name a type
abbrev pub Behind : (Scope → Scope → Type 0) → Specs → Scope → Scope × Specified → Type 0
Behind R specs s d = R s d.0 × IsNamed specs d.1.ctype

-- where each scope has it to itself and to one that has one more enumerator, and to one that has no other names, signatures and locals, and only more
-- enumerations and tags of its own
module _ (R : Scope → Scope → Type 0) (same : (s : Scope) → R s s) (joined : (s t u : Scope) → R s t → R t u → R s u)
    (one_enumerator : (s : Scope) (name : List ℕ) (v : ℕ) → R s (declared s name (meaning.Enumerator v)))
    (only_tags : (s t : Scope) → t.names ≡ s.names → t.signatures ≡ s.signatures → t.locals ≡ s.locals → t.tags.around ≡ s.tags.around →
    Keeps s.enumerations t.enumerations → R s t) where
  enumerator_kept : (place : Place) (name : List ℕ) (s : Scope) (value : Option ℕ) → IfGood (enumerator_of place name s value) (λ d. R s d.0)
  enumerator_kept place name s None = tt
  enumerator_kept place name s (Some v) = one_enumerator s name v

  new_kept : (place : Place) (name : List ℕ) (s : Scope) (value : Option ℕ) → IfGood (new_enumerator place name s value) (λ d. R s d.0)
  unfolding new_enumerator
  new_kept place name s value = if_kept (λ d. R s d.0) (is_taken s name) place 2 (enumerator_of place name s value) (λ q. enumerator_kept place name s value)

  abbrev Enumerated : Enumerating → Enumerating → Type 0
  Enumerated d e = R d.0 e.0

  member_kept : (m : Member) (e : Enumerating) → IfGood (enumerator m e) (Enumerated e)
  member_kept m e =
      let f = out-Member m in
      if_then (λ value. Unit {0}) (Enumerated e) (given_value e.0 e.1 f.value) _ (if_any (given_value e.0 e.1 f.value)) (λ value u.
      if_then (λ d. R e.0 d.0) (Enumerated e) (new_enumerator f.place f.name e.0 value) _ (new_kept f.place f.name e.0 value) (λ d h. h))

  members_kept : (members : List Member) (s : Scope) → IfGood (enumerators members s) (λ d. R s d.0)
  members_kept members s =
      if_then (Enumerated (s, Some 0, [])) (λ d. R s d.0) (through enumerator members (s, Some 0, [])) _
      (if_through enumerator Enumerated (λ m. Unit {0}) (λ e. same e.0) (λ d e f. joined d.0 e.0 f.0) (λ m u e. member_kept m e) members (each_any members) (s, Some 0, []))
      (λ e h. h)

  either_kept : (s : Scope) (b : Bool) (d e : Scope × Enumeration) → R s d.0 → R s e.0 → R s (if◌then◌else◌ {A = Scope × Enumeration} b d e).0
  either_kept s true d e h k = h
  either_kept s false d e h k = k

  tag_kept : (tag : Option (List ℕ)) (s : Scope) (values : List ℕ) → R s (tagged tag s values).0
  unfolding tagged
  tag_kept None s values = only_tags s (with_enumeration s values) refl refl refl refl (keeps_more s.enumerations (values ∷ []))
  tag_kept (Some tag) s values =
      let t : Scope = tag_declared (with_enumeration s values) tag (meaning.Tag (length s.enumerations)) in
      either_kept s (is_some (named tag s.tags.here)) (s, record { number = None; again = true }) (t, record { number = Some (length s.enumerations); again = false })
      (same s) (only_tags s t refl refl refl refl (keeps_more s.enumerations (values ∷ [])))

  enumeration_kept : (s : Scope) (tag : Option (List ℕ)) (members : Option (List Member)) → IfGood (enumeration_of s tag members) (λ d. R s d.0)
  enumeration_kept s tag None = same s
  enumeration_kept s tag (Some members) =
      if_then (λ d. R s d.0) (λ d. R s d.0) (enumerators members s) _ (members_kept members s)
      (λ d h. joined s d.0 (tagged tag d.0 d.1).0 h (tag_kept tag d.0 d.1))

  abbrev SaidBehind : Scope × Said → Scope × Said → Type 0
  SaidBehind d e = R d.0 e.0

  enum_kept : (h : Holder) (k : Option Kind) (marks : List Mark) (e : EnumSpec) (x : Scope × Said) → IfGood (enum_specifier h k marks e x) (SaidBehind x)
  enum_kept h k marks e x =
      let f = out-EnumSpec e in
      let rest : List Mark = drop x.1.used marks in
      let given = attributes h k x.0 (take (count_before_list f.members rest) rest) x.1.attribute in
      if_then (λ a. Unit {0}) (SaidBehind x) given _ (if_any given) (λ a u.
      if_then (λ d. R x.0 d.0) (SaidBehind x) (enumeration_of x.0 f.tag f.members) _ (enumeration_kept x.0 f.tag f.members) (λ d q. q))

  enums_kept : (h : Holder) (k : Option Kind) (marks : List Mark) (tags : List EnumSpec) (s : Scope) → IfGood (enum_specifiers h k marks tags s) (λ d. R s d.0)
  enums_kept h k marks tags s =
      if_through (enum_specifier h k marks) SaidBehind (λ e. Unit {0}) (λ x. same x.0) (λ x y z. joined x.0 y.0 z.0)
      (λ e u x. enum_kept h k marks e x) tags (each_any tags) (s, nothing_said)

  pub specifiers_kept : (position : Position) (names : List Declarator) (specs : Specs) (s : Scope) → IfGood (specifiers position names specs s) (Behind R specs s)
  specifiers_kept position names specs s =
      let f = out-Specs specs in
      let h : Holder = holder_of_all position f.fixed names in
      let k : Option Kind = kind_of (type_of s specs) in
      if_then (λ x. R s x.0) (Behind R specs s) (enum_specifiers h k f.marks f.tags s) _ (enums_kept h k f.marks f.tags s) (λ x e.
      let given = attributes h k x.0 (drop x.1.used f.marks) x.1.attribute in
      if_then (λ a. Unit {0}) (Behind R specs s) given _ (if_any given) (λ a u.
      if_then (IsNamed specs) (Behind R specs s) (type_by_rules position x.1.undeclared x.1.again specs x.0) _ (rules_named position x.1.undeclared x.1.again specs x.0) (λ t n. (e, n))))

-- ---- specifiers only enumerate

enumerates_tags : (s t : Scope) → t.names ≡ s.names → t.signatures ≡ s.signatures → t.locals ≡ s.locals → t.tags.around ≡ s.tags.around →
    Keeps s.enumerations t.enumerations → Enumerates s t
enumerates_tags s t n q l a e = record {
  declares = record {
    grows = record {
      locals = subst (Keeps s.locals) (sym l) (keeps_same s.locals);
      signatures = subst (Keeps s.signatures) (sym q) (keeps_same s.signatures);
      enumerations = e;
      around = ap (λ (x : NameSpace). x.around) n;
      tags = a;
      results = subst (λ z. AreListed s.signatures → AreListed z) (sym q) (λ h. h);
    };
    same = l;
  };
  names = λ name m h. inl (ap (λ x. unless_declared (sought x name) (known_function name)) (sym n) ∙ h);
}

pub record Specifies (s : Scope) (d : Scope × Specified) : Type 0 where
  pub enumerates : Enumerates s d.0
  pub plain : IsPlain d.1.ctype

pub specifiers_specify : (position : Position) (names : List Declarator) (specs : Specs) (s : Scope) → IfGood (specifiers position names specs s) (Specifies s)
specifiers_specify position names specs s =
    if_more (Behind Enumerates specs s) (Specifies s) (specifiers position names specs s) (λ d h. record { enumerates = h.0; plain = named_is_plain specs d.1.ctype h.1 })
    (specifiers_kept Enumerates enumerates_same enumerates_joined enumerates_one enumerates_tags position names specs s)

pub specifiers_name : (position : Position) (names : List Declarator) (specs : Specs) (s : Scope) → IfGood (specifiers position names specs s) (λ d. IsNamed specs d.1.ctype)
specifiers_name position names specs s =
    if_more (Behind Enumerates specs s) (λ d. IsNamed specs d.1.ctype) (specifiers position names specs s) (λ d h. h.1)
    (specifiers_kept Enumerates enumerates_same enumerates_joined enumerates_one enumerates_tags position names specs s)
