-- Specifiers declare their enumerators, and nothing else that is a name.
use Rattle.std.proofs.Common.{◌≡◌, ℕ, Bool, true, false, ◌&&◌, refl, sym, ◌∙◌, ap, subst, is_some, if◌then◌else◌, List, [], ◌∷◌, ◌++◌, map, append-nil, Option, Some, None}
use Rattle.std.proofs.Math.Bool.{or_comm}
use Rattle.std.proofs.lemmas.List.Folds.{list_any-append}
use Rattle.std.specs.List.{flat_map}
use Rattle.mv_num.specs.declared.kind.Kind.{Kind}
use Rattle.mv_syntax.specs.declared.place.Place.{Place}
use Rattle.mv_syntax.specs.declared.unit.EnumSpec.{EnumSpec, out-EnumSpec}
use Rattle.mv_syntax.specs.declared.unit.Mark.{Mark}
use Rattle.mv_syntax.specs.declared.unit.Member.{Member, out-Member}
use Rattle.mv_syntax.specs.declared.unit.Specs.{Specs, out-Specs}
use Rattle.mv_check_scope.specs.declared.meaning.Meaning.{Meaning}
use Rattle.mv_check_scope.specs.declared.scope.Scope.{Scope}
use Rattle.mv_check_scope.specs.Scoped.{declared}
use Rattle.mv_check_scope.specs.Spaces.{named}
use Rattle.mv_check_scope.proofs.BoundNames.{names_kept}
use Rattle.mv_check_outline.specs.Names.{is_among, same_name}
use Rattle.mv_check_expressions.specs.Judged.{unless_broken, first_broken}
use Rattle.mv_check_rules.specs.Nodes.{Bearer}
use Rattle.mv_check_rules.specs.Nodes as node
use Rattle.mv_check_rules.specs.Rules.{concluded, breaches}
use Rattle.mv_check_rules.specs.Declarations.{in_order, Enumerators, enumerator_value, enumerator, new_enumeration, enumeration_of, enumeration, attribute, Specifier, Enum, Attribute, stands_before, specifiers_in_order, Specified, specifier, kind_named, type_of_words, Base, base_of, specifiers}
use Rattle.mv_accepts.proofs.OfStatements.Judging.{IfGood, if_any, if_more, if_then}
use Rattle.mv_accepts_texts.specs.Expressions.{NameList}
use Rattle.mv_accepts_texts.specs.Meanings.{is_global}
use Rattle.mv_accepts_texts.specs.Texts.{members_of, enumerators_of}
use Rattle.mv_accepts_texts.proofs.Scopes.{Hides, hides_names, hides_joined, hides_same, hides_declared, Moves, moves_joined}

-- ---- scopes with more names

-- these names are new, and no signature is
pub record Adds (names : NameList) (s t : Scope) : Type 0 where
  pub moves : Moves [] s t
  pub hides : Hides names s t
  pub kept : (n : List ℕ) (m : Meaning) → named n s.names.here ≡ Some m → named n t.names.here ≡ Some m

pub adds_same : (s t : Scope) → t.names ≡ s.names → t.signatures ≡ s.signatures → Adds [] s t
adds_same s t q r = record {
  moves = record { around = ap (λ names. names.around) q; few = λ f h. rw r h };
  hides = hides_names s t q;
  kept = λ n m h. ap (λ names. named n names.here) q ∙ h;
}

pub adds_none : (s : Scope) → Adds [] s s
adds_none s = adds_same s s refl refl

pub adds_joined : (xs ys : NameList) (s t u : Scope) → Adds xs s t → Adds ys t u → Adds (xs ++ ys) s u
adds_joined xs ys s t u h k = record {
  moves = moves_joined [] [] s t u h.moves k.moves;
  hides = hides_same (ys ++ xs) (xs ++ ys) s u other (hides_joined xs ys s t u h.hides k.hides);
  kept = λ n m q. k.kept n m (h.kept n m q);
}
  where
    other : (n : List ℕ) → is_among n (ys ++ xs) ≡ is_among n (xs ++ ys)
    other n = list_any-append (same_name n) ys xs ∙ (or_comm (is_among n ys) (is_among n xs) ∙ sym (list_any-append (same_name n) xs ys))

pub adds_declared : (s : Scope) (name : List ℕ) (m : Meaning) → named name s.names.here ≡ None → ((g : ℕ) → is_global g (Some m) ≡ false) →
    Adds (name ∷ []) s (declared s name m)
adds_declared s name m new local = record {
  moves = record { around = refl; few = λ f h. h };
  hides = hides_declared s name m new local;
  kept = λ n k h. names_kept n s.names.here (name, m) k h;
}

-- ---- rules that are kept

module _ {A : Type 0} (place : Place) (found : A) where
  pub if_found : (rule : Option ℕ) → IfGood (unless_broken place rule found) (λ x. x ≡ found)
  if_found None = refl
  if_found (Some rule) = tt

  -- a name is new where it being there would break a rule
  pub if_new : (o m : Option Meaning) (rest : Option ℕ) → o ≡ m → IfGood (unless_broken place (if is_some m then Some 2 else rest) found) (λ x. (x ≡ found) × (o ≡ None))
  if_new o None rest q = if_more (λ x. x ≡ found) (λ x. (x ≡ found) × (o ≡ None)) (unless_broken place rest found) (λ x h. (h, q)) (if_found rest)
  if_new o (Some m) rest q = tt

-- ---- enumerators

abbrev member_name : Member → List ℕ
member_name m = (out-Member m).name

abbrev More : NameList → Enumerators → Enumerators → Type 0
More names e x = Adds names e.scope x.scope

enumerator_adds : (m : Member) (e : Enumerators) → IfGood (enumerator m e) (More (member_name m ∷ []) e)
enumerator_adds m e =
    let f = out-Member m in
    if_then (λ v. Unit {0}) (More (f.name ∷ []) e) (enumerator_value e.scope e.following f.value) _ (if_any (enumerator_value e.scope e.following f.value)) (λ v u.
    if_more _ (More (f.name ∷ []) e) (concluded f.place e.scope (node.Enumerator f.name v) _)
    (λ x h. subst (λ (y : Enumerators). More (f.name ∷ []) e y) (sym h.0) (adds_declared e.scope f.name _ h.1 (λ g. refl)))
    (if_new f.place _ (named f.name e.scope.names.here) (named f.name e.scope.names.here) _ refl))

enumerators_add : (ms : List Member) (e : Enumerators) → IfGood (in_order enumerator ms e) (More (map member_name ms) e)
enumerators_add [] e = adds_none e.scope
enumerators_add (m ∷ ms) e =
    if_then (More (member_name m ∷ []) e) (More (map member_name (m ∷ ms)) e) (enumerator m e) (in_order enumerator ms) (enumerator_adds m e) (λ x h.
    if_more (More (map member_name ms) x) (More (map member_name (m ∷ ms)) e) (in_order enumerator ms x)
    (λ y k. adds_joined (member_name m ∷ []) (map member_name ms) e.scope x.scope y.scope h k) (enumerators_add ms x))

enumeration_adds : (tag : Option (List ℕ)) (e : Enumerators) → Adds [] e.scope (new_enumeration tag e).0
enumeration_adds None e = adds_same _ _ refl refl
enumeration_adds (Some tag) e = by (is_some (named tag e.scope.tags.here)) _ (adds_same _ _ refl refl)
  where
    by : (b : Bool) (y : Scope × node.Enumeration) → Adds [] e.scope y.0 → let z : Scope × node.Enumeration = (if b then (e.scope, node.Again) else y) in Adds [] e.scope z.0
    by true y h = adds_none e.scope
    by false y h = h

abbrev enum_names : EnumSpec → NameList
enum_names e = members_of (out-EnumSpec e).members

enum_adds : (tag : Option (List ℕ)) (ms : Option (List Member)) (s : Scope) → IfGood (enumeration_of tag ms s) (λ d. Adds (members_of ms) s d.0)
enum_adds tag None s = adds_none s
enum_adds tag (Some ms) s =
    let begun : Enumerators = record { scope = s; following = Some 0; values = [] } in
    if_then (More (map member_name ms) begun) (λ d. Adds (map member_name ms) s d.0) (in_order enumerator ms begun) _ (enumerators_add ms begun) (λ e h.
    subst (λ names. Adds names s (new_enumeration tag e).0) (append-nil (map member_name ms))
    (adds_joined (map member_name ms) [] s e.scope (new_enumeration tag e).0 h (enumeration_adds tag e)))

-- ---- specifiers

abbrev specifier_names : Specifier → NameList
specifier_names (Enum e) = enum_names e
specifier_names (Attribute m) = []

module _ (bearers : List Bearer) (k : Option Kind) where
  specifier_adds : (x : Specifier) (s : Specified) → IfGood (specifier bearers k x s) (λ t. Adds (specifier_names x) s.scope t.scope)
  specifier_adds (Enum e) s =
      if_then (λ d. Adds (enum_names e) s.scope d.0) (λ (t : Specified). Adds (enum_names e) s.scope t.scope) (enumeration e s.scope) _
      (enum_adds (out-EnumSpec e).tag (out-EnumSpec e).members s.scope) (λ d h. h)
  specifier_adds (Attribute m) s =
      if_then (λ a. Unit {0}) (λ (t : Specified). Adds [] s.scope t.scope) (attribute bearers k s.scope m s.attribute) _
      (if_any (attribute bearers k s.scope m s.attribute)) (λ a u. adds_none s.scope)

  specifiers_add : (xs : List Specifier) (s : Specified) → IfGood (in_order (specifier bearers k) xs s) (λ t. Adds (flat_map specifier_names xs) s.scope t.scope)
  specifiers_add [] s = adds_none s.scope
  specifiers_add (x ∷ xs) s =
      if_then (λ (t : Specified). Adds (specifier_names x) s.scope t.scope) (λ (t : Specified). Adds (flat_map specifier_names (x ∷ xs)) s.scope t.scope)
      (specifier bearers k x s) (in_order (specifier bearers k) xs) (specifier_adds x s) (λ t h.
      if_more (λ (u : Specified). Adds (flat_map specifier_names xs) t.scope u.scope) (λ (u : Specified). Adds (flat_map specifier_names (x ∷ xs)) s.scope u.scope)
      (in_order (specifier bearers k) xs t)
      (λ u i. adds_joined (specifier_names x) (flat_map specifier_names xs) s.scope t.scope u.scope h i) (specifiers_add xs t))

marks_none : (ms : List Mark) → flat_map specifier_names (map Attribute ms) ≡ []
marks_none [] = refl
marks_none (m ∷ ms) = marks_none ms

enums_all : (es : List EnumSpec) → flat_map specifier_names (map Enum es) ≡ flat_map enum_names es
enums_all [] = refl
enums_all (e ∷ es) = ap (λ names. enum_names e ++ names) (enums_all es)

merged : (es : List EnumSpec) (ms : List Mark) → flat_map specifier_names (specifiers_in_order es ms) ≡ flat_map enum_names es
merged [] ms = marks_none ms
merged (e ∷ es) [] = enums_all (e ∷ es)
merged (e ∷ es) (m ∷ ms) = by (stands_before m e) (merged (e ∷ es) ms) (merged es (m ∷ ms))
  where
    by : (b : Bool) → flat_map specifier_names (specifiers_in_order (e ∷ es) ms) ≡ flat_map enum_names (e ∷ es) →
        flat_map specifier_names (specifiers_in_order es (m ∷ ms)) ≡ flat_map enum_names es →
        flat_map specifier_names (if b then Attribute m ∷ specifiers_in_order (e ∷ es) ms else Enum e ∷ specifiers_in_order es (m ∷ ms)) ≡ flat_map enum_names (e ∷ es)
    by true h k = h
    by false h k = ap (λ names. enum_names e ++ names) k

pub specifiers_adds : (local : Bool) (bearers : List Bearer) (specs : Specs) (s : Scope) → IfGood (specifiers local bearers specs s) (λ d. Adds (enumerators_of specs) s d.0)
specifiers_adds local bearers specs s =
    let f = out-Specs specs in
    let begun : Specified = record { scope = s; enums = []; attribute = None } in
    let xs : List Specifier = specifiers_in_order f.tags f.marks in
    if_then (λ (x : Specified). Adds (flat_map specifier_names xs) s x.scope) (λ d. Adds (enumerators_of specs) s d.0)
    (in_order (specifier bearers (kind_named s specs)) xs begun) _ (specifiers_add bearers (kind_named s specs) xs begun) (λ x h.
    let n : node.Node = node.Specifiers (f.hidden && local) x.enums (type_of_words specs) in
    if_more (λ (d : Scope × Base). d ≡ base_of specs x) (λ (d : Scope × Base). Adds (enumerators_of specs) s d.0) (concluded f.place x.scope n (base_of specs x))
    (λ d q. subst (λ (e : Scope × Base). Adds (enumerators_of specs) s e.0) (sym q) (subst (λ names. Adds names s x.scope) (merged f.tags f.marks) h))
    (if_found f.place (base_of specs x) (first_broken (breaches x.scope n))))
