-- The enumerations that tags at file scope name have values.
use Rattle.std.proofs.Common.{◌≡◌, ℕ, ◌≤◌, ◌⊎◌, inl, inr, ◌++◌, arith, refl, sym, ◌∙◌, ap, subst, Bool, true, false, is_some, nat_eq, if◌then◌else◌, List, [], ◌∷◌, length, length-append, take, drop, Option, Some, None, slice_get}
use Rattle.std.specs.Cmp.Lexicographic.{pointwise}
use Rattle.std.specs.List.{AllByRecursion}
use Rattle.std.proofs.lemmas.Option.{same_Some}
use Rattle.mv_num.specs.declared.kind.Kind.{Kind}
use Rattle.mv_syntax.specs.declared.place.Place.{Place}
use Rattle.mv_syntax.specs.declared.unit.Declarator.{Declarator}
use Rattle.mv_syntax.specs.declared.unit.EnumSpec.{EnumSpec, out-EnumSpec}
use Rattle.mv_syntax.specs.declared.unit.Mark.{Mark}
use Rattle.mv_syntax.specs.declared.unit.Member.{Member, out-Member}
use Rattle.mv_syntax.specs.declared.unit.Specs.{Specs, out-Specs}
use Rattle.mv_check_scope.specs.declared.meaning.Meaning.{Meaning}
use Rattle.mv_check_scope.specs.declared.meaning.Meaning.TheVariants as meaning
use Rattle.mv_check_scope.specs.declared.scope.Scope.{Scope}
use Rattle.mv_check_scope.specs.declared.space.NameSpace.{NameSpace}
use Rattle.mv_check_scope.specs.Domains.{distinct_behind}
use Rattle.mv_check_scope.specs.Spaces.{named, or_else, meaning_in}
use Rattle.mv_check_scope.specs.Scoped.{tag_declared}
use Rattle.mv_check_expressions.specs.TypeNames.{type_of}
use Rattle.mv_check_declarations.specs.declared.attributes.Holder.{Holder}
use Rattle.mv_check_declarations.specs.declared.attributes.Position.{Position}
use Rattle.mv_check_declarations.specs.declared.specifiers.Enumeration.{Enumeration}
use Rattle.mv_check_declarations.specs.declared.specifiers.Said.{Said}
use Rattle.mv_check_declarations.specs.declared.specifiers.Specified.{Specified}
use Rattle.mv_check_declarations.specs.Attributes.{attributes, holder_of_all}
use Rattle.mv_check_declarations.specs.Enumerators.{is_taken, given_value, enumerator_of, new_enumerator, Enumerating, enumerator, enumerators}
use Rattle.mv_check_declarations.specs.Globals.{values_of_enumeration, default_domain}
use Rattle.mv_check_declarations.specs.Specifiers.{number_of_tag, named_enumeration, with_enumeration, tagged, enumeration_of, count_before_list, nothing_said, enum_specifier, enum_specifiers, kind_of, type_by_rules, specifiers}
use Rattle.mv_check_declarations.specs.Turns.{through}
use Rattle.mv_num.specs.Lists.{is_among}
use Rattle.mv_accepts.specs.Statements.Bodies.{Keeps}
use Rattle.mv_accepts.proofs.OfStatements.Judging.{IfGood, if_any, if_then, if_kept, if_more, if_through}
use Rattle.mv_accepts.proofs.OfStatements.Lists.{each_any}
use Rattle.mv_accepts.proofs.OfGlobals.Tests.{if_given}
use Rattle.mv_accepts.proofs.OfStatements.Names.{named_behind}
use Rattle.mv_accepts.proofs.OfStatements.Places.{keeps_same, keeps_more}
use Rattle.mv_accepts_programs.specs.Identifiers.Written.{HasMembers, HasValues, IsFilled}
use Rattle.mv_accepts_programs.proofs.OfIdentifiers.Phrases.{IfSome, HasSome}
use Rattle.mv_accepts_programs.proofs.OfFacts.Attributes.{all_take, all_drop, IsFilledAttribute, attributes_some}
use Rattle.mv_num.proofs.Lists.{last_there}

-- ---- scopes

-- the enumeration with a number is there and has values
abbrev pub Has : Scope → ℕ → Type 0
Has s n = (values : List ℕ) × (slice_get s.enumerations n ≡ Some values) × HasSome values

pub has_more : (s t : Scope) → Keeps s.enumerations t.enumerations → (n : ℕ) → Has s n → Has t n
has_more s t k n h = (h.0, k n h.0 h.1, h.2)

pub number_more : (s t : Scope) → Keeps s.enumerations t.enumerations → (o : Option ℕ) → IfSome (Has s) o → IfSome (Has t) o
number_more s t k None h = tt
number_more s t k (Some n) h = has_more s t k n h

-- No block is entered, and each tag names such an enumeration.
pub record HasTags (s : Scope) : Type 0 where
  pub around : s.tags.around ≡ []
  pub filled : (tag : List ℕ) (n : ℕ) → named tag s.tags.here ≡ Some (meaning.Tag n) → Has s n

pub tags_kept : (s t : Scope) → t.tags ≡ s.tags → Keeps s.enumerations t.enumerations → HasTags s → HasTags t
tags_kept s t q k h = record {
  around = ap (λ (x : NameSpace). x.around) q ∙ h.around;
  filled = λ tag n e. has_more s t k n (h.filled tag n (sym (ap (λ (x : NameSpace). named tag x.here) q) ∙ e));
}

-- ---- domains

-- the different ones of some values are some
distinct_some : (done vs : List ℕ) → HasSome done ⊎ HasSome vs → HasSome (distinct_behind done vs)
distinct_some done [] (inl h) = h
distinct_some done [] (inr h) = absurd (none h)
  where
    none : 1 ≤ 0 → ⊥
    none h = omega (arith, h)
distinct_some done (v ∷ vs) h = distinct_some (if is_among v done then done else done ++ v ∷ []) vs (inl (by (is_among v done) refl))
  where
    there : (ds : List ℕ) → is_among v ds ≡ true → HasSome ds
    there [] q = absurd (cc)
    there (d ∷ ds) q = omega arith

    by : (b : Bool) → is_among v done ≡ b → HasSome (if b then done else done ++ v ∷ [])
    by true q = there done q
    by false q = omega (arith, length-append done (v ∷ []))

pub default_some : (s : Scope) (enumeration : Option ℕ) → IfSome (Has s) enumeration → HasSome (default_domain s enumeration)
default_some s None h = omega arith
default_some s (Some n) h = by (slice_get s.enumerations n) h.1
  where
    by : (o : Option (List ℕ)) → o ≡ Some h.0 → HasSome (values_of_enumeration o)
    by None q = absurd (cc)
    by (Some vs) q = distinct_some [] vs (inr (subst HasSome (sym (same_Some vs h.0 q)) h.2))

-- ---- enumerators

-- the tags and the enumerations are the same
abbrev Same : Scope → Scope → Type 0
Same s t = (t.tags ≡ s.tags) × (t.enumerations ≡ s.enumerations)

same_joined : (s t u : Scope) → Same s t → Same t u → Same s u
same_joined s t u g h = (h.0 ∙ g.0, h.1 ∙ g.1)

enumerator_same : (place : Place) (name : List ℕ) (s : Scope) (value : Option ℕ) → IfGood (enumerator_of place name s value) (λ d. Same s d.0)
enumerator_same place name s None = tt
enumerator_same place name s (Some v) = (refl, refl)

new_same : (place : Place) (name : List ℕ) (s : Scope) (value : Option ℕ) → IfGood (new_enumerator place name s value) (λ d. Same s d.0)
unfolding new_enumerator
new_same place name s value = if_kept (λ d. Same s d.0) (is_taken s name) place 2 (enumerator_of place name s value) (λ q. enumerator_same place name s value)

-- behind an enumerator there is a value
abbrev Behind : Enumerating → Enumerating → Type 0
Behind d e = Same d.0 e.0 × HasSome e.2

member_behind : (m : Member) (e : Enumerating) → IfGood (enumerator m e) (Behind e)
member_behind m e =
    let f = out-Member m in
    if_then (λ value. Unit {0}) (Behind e) (given_value e.0 e.1 f.value) _ (if_any (given_value e.0 e.1 f.value)) (λ value u.
    if_then (λ d. Same e.0 d.0) (Behind e) (new_enumerator f.place f.name e.0 value) _ (new_same f.place f.name e.0 value)
    (λ d h. (h, omega (arith, length-append e.2 (d.1 ∷ [])))))

abbrev Goes : Enumerating → Enumerating → Type 0
Goes d e = Same d.0 e.0 × (HasSome d.2 → HasSome e.2)

members_go : (members : List Member) (e : Enumerating) → IfGood (through enumerator members e) (Goes e)
members_go members e =
    if_through enumerator Goes (λ m. Unit {0}) (λ d. ((refl, refl), λ q. q))
    (λ c d e g h. (same_joined c.0 d.0 e.0 g.0 h.0, λ q. h.1 (g.1 q)))
    (λ m u d. if_more (Behind d) (Goes d) (enumerator m d) (λ e h. (h.0, λ q. h.1)) (member_behind m d)) members (each_any members) e

abbrev Enumerates : Scope → Scope × List ℕ → Type 0
Enumerates s d = Same s d.0 × HasSome d.1

members_some : (members : List Member) (s : Scope) → HasSome members → IfGood (enumerators members s) (Enumerates s)
members_some [] s h = absurd (none h)
  where
    none : 1 ≤ 0 → ⊥
    none h = omega (arith, h)
members_some (m ∷ ms) s h =
    let first : Enumerating = (s, Some 0, []) in
    if_then (Behind first) (Enumerates s) (through enumerator (m ∷ ms) first) _
    (if_then (Behind first) (Behind first) (enumerator m first) (through enumerator ms) (member_behind m first) (λ d g.
    if_more (Goes d) (Behind first) (through enumerator ms d) (λ e k. (same_joined s d.0 e.0 g.0 k.0, k.1 g.1)) (members_go ms d)))
    (λ e k. k)

-- ---- enums

abbrev Names : Scope × Enumeration → Type 0
Names d = HasTags d.0 × IfSome (Has d.0) d.1.number

last_has : (s : Scope) (values : List ℕ) → HasSome values → Has (with_enumeration s values) (length s.enumerations)
last_has s values h = (values, last_there s.enumerations values, h)

either_names : (b : Bool) (d e : Scope × Enumeration) → Names d → Names e → Names (if◌then◌else◌ {A = Scope × Enumeration} b d e)
either_names true d e h k = h
either_names false d e h k = k

same_tag : (m n : ℕ) → meaning.Tag m ≡ meaning.Tag n → m ≡ n
same_tag m n q = cc

tagged_names : (tag : Option (List ℕ)) (s : Scope) (values : List ℕ) → HasTags s → HasSome values → Names (tagged tag s values)
unfolding tagged
tagged_names None s values h v = (tags_kept s (with_enumeration s values) refl (keeps_more s.enumerations (values ∷ [])) h, last_has s values v)
tagged_names (Some tag) s values h v =
    let n : ℕ = length s.enumerations in
    let t : Scope = tag_declared (with_enumeration s values) tag (meaning.Tag n) in
    either_names (is_some (named tag s.tags.here)) (s, record { number = None; again = true }) (t, record { number = Some n; again = false }) (h, tt)
    (record { around = h.around; filled = λ other m q. new other m (named_behind other s.tags.here tag (meaning.Tag n) (meaning.Tag m) q) }, last_has s values v)
  where
    new : (other : List ℕ) (m : ℕ) → (named other s.tags.here ≡ Some (meaning.Tag m)) ⊎ ((pointwise nat_eq other tag ≡ true) × (meaning.Tag (length s.enumerations) ≡ meaning.Tag m)) →
        Has (tag_declared (with_enumeration s values) tag (meaning.Tag (length s.enumerations))) m
    new other m (inl q) = has_more s (with_enumeration s values) (keeps_more s.enumerations (values ∷ [])) m (h.filled other m q)
    new other m (inr q) = subst (Has (with_enumeration s values)) (same_tag (length s.enumerations) m q.1) (last_has s values v)

named_tag : (s : Scope) → HasTags s → (tag : List ℕ) (o : Option Meaning) → named tag s.tags.here ≡ o → IfSome (Has s) (number_of_tag (or_else o None))
named_tag s h tag None q = tt
named_tag s h tag (Some (meaning.Tag n)) q = h.filled tag n q
named_tag s h tag (Some (meaning.Object v)) q = tt
named_tag s h tag (Some (meaning.Array a)) q = tt
named_tag s h tag (Some (meaning.Function r)) q = tt
named_tag s h tag (Some (meaning.Enumerator v)) q = tt
named_tag s h tag (Some (meaning.Known k)) q = tt

enumeration_named : (s : Scope) → HasTags s → (tag : Option (List ℕ)) → IfSome (Has s) (named_enumeration s tag)
enumeration_named s h None = tt
enumeration_named s h (Some tag) =
    subst (λ bs. IfSome (Has s) (number_of_tag (or_else (named tag s.tags.here) (meaning_in bs tag)))) (sym h.around)
    (named_tag s h tag (named tag s.tags.here) refl)

members_there : (o : Option (List Member)) → ((members : List Member) → o ≡ Some members → HasSome members) → IfSome HasSome o
members_there None h = tt
members_there (Some members) h = h members refl

enumeration_names : (s : Scope) → HasTags s → (tag : Option (List ℕ)) (members : Option (List Member)) → IfSome HasSome members → IfGood (enumeration_of s tag members) Names
enumeration_names s h tag None m = (h, enumeration_named s h tag)
enumeration_names s h tag (Some members) m =
    if_then (Enumerates s) Names (enumerators members s) _ (members_some members s m) (λ d e.
    tagged_names tag d.0 d.1 (tags_kept s d.0 e.0.0 (subst (Keeps s.enumerations) (sym e.0.1) (keeps_same s.enumerations)) h) e.1)

-- ---- specifiers

pub record IsFilledSaid (x : Scope × Said) : Type 0 where
  pub tags : HasTags x.0
  pub number : IfSome (Has x.0) x.1.number
  pub attribute : IfSome IsFilledAttribute x.1.attribute

abbrev Next : Scope × Said → Scope × Said → Type 0
Next x y = IsFilledSaid x → IsFilledSaid y

enum_filled : (h : Holder) (k : Option Kind) (marks : List Mark) → AllByRecursion HasValues marks → (e : EnumSpec) → HasMembers e → (x : Scope × Said) → IsFilledSaid x →
    IfGood (enum_specifier h k marks e x) IsFilledSaid
enum_filled h k marks v e m x i =
    let f = out-EnumSpec e in
    let rest : List Mark = drop x.1.used marks in
    let front : List Mark = take (count_before_list f.members rest) rest in
    let filled : AllByRecursion HasValues front = all_take HasValues (count_before_list f.members rest) rest (all_drop HasValues x.1.used marks v) in
    if_then (IfSome IsFilledAttribute) IsFilledSaid (attributes h k x.0 front x.1.attribute) _ (attributes_some h k x.0 front filled x.1.attribute i.attribute) (λ a g.
    if_then Names IsFilledSaid (enumeration_of x.0 f.tag f.members) _ (enumeration_names x.0 i.tags f.tag f.members (members_there f.members m)) (λ d n.
    record { tags = n.0; number = n.1; attribute = g }))

enums_filled : (h : Holder) (k : Option Kind) (marks : List Mark) → AllByRecursion HasValues marks → (tags : List EnumSpec) → AllByRecursion HasMembers tags → (s : Scope) → HasTags s →
    IfGood (enum_specifiers h k marks tags s) IsFilledSaid
enums_filled h k marks v tags m s i =
    if_more (Next (s, nothing_said)) IsFilledSaid (enum_specifiers h k marks tags s) (λ y g. g (record { tags = i; number = tt; attribute = tt }))
    (if_through (enum_specifier h k marks) Next HasMembers (λ x q. q) (λ x y z f g q. g (f q))
    (λ e members x. if_given (IsFilledSaid x) IsFilledSaid (enum_specifier h k marks e x) (λ q. enum_filled h k marks v e members x q)) tags m (s, nothing_said))

-- what specifiers say of the declarators behind them
pub record IsFilledBehind (d : Scope × Specified) : Type 0 where
  pub tags : HasTags d.0
  pub number : IfSome (Has d.0) d.1.enumeration
  pub attribute : IfSome IsFilledAttribute d.1.attribute

pub specifiers_filled : (position : Position) (names : List Declarator) (specs : Specs) → IsFilled specs → (s : Scope) → HasTags s →
    IfGood (specifiers position names specs s) IsFilledBehind
specifiers_filled position names specs w s i =
    let f = out-Specs specs in
    let h : Holder = holder_of_all position f.fixed names in
    let k : Option Kind = kind_of (type_of s specs) in
    if_then IsFilledSaid IsFilledBehind (enum_specifiers h k f.marks f.tags s) _ (enums_filled h k f.marks w.marks f.tags w.tags s i) (λ x g.
    let rest : List Mark = drop x.1.used f.marks in
    if_then (IfSome IsFilledAttribute) IsFilledBehind (attributes h k x.0 rest x.1.attribute) _
    (attributes_some h k x.0 rest (all_drop HasValues x.1.used f.marks w.marks) x.1.attribute g.attribute) (λ a q.
    if_then (λ t. Unit {0}) IsFilledBehind (type_by_rules position x.1.undeclared x.1.again specs x.0) _ (if_any (type_by_rules position x.1.undeclared x.1.again specs x.0)) (λ t u.
    record { tags = g.tags; number = g.number; attribute = q })))
