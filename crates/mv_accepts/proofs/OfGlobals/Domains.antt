-- The domains of switches: different values, each of which has a property; and what an attribute says of what holds it.
use Rattle.std.proofs.Common.{◌≡◌, ◌≢◌, ℕ, arith, ◌⊎◌, inl, inr, refl, sym, subst, Bool, true, false, not, ◌||◌, is_some, nat_eq, if◌then◌else◌, List, [], ◌∷◌, ◌++◌, Option, Some, None, slice_get, AllPairs}
use Rattle.std.specs.List.{AllByRecursion}
use Rattle.std.proofs.lemmas.List.Quantifiers.{all_pairs_push}
use Rattle.std.proofs.lemmas.List.Elements.{All-get_or, All-from_recursion}
use Rattle.std.proofs.lemmas.Bool.{not-false, or_parts}
use Rattle.mv_num.specs.declared.kind.Kind.{Kind}
use Rattle.mv_num.specs.declared.kind.Kind.TheVariants.{Int}
use Rattle.mv_syntax.specs.declared.place.Place.{Place}
use Rattle.mv_ast.specs.declared.program.CType.{CType}
use Rattle.mv_ast.specs.declared.program.CType.TheVariants.{Scalar}
use Rattle.mv_syntax.specs.declared.unit.Mark.{Mark, out-Mark}
use Rattle.mv_syntax.specs.declared.unit.Node.{Node}
use Rattle.mv_num.specs.Lists.{is_among}
use Rattle.mv_check_scope.specs.declared.scope.Scope.{Scope}
use Rattle.mv_check_scope.specs.Domains.{distinct_behind}
use Rattle.mv_check_expressions.specs.declared.constant.Constant.{Constant}
use Rattle.mv_check_expressions.specs.Judged.{Good, and_then}
use Rattle.mv_check_expressions.specs.NeededConstants.{constant_judgement}
use Rattle.mv_check_declarations.specs.declared.attributes.Attribute.{Attribute}
use Rattle.mv_check_declarations.specs.declared.attributes.Holder.{Holder}
use Rattle.mv_check_declarations.specs.Attributes.{with_value, domain_value, domain, given_domain, holds, held, attribute, attributes}
use Rattle.mv_check_declarations.specs.Constants.{is_value_of}
use Rattle.mv_check_declarations.specs.ValueSets.{with_member}
use Rattle.mv_check_declarations.specs.Globals.{values_of_enumeration, default_domain, domain_or, domain_of}
use Rattle.mv_accepts.proofs.OfStatements.Judging.{IfGood, if_any, if_then, if_kept, if_more, if_through}
use Rattle.mv_accepts.proofs.OfStatements.Lists.{each_any, all_last, all_more}
use Rattle.mv_accepts.proofs.OfGlobals.Tests.{if_given, not_same}
use Rattle.mv_accepts.proofs.OfGlobals.Values.{IsOf, int_is, no_is, yes_is}

-- different values that have a property
pub record IsDomain (V : ℕ → Type 0) (vs : List ℕ) : Type 0 where
  pub values : AllByRecursion V vs
  pub different : AllPairs (λ m n. m ≢ n) vs

not_among : (v : ℕ) (vs : List ℕ) → is_among v vs ≡ false → AllByRecursion (λ w. w ≢ v) vs
not_among v [] h = tt
not_among v (w ∷ ws) h = let r = or_parts (nat_eq v w) (is_among v ws) h in (not_same v w r.0, not_among v ws r.1)

abbrev OptionDomain : (ℕ → Type 0) → Option (List ℕ) → Type 0
OptionDomain V None = Unit {0}
OptionDomain V (Some vs) = IsDomain V vs

-- an attribute that something holds, with its values
abbrev pub IsHeld : Type 0 → (ℕ → Type 0) → Option Attribute → Type 0
IsHeld G V None = Unit {0}
IsHeld G V (Some a) = G × OptionDomain V a.values

-- a constant is a value of the type of a switch
abbrev pub Fits : Option Kind → Constant → Type 0
Fits None c = Unit {0}
Fits (Some k) c = is_value_of k c ≡ true

module _ (V : ℕ → Type 0) where
  pub no_domain : IsDomain V []
  no_domain = record { values = tt; different = λ i j d h k. absurd (omega (arith, k)) }

  pub one_more : (vs : List ℕ) (v : ℕ) → IsDomain V vs → V v → is_among v vs ≡ false → IsDomain V (vs ++ v ∷ [])
  one_more vs v h p q = record {
    values = all_last V vs v h.values p;
    different = all_pairs_push (λ m n. m ≢ n) vs v h.different (λ k d less. All-get_or (λ w. w ≢ v) vs k d less (All-from_recursion (λ w. w ≢ v) vs (not_among v vs q)));
  }

  member_kept : (vs : List ℕ) (v : ℕ) → IsDomain V vs → V v → IsDomain V (with_member vs v)
  member_kept vs v h p = by (is_among v vs) refl
    where
      by : (b : Bool) → is_among v vs ≡ b → IsDomain V (if b then vs else vs ++ v ∷ [])
      by true q = h
      by false q = one_more vs v h p q

  distinct_are : (done vs : List ℕ) → IsDomain V done → AllByRecursion V vs → IsDomain V (distinct_behind done vs)
  distinct_are done [] h k = h
  distinct_are done (v ∷ vs) h k = distinct_are (if is_among v done then done else done ++ v ∷ []) vs (by (is_among v done) refl) k.1
    where
      by : (b : Bool) → is_among v done ≡ b → IsDomain V (if b then done else done ++ v ∷ [])
      by true q = h
      by false q = one_more done v h k.0 q

  -- ---- attributes

  module _ (kind : Option Kind) (admits : (c : Constant) → Fits kind c → V c.value) where
    with_kept : (place : Place) (vs : List ℕ) (c : Constant) → IsDomain V vs → IfGood (with_value place kind vs c) (IsDomain V)
    unfolding with_value
    with_kept place vs c h = by kind (λ q. admits c q)
      where
        by : (k : Option Kind) → (Fits k c → V c.value) → IfGood (with_value place k vs c) (IsDomain V)
        by None f = member_kept vs c.value h (f tt)
        by (Some k) f =
            if_kept (IsDomain V) (not (is_value_of k c) || is_among c.value vs) place 16 (Good (vs ++ c.value ∷ [])) (λ q.
            let r = or_parts (not (is_value_of k c)) (is_among c.value vs) q in one_more vs c.value h (f (not-false (is_value_of k c) r.0)) r.1)

    abbrev Next : List ℕ → List ℕ → Type 0
    Next vs ws = IsDomain V vs → IsDomain V ws

    value_kept : (s : Scope) (node : Node) (vs : List ℕ) → IfGood (domain_value kind s node vs) (Next vs)
    value_kept s node vs =
        if_then (λ c. Unit {0}) (Next vs) (constant_judgement s node) _ (if_any (constant_judgement s node)) (λ c u.
        if_given (IsDomain V vs) (IsDomain V) (with_value node.place kind vs c) (λ h. with_kept node.place vs c h))

    domain_is : (s : Scope) (nodes : List Node) → IfGood (domain kind s nodes) (IsDomain V)
    domain_is s nodes =
        if_more (Next []) (IsDomain V) (domain kind s nodes) (λ vs h. h no_domain)
        (if_through (domain_value kind s) Next (λ node. Unit {0}) (λ x h. h) (λ x y z h k i. k (h i)) (λ node u vs. value_kept s node vs) nodes (each_any nodes) [])

    given_is : (s : Scope) (nodes : Option (List Node)) → IfGood (given_domain kind s nodes) (λ a. OptionDomain V a.values)
    given_is s None = tt
    given_is s (Some nodes) = if_then (IsDomain V) (λ a. OptionDomain V a.values) (domain kind s nodes) _ (domain_is s nodes) (λ vs h. h)

  module _ (kind : Option Kind) (admits : (c : Constant) → Fits kind c → V c.value) (G : Type 0) (holder : Holder)
      (holding : (a : Attribute) → holds holder a ≡ true → G) where
    held_is : (place : Place) (before : Option Attribute) (a : Attribute) → OptionDomain V a.values → IfGood (held place holder before a) (IsHeld G V)
    unfolding held
    held_is place before a h =
        if_kept (IsHeld G V) (is_some before || not (holds holder a)) place 14 (Good (Some a))
        (λ q. (holding a (not-false (holds holder a) (or_parts (is_some before) (not (holds holder a)) q).1), h))

    abbrev HeldNext : Option Attribute → Option Attribute → Type 0
    HeldNext x y = IsHeld G V x → IsHeld G V y

    -- values are held only where they are those of a switch
    values_held : (s : Scope) (m : Mark) (before : Option Attribute) (b : Bool) → holder.with_values ≡ b →
        IfGood (and_then (given_domain (if b then kind else None) s (out-Mark m).values) (held (out-Mark m).place holder before)) (HeldNext before)
    unfolding held
    values_held s m before true q =
        if_then (λ a. OptionDomain V a.values) (HeldNext before) (given_domain kind s (out-Mark m).values) _ (given_is kind admits s (out-Mark m).values) (λ a h.
        if_more (IsHeld G V) (HeldNext before) (held (out-Mark m).place holder before a) (λ y k u. k) (held_is (out-Mark m).place before a h))
    values_held s m before false q = by (out-Mark m).values
      where
        none_held : (a : Attribute) → is_some a.values ≡ true → IfGood (held (out-Mark m).place holder before a) (HeldNext before)
        none_held a r =
            if_kept (HeldNext before) (is_some before || not (holds holder a)) (out-Mark m).place 14 (Good (Some a)) (λ z.
            let t : holds holder a ≡ true = not-false (holds holder a) (or_parts (is_some before) (not (holds holder a)) z).1 in
            absurd (let f : holds holder a ≡ false = rw r q in cc))

        by : (o : Option (List Node)) → IfGood (and_then (given_domain None s o) (held (out-Mark m).place holder before)) (HeldNext before)
        by None = if_more (IsHeld G V) (HeldNext before) (held (out-Mark m).place holder before (record { values = None })) (λ y k u. k)
            (held_is (out-Mark m).place before (record { values = None }) tt)
        by (Some nodes) =
            if_then (λ (a : Attribute). is_some a.values ≡ true) (HeldNext before) (given_domain None s (Some nodes)) _
            (if_then (λ vs. Unit {0}) (λ (a : Attribute). is_some a.values ≡ true) (domain None s nodes) _ (if_any (domain None s nodes)) (λ vs u. refl)) none_held

    attribute_held : (s : Scope) (m : Mark) (before : Option Attribute) → IfGood (attribute holder kind s m before) (HeldNext before)
    attribute_held s m before = values_held s m before holder.with_values refl

    pub attributes_held : (s : Scope) (marks : List Mark) (before : Option Attribute) → IfGood (attributes holder kind s marks before) (HeldNext before)
    attributes_held s marks before =
        if_through (attribute holder kind s) HeldNext (λ m. Unit {0}) (λ x h. h) (λ x y z h k i. k (h i)) (λ m u x. attribute_held s m x) marks (each_any marks) before

-- ---- other properties of the values and of what holds them

domain_more : (V W : ℕ → Type 0) → ((v : ℕ) → V v → W v) → (vs : List ℕ) → IsDomain V vs → IsDomain W vs
domain_more V W f vs h = record { values = all_more V W f vs h.values; different = h.different }

option_more : (V W : ℕ → Type 0) → ((v : ℕ) → V v → W v) → (o : Option (List ℕ)) → OptionDomain V o → OptionDomain W o
option_more V W f None h = tt
option_more V W f (Some vs) h = domain_more V W f vs h

pub held_more : (G H : Type 0) (V W : ℕ → Type 0) → (G → H) → ((v : ℕ) → V v → W v) → (o : Option Attribute) → IsHeld G V o → IsHeld H W o
held_more G H V W g f None h = tt
held_more G H V W g f (Some a) h = (g h.0, option_more V W f a.values h.1)

-- ---- the domain of a switch

-- 0 and 1 are values of each type, and the values of an enumeration are of type `int`
pub two_values : (t : CType) → IsDomain (IsOf t) (0 ∷ 1 ∷ [])
two_values t = one_more (IsOf t) (0 ∷ []) 1 (one_more (IsOf t) [] 0 (no_domain (IsOf t)) (no_is t) refl) (yes_is t) refl

ints_are : (vs : List ℕ) → AllByRecursion (IsOf (Scalar Int)) vs
ints_are [] = tt
ints_are (v ∷ vs) = (int_is v, ints_are vs)

enumeration_is : (o : Option (List ℕ)) → IsDomain (IsOf (Scalar Int)) (values_of_enumeration o)
enumeration_is None = no_domain (IsOf (Scalar Int))
enumeration_is (Some vs) = distinct_are (IsOf (Scalar Int)) [] vs (no_domain (IsOf (Scalar Int))) (ints_are vs)

default_is : (t : CType) (s : Scope) (enumeration : Option ℕ) → (enumeration ≡ None) ⊎ (t ≡ Scalar Int) → IsDomain (IsOf t) (default_domain s enumeration)
default_is t s None h = two_values t
default_is t s (Some n) (inl q) = absurd (cc)
default_is t s (Some n) (inr q) = subst (λ u. IsDomain (IsOf u) (default_domain s (Some n))) (sym q) (enumeration_is (slice_get s.enumerations n))

pub domain_of_is : (t : CType) (s : Scope) (enumeration : Option ℕ) → (enumeration ≡ None) ⊎ (t ≡ Scalar Int) → (G : Type 0) (a : Attribute) → IsHeld G (IsOf t) (Some a) →
    IsDomain (IsOf t) (domain_of s enumeration a)
domain_of_is t s enumeration h G a k = by a.values k.1
  where
    by : (o : Option (List ℕ)) → OptionDomain (IsOf t) o → IsDomain (IsOf t) (domain_or o (default_domain s enumeration))
    by None u = default_is t s enumeration h
    by (Some vs) u = u
