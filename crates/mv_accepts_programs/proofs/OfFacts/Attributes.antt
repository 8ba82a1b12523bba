-- The domain of an attribute that is written with values has some.
use Rattle.std.proofs.Common.{◌≡◌, ℕ, zero, suc, ◌++◌, arith, refl, Bool, true, false, not, if◌then◌else◌, ◌||◌, is_some, List, [], ◌∷◌, length-append, Option, Some, None, take, drop}
use Rattle.std.specs.List.{AllByRecursion}
use Rattle.mv_num.specs.declared.kind.Kind.{Kind}
use Rattle.mv_syntax.specs.declared.place.Place.{Place}
use Rattle.mv_syntax.specs.declared.unit.Mark.{Mark, out-Mark}
use Rattle.mv_syntax.specs.declared.unit.Node.{Node}
use Rattle.mv_num.specs.Lists.{is_among}
use Rattle.mv_check_scope.specs.declared.scope.Scope.{Scope}
use Rattle.mv_check_expressions.specs.declared.constant.Constant.{Constant}
use Rattle.mv_check_expressions.specs.Judged.{Good}
use Rattle.mv_check_expressions.specs.NeededConstants.{constant_judgement}
use Rattle.mv_check_declarations.specs.declared.attributes.Attribute.{Attribute}
use Rattle.mv_check_declarations.specs.declared.attributes.Holder.{Holder}
use Rattle.mv_check_declarations.specs.Attributes.{switch_kind, with_value, domain_value, domain, given_domain, holds, held, attribute, attributes}
use Rattle.mv_check_declarations.specs.Constants.{is_value_of}
use Rattle.mv_check_declarations.specs.Turns.{through}
use Rattle.mv_check_declarations.specs.ValueSets.{with_member}
use Rattle.mv_accepts.proofs.OfStatements.Judging.{IfGood, if_any, if_then, if_kept, if_more, if_through}
use Rattle.mv_accepts.proofs.OfStatements.Lists.{each_any}
use Rattle.mv_accepts_programs.specs.Identifiers.Written.{HasValues}
use Rattle.mv_accepts_programs.proofs.OfIdentifiers.Phrases.{IfSome, HasSome}

-- ---- lists

pub all_take : {A : Type 0} (P : A → Type 0) (n : ℕ) (xs : List A) → AllByRecursion P xs → AllByRecursion P (take n xs)
all_take P zero xs h = tt
all_take P (suc n) [] h = tt
all_take P (suc n) (x ∷ xs) h = (h.0, all_take P n xs h.1)

pub all_drop : {A : Type 0} (P : A → Type 0) (n : ℕ) (xs : List A) → AllByRecursion P xs → AllByRecursion P (drop n xs)
all_drop P zero xs h = h
all_drop P (suc n) [] h = tt
all_drop P (suc n) (x ∷ xs) h = all_drop P n xs h.1

-- ---- domains

last_some : (vs : List ℕ) (v : ℕ) → HasSome (vs ++ v ∷ [])
last_some vs v = omega (arith, length-append vs (v ∷ []))

among_some : (vs : List ℕ) (v : ℕ) → is_among v vs ≡ true → HasSome vs
among_some [] v q = absurd (cc)
among_some (w ∷ ws) v q = omega arith

member_some : (vs : List ℕ) (v : ℕ) → HasSome (with_member vs v)
member_some vs v = by (is_among v vs) refl
  where
    by : (b : Bool) → is_among v vs ≡ b → HasSome (if b then vs else vs ++ v ∷ [])
    by true q = among_some vs v q
    by false q = last_some vs v

value_some : (place : Place) (k : Option Kind) (vs : List ℕ) (c : Constant) → IfGood (with_value place k vs c) HasSome
unfolding with_value
value_some place None vs c = member_some vs c.value
value_some place (Some k) vs c =
    if_kept HasSome (not (is_value_of k c) || is_among c.value vs) place 16 (Good (vs ++ c.value ∷ [])) (λ q. last_some vs c.value)

domain_value_some : (k : Option Kind) (s : Scope) (node : Node) (vs : List ℕ) → IfGood (domain_value k s node vs) HasSome
domain_value_some k s node vs =
    if_then (λ c. Unit {0}) HasSome (constant_judgement s node) _ (if_any (constant_judgement s node)) (λ c u. value_some node.place k vs c)

abbrev Still : List ℕ → List ℕ → Type 0
Still vs ws = HasSome vs → HasSome ws

domain_some : (k : Option Kind) (s : Scope) (nodes : List Node) → HasSome nodes → IfGood (domain k s nodes) HasSome
domain_some k s [] h = omega (arith, h)
domain_some k s (n ∷ ns) h =
    if_then HasSome HasSome (domain_value k s n []) _ (domain_value_some k s n []) (λ vs g.
    if_more (Still vs) HasSome (through (domain_value k s) ns vs) (λ ws f. f g)
    (if_through (domain_value k s) Still (λ node. Unit {0}) (λ vs q. q) (λ us vs ws f g q. g (f q))
    (λ node u vs. if_more HasSome (Still vs) (domain_value k s node vs) (λ ws q p. q) (domain_value_some k s node vs)) ns (each_any ns) vs))

-- ---- attributes

-- an attribute has no values of its own, or some
abbrev pub IsFilledAttribute : Attribute → Type 0
IsFilledAttribute a = IfSome HasSome a.values

given_some : (k : Option Kind) (s : Scope) (nodes : Option (List Node)) → IfSome HasSome nodes → IfGood (given_domain k s nodes) IsFilledAttribute
given_some k s None h = tt
given_some k s (Some nodes) h = if_then HasSome IsFilledAttribute (domain k s nodes) _ (domain_some k s nodes h) (λ vs g. g)

held_some : (place : Place) (h : Holder) (before : Option Attribute) (a : Attribute) → IsFilledAttribute a → IfGood (held place h before a) (IfSome IsFilledAttribute)
unfolding held
held_some place h before a f = if_kept (IfSome IsFilledAttribute) (is_some before || not (holds h a)) place 14 (Good (Some a)) (λ q. f)

values_some : (o : Option (List Node)) → ((values : List Node) → o ≡ Some values → HasSome values) → IfSome HasSome o
values_some None h = tt
values_some (Some values) h = h values refl

attribute_some : (h : Holder) (k : Option Kind) (s : Scope) (m : Mark) (before : Option Attribute) → HasValues m → IfGood (attribute h k s m before) (IfSome IsFilledAttribute)
attribute_some h k s m before v =
    let f = out-Mark m in
    if_then IsFilledAttribute (IfSome IsFilledAttribute) (given_domain (switch_kind h k) s f.values) _ (given_some (switch_kind h k) s f.values (values_some f.values v)) (λ a g. held_some f.place h before a g)

abbrev Next : Option Attribute → Option Attribute → Type 0
Next a b = IfSome IsFilledAttribute a → IfSome IsFilledAttribute b

pub attributes_some : (h : Holder) (k : Option Kind) (s : Scope) (marks : List Mark) → AllByRecursion HasValues marks → (before : Option Attribute) →
    IfSome IsFilledAttribute before → IfGood (attributes h k s marks before) (IfSome IsFilledAttribute)
attributes_some h k s marks v before f =
    if_more (Next before) (IfSome IsFilledAttribute) (attributes h k s marks before) (λ a g. g f)
    (if_through (attribute h k s) Next HasValues (λ a q. q) (λ a b c f g q. g (f q))
    (λ m values a. if_more (IfSome IsFilledAttribute) (Next a) (attribute h k s m a) (λ b q p. q) (attribute_some h k s m a values)) marks v before)
