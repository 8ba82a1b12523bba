-- Specifiers and a declarator give an attribute where there is a mark.
use Rattle.std.proofs.Common.{◌≡◌, ℕ, zero, suc, refl, sym, ◌∙◌, ap, ap₂, Bool, true, ◌||◌, not, List, [], ◌∷◌, take, drop, Option, Some, is_some}
use Rattle.std.proofs.Math.Bool.{or-false, or-true}
use Rattle.std.proofs.lemmas.List.{drop-drop}
use Rattle.mv_num.specs.declared.kind.Kind.{Kind}
use Rattle.mv_syntax.specs.declared.place.Place.{Place}
use Rattle.mv_syntax.specs.declared.unit.Declarator.{Declarator}
use Rattle.mv_syntax.specs.declared.unit.EnumSpec.{EnumSpec, out-EnumSpec}
use Rattle.mv_syntax.specs.declared.unit.Mark.{Mark, out-Mark}
use Rattle.mv_syntax.specs.declared.unit.Specs.{Specs, out-Specs}
use Rattle.mv_check_scope.specs.declared.scope.Scope.{Scope}
use Rattle.mv_check_expressions.specs.Judged.{Good}
use Rattle.mv_check_expressions.specs.TypeNames.{type_of}
use Rattle.mv_check_outline.specs.Outlined.{is_filled}
use Rattle.mv_check_declarations.specs.declared.attributes.Attribute.{Attribute}
use Rattle.mv_check_declarations.specs.declared.attributes.Holder.{Holder}
use Rattle.mv_check_declarations.specs.declared.attributes.Position.{Position}
use Rattle.mv_check_declarations.specs.declared.attributes.Position.TheVariants as position
use Rattle.mv_check_declarations.specs.declared.specifiers.Said.{Said}
use Rattle.mv_check_declarations.specs.declared.specifiers.Specified.{Specified}
use Rattle.mv_check_declarations.specs.Attributes.{given_domain, switch_kind, holds, held, attribute, attributes, holder_of, holder_of_all}
use Rattle.mv_check_declarations.specs.Declarators.{designated}
use Rattle.mv_check_declarations.specs.Globals.{file_declarator}
use Rattle.mv_check_declarations.specs.Specifiers.{enumeration_of, count_before_list, nothing_said, enum_specifier, enum_specifiers, kind_of, scalar_kind, type_by_rules, specifiers}
use Rattle.mv_accepts.proofs.OfStatements.Judging.{IfGood, if_any, if_then, if_kept, if_through, if_more}
use Rattle.mv_accepts.proofs.OfStatements.Lists.{each_any}

-- ---- attributes

held_there : (place : Place) (h : Holder) (before : Option Attribute) (a : Attribute) → IfGood (held place h before a) (λ b. is_some b ≡ true)
unfolding held
held_there place h before a = if_kept (λ b. is_some b ≡ true) (is_some before || not (holds h a)) place 14 (Good (Some a)) (λ q. refl)

attribute_there : (h : Holder) (k : Option Kind) (s : Scope) (m : Mark) (before : Option Attribute) → IfGood (attribute h k s m before) (λ b. is_some b ≡ true)
attribute_there h k s m before =
    let f = out-Mark m in
    if_then (λ a. Unit {0}) (λ b. is_some b ≡ true) (given_domain (switch_kind h k) s f.values) _ (if_any (given_domain (switch_kind h k) s f.values)) (λ a u. held_there f.place h before a)

attributes_there : (h : Holder) (k : Option Kind) (s : Scope) (ms : List Mark) (before : Option Attribute) →
    IfGood (attributes h k s ms before) (λ a. is_some a ≡ (is_filled ms || is_some before))
attributes_there h k s [] before = refl
attributes_there h k s (m ∷ ms) before =
    if_then (λ b. is_some b ≡ true) (λ a. is_some a ≡ true) (attribute h k s m before) (attributes h k s ms) (attribute_there h k s m before) (λ b q.
    if_more (λ a. is_some a ≡ (is_filled ms || is_some b)) (λ a. is_some a ≡ true) (attributes h k s ms b)
    (λ a r. r ∙ (ap (λ c. is_filled ms || c) q ∙ or-true (is_filled ms))) (attributes_there h k s ms b))

-- ---- specifiers

parts_filled : (n : ℕ) (ms : List Mark) (b : Bool) → (is_filled (drop n ms) || (is_filled (take n ms) || b)) ≡ (is_filled ms || b)
parts_filled zero ms b = refl
parts_filled (suc n) [] b = refl
parts_filled (suc n) (m ∷ ms) b = or-true (is_filled (drop n ms))

-- whether there is a mark, in what is left or in what was said
abbrev Left : List Mark → Scope × Said → Bool
Left marks x = is_filled (drop x.1.used marks) || is_some x.1.attribute

enum_left : (h : Holder) (k : Option Kind) (marks : List Mark) (e : EnumSpec) (x : Scope × Said) → IfGood (enum_specifier h k marks e x) (λ y. Left marks y ≡ Left marks x)
enum_left h k marks e x =
    let f = out-EnumSpec e in
    let rest : List Mark = drop x.1.used marks in
    let n : ℕ = count_before_list f.members rest in
    let given = attributes h k x.0 (take n rest) x.1.attribute in
    if_then (λ a. is_some a ≡ (is_filled (take n rest) || is_some x.1.attribute)) (λ y. Left marks y ≡ Left marks x) given _ (attributes_there h k x.0 (take n rest) x.1.attribute) (λ a q.
    if_then (λ d. Unit {0}) (λ y. Left marks y ≡ Left marks x) (enumeration_of x.0 f.tag f.members) _ (if_any (enumeration_of x.0 f.tag f.members)) (λ d u.
    ap₂ (λ ms b. is_filled ms || b) (sym (drop-drop n x.1.used marks)) q ∙ parts_filled n rest (is_some x.1.attribute)))

pub specifiers_marked : (position : Position) (names : List Declarator) (specs : Specs) (s : Scope) →
    IfGood (specifiers position names specs s) (λ d. is_some d.1.attribute ≡ is_filled (out-Specs specs).marks)
specifiers_marked position names specs s =
    let f = out-Specs specs in
    let h : Holder = holder_of_all position f.fixed names in
    let k : Option Kind = kind_of (type_of s specs) in
    if_then (λ x. Left f.marks x ≡ is_filled f.marks) (λ d. is_some d.1.attribute ≡ is_filled f.marks) (enum_specifiers h k f.marks f.tags s) _
    (if_more (λ x. Left f.marks x ≡ Left f.marks (s, nothing_said)) (λ x. Left f.marks x ≡ is_filled f.marks) (enum_specifiers h k f.marks f.tags s)
    (λ x q. q ∙ or-false (is_filled f.marks))
    (if_through (enum_specifier h k f.marks) (λ x y. Left f.marks y ≡ Left f.marks x) (λ e. Unit {0}) (λ x. refl) (λ x y z p q. q ∙ p)
    (λ e u x. enum_left h k f.marks e x) f.tags (each_any f.tags) (s, nothing_said)))
    (λ x q.
    let given = attributes h k x.0 (drop x.1.used f.marks) x.1.attribute in
    if_then (λ a. is_some a ≡ Left f.marks x) (λ d. is_some d.1.attribute ≡ is_filled f.marks) given _ (attributes_there h k x.0 (drop x.1.used f.marks) x.1.attribute) (λ a r.
    if_then (λ t. Unit {0}) (λ d. is_some d.1.attribute ≡ is_filled f.marks) (type_by_rules position x.1.undeclared x.1.again specs x.0) _ (if_any (type_by_rules position x.1.undeclared x.1.again specs x.0)) (λ t u. r ∙ q)))

-- ---- declarators

pub file_marked : (b : Specified) (d : Declarator) (s : Scope) → IfGood (file_declarator b d s) (λ e. is_some e.1.attribute ≡ (is_filled d.marks || is_some b.attribute))
file_marked b d s =
    if_then (λ e. Unit {0}) (λ e. is_some e.1.attribute ≡ (is_filled d.marks || is_some b.attribute)) (designated d.shape b.ctype b.fixed s) _ (if_any (designated d.shape b.ctype b.fixed s)) (λ e u.
    let given = attributes (holder_of position.File b.fixed d) (scalar_kind b.ctype) e.0 d.marks b.attribute in
    if_then (λ a. is_some a ≡ (is_filled d.marks || is_some b.attribute)) (λ e. is_some e.1.attribute ≡ (is_filled d.marks || is_some b.attribute)) given _
    (attributes_there (holder_of position.File b.fixed d) (scalar_kind b.ctype) e.0 d.marks b.attribute) (λ a q. q))
