-- Constants and attributes agree.
use Rattle.std.proofs.Common.{◌≡◌, ℕ, refl, sym, ◌∙◌, ap, Bool, true, false, ◌&&◌, ◌||◌, not, is_some, unwrap_or, if◌then◌else◌, Option, Some, None, List, [], ◌∷◌, ◌++◌}
use Rattle.std.specs.List.{list_any}
use Rattle.mv_num.specs.declared.kind.Kind.{Kind}
use Rattle.mv_syntax.specs.declared.place.Place.{Place}
use Rattle.mv_ast.specs.declared.program.CType.{CType}
use Rattle.mv_syntax.specs.declared.unit.Mark.{Mark, out-Mark}
use Rattle.mv_syntax.specs.declared.unit.Node.{Node}
use Rattle.mv_num.specs.Lists.{is_among}
use Rattle.mv_check_scope.specs.declared.scope.Scope.{Scope}
use Rattle.mv_check_scope.specs.Constants.{constant_value}
use Rattle.mv_check_expressions.specs.declared.constant.Constant.{Constant}
use Rattle.mv_check_expressions.specs.Judged.{Good, Broken}
use Rattle.mv_check_expressions.specs.NeededConstants.{unless_inconstant, constant_judgement}
use Rattle.mv_check_declarations.specs.declared.attributes.Attribute.{Attribute}
use Rattle.mv_check_declarations.specs.Constants.{is_value_of}
use Rattle.mv_check_declarations.specs.Attributes.{with_value, domain_value, given_domain, held}
use Rattle.mv_check_declarations.specs.Attributes as code
use Rattle.mv_check_rules.specs.Nodes.{Bearer}
use Rattle.mv_check_rules.specs.Nodes as node
use Rattle.mv_check_rules.specs.Rules.{bears_none, bears_no_values, is_empty, concluded}
use Rattle.mv_check_rules.specs.Declarations.{Attribution, constant, is_switch, switch_kind, value_concluded, listed_value, attribution, attribute}
use Rattle.mv_check_rules.proofs.Agreement.{mapped, attribution_of, holder, AttributesAgree}
use Rattle.mv_check_rules.proofs.Parts.{or_true, then_same, then_mapped, then_to, in_order_same, in_order_mapped, one_rule}

-- ---- constants

needed : (place : Place) (s : Scope) (v : Option ℕ) (t : CType) →
    concluded place s (node.Needed v) (record { value = unwrap_or v 0; ctype = t }) ≡ unless_inconstant place v t
needed place s None t = refl
needed place s (Some v) t = refl

pub constant_agrees : (s : Scope) (n : Node) → constant s n ≡ constant_judgement s n
constant_agrees s n = then_same _ _ (λ e. needed n.place s (constant_value e) e.ctype) _ _ refl

-- ---- the values of an attribute

concluded_value : (k : Option Kind) (place : Place) (s : Scope) (before : List ℕ) (c : Constant) →
    value_concluded k place s before c ≡ with_value place k before c
unfolding with_value
concluded_value None place s before c = refl
concluded_value (Some k) place s before c = one_rule place (before ++ c.value ∷ []) 16 (not (is_value_of k c) || is_among c.value before)

value_agrees : (k : Option Kind) (s : Scope) (n : Node) (before : List ℕ) → listed_value k s n before ≡ domain_value k s n before
value_agrees k s n before = then_same _ _ (concluded_value k n.place s before) _ _ (constant_agrees s n)

values_of : Attribute → Attribution
values_of a = a.values

attribution_agrees : (k : Option Kind) (s : Scope) (values : Option (List Node)) → attribution k s values ≡ mapped (λ (a : Attribute). a.values) (given_domain k s values)
attribution_agrees k s None = refl
attribution_agrees k s (Some ns) =
    then_to (λ (a : Attribute). a.values) _ _ (λ vs. refl) _ _ (in_order_same (listed_value k s) (domain_value k s) (value_agrees k s) ns [])

-- ---- what an attribute stands on

kind_agrees : (bs : List Bearer) (k : Option Kind) → switch_kind bs k ≡ code.switch_kind (holder bs) k
kind_agrees [] k = refl
kind_agrees (b ∷ bs) k = by (list_any (λ x. not (is_switch x)) (b ∷ bs))
  where
    by : (any : Bool) → (if any then None else k) ≡ (if not any then k else None)
    by true = refl
    by false = refl

-- what is no switch bears none, or no values
others : (bs : List Bearer) → list_any (λ b. not (is_switch b)) bs ≡ list_any bears_none bs || list_any bears_no_values bs
others [] = refl
others (node.Switch ∷ bs) = others bs
others (node.Function ∷ bs) = or_true (list_any bears_none bs)
others (node.PointerSwitch ∷ bs) = or_true (list_any bears_none bs)
others (b ∷ bs) = refl

by_bearers : (empty none function again valued : Bool) →
    (empty || none || again || (valued && function)) ≡ (again || not (if valued then not (empty || (none || function)) else not (empty || none)))
by_bearers true none function true valued = refl
by_bearers true none function false true = refl
by_bearers true none function false false = refl
by_bearers false true function true valued = refl
by_bearers false true function false true = refl
by_bearers false true function false false = refl
by_bearers false false function true valued = refl
by_bearers false false true false true = refl
by_bearers false false true false false = refl
by_bearers false false false false true = refl
by_bearers false false false false false = refl

misplaced : (bs : List Bearer) (again : Bool) (a : Attribute) →
    (is_empty bs || list_any bears_none bs || again || (is_some a.values && list_any bears_no_values bs)) ≡ (again || not (code.holds (holder bs) a))
misplaced bs again a =
    by_bearers (is_empty bs) (list_any bears_none bs) (list_any bears_no_values bs) again (is_some a.values) ∙
    ap (λ others. again || not (if is_some a.values then not (is_empty bs || others) else not (is_empty bs || list_any bears_none bs))) (sym (others bs))

attribute_held : (bs : List Bearer) (place : Place) (s : Scope) (before : Option Attribute) (a : Attribute) →
    concluded place s (node.Attribute bs (is_some (attribution_of before)) (is_some a.values)) (Some a.values) ≡ mapped attribution_of (held place (holder bs) before a)
unfolding held
attribute_held bs place s before a =
    one_rule place (Some a.values) 14 (is_empty bs || list_any bears_none bs || is_some (attribution_of before) || (is_some a.values && list_any bears_no_values bs)) ∙
    (ap (λ b. if b then Broken place 14 else Good (Some a.values)) (misplaced bs (is_some (attribution_of before)) a) ∙ by before)
  where
    behind : (b : Bool) → (if b then Broken place 14 else Good (Some a.values)) ≡ mapped attribution_of (if b then Broken place 14 else Good (Some a))
    behind true = refl
    behind false = refl

    by : (before : Option Attribute) → (if is_some (attribution_of before) || not (code.holds (holder bs) a) then Broken place 14 else Good (Some a.values)) ≡
        mapped attribution_of (if is_some before || not (code.holds (holder bs) a) then Broken place 14 else Good (Some a))
    by None = behind (not (code.holds (holder bs) a))
    by (Some b) = refl

-- ---- attributes

attribute_agrees : (bs : List Bearer) (k : Option Kind) (s : Scope) (m : Mark) (before : Option Attribute) →
    attribute bs k s m (attribution_of before) ≡ mapped attribution_of (code.attribute (holder bs) k s m before)
attribute_agrees bs k s m before =
    then_mapped (λ (a : Attribute). a.values) attribution_of _ _ (attribute_held bs (out-Mark m).place s before) _ _
    (ap (λ kind. attribution kind s (out-Mark m).values) (kind_agrees bs k) ∙ attribution_agrees (code.switch_kind (holder bs) k) s (out-Mark m).values)

pub attributes_agree : AttributesAgree
attributes_agree bs k s = in_order_mapped attribution_of (attribute bs k s) (code.attribute (holder bs) k s) (attribute_agrees bs k s)
