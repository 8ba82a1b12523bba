-- The values that a local is given: what holds of each, converted, and how many there are.
use Rattle.std.proofs.Common.{◌≡◌, ℕ, refl, sym, Bool, true, false, not, ◌&&◌, is_some, nat_le, ap, subst, arith, List, length, Option, Some, None, le-leb}
use Rattle.std.specs.List.{AllByRecursion}
use Rattle.std.proofs.lemmas.Bool.{not-false, and_parts}
use Rattle.mv_ast.specs.declared.program.CType.{CType}
use Rattle.mv_ast.specs.declared.program.Local.{Local}
use Rattle.mv_ast.specs.declared.program.Expr.{Expr}
use Rattle.mv_ast.specs.Counts.{words_of_size}
use Rattle.mv_syntax.specs.declared.unit.Declarator.{Declarator}
use Rattle.mv_syntax.specs.declared.unit.Initial.{Initial}
use Rattle.mv_syntax.specs.declared.unit.Initial.TheVariants as initial
use Rattle.mv_syntax.specs.declared.unit.Node.{Node}
use Rattle.mv_check_scope.specs.declared.scope.Scope.{Scope}
use Rattle.mv_check_scope.specs.Constants.{converts}
use Rattle.mv_check_scope.specs.Conversions.{converted_to}
use Rattle.mv_check_expressions.specs.Judgements.{value_judgement}
use Rattle.mv_check_declarations.specs.declared.initials.Converted.{Converted}
use Rattle.mv_check_declarations.specs.Initials.{with_converted, converted_value, none_converted, converted_values, initial_values}
use Rattle.mv_check_declarations.specs.Locals.{rule_of, local_values}
use Rattle.mv_check_declarations.specs.Objects.{has_room, is_single, is_overfull}
use Rattle.mv_accepts.proofs.OfStatements.Judging.{IfGood, if_any, if_then, if_more, if_through}
use Rattle.mv_accepts.proofs.OfStatements.Lists.{each_any, all_last}
use Rattle.mv_accepts.proofs.OfStatements.Unbroken.{if_unbroken, all_convert, has_extents, named_rule}

-- where a value that keeps the rules is V, and W of a type once it is converted to it
module _ (s : Scope) (V : Expr → Type 0) (value : (node : Node) → IfGood (value_judgement s node) V)
    (W : CType → Expr → Type 0) (convert : (t : CType) (e : Expr) → V e → converts e t ≡ true → W t (converted_to t e)) where
  module _ (t : CType) where
    -- values of which all convert
    abbrev IsConverted : Converted → Type 0
    IsConverted x = x.all ≡ true → AllByRecursion (W t) x.values

    one_more : (x : Converted) (e : Expr) → IsConverted x → V e → IsConverted (with_converted t x e)
    one_more x e h k q = let b = and_parts x.all (converts e t) q in all_last (W t) x.values (converted_to t e) (h b.0) (convert t e k b.1)

    value_converted : (node : Node) (x : Converted) → IsConverted x → IfGood (converted_value t s node x) IsConverted
    value_converted node x h = if_then V IsConverted (value_judgement s node) _ (value node) (λ e k. one_more x e h k)

    abbrev Next : Converted → Converted → Type 0
    Next x y = IsConverted x → IsConverted y

    value_next : (node : Node) (x : Converted) → IfGood (converted_value t s node x) (Next x)
    value_next node x = if_then V (Next x) (value_judgement s node) _ (value node) (λ e k h. one_more x e h k)

    values_converted : (nodes : List Node) → IfGood (converted_values t s nodes) IsConverted
    values_converted nodes =
        if_more (Next none_converted) IsConverted (converted_values t s nodes) (λ x h. h (λ q. tt))
        (if_through (converted_value t s) Next (λ node. Unit {0}) (λ x h. h) (λ x y z h k i. k (h i)) (λ node u x. value_next node x) nodes (each_any nodes) none_converted)

    values_have : (given : Option Initial) → IfGood (initial_values t given s) IsConverted
    values_have None = λ q. tt
    values_have (Some (initial.Value node)) = value_converted node none_converted (λ q. tt)
    values_have (Some (initial.Values nodes)) = values_converted nodes
    values_have (Some (initial.Chars bytes)) = λ q. tt

  pub initials_have : (d : Declarator) (taken : Bool) (l : Local) → IfGood (local_values d taken l s) (AllByRecursion (W l.ctype))
  initials_have d taken l =
      if_then (IsConverted l.ctype) (AllByRecursion (W l.ctype)) (initial_values l.ctype d.initial s) _ (values_have l.ctype d.initial) (λ x h.
      if_unbroken (AllByRecursion (W l.ctype)) d.place (rule_of d.name taken l d.initial x) x.values (λ q.
      let b = (named_rule d.name taken l d.initial x q).1 in
      h (all_convert l d.initial x.all b.void b.unconverted).0))

-- a local that is given values has a name of its own
pub values_new : (d : Declarator) (taken : Bool) (l : Local) (s : Scope) → IfGood (local_values d taken l s) (λ es. (is_some d.name ≡ true) × (taken ≡ false))
values_new d taken l s =
    let New : List Expr → Type 0 = λ es. (is_some d.name ≡ true) × (taken ≡ false) in
    if_then (λ x. Unit {0}) New (initial_values l.ctype d.initial s) _ (if_any (initial_values l.ctype d.initial s)) (λ x u.
    if_unbroken New d.place (rule_of d.name taken l d.initial x) x.values (λ q.
    let n = named_rule d.name taken l d.initial x q in
    (n.0, n.1.redeclared)))

-- ---- how many there are

abbrev Fit : Local → List Expr → Type 0
Fit l es = nat_le (length es) (words_of_size l.size) ≡ true

one_fits : (size : Option ℕ) (n : ℕ) → (is_some size && true) ≡ false → n ≡ 1 → nat_le n (words_of_size size) ≡ true
one_fits None n h q = ap (λ m. nat_le m 1) q
one_fits (Some m) n h q = absurd (cc)

all_fit : (size : Option ℕ) (n : ℕ) → not (has_room size n) ≡ false → nat_le n (words_of_size size) ≡ true
all_fit None n h = absurd (cc)
all_fit (Some m) n h = not-false (nat_le n m) h

-- one value is given alone
abbrev IsOne : Option Initial → Converted → Type 0
IsOne (Some (initial.Value node)) x = length x.values ≡ 1
IsOne (Some (initial.Values nodes)) x = Unit {0}
IsOne _ x = length x.values ≡ 0

given_one : (t : CType) (given : Option Initial) (s : Scope) → IfGood (initial_values t given s) (IsOne given)
given_one t None s = refl
given_one t (Some (initial.Value node)) s =
    if_then (λ e. Unit {0}) (λ x. length x.values ≡ 1) (value_judgement s node) _ (if_any (value_judgement s node)) (λ e u. refl)
given_one t (Some (initial.Values nodes)) s = if_any (converted_values t s nodes)
given_one t (Some (initial.Chars bytes)) s = refl

given_fit : (l : Local) (given : Option Initial) (x : Converted) → IsOne given x → (is_some l.size && is_single given) ≡ false →
    is_overfull false l given (length x.values) ≡ false → Fit l x.values
given_fit l None x n q r = subst (λ m. nat_le m (words_of_size l.size) ≡ true) (sym n) (le-leb 0 (words_of_size l.size) (omega arith))
given_fit l (Some (initial.Value node)) x n q r = one_fits l.size (length x.values) q n
given_fit l (Some (initial.Values nodes)) x n q r = all_fit l.size (length x.values) r
given_fit l (Some (initial.Chars bytes)) x n q r = absurd (cc)

pub initials_fit : (d : Declarator) (taken : Bool) (l : Local) (s : Scope) → IfGood (local_values d taken l s) (Fit l)
initials_fit d taken l s =
    if_then (IsOne d.initial) (Fit l) (initial_values l.ctype d.initial s) _ (given_one l.ctype d.initial s) (λ x n.
    if_unbroken (Fit l) d.place (rule_of d.name taken l d.initial x) x.values (λ q.
    let b = (named_rule d.name taken l d.initial x q).1 in
    given_fit l d.initial x n (all_convert l d.initial x.all b.void b.unconverted).1 (has_extents false l d.initial (length x.values) b.extents).1))
