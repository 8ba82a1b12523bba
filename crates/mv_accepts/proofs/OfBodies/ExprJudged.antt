-- By induction over the expression: what keeps the rules has a property where it comes from that of its parts.
use Rattle.std.proofs.Common.{refl, List, length}
use Rattle.std.specs.List.{AllByRecursion}
use Rattle.std.proofs.lemmas.Bool.{not-false}
use Rattle.mv_ast.specs.declared.program.CType.TheVariants.{Scalar}
use Rattle.mv_syntax.specs.declared.unit.Node.{Node}
use Rattle.mv_check_scope.specs.Scoped.{meaning_of}
use Rattle.mv_check_expressions.specs.declared.seen.Seen.{Seen}
use Rattle.mv_check_expressions.specs.declared.seen.Use.{Use}
use Rattle.mv_check_expressions.specs.declared.seen.Use.TheVariants as «use»
use Rattle.mv_check_expressions.specs.Seen.{value_of, object_of}
use Rattle.mv_check_expressions.specs.Calls.{takes_count}
use Rattle.mv_check_expressions.specs.Judgements.{judgement, value_judgement, effect_judgement}
use Rattle.mv_accepts.proofs.OfStatements.Judging.{IfGood, if_then, by_good}
use Rattle.mv_accepts.proofs.OfBodies.ExprProperty.{ExprProperty}
use Rattle.mv_accepts.proofs.OfBodies.ExprForms.{Fine, value_has, converted_has, binary_has, choose_has, object_has, assign_has, before_has, after_has, element_has, one_has, name_has}
use Rattle.mv_accepts.proofs.OfBodies.ExprCalls.{call_has}
use Rattle.mv_accepts.proofs.OfExpressions.Induction.{Steps, every_node}

module _ (x : ExprProperty) where
  abbrev HaveAll : List Node → Use → List Seen → Type 0
  HaveAll nodes u ys = AllByRecursion (Fine x u) ys

  steps : Steps x.scope (λ n u y. Fine x u y) HaveAll
  steps = record {
    no_argument = λ u. tt;
    one_argument = λ a nodes u y ys h k. (h, k);
    number = λ n u m kind o k. (x.number (Scalar kind) m, k.named);
    name = λ n u name o k. (name_has x name (meaning_of x.scope name) refl k.undefined, k.named);
    unary = λ n u op a o s h k. (one_has x u op s h.0, k.named);
    binary = λ n u op a b o s r h i k. (binary_has x op (value_of s) (value_of r) (value_has x s h.0) (value_has x r i.0), k.named);
    choose = λ n u c a b o q s r g h i k. (choose_has x (value_of q) (value_of s) (value_of r) (value_has x q g.0) (value_has x s h.0) (value_has x r i.0), k.named);
    assign = λ n u op a b o s r h i k. (assign_has x op (object_of s) (value_of r) (object_has x s h.0) (value_has x r i.0), k.named);
    before = λ n u up a o s h k. (before_has x up (object_of s) (object_has x s h.0), k.named);
    after = λ n u up a o s h k. (after_has x up (object_of s) (object_has x s h.0), k.named);
    index = λ n u a i o s r h j k. (element_has x s (value_of r) h.0 (value_has x r j.0), k.named);
    call = λ n u f nodes o s r h i k. (call_has x x.scope.signatures s r h.0 i (not-false (takes_count x.scope.signatures s (length r)) k.called), k.named);
    cast = λ n u specs a o t s q h k. (converted_has x t (value_of s) (value_has x s h.0), k.named);
  }

  fine_is : (n : Node) (u : Use) → IfGood (judgement x.scope n u) (Fine x u)
  fine_is n u = by_good (Fine x u) (judgement x.scope n u) (every_node x.scope (λ n u y. Fine x u y) HaveAll steps n u)

  pub value_kept : (n : Node) → IfGood (value_judgement x.scope n) x.of_expr
  value_kept n = if_then (Fine x «use».Value) x.of_expr (judgement x.scope n «use».Value) _ (fine_is n «use».Value) (λ y h. value_has x y h.0)

  pub effect_kept : (n : Node) → IfGood (effect_judgement x.scope n) x.of_expr
  effect_kept n = if_then (Fine x «use».Effect) x.of_expr (judgement x.scope n «use».Effect) _ (fine_is n «use».Effect) (λ y h. value_has x y h.0)
