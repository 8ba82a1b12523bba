-- The value of an expression that keeps the rules has fewer than twice as many nodes as the expression: by induction over it.
use Rattle.std.proofs.Common.{◌≡◌, ℕ, ◌+◌, ◌*◌, ◌≤◌, ◌∙◌, ap, arith, List, map}
use Rattle.std.specs.Prelude.{sum}
use Rattle.std.proofs.lemmas.List.Sums.{sum_by-cons}
use Rattle.mv_ast.specs.declared.program.CType.TheVariants.{Scalar}
use Rattle.mv_ast.specs.declared.program.Expr.{Expr}
use Rattle.mv_syntax.specs.declared.unit.Node.{Node, out-Node, fold_out-Node}
use Rattle.mv_syntax.specs.declared.unit.What.{What, What-F, out-What, fold_out-What}
use Rattle.mv_syntax.specs.declared.unit.EnumSpec.{EnumSpec}
use Rattle.mv_syntax.specs.declared.unit.Mark.{Mark}
use Rattle.mv_syntax.specs.declared.unit.Member.{Member}
use Rattle.mv_syntax.specs.declared.unit.Specs.{Specs}
use Rattle.mv_ast.specs.Counts.{expr_nodes}
use Rattle.mv_check_scope.specs.declared.scope.Scope.{Scope}
use Rattle.mv_check_scope.specs.Scoped.{meaning_of}
use Rattle.mv_check_expressions.specs.declared.seen.Seen.{Seen}
use Rattle.mv_check_expressions.specs.declared.seen.Use.{Use}
use Rattle.mv_check_expressions.specs.declared.seen.Use.TheVariants as «use»
use Rattle.mv_check_expressions.specs.Seen.{value_of, array_of, object_of}
use Rattle.mv_check_expressions.specs.Judgements.{judgement, value_judgement, effect_judgement}
use Rattle.mv_accepts.proofs.OfStatements.Judging.{IfGood, if_then, by_good}
use Rattle.mv_accepts.specs.Limits.Nodes.{what_count, enum_count, mark_count, member_count, node_count, specs_count, node_nodes}
use Rattle.mv_accepts.proofs.OfLimits.NodeCounts.{layer_count}
use Rattle.mv_accepts.proofs.OfLimits.Weights.{nodes_number}
use Rattle.mv_accepts.proofs.OfLimits.Made.{converted_weight, binary_weight, choose_weight, place_weight, assign_weight, before_weight, after_weight, element_weight, name_weight, one_weight, args_nodes, call_weight}
use Rattle.mv_accepts.proofs.OfExpressions.Induction.{Steps, every_node}

-- ---- what a node counts

pub counted : (n : Node) (x : What-F What EnumSpec Mark Member Node Specs) → out-What (out-Node n).what ≡ x → node_nodes n ≡ 1 + layer_count x
counted n x o =
    fold_out-Node ℕ ℕ ℕ ℕ ℕ ℕ what_count enum_count mark_count member_count node_count specs_count n ∙
    ap (λ m. 1 + m) (fold_out-What ℕ ℕ ℕ ℕ ℕ ℕ what_count enum_count mark_count member_count node_count specs_count (out-Node n).what ∙ ap layer_count o)

-- ---- what it is found to be

abbrev pub IsFew : ℕ → Seen → Type 0
IsFew n y = 1 + expr_nodes (value_of y) ≤ 2 * n

abbrev AreFew : List Node → List Seen → Type 0
AreFew nodes ys = args_nodes ys ≤ 2 * sum (map node_nodes nodes)

module _ (scope : Scope) where
  steps : Steps scope (λ n u y. IsFew (node_nodes n) y) (λ nodes u ys. AreFew nodes ys)
  steps = record {
    no_argument = λ u. omega arith;
    one_argument = λ a nodes u y ys h k. omega (arith, h, k, sum_by-cons (λ x. x) (node_nodes a) (map node_nodes nodes));
    number = λ n u m kind o k. omega (arith, counted n _ o, nodes_number (Scalar kind) m);
    name = λ n u name o k. omega (arith, counted n _ o, name_weight (meaning_of scope name));
    unary = λ n u op a o x h k. omega (arith, counted n _ o, one_weight u op x, h);
    binary = λ n u op a b o x y h i k. omega (arith, counted n _ o, binary_weight op (value_of x) (value_of y), h, i);
    choose = λ n u c a b o z x y g h i k. omega (arith, counted n _ o, choose_weight (value_of z) (value_of x) (value_of y), g, h, i);
    assign = λ n u op a b o x y h i k. omega (arith, counted n _ o, assign_weight op (object_of x) (value_of y), place_weight x, h, i);
    before = λ n u up a o x h k. omega (arith, counted n _ o, before_weight up (object_of x), place_weight x, h);
    after = λ n u up a o x h k. omega (arith, counted n _ o, after_weight up (object_of x), place_weight x, h);
    index = λ n u a i o x y h j k. omega (arith, counted n _ o, element_weight (array_of x) (value_of y), h, j);
    call = λ n u f nodes o x ys h i k. omega (arith, counted n _ o, call_weight scope.signatures x ys, h, i);
    cast = λ n u specs a o t x q h k. omega (arith, counted n _ o, converted_weight t (value_of x), h);
  }

  few_is : (n : Node) (u : Use) → IfGood (judgement scope n u) (IsFew (node_nodes n))
  few_is n u = by_good (IsFew (node_nodes n)) (judgement scope n u) (every_node scope (λ n u y. IsFew (node_nodes n) y) (λ nodes u ys. AreFew nodes ys) steps n u)

  -- so it has at most twice as many with a conversion around it
  abbrev pub ValueFew : Node → Expr → Type 0
  ValueFew n e = 1 + expr_nodes e ≤ 2 * node_nodes n

  pub value_few : (n : Node) → IfGood (value_judgement scope n) (ValueFew n)
  value_few n = if_then (IsFew (node_nodes n)) (ValueFew n) (judgement scope n «use».Value) _ (few_is n «use».Value) (λ y h. h)

  pub effect_few : (n : Node) → IfGood (effect_judgement scope n) (ValueFew n)
  effect_few n = if_then (IsFew (node_nodes n)) (ValueFew n) (judgement scope n «use».Effect) _ (few_is n «use».Effect) (λ y h. h)
