-- What local declarations come to: a local for each declarator, and a statement that clears it with its values.
use Rattle.std.proofs.Common.{◌≡◌, ℕ, ◌+◌, ◌*◌, ◌≤◌, Bool, true, false, if◌then◌else◌, refl, ap, arith, Option, Some, None, List, [], ◌∷◌, map, length, length-append}
use Rattle.mv_ast.specs.declared.program.CType.{CType}
use Rattle.mv_ast.specs.declared.program.Expr.{Expr}
use Rattle.mv_ast.specs.declared.program.Local.{Local}
use Rattle.mv_ast.specs.declared.program.Stmt.{Stmt}
use Rattle.mv_syntax.specs.declared.unit.Declarator.{Declarator, fold_out-Declarator}
use Rattle.mv_syntax.specs.declared.unit.Initial.{Initial}
use Rattle.mv_syntax.specs.declared.unit.Initial.TheVariants as initial
use Rattle.mv_syntax.specs.declared.unit.Node.{Node}
use Rattle.mv_syntax.specs.declared.unit.Specs.{Specs}
use Rattle.mv_ast.specs.Counts.{expr_nodes, stmt_nodes}
use Rattle.mv_check_scope.specs.declared.meaning.Meaning.{Meaning}
use Rattle.mv_check_scope.specs.declared.scope.Scope.{Scope}
use Rattle.mv_check_scope.specs.Conversions.{converted_to}
use Rattle.mv_check_scope.specs.Scoped.{declared, with_local}
use Rattle.mv_check_expressions.specs.Judgements.{value_judgement}
use Rattle.mv_check_declarations.specs.declared.attributes.Position.TheVariants as position
use Rattle.mv_check_declarations.specs.declared.declarators.Entity.{Entity}
use Rattle.mv_check_declarations.specs.declared.declarators.Entity.TheVariants as entity
use Rattle.mv_check_declarations.specs.declared.initials.Converted.{Converted}
use Rattle.mv_check_declarations.specs.Attributes.{attributes, nothing_holds}
use Rattle.mv_check_declarations.specs.Declarators.{is_taken_by, designated}
use Rattle.mv_check_declarations.specs.Enumerators.{is_taken}
use Rattle.mv_check_declarations.specs.Initials.{array_size, initial_values, plain_values, converted_value, none_converted}
use Rattle.mv_check_declarations.specs.Locals.{scalar_meaning, array_meaning, own_scope, rule_of, local_values, object, by_entity, local, locals_judgement}
use Rattle.mv_check_declarations.specs.Objects.{scalar, sized}
use Rattle.mv_check_declarations.specs.Specifiers.{specifiers}
use Rattle.mv_check_declarations.specs.Turns.{through, next_part, in_turn}
use Rattle.mv_accepts.proofs.OfStatements.Judging.{IfGood, if_any, if_then, if_more}
use Rattle.mv_accepts.proofs.OfStatements.Unbroken.{if_unbroken}
use Rattle.mv_accepts.proofs.OfStatements.Specified.{Specifies, specifiers_specify}
use Rattle.mv_accepts.proofs.OfStatements.Designated.{Designates, shape_designates}
use Rattle.mv_accepts.specs.Limits.Nodes.{node_nodes, initial_nodes, shape_count, declarator_count, param_count, declarator_nodes}
use Rattle.mv_accepts.proofs.OfLimits.Made.{converted_weight}
use Rattle.mv_accepts.proofs.OfLimits.Expressions.{ValueFew, value_few}
use Rattle.mv_accepts.proofs.OfLimits.Totals.{total, total_append, sum_total, stmts_nodes, nodes_clear}

-- ---- values

-- a given value and its expression
abbrev value_nodes : Expr → ℕ
value_nodes e = 1 + expr_nodes e

values_both : (es : List Expr) → total value_nodes es ≡ length es + total expr_nodes es
values_both [] = refl
values_both (e ∷ es) = omega (arith, values_both es)

abbrev More : Converted → ℕ → Converted → Type 0
More x n y = total value_nodes y.values ≤ total value_nodes x.values + n

module _ (t : CType) (s : Scope) where
  one_more : (node : Node) (x : Converted) → IfGood (converted_value t s node x) (More x (1 + 2 * node_nodes node))
  one_more node x =
      if_then (ValueFew s node) (More x (1 + 2 * node_nodes node)) (value_judgement s node) _ (value_few s node)
      (λ e h. omega (arith, h, converted_weight t e, total_append value_nodes x.values (converted_to t e ∷ [])))

  all_more : (nodes : List Node) (x : Converted) → IfGood (through (converted_value t s) nodes x) (More x (length nodes + 2 * total node_nodes nodes))
  all_more [] x = omega arith
  all_more (n ∷ ns) x =
      if_then (More x (1 + 2 * node_nodes n)) (More x (length (n ∷ ns) + 2 * total node_nodes (n ∷ ns))) (converted_value t s n x) _ (one_more n x) (λ y h.
      if_more (More y (length ns + 2 * total node_nodes ns)) (More x (length (n ∷ ns) + 2 * total node_nodes (n ∷ ns))) (through (converted_value t s) ns y) (λ z k. omega (arith, h, k))
      (all_more ns y))

abbrev AreFew : ℕ → List Expr → Type 0
AreFew n es = total value_nodes es ≤ 2 * n

abbrev GivenFew : Option Initial → Converted → Type 0
GivenFew given x = AreFew (initial_nodes given) x.values

given_few : (t : CType) (given : Option Initial) (s : Scope) → IfGood (initial_values t given s) (GivenFew given)
given_few t None s = omega arith
given_few t (Some (initial.Value node)) s =
    if_more (More none_converted (1 + 2 * node_nodes node)) (GivenFew (Some (initial.Value node))) (converted_value t s node none_converted) (λ x h. omega (arith, h))
    (one_more t s node none_converted)
given_few t (Some (initial.Values nodes)) s =
    if_more (More none_converted (length nodes + 2 * total node_nodes nodes)) (GivenFew (Some (initial.Values nodes))) (through (converted_value t s) nodes none_converted)
    (λ x h. omega (arith, h, sum_total node_nodes nodes)) (all_more t s nodes none_converted)
given_few t (Some (initial.Chars bytes)) s = omega arith

values_few : (d : Declarator) (taken : Bool) (l : Local) (s : Scope) → IfGood (local_values d taken l s) (AreFew (initial_nodes d.initial))
values_few d taken l s =
    if_then (GivenFew d.initial) (AreFew (initial_nodes d.initial)) (initial_values l.ctype d.initial s) _ (given_few l.ctype d.initial s) (λ x h.
    if_unbroken (AreFew (initial_nodes d.initial)) d.place (rule_of d.name taken l d.initial x) x.values (λ q. h))

-- ---- one more local

own_more : (s : Scope) (name : Option (List ℕ)) (l : Local) (m : Meaning) → length (own_scope s name l m).locals ≤ 1 + length s.locals
unfolding own_scope
own_more s None l m = omega arith
own_more s (Some name) l m = by (is_taken s name)
  where
    by : (b : Bool) → length (if◌then◌else◌ {A = Scope} b s (declared (with_local s l) name m)).locals ≤ 1 + length s.locals
    by true = omega arith
    by false = omega (arith, length-append s.locals (l ∷ []))

-- ---- declarators

pub declarator_has : (d : Declarator) → 1 + initial_nodes d.initial ≤ declarator_nodes d
declarator_has d = let h = fold_out-Declarator ℕ ℕ ℕ shape_count declarator_count param_count d in omega (arith, h)

-- the locals and the nodes behind a statement, and behind some
abbrev pub StmtFew : Scope → ℕ → Scope × Stmt → Type 0
StmtFew s n d = length d.0.locals + stmt_nodes d.1 ≤ length s.locals + 4 * n

abbrev pub LinesFew : Scope × List Stmt → ℕ → Scope × List Stmt → Type 0
LinesFew d n e = length e.0.locals + stmts_nodes e.1 ≤ (length d.0.locals + stmts_nodes d.1) + 4 * n

object_few : (s e : Scope) (d : Declarator) (l : Local) (m : Meaning) → length e.locals ≡ length s.locals → IfGood (object d l m e) (StmtFew s (declarator_nodes d))
object_few s e d l m q =
    let taken : Bool = is_taken_by e d.name in
    let own : Scope = own_scope e d.name l m in
    if_then (AreFew (initial_nodes d.initial)) (StmtFew s (declarator_nodes d)) (local_values d taken l own) _ (values_few d taken l own)
    (λ es k. omega (arith, q, own_more e d.name l m, k, nodes_clear (length e.locals) es, values_both es, declarator_has d))

entity_few : (s e : Scope) (d : Declarator) (x : Entity) → length e.locals ≡ length s.locals → IfGood (by_entity d x e) (StmtFew s (declarator_nodes d))
entity_few s e d (entity.Scalar t fixed) q = object_few s e d (scalar t) (scalar_meaning (length e.locals) t fixed) q
entity_few s e d (entity.Array t fixed size) q = object_few s e d (sized t (array_size size d.initial)) (array_meaning (length e.locals) t fixed) q
entity_few s e d (entity.Function g) q =
    if_then (λ x. Unit {0}) (StmtFew s (declarator_nodes d)) (plain_values d.initial e) _ (if_any (plain_values d.initial e)) (λ x u. tt)

module _ (t : CType) (fixed : Bool) (designates : (d : Declarator) (s : Scope) → IfGood (designated d.shape t fixed s) (Designates s)) where
  local_few : (d : Declarator) (s : Scope) → IfGood (local t fixed d s) (StmtFew s (declarator_nodes d))
  local_few d s =
      if_then (Designates s) (StmtFew s (declarator_nodes d)) (designated d.shape t fixed s) _ (designates d s) (λ e g.
      let given = attributes nothing_holds None e.0 d.marks None in
      if_then (λ a. Unit {0}) (StmtFew s (declarator_nodes d)) given _ (if_any given) (λ a u.
      entity_few s e.0 d e.1 (ap length g.declares.same)))

  pub locals_through : (names : List Declarator) (d : Scope × List Stmt) → IfGood (in_turn (map (local t fixed) names) d) (LinesFew d (total declarator_nodes names))
  locals_through [] d = omega arith
  locals_through (x ∷ xs) d =
      if_then (LinesFew d (declarator_nodes x)) (LinesFew d (total declarator_nodes (x ∷ xs))) (next_part (local t fixed x) d) _ (one x) (λ e h.
      if_more (LinesFew e (total declarator_nodes xs)) (LinesFew d (total declarator_nodes (x ∷ xs))) (in_turn (map (local t fixed) xs) e) (λ z k. omega (arith, h, k)) (locals_through xs e))
    where
      one : (x : Declarator) → IfGood (next_part (local t fixed x) d) (LinesFew d (declarator_nodes x))
      one x =
          if_then (StmtFew d.0 (declarator_nodes x)) (LinesFew d (declarator_nodes x)) (local t fixed x d.0) _ (local_few x d.0)
          (λ e h. omega (arith, h, total_append stmt_nodes d.1 (e.1 ∷ [])))

pub locals_few : (s : Scope) (specs : Specs) (names : List Declarator) → IfGood (locals_judgement s specs names) (LinesFew (s, []) (total declarator_nodes names))
locals_few s specs names =
    if_then (Specifies s) (LinesFew (s, []) (total declarator_nodes names)) (specifiers position.Block names specs s) _ (specifiers_specify position.Block names specs s) (λ b g.
    if_more (LinesFew (b.0, []) (total declarator_nodes names)) (LinesFew (s, []) (total declarator_nodes names)) (in_turn (map (local b.1.ctype b.1.fixed) names) (b.0, []))
    (λ d h. let q : length b.0.locals ≡ length s.locals = ap length g.enumerates.declares.same in omega (arith, h, q))
    (locals_through b.1.ctype b.1.fixed (λ d t. shape_designates d.shape b.1.ctype b.1.fixed t g.plain) names (b.0, [])))
