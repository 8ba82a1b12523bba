-- The statements of a body that keeps the rules, with its locals, are at most four times as many nodes as the body: by induction over it.
use Rattle.std.proofs.Common.{◌≡◌, ℕ, ◌+◌, ◌*◌, ◌≤◌, Bool, true, false, not, arith, Option, Some, None, if◌then◌else◌, List, [], ◌∷◌, ◌++◌, map, length, length-append}
use Rattle.mv_syntax.specs.declared.place.Place.{Place}
use Rattle.mv_ast.specs.declared.program.CType.{CType}
use Rattle.mv_ast.specs.declared.program.Expr.{Expr}
use Rattle.mv_ast.specs.declared.program.Stmt.{Stmt}
use Rattle.mv_ast.specs.declared.program.Stmt.TheVariants as stmt
use Rattle.mv_syntax.specs.declared.unit.Act.{Act, map-Act, fold-Act}
use Rattle.mv_syntax.specs.declared.unit.Act.TheOpen as act
use Rattle.mv_syntax.specs.declared.unit.Line.{Line}
use Rattle.mv_syntax.specs.declared.unit.Node.{Node}
use Rattle.mv_ast.specs.Counts.{expr_nodes, stmt_nodes, arm_nodes}
use Rattle.mv_ast.specs.Operators.{converted}
use Rattle.mv_num.specs.Lists.{is_among}
use Rattle.mv_check_scope.specs.declared.scope.Scope.{Scope}
use Rattle.mv_check_scope.specs.Constants.{converts}
use Rattle.mv_check_scope.specs.Conversions.{is_integer, is_void, promotion, promoted, converted_to}
use Rattle.mv_check_scope.specs.Scoped.{block_entered}
use Rattle.mv_check_expressions.specs.declared.constant.Constant.{Constant}
use Rattle.mv_check_expressions.specs.Judged.{Judged, Good, and_then}
use Rattle.mv_check_expressions.specs.Judgements.{value_judgement, effect_judgement}
use Rattle.mv_check_expressions.specs.NeededConstants.{constant_judgement}
use Rattle.mv_check_declarations.specs.Locals.{locals_judgement}
use Rattle.mv_check_statements.specs.declared.around.Around.{Around}
use Rattle.mv_check_statements.specs.declared.arms.Arms.{Arms}
use Rattle.mv_check_statements.specs.Statements.{Judges, Layer, act_step, line_step, judges_of, lines_in_turn, arms_in_turn, break_judgement, continue_judgement, returned, return_judgement, switch_of, switched, optional, expression_judgement, alone, for_judgement, statement_of, line_of, arm_of, switch_body_of, function_body_of, body_judgement}
use Rattle.mv_check_statements.specs.Surroundings.{in_function, in_loop, in_switch}
use Rattle.mv_check_statements.specs.SwitchBodies.{no_arm, no_arms, has_statements, at_label, labelled, labelled_other, with_case, with_default, with_statement, arms_of, converts_constant, case_label, default_label}
use Rattle.mv_accepts.proofs.OfStatements.Judging.{IfGood, if_any, if_then, if_kept, if_so, if_more}
use Rattle.mv_accepts.proofs.OfLimits.LineCounts.{act_nodes}
use Rattle.mv_accepts.proofs.OfStatements.LineInduction.{LinesWith, ActOver, whole_act, folded_line}
use Rattle.mv_accepts.specs.Limits.Nodes.{node_nodes, optional_nodes, declarator_nodes, act_count, line_count, line_nodes}
use Rattle.mv_accepts.proofs.OfLimits.Made.{converted_weight}
use Rattle.mv_accepts.proofs.OfLimits.Expressions.{ValueFew, value_few, effect_few}
use Rattle.mv_accepts.proofs.OfLimits.Totals.{total, total_append, sum_total, optional_weight, nodes_block, nodes_express, nodes_if, nodes_while, nodes_do, nodes_for, nodes_switch, nodes_break, nodes_continue, nodes_return, nodes_arm}
use Rattle.mv_accepts.proofs.OfLimits.Locals.{StmtFew, LinesFew, locals_few}

-- ---- arms

abbrev arms_nodes : Arms → ℕ
arms_nodes a = total arm_nodes a.done + arm_nodes a.last

no_arms_weight : arms_nodes no_arms ≡ 0
no_arms_weight = omega (arith, nodes_arm no_arm)

at_label_weight : (a : Arms) → arms_nodes (at_label a) ≤ arms_nodes a
unfolding at_label
at_label_weight a = by (has_statements a.last.body)
  where
    by : (b : Bool) → arms_nodes (if b then record a { done = a.done ++ a.last ∷ []; last = no_arm } else a) ≤ arms_nodes a
    by true = omega (arith, total_append arm_nodes a.done (a.last ∷ []), nodes_arm no_arm)
    by false = omega arith

labelled_weight : (v : ℕ) (a : Arms) → arms_nodes (labelled v a) ≤ 1 + arms_nodes a
labelled_weight v a = omega (arith, nodes_arm a.last, nodes_arm (record a.last { labels = a.last.labels ++ v ∷ [] }), length-append a.last.labels (v ∷ []))

other_weight : (a : Arms) → arms_nodes (labelled_other a) ≤ arms_nodes a
other_weight a = omega (arith, nodes_arm a.last, nodes_arm (record a.last { other = true }))

statement_weight : (s : Stmt) (a : Arms) → arms_nodes (with_statement s a) ≤ arms_nodes a + stmt_nodes s
statement_weight s a = omega (arith, nodes_arm a.last, nodes_arm (record a.last { body = a.last.body ++ s ∷ [] }), total_append stmt_nodes a.last.body (s ∷ []))

abbrev OneLabel : Arms → Arms → Type 0
OneLabel a b = arms_nodes b ≤ 1 + arms_nodes a

case_few : (place : Place) (t : CType) (c : Constant) (a : Arms) → IfGood (case_label place t c a) (OneLabel a)
unfolding case_label
case_few place t c a =
    if_kept (OneLabel a) (not (converts_constant c t)) place 5 _ (λ q.
    if_kept (OneLabel a) (is_among (converted t c.value) a.labels) place 11 (Good (with_case (converted t c.value) a))
    (λ r. omega (arith, labelled_weight (converted t c.value) (at_label a), at_label_weight a)))

default_few : (place : Place) (a : Arms) → IfGood (default_label place a) (OneLabel a)
unfolding default_label
default_few place a = if_kept (OneLabel a) a.other place 11 (Good (with_default a)) (λ q. omega (arith, other_weight (at_label a), at_label_weight a))

-- ---- what is judged of one line with so many nodes

abbrev ArmsFew : Scope × Arms → ℕ → Scope × Arms → Type 0
ArmsFew d n e = length e.0.locals + arms_nodes e.1 ≤ (length d.0.locals + arms_nodes d.1) + 4 * n

abbrev body_arms : Option Arms → ℕ
body_arms None = 0
body_arms (Some a) = arms_nodes a

abbrev BodyFew : Scope → ℕ → Scope × Option Arms → Type 0
BodyFew s n d = length d.0.locals + body_arms d.1 ≤ length s.locals + 4 * n

record Few (j : Judges) (n : ℕ) : Type 0 where
  statement : (a : Around) (s : Scope) → IfGood (j.statement a s) (StmtFew s n)
  line : (a : Around) (d : Scope × List Stmt) → IfGood (j.line a d) (LinesFew d n)
  arm : (t : CType) (a : Around) (d : Scope × Arms) → IfGood (j.arm t a d) (ArmsFew d n)
  switch_body : (t : CType) (a : Around) (s : Scope) → IfGood (j.switch_body t a s) (BodyFew s n)
  function_body : (a : Around) (s : Scope) → IfGood (j.function_body a s) (LinesFew (s, []) n)

-- ---- statements by their parts

optional_value : (s : Scope) (o : Option Node) → IfGood (optional value_judgement s o) (λ x. optional_weight x ≤ 2 * optional_nodes o)
optional_value s None = omega arith
optional_value s (Some e) = if_then (ValueFew s e) (λ x. optional_weight x ≤ 2 * node_nodes e) (value_judgement s e) _ (value_few s e) (λ x h. omega (arith, h))

optional_effect : (s : Scope) (o : Option Node) → IfGood (optional effect_judgement s o) (λ x. optional_weight x ≤ 2 * optional_nodes o)
optional_effect s None = omega arith
optional_effect s (Some e) = if_then (ValueFew s e) (λ x. optional_weight x ≤ 2 * node_nodes e) (effect_judgement s e) _ (effect_few s e) (λ x h. omega (arith, h))

express_few : (e : Option Node) (s : Scope) → IfGood (expression_judgement e s) (StmtFew s (1 + optional_nodes e))
express_few None s = omega (arith, nodes_block [])
express_few (Some e) s = if_then (ValueFew s e) (StmtFew s (1 + node_nodes e)) (effect_judgement s e) _ (effect_few s e) (λ x h. omega (arith, h, nodes_express x))

returned_few : (place : Place) (t : CType) (e : Expr) → IfGood (returned place t e) (λ r. stmt_nodes r ≤ 2 + expr_nodes e)
unfolding returned
returned_few place t e =
    if_kept (λ r. stmt_nodes r ≤ 2 + expr_nodes e) (is_void t) place 13 _ (λ q.
    if_kept (λ r. stmt_nodes r ≤ 2 + expr_nodes e) (not (converts e t)) place 5 (Good (stmt.Return (Some (converted_to t e))))
    (λ r. omega (arith, nodes_return (Some (converted_to t e)), converted_weight t e)))

return_few : (place : Place) (t : CType) (e : Option Node) (s : Scope) → IfGood (return_judgement place t e s) (StmtFew s (1 + optional_nodes e))
return_few place t None s = if_so (StmtFew s 1) (is_void t) place 13 (Good (s, stmt.Return None)) (λ q. omega (arith, nodes_return None))
return_few place t (Some e) s =
    if_then (ValueFew s e) (StmtFew s (1 + node_nodes e)) (value_judgement s e) _ (value_few s e) (λ x h.
    if_then (λ r. stmt_nodes r ≤ 2 + expr_nodes x) (StmtFew s (1 + node_nodes e)) (returned place t x) _ (returned_few place t x) (λ r k. omega (arith, h, k)))

break_few : (place : Place) (a : Around) (s : Scope) → IfGood (break_judgement place a s) (StmtFew s 1)
break_few place a s = if_so (StmtFew s 1) a.breaks place 12 (Good (s, stmt.Break)) (λ q. omega (arith, nodes_break))

continue_few : (place : Place) (a : Around) (s : Scope) → IfGood (continue_judgement place a s) (StmtFew s 1)
continue_few place a s = if_so (StmtFew s 1) a.continues place 12 (Good (s, stmt.Continue)) (λ q. omega (arith, nodes_continue))

switched_few : (place : Place) (e : Expr) (arms : Option Arms) → IfGood (switched place e arms) (λ r. stmt_nodes r ≤ 2 + (expr_nodes e + body_arms arms))
unfolding switched
switched_few place e arms = if_kept (λ r. stmt_nodes r ≤ 2 + (expr_nodes e + body_arms arms)) (not (is_integer e.ctype)) place 3 (switch_of place e arms) (λ q. by arms)
  where
    by : (o : Option Arms) → IfGood (switch_of place e o) (λ r. stmt_nodes r ≤ 2 + (expr_nodes e + body_arms o))
    by None = tt
    by (Some a) = omega (arith, nodes_switch (promoted e) (arms_of a), converted_weight (promotion e.ctype) e, total_append arm_nodes a.done (a.last ∷ []))

module _ (j : Judges) (n : ℕ) (few : Few j n) where
  alone_few : (a : Around) (s : Scope) → IfGood (alone j a s) (LinesFew (s, []) n)
  alone_few a s = if_then (StmtFew s n) (LinesFew (s, []) n) (j.statement a s) _ (few.statement a s) (λ d h. omega (arith, h))

  while_few : (e : Node) (a : Around) (s : Scope) → IfGood (statement_of (act.While e j) (record { line = 0; column = 0 }) a s) (StmtFew s (1 + (node_nodes e + n)))
  while_few e a s =
      if_then (ValueFew s e) (StmtFew s (1 + (node_nodes e + n))) (value_judgement s e) _ (value_few s e) (λ x h.
      if_then (LinesFew (s, []) n) (StmtFew s (1 + (node_nodes e + n))) (alone j (in_loop a) s) _ (alone_few (in_loop a) s) (λ d k.
      omega (arith, h, k, nodes_while x d.1)))

  do_few : (e : Node) (a : Around) (s : Scope) → IfGood (statement_of (act.Do j e) (record { line = 0; column = 0 }) a s) (StmtFew s (1 + (n + node_nodes e)))
  do_few e a s =
      if_then (LinesFew (s, []) n) (StmtFew s (1 + (n + node_nodes e))) (alone j (in_loop a) s) _ (alone_few (in_loop a) s) (λ d k.
      if_then (ValueFew d.0 e) (StmtFew s (1 + (n + node_nodes e))) (value_judgement d.0 e) _ (value_few d.0 e) (λ x h.
      omega (arith, h, k, nodes_do d.1 x)))

  switch_few : (place : Place) (e : Node) (a : Around) (s : Scope) → IfGood (statement_of (act.Switch e j) place a s) (StmtFew s (1 + (node_nodes e + n)))
  switch_few place e a s =
      if_then (ValueFew s e) (StmtFew s (1 + (node_nodes e + n))) (value_judgement s e) _ (value_few s e) (λ x h.
      if_then (BodyFew s n) (StmtFew s (1 + (node_nodes e + n))) (j.switch_body (promotion x.ctype) (in_switch a) s) _ (few.switch_body (promotion x.ctype) (in_switch a) s) (λ d k.
      if_then (λ r. stmt_nodes r ≤ 2 + (expr_nodes x + body_arms d.1)) (StmtFew s (1 + (node_nodes e + n))) (switched place x d.1) _ (switched_few place x d.1) (λ r m.
      omega (arith, h, k, m))))

  -- behind a first clause that has so many nodes
  for_few : (test step : Option Node) (a : Around) (s : Scope) (f : Scope × List Stmt) (first : ℕ) → LinesFew (s, []) first f →
      IfGood (for_judgement test step j a f) (StmtFew s (1 + (first + (optional_nodes test + (optional_nodes step + n)))))
  for_few test step a s f first g =
      let all : ℕ = 1 + (first + (optional_nodes test + (optional_nodes step + n))) in
      if_then (λ x. optional_weight x ≤ 2 * optional_nodes test) (StmtFew s all) (optional value_judgement f.0 test) _ (optional_value f.0 test) (λ x h.
      if_then (λ y. optional_weight y ≤ 2 * optional_nodes step) (StmtFew s all) (optional effect_judgement f.0 step) _ (optional_effect f.0 step) (λ y k.
      if_then (LinesFew (f.0, []) n) (StmtFew s all) (alone j (in_loop a) f.0) _ (alone_few (in_loop a) f.0) (λ d m.
      omega (arith, g, h, k, m, nodes_for f.1 x y d.1))))

module _ (i j : Judges) (m n : ℕ) (first : Few i m) (second : Few j n) where
  either_few : (e : Node) (a : Around) (s : Scope) → IfGood (statement_of (act.If e i (Some j)) (record { line = 0; column = 0 }) a s) (StmtFew s (1 + (node_nodes e + (m + n))))
  either_few e a s =
      if_then (ValueFew s e) (StmtFew s (1 + (node_nodes e + (m + n)))) (value_judgement s e) _ (value_few s e) (λ x h.
      if_then (LinesFew (s, []) m) (StmtFew s (1 + (node_nodes e + (m + n)))) (alone i a s) _ (alone_few i m first a s) (λ y k.
      if_then (LinesFew (y.0, []) n) (StmtFew s (1 + (node_nodes e + (m + n)))) (alone j a y.0) _ (alone_few j n second a y.0) (λ z l.
      omega (arith, h, k, l, nodes_if x y.1 z.1))))

only_few : (j : Judges) (n : ℕ) → Few j n → (e : Node) (a : Around) (s : Scope) →
    IfGood (statement_of (act.If e j None) (record { line = 0; column = 0 }) a s) (StmtFew s (1 + (node_nodes e + (n + 0))))
only_few j n few e a s =
    if_then (ValueFew s e) (StmtFew s (1 + (node_nodes e + (n + 0)))) (value_judgement s e) _ (value_few s e) (λ x h.
    if_then (LinesFew (s, []) n) (StmtFew s (1 + (node_nodes e + (n + 0)))) (alone j a s) _ (alone_few j n few a s) (λ y k.
    omega (arith, h, k, nodes_if x y.1 [])))

then_line : (n : ℕ) (d : Scope × List Stmt) (j : Judged (Scope × Stmt)) → IfGood j (StmtFew d.0 n) → IfGood (and_then j (λ e. Good (e.0, d.1 ++ e.1 ∷ []))) (LinesFew d n)
then_line n d j h = if_then (StmtFew d.0 n) (LinesFew d n) j _ h (λ e k. omega (arith, k, total_append stmt_nodes d.1 (e.1 ∷ [])))

then_arm : (n : ℕ) (d : Scope × Arms) (j : Judged (Scope × Stmt)) → IfGood j (StmtFew d.0 n) → IfGood (and_then j (λ e. Good (e.0, with_statement e.1 d.1))) (ArmsFew d n)
then_arm n d j h = if_then (StmtFew d.0 n) (ArmsFew d n) j _ h (λ e k. omega (arith, k, statement_weight e.1 d.1))

then_no_body : (n : ℕ) (s : Scope) (j : Judged (Scope × Stmt)) → IfGood j (StmtFew s n) → IfGood (and_then j (λ d. Good (d.0, None))) (BodyFew s n)
then_no_body n s j h = if_then (StmtFew s n) (BodyFew s n) j _ h (λ d k. omega (arith, k))

-- ---- by induction

abbrev ActIs : Act → Type 0
ActIs x = (place : Place) → Few (fold-Act (Place → Judges) Judges act_step line_step x place) (1 + act_nodes x)

abbrev LineIs : Line → Type 0
LineIs l = Few (judges_of l) (line_nodes l)

abbrev judged : ActOver ActIs LineIs → Layer
judged y = map-Act Act Line (Place → Judges) Judges (fold-Act (Place → Judges) Judges act_step line_step) judges_of (whole_act ActIs LineIs y)

abbrev count : ActOver ActIs LineIs → ℕ
count y = 1 + act_count (map-Act Act Line ℕ ℕ act_nodes line_nodes (whole_act ActIs LineIs y))

abbrev lines_of : List (LinesWith ActIs LineIs) → List Line
lines_of = map (λ (l : LinesWith ActIs LineIs). l.0)

lines_through : (ls : List (LinesWith ActIs LineIs)) (a : Around) (d : Scope × List Stmt) → IfGood (lines_in_turn (map judges_of (lines_of ls)) a d) (LinesFew d (total line_nodes (lines_of ls)))
lines_through [] a d = omega arith
lines_through (l ∷ ls) a d =
    if_then (LinesFew d (line_nodes l.0)) (LinesFew d (total line_nodes (lines_of (l ∷ ls)))) ((judges_of l.0).line a d) _ (l.1.line a d) (λ e h.
    if_more (LinesFew e (total line_nodes (lines_of ls))) (LinesFew d (total line_nodes (lines_of (l ∷ ls)))) (lines_in_turn (map judges_of (lines_of ls)) a e) (λ z k. omega (arith, h, k))
    (lines_through ls a e))

arms_through : (ls : List (LinesWith ActIs LineIs)) (t : CType) (a : Around) (d : Scope × Arms) → IfGood (arms_in_turn (map judges_of (lines_of ls)) t a d) (ArmsFew d (total line_nodes (lines_of ls)))
arms_through [] t a d = omega arith
arms_through (l ∷ ls) t a d =
    if_then (ArmsFew d (line_nodes l.0)) (ArmsFew d (total line_nodes (lines_of (l ∷ ls)))) ((judges_of l.0).arm t a d) _ (l.1.arm t a d) (λ e h.
    if_more (ArmsFew e (total line_nodes (lines_of ls))) (ArmsFew d (total line_nodes (lines_of (l ∷ ls)))) (arms_in_turn (map judges_of (lines_of ls)) t a e) (λ z k. omega (arith, h, k))
    (arms_through ls t a e))

statements : (y : ActOver ActIs LineIs) (place : Place) (a : Around) (s : Scope) → IfGood (statement_of (judged y) place a s) (StmtFew s (count y))
statements (act.Block ls) place a s =
    if_then (LinesFew (block_entered s, []) (total line_nodes (lines_of ls))) (StmtFew s (count (act.Block ls))) (lines_in_turn (map judges_of (lines_of ls)) a (block_entered s, [])) _
    (lines_through ls a (block_entered s, [])) (λ d h. omega (arith, h, nodes_block d.1, sum_total line_nodes (lines_of ls)))
statements (act.Declare specs names) place a s =
    if_then (λ d. Unit {0}) (StmtFew s (count (act.Declare specs names))) (locals_judgement s specs names) _ (if_any (locals_judgement s specs names)) (λ d u. tt)
statements (act.Express e) place a s = express_few e s
statements (act.If e first None) place a s = only_few (judges_of first.0) (line_nodes first.0) first.1 e a s
statements (act.If e first (Some second)) place a s = either_few (judges_of first.0) (judges_of second.0) (line_nodes first.0) (line_nodes second.0) first.1 second.1 e a s
statements (act.While e l) place a s = while_few (judges_of l.0) (line_nodes l.0) l.1 e a s
statements (act.Do l e) place a s = do_few (judges_of l.0) (line_nodes l.0) l.1 e a s
statements (act.For None test step l) place a s = for_few (judges_of l.0) (line_nodes l.0) l.1 test step a s (block_entered s, []) 0 (omega arith)
statements (act.For (Some first) test step l) place a s =
    if_then (LinesFew (block_entered s, []) (line_nodes first.0)) (StmtFew s (count (act.For (Some first) test step l))) ((judges_of first.0).line a (block_entered s, [])) _ (first.1.line a (block_entered s, [])) (λ f g.
    for_few (judges_of l.0) (line_nodes l.0) l.1 test step a s f (line_nodes first.0) g)
statements (act.Switch e l) place a s = switch_few (judges_of l.0) (line_nodes l.0) l.1 place e a s
statements (act.Case e) place a s =
    if_then (λ c. Unit {0}) (StmtFew s (count (act.Case e))) (constant_judgement s e) _ (if_any (constant_judgement s e)) (λ c u. tt)
statements act.Default place a s = tt
statements act.Break place a s = break_few place a s
statements act.Continue place a s = continue_few place a s
statements (act.Return e) place a s = return_few place a.returns e s

lines : (y : ActOver ActIs LineIs) (place : Place) (a : Around) (d : Scope × List Stmt) → IfGood (line_of (judged y) place a d) (LinesFew d (count y))
lines (act.Declare specs names) place a d =
    if_then (LinesFew (d.0, []) (total declarator_nodes names)) (LinesFew d (count (act.Declare specs names))) (locals_judgement d.0 specs names) _ (locals_few d.0 specs names)
    (λ e h. omega (arith, h, total_append stmt_nodes d.1 e.1, sum_total declarator_nodes names))
lines y place a d = then_line (count y) d (statement_of (judged y) place a d.0) (statements y place a d.0)

arms : (y : ActOver ActIs LineIs) (place : Place) (t : CType) (a : Around) (d : Scope × Arms) → IfGood (arm_of (judged y) place t a d) (ArmsFew d (count y))
arms (act.Case e) place t a d =
    if_then (λ c. Unit {0}) (ArmsFew d (count (act.Case e))) (constant_judgement d.0 e) _ (if_any (constant_judgement d.0 e)) (λ c u.
    if_then (OneLabel d.1) (ArmsFew d (count (act.Case e))) (case_label place t c d.1) _ (case_few place t c d.1) (λ y k. omega (arith, k)))
arms act.Default place t a d = if_then (OneLabel d.1) (ArmsFew d (count act.Default)) (default_label place d.1) _ (default_few place d.1) (λ y k. omega (arith, k))
arms y place t a d = then_arm (count y) d (statement_of (judged y) place a d.0) (statements y place a d.0)

switch_bodies : (y : ActOver ActIs LineIs) (place : Place) (t : CType) (a : Around) (s : Scope) → IfGood (switch_body_of (judged y) place t a s) (BodyFew s (count y))
switch_bodies (act.Block ls) place t a s =
    if_then (ArmsFew (block_entered s, no_arms) (total line_nodes (lines_of ls))) (BodyFew s (count (act.Block ls))) (arms_in_turn (map judges_of (lines_of ls)) t a (block_entered s, no_arms)) _
    (arms_through ls t a (block_entered s, no_arms)) (λ d h. omega (arith, h, no_arms_weight, sum_total line_nodes (lines_of ls)))
switch_bodies y place t a s = then_no_body (count y) s (statement_of (judged y) place a s) (statements y place a s)

function_bodies : (y : ActOver ActIs LineIs) (place : Place) (a : Around) (s : Scope) → IfGood (function_body_of (judged y) place a s) (LinesFew (s, []) (count y))
function_bodies (act.Block ls) place a s =
    if_more (LinesFew (s, []) (total line_nodes (lines_of ls))) (LinesFew (s, []) (count (act.Block ls))) (lines_in_turn (map judges_of (lines_of ls)) a (s, []))
    (λ d h. omega (arith, h, sum_total line_nodes (lines_of ls))) (lines_through ls a (s, []))
function_bodies y place a s = lines y place a (s, [])

layer_few : (y : ActOver ActIs LineIs) (place : Place) → Few (act_step (judged y) place) (count y)
layer_few y place = record {
  statement = statements y place;
  line = lines y place;
  arm = arms y place;
  switch_body = switch_bodies y place;
  function_body = function_bodies y place;
}

-- a body's locals and statements behind those before it
pub body_few : (t : CType) (body : Line) (s : Scope) → IfGood (body_judgement t body s) (LinesFew (s, []) (line_nodes body))
body_few t body s =
    (folded_line act_step line_step act_count line_count act_count line_count (λ f n m. (place : Place) → Few (f place) (1 + n)) (λ j n m. Few j n)
    layer_few (λ y. y.what.1 y.place) body).function_body (in_function t) s
