-- Each line of a body leads to the scope behind it, and its statements have a property: by the forms of its statements.
use Rattle.std.proofs.Common.{◌≡◌, refl, subst, true, false, not, List, [], ◌∷◌, ◌++◌, None}
use Rattle.std.specs.List.{AllByRecursion}
use Rattle.mv_syntax.specs.declared.place.Place.{Place}
use Rattle.mv_ast.specs.declared.program.CType.{CType}
use Rattle.mv_ast.specs.declared.program.Stmt.{Stmt}
use Rattle.mv_syntax.specs.declared.unit.Act.TheOpen as act
use Rattle.mv_syntax.specs.declared.unit.Line.{Line}
use Rattle.mv_ast.specs.Operators.{converted}
use Rattle.mv_num.specs.Lists.{is_among}
use Rattle.mv_check_scope.specs.declared.scope.Scope.{Scope}
use Rattle.mv_check_scope.specs.Scoped.{block_entered, block_left}
use Rattle.mv_check_expressions.specs.declared.constant.Constant.{Constant}
use Rattle.mv_check_expressions.specs.Judged.{Judged, Good, and_then}
use Rattle.mv_check_expressions.specs.NeededConstants.{constant_judgement}
use Rattle.mv_check_declarations.specs.Locals.{locals_judgement}
use Rattle.mv_check_statements.specs.declared.around.Around.{Around}
use Rattle.mv_check_statements.specs.declared.arms.Arms.{Arms}
use Rattle.mv_check_statements.specs.Surroundings.{in_function}
use Rattle.mv_check_statements.specs.SwitchBodies.{no_arms, with_case, with_default, with_statement, converts_constant, case_label, default_label}
use Rattle.mv_check_statements.specs.Statements.{Judges, Layer, lines_in_turn, arms_in_turn, statement_of, line_of, arm_of, switch_body_of, function_body_of, act_step, body_judgement}
use Rattle.mv_accepts.proofs.OfStatements.Judging.{IfGood, of_good, if_any, if_then, if_kept, if_more, if_through}
use Rattle.mv_accepts.specs.Statements.Bodies.{Keeps}
use Rattle.mv_accepts.proofs.OfStatements.Growing.{enumerates_same, names_back}
use Rattle.mv_accepts.proofs.OfStatements.Property.{Holds, Property, Passage, passage}
use Rattle.mv_accepts.proofs.OfStatements.Declared.{more_leads, locals_lead}
use Rattle.mv_accepts.proofs.OfStatements.Forms.{ToStmt, ToLines, ToMore, ToArms, ToBody, AllLead, declaration_leads, case_leads, break_leads, continue_leads, return_leads, expression_leads, lines_lead, block_leads, if_leads, while_leads, do_leads, for_leads, switch_leads}
use Rattle.mv_accepts.proofs.OfStatements.Induction.{LayerHas, judges_have}
use Rattle.mv_accepts.proofs.OfStatements.Leading.{Leads, leads_here, leads_more, leads_joined, leads_block}

module _ (x : Passage) where
  abbrev Lead : Judges → Type 0
  Lead = AllLead x

  abbrev IsOf : Around → Type 0
  IsOf a = a.returns ≡ x.function.result

  -- ---- what stands behind a statement

  module _ (a : Around) where
    abbrev Has : Scope → Scope → Stmt → Type 0
    Has = x.of_stmt a.breaks a.continues

    abbrev Lines : Scope → Scope → List Stmt → Type 0
    Lines = x.of_lines a.breaks a.continues

    abbrev HasArms : Scope → Scope → Arms → Type 0
    HasArms = x.of_arms a.continues

    then_line : (d : Scope × List Stmt) (j : Judged (Scope × Stmt)) → IfGood j (ToStmt x a d.0) → IfGood (and_then j (λ e. Good (e.0, d.1 ++ e.1 ∷ []))) (ToMore x a d)
    then_line d j h =
        if_then (ToStmt x a d.0) (ToMore x a d) j _ h
        (λ e k. more_leads x a.breaks a.continues d (e.0, e.1 ∷ []) (leads_more x d.0 e.0 (Has d.0 e.0 e.1) (Lines d.0 e.0 (e.1 ∷ [])) (x.stmt_line a.breaks a.continues d.0 e.0 e.1) k))

    then_arm : a.breaks ≡ true → (d : Scope × Arms) (j : Judged (Scope × Stmt)) → IfGood j (ToStmt x a d.0) → IfGood (and_then j (λ e. Good (e.0, with_statement e.1 d.1))) (ToArms x a d)
    then_arm b d j h =
        if_then (ToStmt x a d.0) (ToArms x a d) j _ h
        (λ e k. leads_more x d.0 e.0 (Has d.0 e.0 e.1) ((s : Scope) → HasArms s d.0 d.1 → HasArms s e.0 (with_statement e.1 d.1))
        (λ y s z. x.statement_form a.continues s d.0 e.0 e.1 d.1 (subst (λ c. x.of_stmt c a.continues d.0 e.0 e.1) b y) z) k)

    then_no_body : (s : Scope) (j : Judged (Scope × Stmt)) → IfGood j (ToStmt x a s) → IfGood (and_then j (λ d. Good (d.0, None))) (ToBody x a s)
    then_no_body s j h = if_then (ToStmt x a s) (ToBody x a s) j _ h (λ d k. leads_more x s d.0 (Has s d.0 d.1) (Unit {0}) (λ y. tt) k)

    then_body : (s : Scope) (j : Judged (Scope × List Stmt)) → IfGood j (ToMore x a (s, [])) → IfGood j (ToLines x a s)
    then_body s j h =
        if_more (ToMore x a (s, [])) (ToLines x a s) j
        (λ d k. leads_more x s d.0 ((r : Scope) → Lines r s [] → Lines r d.0 d.1) (Lines s d.0 d.1) (λ y. y s (x.no_lines a.breaks a.continues s s (enumerates_same s))) k) h

    -- labels, behind the scope where the `switch` begins
    case_has : (place : Place) (t : CType) (c : Constant) (u : Scope) (y : Arms) → IfGood (case_label place t c y) (λ z. (s : Scope) → HasArms s u y → HasArms s u z)
    unfolding case_label
    case_has place t c u y =
        if_kept (λ z. (s : Scope) → HasArms s u y → HasArms s u z) (not (converts_constant c t)) place 5 _ (λ q.
        if_kept (λ z. (s : Scope) → HasArms s u y → HasArms s u z) (is_among (converted t c.value) y.labels) place 11 (Good (with_case (converted t c.value) y))
        (λ r s h. x.case_form a.continues s u (converted t c.value) y h))

    default_has : (place : Place) (u : Scope) (y : Arms) → IfGood (default_label place y) (λ z. (s : Scope) → HasArms s u y → HasArms s u z)
    unfolding default_label
    default_has place u y = if_kept (λ z. (s : Scope) → HasArms s u y → HasArms s u z) y.other place 11 (Good (with_default y)) (λ q s h. x.default_form a.continues s u y q h)

  -- ---- the forms

  statements : (y : Layer) → LayerHas Lead y → (place : Place) (a : Around) → IsOf a → (s : Scope) → IfGood (statement_of y place a s) (ToStmt x a s)
  statements (act.Block ls) h place a r s = block_leads x a r ls h s
  statements (act.Declare specs names) h place a r s = declaration_leads x a r place specs names s
  statements (act.Express e) h place a r s = expression_leads x a r e s
  statements (act.If e j o) h place a r s = if_leads x a r e j o h.0 h.1 s
  statements (act.While e j) h place a r s = while_leads x a r e j h s
  statements (act.Do j e) h place a r s = do_leads x a r j e h s
  statements (act.For o test step j) h place a r s = for_leads x a r o test step j h.0 h.1 s
  statements (act.Switch e j) h place a r s = switch_leads x a r place e j h s
  statements (act.Case e) h place a r s = case_leads x a r place e s
  statements act.Default h place a r s = tt
  statements act.Break h place a r s = break_leads x a r place s
  statements act.Continue h place a r s = continue_leads x a r place s
  statements (act.Return e) h place a r s = return_leads x a r place a.returns r e s

  lines : (y : Layer) → LayerHas Lead y → (place : Place) (a : Around) → IsOf a → (d : Scope × List Stmt) → IfGood (line_of y place a d) (ToMore x a d)
  lines (act.Declare specs names) h place a r d =
      if_then (ToLines x a d.0) (ToMore x a d) (locals_judgement d.0 specs names) _ (locals_lead x a.breaks a.continues d.0 specs names) (λ e k. more_leads x a.breaks a.continues d e k)
  lines y h place a r d = then_line a d (statement_of y place a d.0) (statements y h place a r d.0)

  arms : (y : Layer) → LayerHas Lead y → (place : Place) (t : CType) (a : Around) → IsOf a → a.breaks ≡ true → (d : Scope × Arms) → IfGood (arm_of y place t a d) (ToArms x a d)
  arms (act.Case e) h place t a r b d =
      let R : Arms → Type 0 = λ y. (s : Scope) → HasArms a s d.0 d.1 → HasArms a s d.0 y in
      if_then (λ c. Unit {0}) (ToArms x a d) (constant_judgement d.0 e) _ (if_any (constant_judgement d.0 e)) (λ c u.
      if_then R (ToArms x a d) (case_label place t c d.1) _ (case_has a place t c d.0 d.1) (λ y k. leads_here x d.0 (R y) (λ holds. k)))
  arms act.Default h place t a r b d =
      let R : Arms → Type 0 = λ y. (s : Scope) → HasArms a s d.0 d.1 → HasArms a s d.0 y in
      if_then R (ToArms x a d) (default_label place d.1) _ (default_has a place d.0 d.1) (λ y k. leads_here x d.0 (R y) (λ holds. k))
  arms y h place t a r b d = then_arm a b d (statement_of y place a d.0) (statements y h place a r d.0)

  arms_same : (a : Around) (d : Scope × Arms) → ToArms x a d d
  arms_same a d = leads_here x d.0 ((s : Scope) → HasArms a s d.0 d.1 → HasArms a s d.0 d.1) (λ k s h. h)

  arms_joined : (a : Around) (c d e : Scope × Arms) → ToArms x a c d → ToArms x a d e → ToArms x a c e
  arms_joined a c d e h k =
      leads_joined x c.0 d.0 e.0 ((s : Scope) → HasArms a s c.0 c.1 → HasArms a s d.0 d.1) ((s : Scope) → HasArms a s d.0 d.1 → HasArms a s e.0 e.1)
      ((s : Scope) → HasArms a s c.0 c.1 → HasArms a s e.0 e.1) (λ y z s w. z s (y s w)) h k

  arms_lead : (ls : List Judges) → AllByRecursion Lead ls → (t : CType) (a : Around) → IsOf a → a.breaks ≡ true → (d : Scope × Arms) → IfGood (arms_in_turn ls t a d) (ToArms x a d)
  arms_lead ls h t a r b d = if_through (λ (l : Judges). l.arm t a) (ToArms x a) Lead (arms_same a) (arms_joined a) (λ j k c. k.arm t a r b c) ls h d

  switch_bodies : (y : Layer) → LayerHas Lead y → (place : Place) (t : CType) (a : Around) → IsOf a → a.breaks ≡ true → (s : Scope) → IfGood (switch_body_of y place t a s) (ToBody x a s)
  switch_bodies (act.Block ls) h place t a r b s =
      if_then (ToArms x a (block_entered s, no_arms)) (ToBody x a s) (arms_in_turn ls t a (block_entered s, no_arms)) _ (arms_lead ls h t a r b (block_entered s, no_arms)) (λ d k.
      leads_block x s d.0 (HasArms a s (block_left d.0) d.1)
      (leads_more x (block_entered s) d.0 ((r : Scope) → HasArms a r (block_entered s) no_arms → HasArms a r d.0 d.1) (HasArms a s (block_left d.0) d.1)
      (λ z. x.arms_form a.continues s d.0 d.1 (names_back s d.0 k.grows) (z (block_entered s) (x.no_arm_form a.continues (block_entered s)))) k))
  switch_bodies y h place t a r b s = then_no_body a s (statement_of y place a s) (statements y h place a r s)

  function_bodies : (y : Layer) → LayerHas Lead y → (place : Place) (a : Around) → IsOf a → (s : Scope) → IfGood (function_body_of y place a s) (ToLines x a s)
  function_bodies (act.Block ls) h place a r s = then_body a s (lines_in_turn ls a (s, [])) (lines_lead x a r ls h (s, []))
  function_bodies y h place a r s = then_body a s (line_of y place a (s, [])) (lines y h place a r (s, []))

  layer_leads : (y : Layer) → LayerHas Lead y → (place : Place) → Lead (act_step y place)
  layer_leads y h place = record {
    statement = statements y h place;
    line = lines y h place;
    arm = arms y h place;
    switch_body = switch_bodies y h place;
    function_body = function_bodies y h place;
  }

  -- a body leads to the scope behind it, and its lines have the property
  pub body_leads : (t : CType) → t ≡ x.function.result → (body : Line) (s u : Scope) (ss : List Stmt) → body_judgement t body s ≡ Good (u, ss) →
      Leads x s u (x.of_lines false false s u ss)
  body_leads t r body s u ss q =
      of_good (ToLines x (in_function t) s) (body_judgement t body s) ((judges_have Lead layer_leads body).function_body (in_function t) r s) (u, ss) q

  pub lines_have : (body : Line) (s u : Scope) (ss : List Stmt) → body_judgement x.function.result body s ≡ Good (u, ss) → Keeps u.signatures x.program.signatures →
      Keeps u.locals x.function.locals → Holds x.program x.function x.of_name s → Holds x.program x.function x.of_name u × x.of_lines false false s u ss
  lines_have body s u ss q signatures locals k = (body_leads x.function.result refl body s u ss q).holds (record { signatures = signatures; locals = locals }) k

-- of each statement, where the property doesn't go by scopes
pub body_has : (x : Property) (body : Line) (s u : Scope) (ss : List Stmt) → body_judgement x.function.result body s ≡ Good (u, ss) →
    Keeps u.signatures x.program.signatures → Keeps u.locals x.function.locals → Holds x.program x.function x.of_name s →
    Holds x.program x.function x.of_name u × AllByRecursion (x.of_stmt false false) ss
body_has x body s u ss q signatures locals k = lines_have (passage x) body s u ss q signatures locals k
