-- Each form of a statement leads to the scope behind it, and has a property where its parts have it.
use Rattle.std.proofs.Common.{◌≡◌, refl, sym, ◌∙◌, ap, subst, true, not, List, [], ◌∷◌, Option, Some, None}
use Rattle.std.specs.List.{AllByRecursion}
use Rattle.std.proofs.lemmas.Bool.{not-false}
use Rattle.mv_syntax.specs.declared.place.Place.{Place}
use Rattle.mv_ast.specs.declared.program.CType.{CType}
use Rattle.mv_ast.specs.declared.program.Expr.{Expr}
use Rattle.mv_ast.specs.declared.program.Stmt.{Stmt}
use Rattle.mv_ast.specs.declared.program.Stmt.TheVariants as stmt
use Rattle.mv_syntax.specs.declared.unit.Declarator.{Declarator}
use Rattle.mv_syntax.specs.declared.unit.Node.{Node}
use Rattle.mv_syntax.specs.declared.unit.Specs.{Specs}
use Rattle.mv_check_scope.specs.declared.scope.Scope.{Scope}
use Rattle.mv_check_scope.specs.Constants.{converts}
use Rattle.mv_check_scope.specs.Conversions.{is_integer, is_void, promotion, promoted, converted_to}
use Rattle.mv_check_scope.specs.Scoped.{block_entered, block_left}
use Rattle.mv_check_expressions.specs.Judged.{Judged, Good, Broken, and_then}
use Rattle.mv_check_expressions.specs.Judgements.{value_judgement, effect_judgement}
use Rattle.mv_check_expressions.specs.NeededConstants.{constant_judgement}
use Rattle.mv_check_declarations.specs.Locals.{locals_judgement}
use Rattle.mv_check_statements.specs.declared.around.Around.{Around}
use Rattle.mv_check_statements.specs.declared.arms.Arms.{Arms}
use Rattle.mv_check_statements.specs.Surroundings.{in_loop, in_switch}
use Rattle.mv_check_statements.specs.SwitchBodies.{arms_of}
use Rattle.mv_check_statements.specs.Statements.{Judges, lines_in_turn, misplaced_declaration, misplaced_case, break_judgement, continue_judgement, returned, return_judgement, switched, optional, expression_judgement, alone, otherwise, first_clause, block_judgement, if_judgement, while_judgement, do_judgement, for_judgement, switch_judgement}
use Rattle.mv_accepts.proofs.OfStatements.Judging.{IfGood, by_good, of_good, if_any, if_then, if_kept, if_so, if_through}
use Rattle.mv_accepts.proofs.OfStatements.Growing.{enumerates_same, grows_joined, names_back}
use Rattle.mv_accepts.proofs.OfStatements.Leading.{Holding, Leads, leads_here, leads_more, leads_joined, leads_block}
use Rattle.mv_accepts.proofs.OfStatements.Property.{OfOption, Passage}
use Rattle.mv_accepts.proofs.OfStatements.Declared.{LeadsToMore, no_more, more_joined}

module _ (x : Passage) where
  -- ---- what is shown of how a line is judged

  abbrev pub ToStmt : Around → Scope → Scope × Stmt → Type 0
  ToStmt a s d = Leads x s d.0 (x.of_stmt a.breaks a.continues s d.0 d.1)

  abbrev pub ToPart : Around → Scope → Scope × List Stmt → Type 0
  ToPart a s d = Leads x s d.0 (x.of_part a.breaks a.continues s d.0 d.1)

  abbrev pub ToLines : Around → Scope → Scope × List Stmt → Type 0
  ToLines a s d = Leads x s d.0 (x.of_lines a.breaks a.continues s d.0 d.1)

  abbrev pub ToMore : Around → Scope × List Stmt → Scope × List Stmt → Type 0
  ToMore a = LeadsToMore x a.breaks a.continues

  abbrev pub ToArms : Around → Scope × Arms → Scope × Arms → Type 0
  ToArms a d e = Leads x d.0 e.0 ((s : Scope) → x.of_arms a.continues s d.0 d.1 → x.of_arms a.continues s e.0 e.1)

  abbrev pub ToBody : Around → Scope → Scope × Option Arms → Type 0
  ToBody a s d = Leads x s d.0 (OfOption (x.of_arms a.continues s d.0) d.1)

  -- where what is returned converts to the function's result, and within a `switch` a `break` may stand
  pub record AllLead (j : Judges) : Type 0 where
    pub statement : (a : Around) → a.returns ≡ x.function.result → (s : Scope) → IfGood (j.statement a s) (ToStmt a s)
    pub line : (a : Around) → a.returns ≡ x.function.result → (d : Scope × List Stmt) → IfGood (j.line a d) (ToMore a d)
    pub arm : (t : CType) (a : Around) → a.returns ≡ x.function.result → a.breaks ≡ true → (d : Scope × Arms) → IfGood (j.arm t a d) (ToArms a d)
    pub switch_body : (t : CType) (a : Around) → a.returns ≡ x.function.result → a.breaks ≡ true → (s : Scope) → IfGood (j.switch_body t a s) (ToBody a s)
    pub function_body : (a : Around) → a.returns ≡ x.function.result → (s : Scope) → IfGood (j.function_body a s) (ToLines a s)

  -- ---- expressions

  abbrev ToExpr : Scope → Expr → Type 0
  ToExpr s e = Leads x s s (x.of_value s e)

  -- what holds by a judgement and what the scope says
  leads_by : (s : Scope) (j : Judged Expr) → (Holding x s → IfGood j (x.of_value s)) → IfGood j (ToExpr s)
  leads_by s j h = by_good (ToExpr s) j (λ e q. leads_here x s (x.of_value s e) (λ k. of_good (x.of_value s) j (h k) e q))

  value_leads : (s : Scope) (e : Node) → IfGood (value_judgement s e) (ToExpr s)
  value_leads s e = leads_by s (value_judgement s e) (λ k. x.value s k e)

  effect_leads : (s : Scope) (e : Node) → IfGood (effect_judgement s e) (ToExpr s)
  effect_leads s e = leads_by s (effect_judgement s e) (λ k. x.effect s k e)

  abbrev ToOption : Scope → Option Expr → Type 0
  ToOption s e = Leads x s s (OfOption (x.of_value s) e)

  optional_leads : (judgement : Scope → Node → Judged Expr) → ((s : Scope) (e : Node) → IfGood (judgement s e) (ToExpr s)) →
      (s : Scope) (o : Option Node) → IfGood (optional judgement s o) (ToOption s)
  optional_leads judgement h s None = leads_here x s (Unit {0}) (λ k. tt)
  optional_leads judgement h s (Some e) = if_then (ToExpr s) (ToOption s) (judgement s e) _ (h s e) (λ y k. k)

  module _ (a : Around) (returns : a.returns ≡ x.function.result) where
    abbrev Here : Scope → Scope → Stmt → Type 0
    Here = x.of_stmt a.breaks a.continues

    abbrev Part : Scope → Scope → List Stmt → Type 0
    Part = x.of_part a.breaks a.continues

    abbrev Lines : Scope → Scope → List Stmt → Type 0
    Lines = x.of_lines a.breaks a.continues

    no_line : (s : Scope) → Lines s s []
    no_line s = x.no_lines a.breaks a.continues s s (enumerates_same s)

    -- ---- statements without parts

    pub declaration_leads : (place : Place) (specs : Specs) (names : List Declarator) (s : Scope) → IfGood (misplaced_declaration place specs names s) (ToStmt a s)
    declaration_leads place specs names s = if_then (λ d. Unit {0}) (ToStmt a s) (locals_judgement s specs names) _ (if_any (locals_judgement s specs names)) (λ d u. tt)

    pub case_leads : (place : Place) (e : Node) (s : Scope) → IfGood (misplaced_case place e s) (ToStmt a s)
    case_leads place e s = if_then (λ c. Unit {0}) (ToStmt a s) (constant_judgement s e) _ (if_any (constant_judgement s e)) (λ c u. tt)

    pub break_leads : (place : Place) (s : Scope) → IfGood (break_judgement place a s) (ToStmt a s)
    break_leads place s =
        if_so (ToStmt a s) a.breaks place 12 (Good (s, stmt.Break))
        (λ q. leads_here x s (Here s s stmt.Break) (λ k. subst (λ b. x.of_stmt b a.continues s s stmt.Break) (sym q) (x.break_form a.continues s)))

    pub continue_leads : (place : Place) (s : Scope) → IfGood (continue_judgement place a s) (ToStmt a s)
    continue_leads place s =
        if_so (ToStmt a s) a.continues place 12 (Good (s, stmt.Continue))
        (λ q. leads_here x s (Here s s stmt.Continue) (λ k. subst (λ c. x.of_stmt a.breaks c s s stmt.Continue) (sym q) (x.continue_form a.breaks s)))

    returned_has : (place : Place) (t : CType) → t ≡ x.function.result → (s : Scope) (e : Expr) → IfGood (returned place t e) (λ r. x.of_value s e → Here s s r)
    unfolding returned
    returned_has place t r s e =
        if_kept (λ y. x.of_value s e → Here s s y) (is_void t) place 13 _ (λ q.
        if_kept (λ y. x.of_value s e → Here s s y) (not (converts e t)) place 5 (Good (stmt.Return (Some (converted_to t e)))) (λ k h.
        subst (λ u. Here s s (stmt.Return (Some (converted_to u e)))) (sym r)
        (x.return_form a.breaks a.continues s e (ap is_void (sym r) ∙ q) (ap (converts e) (sym r) ∙ not-false (converts e t) k) h)))

    pub return_leads : (place : Place) (t : CType) → t ≡ x.function.result → (e : Option Node) (s : Scope) → IfGood (return_judgement place t e s) (ToStmt a s)
    return_leads place t r None s =
        if_so (ToStmt a s) (is_void t) place 13 (Good (s, stmt.Return None))
        (λ q. leads_here x s (Here s s (stmt.Return None)) (λ k. x.nothing_form a.breaks a.continues s (ap is_void (sym r) ∙ q)))
    return_leads place t r (Some e) s =
        if_then (ToExpr s) (ToStmt a s) (value_judgement s e) _ (value_leads s e) (λ y h.
        if_then (λ z. x.of_value s y → Here s s z) (ToStmt a s) (returned place t y) _ (returned_has place t r s y) (λ z k. leads_more x s s (x.of_value s y) (Here s s z) k h))

    pub expression_leads : (e : Option Node) (s : Scope) → IfGood (expression_judgement e s) (ToStmt a s)
    expression_leads None s = leads_here x s (Here s s (stmt.Block [])) (λ k. x.empty_form a.breaks a.continues s)
    expression_leads (Some e) s =
        if_then (ToExpr s) (ToStmt a s) (effect_judgement s e) _ (effect_leads s e)
        (λ y h. leads_more x s s (x.of_value s y) (Here s s (stmt.Express y)) (x.express_form a.breaks a.continues s y) h)

    -- ---- statements with parts

    alone_leads : (j : Judges) → AllLead j → (s : Scope) → IfGood (alone j a s) (ToPart a s)
    alone_leads j h s =
        if_then (ToStmt a s) (ToPart a s) (j.statement a s) _ (h.statement a returns s)
        (λ d k. leads_more x s d.0 (Here s d.0 d.1) (Part s d.0 (d.1 ∷ [])) (x.stmt_part a.breaks a.continues s d.0 d.1) k)

    otherwise_leads : (o : Option Judges) → OfOption AllLead o → (s : Scope) → IfGood (otherwise o a s) (ToPart a s)
    otherwise_leads None h s = leads_here x s (Part s s []) (λ k. x.no_part a.breaks a.continues s)
    otherwise_leads (Some j) h s = alone_leads j h s

    first_leads : (o : Option Judges) → OfOption AllLead o → (s : Scope) → IfGood (first_clause o a s) (ToMore a (s, []))
    first_leads None h s = no_more x a.breaks a.continues (s, [])
    first_leads (Some j) h s = h.line a returns (s, [])

    pub lines_lead : (ls : List Judges) → AllByRecursion AllLead ls → (d : Scope × List Stmt) → IfGood (lines_in_turn ls a d) (ToMore a d)
    lines_lead ls h d =
        if_through (λ (l : Judges). l.line a) (ToMore a) AllLead (no_more x a.breaks a.continues) (more_joined x a.breaks a.continues) (λ j k c. k.line a returns c) ls h d

    pub block_leads : (ls : List Judges) → AllByRecursion AllLead ls → (s : Scope) → IfGood (block_judgement ls a s) (ToStmt a s)
    block_leads ls h s =
        if_then (ToMore a (block_entered s, [])) (ToStmt a s) (lines_in_turn ls a (block_entered s, [])) _ (lines_lead ls h (block_entered s, [])) (λ d k.
        leads_block x s d.0 (Here s (block_left d.0) (stmt.Block d.1))
        (leads_more x (block_entered s) d.0 ((r : Scope) → Lines r (block_entered s) [] → Lines r d.0 d.1) (Here s (block_left d.0) (stmt.Block d.1))
        (λ z. x.block_form a.breaks a.continues s d.0 d.1 (names_back s d.0 k.grows) (z (block_entered s) (no_line (block_entered s)))) k))

    pub if_leads : (e : Node) (j : Judges) (o : Option Judges) → AllLead j → OfOption AllLead o → (s : Scope) → IfGood (if_judgement e j o a s) (ToStmt a s)
    if_leads e j o h i s =
        if_then (ToExpr s) (ToStmt a s) (value_judgement s e) _ (value_leads s e) (λ y k.
        if_then (ToPart a s) (ToStmt a s) (alone j a s) _ (alone_leads j h s) (λ c l.
        if_then (ToPart a c.0) (ToStmt a s) (otherwise o a c.0) _ (otherwise_leads o i c.0) (λ d m.
        leads_joined x s s d.0 (x.of_value s y) (Part s c.0 c.1 × Part c.0 d.0 d.1) (Here s d.0 (stmt.If y c.1 d.1)) (λ v t. x.if_form a.breaks a.continues s c.0 d.0 y c.1 d.1 v t.0 t.1) k
        (leads_joined x s c.0 d.0 (Part s c.0 c.1) (Part c.0 d.0 d.1) (Part s c.0 c.1 × Part c.0 d.0 d.1) (λ v t. (v, t)) l m))))

  module _ (a : Around) (returns : a.returns ≡ x.function.result) where
    abbrev InLoop : Scope → Scope → List Stmt → Type 0
    InLoop = x.of_part true true

    pub while_leads : (e : Node) (j : Judges) → AllLead j → (s : Scope) → IfGood (while_judgement e j a s) (ToStmt a s)
    while_leads e j h s =
        if_then (ToExpr s) (ToStmt a s) (value_judgement s e) _ (value_leads s e) (λ y k.
        if_then (ToPart (in_loop a) s) (ToStmt a s) (alone j (in_loop a) s) _ (alone_leads (in_loop a) returns j h s) (λ d l.
        leads_joined x s s d.0 (x.of_value s y) (InLoop s d.0 d.1) (Here a returns s d.0 (stmt.While y d.1)) (x.while_form a.breaks a.continues s d.0 y d.1) k l))

    pub do_leads : (j : Judges) (e : Node) → AllLead j → (s : Scope) → IfGood (do_judgement j e a s) (ToStmt a s)
    do_leads j e h s =
        if_then (ToPart (in_loop a) s) (ToStmt a s) (alone j (in_loop a) s) _ (alone_leads (in_loop a) returns j h s) (λ d l.
        if_then (ToExpr d.0) (ToStmt a s) (value_judgement d.0 e) _ (value_leads d.0 e) (λ y k.
        leads_joined x s d.0 d.0 (InLoop s d.0 d.1) (x.of_value d.0 y) (Here a returns s d.0 (stmt.Do d.1 y)) (x.do_form a.breaks a.continues s d.0 d.1 y) l k))

    -- behind the first clause
    rest_leads : (test step : Option Node) (j : Judges) → AllLead j → (s : Scope) (c : Scope × List Stmt) → ToMore a (block_entered s, []) c →
        IfGood (for_judgement test step j a c) (ToStmt a s)
    rest_leads test step j h s c first =
        let O : Option Expr → Type 0 = OfOption (x.of_value c.0) in
        let L : List Stmt → Type 0 = x.of_lines a.breaks a.continues (block_entered s) c.0 in
        let begun : Leads x (block_entered s) c.0 (L c.1) =
        leads_more x (block_entered s) c.0 ((r : Scope) → x.of_lines a.breaks a.continues r (block_entered s) [] → x.of_lines a.breaks a.continues r c.0 c.1) (L c.1)
        (λ z. z (block_entered s) (no_line a returns (block_entered s))) first in
        if_then (ToOption c.0) (ToStmt a s) (optional value_judgement c.0 test) _ (optional_leads value_judgement value_leads c.0 test) (λ y k.
        if_then (ToOption c.0) (ToStmt a s) (optional effect_judgement c.0 step) _ (optional_leads effect_judgement effect_leads c.0 step) (λ z l.
        if_then (ToPart (in_loop a) c.0) (ToStmt a s) (alone j (in_loop a) c.0) _ (alone_leads (in_loop a) returns j h c.0) (λ d m.
        let B : Type 0 = InLoop c.0 d.0 d.1 in
        leads_block x s d.0 (Here a returns s (block_left d.0) (stmt.For c.1 y z d.1))
        (leads_joined x (block_entered s) c.0 d.0 (L c.1) (O y × O z × B) (Here a returns s (block_left d.0) (stmt.For c.1 y z d.1))
        (λ v t. x.for_form a.breaks a.continues s c.0 d.0 c.1 y z d.1 (names_back s d.0 (grows_joined (block_entered s) c.0 d.0 first.grows m.grows)) v t.0 t.1 t.2) begun
        (leads_joined x c.0 c.0 d.0 (O y) (O z × B) (O y × O z × B) (λ v t. (v, t.0, t.1)) k
        (leads_joined x c.0 c.0 d.0 (O z) B (O z × B) (λ v t. (v, t)) l m))))))

    pub for_leads : (o : Option Judges) (test step : Option Node) (j : Judges) → OfOption AllLead o → AllLead j → (s : Scope) →
        IfGood (and_then (first_clause o a (block_entered s)) (for_judgement test step j a)) (ToStmt a s)
    for_leads o test step j i h s =
        if_then (ToMore a (block_entered s, [])) (ToStmt a s) (first_clause o a (block_entered s)) _ (first_leads a returns o i (block_entered s)) (λ c k. rest_leads test step j h s c k)

    switched_has : (place : Place) (s t : Scope) (e : Expr) (arms : Option Arms) → IfGood (switched place e arms) (λ r. x.of_value s e → OfOption (x.of_arms a.continues s t) arms → Here a returns s t r)
    unfolding switched
    switched_has place s t e None = if_kept (λ r. x.of_value s e → Unit {0} → Here a returns s t r) (not (is_integer e.ctype)) place 3 (Broken place 11) (λ q. tt)
    switched_has place s t e (Some y) =
        if_kept (λ r. x.of_value s e → x.of_arms a.continues s t y → Here a returns s t r) (not (is_integer e.ctype)) place 3 (Good (stmt.Switch (promoted e) (arms_of y)))
        (λ q h k. x.switch_form a.breaks a.continues s t e y (not-false (is_integer e.ctype) q) h k)

    pub switch_leads : (place : Place) (e : Node) (j : Judges) → AllLead j → (s : Scope) → IfGood (switch_judgement place e j a s) (ToStmt a s)
    switch_leads place e j h s =
        if_then (ToExpr s) (ToStmt a s) (value_judgement s e) _ (value_leads s e) (λ y k.
        if_then (ToBody a s) (ToStmt a s) (j.switch_body (promotion y.ctype) (in_switch a) s) _ (h.switch_body (promotion y.ctype) (in_switch a) returns refl s) (λ d l.
        if_then (λ r. x.of_value s y → OfOption (x.of_arms a.continues s d.0) d.1 → Here a returns s d.0 r) (ToStmt a s) (switched place y d.1) _ (switched_has place s d.0 y d.1) (λ r m.
        leads_joined x s s d.0 (x.of_value s y) (OfOption (x.of_arms a.continues s d.0) d.1) (Here a returns s d.0 r) m k l)))
