-- The rules of statements (C11 6.8), and what a statement is that breaks none; a statement also gives the scope behind it.
use Rattle.std.specs.Prelude.{not, if◌then◌else◌, List, [], ◌∷◌, ◌++◌, Option, Some, None}
use Rattle.mv_syntax.specs.declared.place.Place.{Place}
use Rattle.mv_ast.specs.declared.program.CType.{CType}
use Rattle.mv_ast.specs.declared.program.Expr.{Expr}
use Rattle.mv_ast.specs.declared.program.Stmt.{Stmt}
use Rattle.mv_ast.specs.declared.program.Stmt.TheVariants as stmt
use Rattle.mv_syntax.specs.declared.unit.Declarator.{Declarator}
use Rattle.mv_syntax.specs.declared.unit.Line.{Line, Line-F, fold-Line}
use Rattle.mv_syntax.specs.declared.unit.Act.{Act-F}
use Rattle.mv_syntax.specs.declared.unit.Act.TheOpen as act
use Rattle.mv_syntax.specs.declared.unit.Node.{Node}
use Rattle.mv_syntax.specs.declared.unit.Specs.{Specs}
use Rattle.mv_check_scope.specs.declared.scope.Scope.{Scope}
use Rattle.mv_check_scope.specs.Constants.{converts}
use Rattle.mv_check_scope.specs.Conversions.{is_integer, is_void, promotion, promoted, converted_to}
use Rattle.mv_check_scope.specs.Scoped.{block_entered, block_left}
use Rattle.mv_check_expressions.specs.RuleNumbers as rules
use Rattle.mv_check_expressions.specs.Judged.{Judged, Good, Broken, and_then}
use Rattle.mv_check_expressions.specs.Judgements.{value_judgement, effect_judgement}
use Rattle.mv_check_expressions.specs.NeededConstants.{constant_judgement}
use Rattle.mv_check_declarations.specs.Locals.{locals_judgement}
use Rattle.mv_check_declarations.specs.Turns.{Behind, through}
use Rattle.mv_check_statements.specs.declared.around.Around.{Around}
use Rattle.mv_check_statements.specs.declared.arms.Arms.{Arms}
use Rattle.mv_check_statements.specs.Surroundings.{in_function, in_loop, in_switch}
use Rattle.mv_check_statements.specs.SwitchBodies.{no_arms, arms_of, case_label, default_label, with_statement}

-- ---- what a statement is judged as, by where it stands

pub record Judges : Type 0 where
  -- by itself, as the body of an `if` or a loop
  pub statement : Around → Scope → Behind Stmt
  -- in a block, behind some statements
  pub line : Around → Scope × List Stmt → Behind (List Stmt)
  -- in the block of a `switch` on a value of this type, behind some arms
  pub arm : CType → Around → Scope × Arms → Behind Arms
  -- as the body of a `switch`: its arms, if it is a block
  pub switch_body : CType → Around → Scope → Behind (Option Arms)
  -- as the body of a function
  pub function_body : Around → Scope → Behind (List Stmt)

abbrev pub lines_in_turn : List Judges → Around → Scope × List Stmt → Behind (List Stmt)
lines_in_turn ls around = through (λ l. l.line around) ls

abbrev pub arms_in_turn : List Judges → CType → Around → Scope × Arms → Behind Arms
arms_in_turn ls t around = through (λ l. l.arm t around) ls

abbrev pub Layer : Type 0
Layer = Act-F (Place → Judges) Judges

-- ---- the rules

-- labels: a declaration or a label stands where it may not
abbrev pub misplaced_declaration : Place → Specs → List Declarator → Scope → Behind Stmt
misplaced_declaration place specs names s = and_then (locals_judgement s specs names) (λ d. Broken place rules.labels)

abbrev pub misplaced_case : Place → Node → Scope → Behind Stmt
misplaced_case place e s = and_then (constant_judgement s e) (λ c. Broken place rules.labels)

-- jumps: there is nothing that the jump leaves or goes on with
abbrev pub break_judgement : Place → Around → Scope → Behind Stmt
break_judgement place around s = if around.breaks then Good (s, stmt.Break) else Broken place rules.jumps

abbrev pub continue_judgement : Place → Around → Scope → Behind Stmt
continue_judgement place around s = if around.continues then Good (s, stmt.Continue) else Broken place rules.jumps

-- conversions: the value doesn't convert to the function's result; returns: there is a value and the function is void, or the other way round
unfoldable pub returned : Place → CType → Expr → Judged Stmt
returned place t e =
    if is_void t then Broken place rules.returns
    else if not (converts e t) then Broken place rules.conversions
    else Good (stmt.Return (Some (converted_to t e)))

abbrev pub return_judgement : Place → CType → Option Node → Scope → Behind Stmt
return_judgement place t None s = if is_void t then Good (s, stmt.Return None) else Broken place rules.returns
return_judgement place t (Some e) s = and_then (value_judgement s e) (λ x. and_then (returned place t x) (λ r. Good (s, r)))

abbrev pub switch_of : Place → Expr → Option Arms → Judged Stmt
switch_of place e None = Broken place rules.labels
switch_of place e (Some a) = Good (stmt.Switch (promoted e) (arms_of a))

-- operands: the tested value is no integer; labels: the body isn't a block
unfoldable pub switched : Place → Expr → Option Arms → Judged Stmt
switched place e arms = if not (is_integer e.ctype) then Broken place rules.operands else switch_of place e arms

-- ---- expressions that may be left out

module _ (judgement : Scope → Node → Judged Expr) where
  abbrev pub optional : Scope → Option Node → Judged (Option Expr)
  optional s None = Good None
  optional s (Some e) = and_then (judgement s e) (λ x. Good (Some x))

-- an empty statement is an empty block
abbrev pub expression_judgement : Option Node → Scope → Behind Stmt
expression_judgement None s = Good (s, stmt.Block [])
expression_judgement (Some e) s = and_then (effect_judgement s e) (λ x. Good (s, stmt.Express x))

-- ---- statements, whose parts are judged in their order

-- a statement as a list
abbrev pub alone : Judges → Around → Scope → Behind (List Stmt)
alone l around s = and_then (l.statement around s) (λ d. Good (d.0, d.1 ∷ []))

-- what stands behind `else`, if anything
abbrev pub otherwise : Option Judges → Around → Scope → Behind (List Stmt)
otherwise None around s = Good (s, [])
otherwise (Some l) around s = alone l around s

-- the first clause of a `for`
abbrev pub first_clause : Option Judges → Around → Scope → Behind (List Stmt)
first_clause None around s = Good (s, [])
first_clause (Some l) around s = l.line around (s, [])

abbrev pub block_judgement : List Judges → Around → Scope → Behind Stmt
block_judgement ls around s = and_then (lines_in_turn ls around (block_entered s, [])) (λ d. Good (block_left d.0, stmt.Block d.1))

abbrev pub if_judgement : Node → Judges → Option Judges → Around → Scope → Behind Stmt
if_judgement e first second around s =
    and_then (value_judgement s e) (λ x.
    and_then (alone first around s) (λ y.
    and_then (otherwise second around y.0) (λ z. Good (z.0, stmt.If x y.1 z.1))))

abbrev pub while_judgement : Node → Judges → Around → Scope → Behind Stmt
while_judgement e l around s =
    and_then (value_judgement s e) (λ x. and_then (alone l (in_loop around) s) (λ d. Good (d.0, stmt.While x d.1)))

abbrev pub do_judgement : Judges → Node → Around → Scope → Behind Stmt
do_judgement l e around s =
    and_then (alone l (in_loop around) s) (λ d. and_then (value_judgement d.0 e) (λ x. Good (d.0, stmt.Do d.1 x)))

-- a `for` behind its first clause, in the scope that it leaves
abbrev pub for_judgement : Option Node → Option Node → Judges → Around → Scope × List Stmt → Behind Stmt
for_judgement test step l around f =
    and_then (optional value_judgement f.0 test) (λ x.
    and_then (optional effect_judgement f.0 step) (λ y.
    and_then (alone l (in_loop around) f.0) (λ d. Good (block_left d.0, stmt.For f.1 x y d.1))))

abbrev pub switch_judgement : Place → Node → Judges → Around → Scope → Behind Stmt
switch_judgement place e l around s =
    and_then (value_judgement s e) (λ x.
    and_then (l.switch_body (promotion x.ctype) (in_switch around) s) (λ d.
    and_then (switched place x d.1) (λ r. Good (d.0, r))))

abbrev pub statement_of : Layer → Place → Around → Scope → Behind Stmt
statement_of (act.Block ls) place around s = block_judgement ls around s
statement_of (act.Declare specs names) place around s = misplaced_declaration place specs names s
statement_of (act.Express e) place around s = expression_judgement e s
statement_of (act.If e first second) place around s = if_judgement e first second around s
statement_of (act.While e l) place around s = while_judgement e l around s
statement_of (act.Do l e) place around s = do_judgement l e around s
statement_of (act.For first test step l) place around s =
    and_then (first_clause first around (block_entered s)) (for_judgement test step l around)
statement_of (act.Switch e l) place around s = switch_judgement place e l around s
statement_of (act.Case e) place around s = misplaced_case place e s
statement_of act.Default place around s = Broken place rules.labels
statement_of act.Break place around s = break_judgement place around s
statement_of act.Continue place around s = continue_judgement place around s
statement_of (act.Return e) place around s = return_judgement place around.returns e s

abbrev pub line_of : Layer → Place → Around → Scope × List Stmt → Behind (List Stmt)
line_of (act.Declare specs names) place around d = and_then (locals_judgement d.0 specs names) (λ e. Good (e.0, d.1 ++ e.1))
line_of x place around d = and_then (statement_of x place around d.0) (λ e. Good (e.0, d.1 ++ e.1 ∷ []))

abbrev pub arm_of : Layer → Place → CType → Around → Scope × Arms → Behind Arms
arm_of (act.Case e) place t around d =
    and_then (constant_judgement d.0 e) (λ c. and_then (case_label place t c d.1) (λ a. Good (d.0, a)))
arm_of act.Default place t around d = and_then (default_label place d.1) (λ a. Good (d.0, a))
arm_of x place t around d = and_then (statement_of x place around d.0) (λ e. Good (e.0, with_statement e.1 d.1))

abbrev pub switch_body_of : Layer → Place → CType → Around → Scope → Behind (Option Arms)
switch_body_of (act.Block ls) place t around s =
    and_then (arms_in_turn ls t around (block_entered s, no_arms)) (λ d. Good (block_left d.0, Some d.1))
switch_body_of x place t around s = and_then (statement_of x place around s) (λ d. Good (d.0, None))

-- The lines of a function's body stand in the scope of its parameters.
abbrev pub function_body_of : Layer → Place → Around → Scope → Behind (List Stmt)
function_body_of (act.Block ls) place around s = lines_in_turn ls around (s, [])
function_body_of x place around s = line_of x place around (s, [])

abbrev pub act_step : Layer → Place → Judges
act_step x place = record {
  statement = statement_of x place;
  line = line_of x place;
  arm = arm_of x place;
  switch_body = switch_body_of x place;
  function_body = function_body_of x place;
}

abbrev pub line_step : Line-F (Place → Judges) Judges → Judges
line_step l = l.what l.place

abbrev pub judges_of : Line → Judges
judges_of = fold-Line (Place → Judges) Judges act_step line_step

-- The statements of a function with this result, in a scope that has its parameters; or the first place in its body at which a rule is
-- broken.
abbrev pub body_judgement : CType → Line → Scope → Behind (List Stmt)
body_judgement t body = (judges_of body).function_body (in_function t)
