-- Statements agree, by induction over the lines of a body.
use Rattle.std.proofs.Common.{◌≡◌, ℕ, refl, sym, ◌∙◌, ap, subst, Bool, true, false, ◌&&◌, not, if◌then◌else◌, Option, Some, None, List, [], ◌∷◌, ◌++◌, map}
use Rattle.mv_syntax.specs.declared.place.Place.{Place}
use Rattle.mv_ast.specs.declared.program.CType.{CType}
use Rattle.mv_ast.specs.declared.program.Expr.{Expr}
use Rattle.mv_ast.specs.declared.program.Stmt.{Stmt}
use Rattle.mv_ast.specs.declared.program.Stmt.TheVariants as stmt
use Rattle.mv_syntax.specs.declared.unit.Act.{Act, Act-F, roll-Act, map-Act, fold-Act, fold-roll-Act}
use Rattle.mv_syntax.specs.declared.unit.Act.TheOpen as act
use Rattle.mv_syntax.specs.declared.unit.Line.{Line, Line-F, roll-Line, map-Line, ind-Line, fold-roll-Line}
use Rattle.mv_syntax.specs.declared.unit.Node.{Node}
use Rattle.mv_ast.specs.Operators.{converted}
use Rattle.mv_num.specs.Lists.{is_among}
use Rattle.mv_check_scope.specs.declared.scope.Scope.{Scope}
use Rattle.mv_check_scope.specs.Constants.{converts}
use Rattle.mv_check_scope.specs.Conversions.{is_integer, is_void, promotion, promoted, converted_to}
use Rattle.mv_check_scope.specs.Scoped.{block_entered}
use Rattle.mv_check_expressions.specs.declared.constant.Constant.{Constant}
use Rattle.mv_check_expressions.specs.Judged.{Judged, Good, Broken, and_then, first_broken, unless_broken}
use Rattle.mv_check_expressions.specs.Judgements.{value_judgement, effect_judgement}
use Rattle.mv_check_declarations.specs.Turns.{Behind}
use Rattle.mv_check_statements.specs.declared.around.Around.{Around}
use Rattle.mv_check_statements.specs.declared.arms.Arms.{Arms}
use Rattle.mv_check_statements.specs.Statements.{returned, switched}
use Rattle.mv_check_statements.specs.Statements as code
use Rattle.mv_check_statements.specs.Surroundings.{in_function, in_loop, in_switch}
use Rattle.mv_check_statements.specs.SwitchBodies.{arms_of, case_label, default_label, converts_constant, with_case, with_default}
use Rattle.mv_check_statements.proofs.Blocks.{act_fold}
use Rattle.mv_check_rules.specs.Nodes as node
use Rattle.mv_check_rules.specs.Rules.{concluded}
use Rattle.mv_check_rules.specs.Declarations.{Found}
use Rattle.mv_check_rules.specs.Statements.{Surroundings, Piece, Labelled, Otherwise, Statement, labels, has_default, arms, Judges, Layer, lines, pieces, optional, alone, is_block, arms_if_any, for_behind, statement_of, line_of, piece_of, switch_body_of, function_body_of, act_step, line_step, judges}
use Rattle.mv_check_rules.proofs.Agreement.{mapped, over, BodyAgrees}
use Rattle.mv_check_rules.proofs.Parts.{then_same, then_mapped, then_to, then_from, then_then}
use Rattle.mv_check_rules.proofs.Attributes.{constant_agrees}
use Rattle.mv_check_rules.proofs.Locals.{local_declaration_agrees}
use Rattle.mv_check_rules.proofs.Pieces.{gathered, gathered_more, labels_agree, other_agrees, arms_agree}

-- ---- what agrees

abbrev around_of : Around → Surroundings
around_of a = record { breaks = a.breaks; continues = a.continues; result = a.returns }

abbrev if_block : Option (List Piece) → Option Arms
if_block None = None
if_block (Some ps) = Some (gathered ps)

record Agree (x : Judges) (y : code.Judges) : Type 0 where
  statement : (a : Around) (s : Scope) → x.statement (around_of a) s ≡ y.statement a s
  line : (a : Around) (d : Scope × List Stmt) → x.line (around_of a) d ≡ y.line a d
  piece : (t : CType) (a : Around) (d : Scope × List Piece) → y.arm t a (d.0, gathered d.1) ≡ mapped (over gathered) (x.piece t (around_of a) d)
  switch_body : (t : CType) (a : Around) (s : Scope) → y.switch_body t a s ≡ mapped (over if_block) (x.switch_body t (around_of a) s)
  function_body : (a : Around) (s : Scope) → x.function_body (around_of a) s ≡ y.function_body a s

-- ---- one statement whose parts break no rule

module _ {A : Type 0} (place : Place) (found : A) where
  unless_not : (rule : ℕ) (b : Bool) → unless_broken place (first_broken ((rule, not b) ∷ [])) found ≡ (if b then Good found else Broken place rule)
  unless_not rule true = refl
  unless_not rule false = refl

switch_concluded : (place : Place) (e : Expr) (s : Scope) (body : Option (List Piece)) →
    and_then {B = Scope × Stmt} (switched place e (if_block body)) (λ r. Good (s, r)) ≡
    concluded place s (node.Switch e.ctype (is_block body)) (s, stmt.Switch (promoted e) (arms_if_any body))
unfolding switched
switch_concluded place e s None = by (is_integer e.ctype)
  where
    found : Scope × Stmt
    found = (s, stmt.Switch (promoted e) [])

    left : Stmt → Behind Stmt
    left r = Good (s, r)

    by : (b : Bool) → and_then (if not b then Broken place 3 else Broken place 11) left ≡ unless_broken place (first_broken ((3, not b) ∷ (11, true) ∷ [])) found
    by true = refl
    by false = refl
switch_concluded place e s (Some ps) = by (is_integer e.ctype)
  where
    found : Scope × Stmt
    found = (s, stmt.Switch (promoted e) (arms ps))

    left : Stmt → Behind Stmt
    left r = Good (s, r)

    by : (b : Bool) → and_then (if not b then Broken place 3 else Good (stmt.Switch (promoted e) (arms_of (gathered ps)))) left ≡
        unless_broken place (first_broken ((3, not b) ∷ [])) found
    by true = ap (λ found. Good (s, stmt.Switch (promoted e) found)) (arms_agree ps)
    by false = refl

return_concluded : (place : Place) (t : CType) (s : Scope) (e : Expr) →
    concluded {A = Scope × Stmt} place s (node.Return t (Some e)) (s, stmt.Return (Some (converted_to t e))) ≡ and_then (returned place t e) (λ r. Good (s, r))
unfolding returned
return_concluded place t s e = by (is_void t) (converts e t)
  where
    found : Scope × Stmt
    found = (s, stmt.Return (Some (converted_to t e)))

    left : Stmt → Behind Stmt
    left r = Good (s, r)

    by : (void fits : Bool) → unless_broken place (first_broken ((5, not void && not fits) ∷ (13, void) ∷ [])) found ≡
        and_then (if void then Broken place 13 else if not fits then Broken place 5 else Good (stmt.Return (Some (converted_to t e)))) left
    by true fits = refl
    by false true = refl
    by false false = refl

-- ---- labels

case_concluded : (place : Place) (t : CType) (s : Scope) (ps : List Piece) (c : Constant) →
    and_then (case_label place t c (gathered ps)) (λ a. Good (s, a)) ≡
    mapped (over gathered) (concluded place s (node.Case t (labels ps) c) (s, ps ++ Labelled (converted t c.value) ∷ []))
unfolding case_label
case_concluded place t s ps c =
    ap (λ among. and_then (choice (converts_constant c t) among) left) (ap (is_among v) (labels_agree ps)) ∙
    by (converts_constant c t) (is_among v (labels ps))
  where
    v : ℕ
    v = converted t c.value

    left : Arms → Behind Arms
    left a = Good (s, a)

    choice : (converts among : Bool) → Judged Arms
    choice converts among = if not converts then Broken place 5 else if among then Broken place 11 else Good (with_case v (gathered ps))

    found : Scope × List Piece
    found = (s, ps ++ Labelled v ∷ [])

    by : (converts among : Bool) → and_then (choice converts among) left ≡
        mapped (over gathered) (unless_broken place (first_broken ((5, not converts) ∷ (11, among) ∷ [])) found)
    by true true = refl
    by true false = ap (λ a. Good (s, a)) (sym (gathered_more ps (Labelled v)))
    by false among = refl

default_concluded : (place : Place) (s : Scope) (ps : List Piece) →
    and_then (default_label place (gathered ps)) (λ a. Good (s, a)) ≡
    mapped (over gathered) (concluded place s (node.Default (has_default ps)) (s, ps ++ Otherwise ∷ []))
unfolding default_label
default_concluded place s ps = ap (λ other. and_then (choice other) left) (other_agrees ps) ∙ by (has_default ps)
  where
    left : Arms → Behind Arms
    left a = Good (s, a)

    choice : Bool → Judged Arms
    choice other = if other then Broken place 11 else Good (with_default (gathered ps))

    found : Scope × List Piece
    found = (s, ps ++ Otherwise ∷ [])

    by : (other : Bool) → and_then (choice other) left ≡ mapped (over gathered) (unless_broken place (first_broken ((11, other) ∷ [])) found)
    by true = refl
    by false = ap (λ a. Good (s, a)) (sym (gathered_more ps Otherwise))

-- ---- by induction

module _ (judgement : Scope → Node → Judged Expr) where
  optional_agrees : (s : Scope) (e : Option Node) → optional judgement s e ≡ code.optional judgement s e
  optional_agrees s None = refl
  optional_agrees s (Some e) = refl

abbrev pub act_found : Act → Place → Judges
act_found = fold-Act (Place → Judges) Judges act_step line_step

abbrev LineIs : Line → Type 0
LineIs l = Agree (judges l) (code.judges_of l)

abbrev ActIs : Act → Type 0
ActIs x = (place : Place) → Agree (act_found x place) (act_fold x place)

abbrev A : Type 0
A = (x : Act) × ActIs x

abbrev L : Type 0
L = (l : Line) × LineIs l

abbrev below : Act-F A L → Act-F Act Line
below = map-Act A L Act Line (λ a. a.0) (λ a. a.0)

abbrev found_of : Act-F A L → Layer
found_of y = map-Act Act Line (Place → Judges) Judges act_found judges (below y)

abbrev judged_of : Act-F A L → code.Layer
judged_of y = map-Act Act Line (Place → code.Judges) code.Judges act_fold code.judges_of (below y)

abbrev all_found : List L → List Judges
all_found ls = map judges (map (λ (l : L). l.0) ls)

abbrev all_judged : List L → List code.Judges
all_judged ls = map code.judges_of (map (λ (l : L). l.0) ls)

lines_agree : (ls : List L) (a : Around) (d : Scope × List Stmt) → lines (all_found ls) (around_of a) d ≡ code.lines_in_turn (all_judged ls) a d
lines_agree [] a d = refl
lines_agree (l ∷ ls) a d = then_same _ _ (lines_agree ls a) _ _ (l.1.line a d)

pieces_agree : (ls : List L) (t : CType) (a : Around) (d : Scope × List Piece) →
    code.arms_in_turn (all_judged ls) t a (d.0, gathered d.1) ≡ mapped (over gathered) (pieces (all_found ls) t (around_of a) d)
pieces_agree [] t a d = refl
pieces_agree (l ∷ ls) t a d = then_mapped (over gathered) (over gathered) _ _ (pieces_agree ls t a) _ _ (l.1.piece t a d)

alone_agrees : (l : L) (a : Around) (s : Scope) → alone (judges l.0) (around_of a) s ≡ code.alone (code.judges_of l.0) a s
alone_agrees l a s = then_same _ _ (λ d. refl) _ _ (l.1.statement a s)

for_agrees : (test step : Option Node) (l : L) (a : Around) (f : Scope × List Stmt) →
    for_behind test step (judges l.0) (around_of a) f ≡ code.for_judgement test step (code.judges_of l.0) a f
for_agrees test step l a f =
    then_same _ _ (λ x. then_same _ _ (λ y. then_same _ _ (λ d. refl) _ _ (alone_agrees l (in_loop a) f.0)) _ _ (optional_agrees effect_judgement f.0 step))
    _ _ (optional_agrees value_judgement f.0 test)

statement_agrees : (y : Act-F A L) (place : Place) (a : Around) (s : Scope) →
    statement_of (found_of y) place (around_of a) s ≡ code.statement_of (judged_of y) place a s
statement_agrees (act.Block ls) place a s = then_same _ _ (λ d. refl) _ _ (lines_agree ls a (block_entered s, []))
statement_agrees (act.Declare specs names) place a s = then_same _ _ (λ d. refl) _ _ (local_declaration_agrees s specs names)
statement_agrees (act.Express None) place a s = refl
statement_agrees (act.Express (Some e)) place a s = then_then _ _ (effect_judgement s e)
statement_agrees (act.If e first None) place a s = then_same _ _ (λ x. then_same _ _ (λ y. refl) _ _ (alone_agrees first a s)) (value_judgement s e) _ refl
statement_agrees (act.If e first (Some second)) place a s =
    then_same _ _ (λ x. then_same _ _ (λ y. then_same _ _ (λ z. refl) _ _ (alone_agrees second a y.0)) _ _ (alone_agrees first a s)) (value_judgement s e) _ refl
statement_agrees (act.While e l) place a s = then_same _ _ (λ x. then_same _ _ (λ d. refl) _ _ (alone_agrees l (in_loop a) s)) (value_judgement s e) _ refl
statement_agrees (act.Do l e) place a s = then_same _ _ (λ d. refl) _ _ (alone_agrees l (in_loop a) s)
statement_agrees (act.For None test step l) place a s = for_agrees test step l a (block_entered s, [])
statement_agrees (act.For (Some first) test step l) place a s = then_same _ _ (for_agrees test step l a) _ _ (first.1.line a (block_entered s, []))
statement_agrees (act.Switch e l) place a s =
    then_same _ _ (λ x. sym (then_from (over if_block) _ _ (λ d. switch_concluded place x d.0 d.1) _ _ (l.1.switch_body (promotion x.ctype) (in_switch a) s)))
    (value_judgement s e) _ refl
statement_agrees (act.Case e) place a s = then_same _ _ (λ c. refl) _ _ (constant_agrees s e)
statement_agrees act.Default place a s = refl
statement_agrees act.Break place a s = unless_not place (s, stmt.Break) 12 a.breaks
statement_agrees act.Continue place a s = unless_not place (s, stmt.Continue) 12 a.continues
statement_agrees (act.Return None) place a s = by (is_void a.returns)
  where
    found : Scope × Stmt
    found = (s, stmt.Return None)

    by : (void : Bool) → unless_broken place (first_broken ((13, not void) ∷ [])) found ≡ (if void then Good found else Broken place 13)
    by true = refl
    by false = refl
statement_agrees (act.Return (Some e)) place a s =
    then_then _ _ (value_judgement s e) ∙ then_same _ _ (return_concluded place a.returns s) (value_judgement s e) _ refl

line_agrees : (y : Act-F A L) (place : Place) (a : Around) (d : Scope × List Stmt) → line_of (found_of y) place (around_of a) d ≡ code.line_of (judged_of y) place a d
line_agrees (act.Declare specs names) place a d = then_same _ _ (λ e. refl) _ _ (local_declaration_agrees d.0 specs names)
line_agrees y place a d = ap (λ (j : Found Stmt). and_then j (λ e. Good (e.0, d.1 ++ e.1 ∷ []))) (statement_agrees y place a d.0)

piece_agrees : (y : Act-F A L) (place : Place) (t : CType) (a : Around) (d : Scope × List Piece) →
    code.arm_of (judged_of y) place t a (d.0, gathered d.1) ≡ mapped (over gathered) (piece_of (found_of y) place t (around_of a) d)
piece_agrees (act.Case e) place t a d = then_to (over gathered) _ _ (case_concluded place t d.0 d.1) _ _ (sym (constant_agrees d.0 e))
piece_agrees act.Default place t a d = default_concluded place d.0 d.1
piece_agrees y place t a d =
    then_to (over gathered) _ _ (λ e. ap (λ g. Good (e.0, g)) (sym (gathered_more d.1 (Statement e.1)))) _ _ (sym (statement_agrees y place a d.0))

abbrev pub no_pieces : Scope × Stmt → Found (Option (List Piece))
no_pieces d = Good (d.0, None)

abbrev no_arms : Scope × Stmt → Behind (Option Arms)
no_arms d = Good (d.0, None)

switch_body_agrees : (y : Act-F A L) (place : Place) (t : CType) (a : Around) (s : Scope) →
    code.switch_body_of (judged_of y) place t a s ≡ mapped (over if_block) (switch_body_of (found_of y) place t (around_of a) s)
switch_body_agrees (act.Block ls) place t a s = then_mapped (over gathered) (over if_block) _ _ (λ d. refl) _ _ (pieces_agree ls t a (block_entered s, []))
switch_body_agrees y place t a s = then_to (over if_block) no_arms no_pieces (λ d. refl) _ _ (sym (statement_agrees y place a s))

function_body_agrees : (y : Act-F A L) (place : Place) (a : Around) (s : Scope) →
    function_body_of (found_of y) place (around_of a) s ≡ code.function_body_of (judged_of y) place a s
function_body_agrees (act.Block ls) place a s = lines_agree ls a (s, [])
function_body_agrees y place a s = line_agrees y place a (s, [])

steps_agree : (y : Act-F A L) (place : Place) → Agree (act_step (found_of y) place) (code.act_step (judged_of y) place)
steps_agree y place = record {
  statement = statement_agrees y place;
  line = line_agrees y place;
  piece = piece_agrees y place;
  switch_body = switch_body_agrees y place;
  function_body = function_body_agrees y place;
}

act_is : (y : Act-F A L) → ActIs (roll-Act (below y))
act_is y place =
    subst (λ (x : Place → Judges). Agree (x place) (act_fold (roll-Act (below y)) place)) (sym (fold-roll-Act (Place → Judges) Judges act_step line_step (below y)))
    (subst (λ (x : Place → code.Judges). Agree (act_step (found_of y) place) (x place))
    (sym (fold-roll-Act (Place → code.Judges) code.Judges code.act_step code.line_step (below y))) (steps_agree y place))

abbrev line_below : Line-F A L → Line-F Act Line
line_below = map-Line A L Act Line (λ a. a.0) (λ a. a.0)

line_is : (y : Line-F A L) → LineIs (roll-Line (line_below y))
line_is y =
    subst (λ x. Agree x (code.judges_of (roll-Line (line_below y)))) (sym (fold-roll-Line (Place → Judges) Judges act_step line_step (line_below y)))
    (subst (Agree (act_found y.what.0 y.place)) (sym (fold-roll-Line (Place → code.Judges) code.Judges code.act_step code.line_step (line_below y))) (y.what.1 y.place))

lines_have : (l : Line) → LineIs l
lines_have l = ind-Line ActIs LineIs (λ x y q. subst (λ z. ActIs (roll-Act z)) q (act_is y)) (λ x y q. subst (λ z. LineIs (roll-Line z)) q (line_is y)) l

pub body_agrees : BodyAgrees
body_agrees t b s = (lines_have b).function_body (in_function t) s
