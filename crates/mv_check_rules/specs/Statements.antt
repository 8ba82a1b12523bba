-- What statements are found to be, by where they stand, and the scope behind them (C11 6.8).
use Rattle.std.specs.Prelude.{ℕ, Bool, true, false, List, [], ◌∷◌, ◌++◌, if◌then◌else◌, Option, Some, None}
use Rattle.mv_syntax.specs.declared.place.Place.{Place}
use Rattle.mv_ast.specs.declared.program.Arm.{Arm}
use Rattle.mv_ast.specs.declared.program.CType.{CType}
use Rattle.mv_ast.specs.declared.program.Expr.{Expr}
use Rattle.mv_ast.specs.declared.program.Stmt.{Stmt}
use Rattle.mv_ast.specs.declared.program.Stmt.TheVariants as stmt
use Rattle.mv_syntax.specs.declared.unit.Act.{Act-F}
use Rattle.mv_syntax.specs.declared.unit.Act.TheOpen as act
use Rattle.mv_syntax.specs.declared.unit.Line.{Line, Line-F, fold-Line}
use Rattle.mv_syntax.specs.declared.unit.Node.{Node}
use Rattle.mv_ast.specs.Operators.{converted}
use Rattle.mv_check_scope.specs.declared.scope.Scope.{Scope}
use Rattle.mv_check_scope.specs.Conversions.{promotion, promoted, converted_to}
use Rattle.mv_check_scope.specs.Scoped.{block_entered, block_left}
use Rattle.mv_check_expressions.specs.Judged.{Judged, Good, and_then}
use Rattle.mv_check_expressions.specs.Judgements.{value_judgement, effect_judgement}
use Rattle.mv_check_rules.specs.Nodes as node
use Rattle.mv_check_rules.specs.Rules.{is_empty, concluded}
use Rattle.mv_check_rules.specs.Declarations.{Found, in_order, constant, local_declaration}

-- ---- what stands around a statement (C11 6.8.6)

pub record Surroundings : Type 0 where
  -- whether a `break` has something to leave
  pub breaks : Bool
  -- whether a `continue` has a loop to go on with
  pub continues : Bool
  -- the result of the function
  pub result : CType

abbrev pub function_around : CType → Surroundings
function_around t = record { breaks = false; continues = false; result = t }

abbrev pub loop_around : Surroundings → Surroundings
loop_around a = record { breaks = true; continues = true; result = a.result }

abbrev pub switch_around : Surroundings → Surroundings
switch_around a = record { breaks = true; continues = a.continues; result = a.result }

-- ---- the block of a `switch` (C11 6.8.4.2)

-- a label with its value, `default`, or a statement
pub data Piece : Type 0 where
  Labelled : ℕ → Piece
  Otherwise : Piece
  Statement : Stmt → Piece

-- the values of the labels among pieces
abbrev pub labels : List Piece → List ℕ
labels [] = []
labels (Labelled v ∷ ps) = v ∷ labels ps
labels (Otherwise ∷ ps) = labels ps
labels (Statement s ∷ ps) = labels ps

abbrev pub has_default : List Piece → Bool
has_default [] = false
has_default (Labelled v ∷ ps) = has_default ps
has_default (Otherwise ∷ ps) = true
has_default (Statement s ∷ ps) = has_default ps

abbrev pub empty_arm : Arm
empty_arm = record { labels = []; other = false; body = [] }

abbrev pub with_label : ℕ → Arm → Arm
with_label v a = record a { labels = a.labels ++ v ∷ [] }

abbrev pub with_other : Arm → Arm
with_other a = record a { other = true }

-- Labels that follow one another are those of one arm; one behind a statement begins the next arm.
abbrev pub labelled_behind : (Arm → Arm) → Arm → (Arm → List Arm) → List Arm
labelled_behind label a rest = if is_empty a.body then rest (label a) else a ∷ rest (label empty_arm)

-- the arms that pieces make behind the beginning of one
abbrev pub arms_behind : Arm → List Piece → List Arm
arms_behind a [] = a ∷ []
arms_behind a (Labelled v ∷ ps) = labelled_behind (with_label v) a (λ b. arms_behind b ps)
arms_behind a (Otherwise ∷ ps) = labelled_behind with_other a (λ b. arms_behind b ps)
arms_behind a (Statement s ∷ ps) = arms_behind (record a { body = a.body ++ s ∷ [] }) ps

-- Before the first label there is an arm without labels, to which no value leads.
abbrev pub arms : List Piece → List Arm
arms ps = arms_behind empty_arm ps

-- ---- what a statement is judged as, by where it stands

pub record Judges : Type 0 where
  -- by itself, as the body of an `if` or a loop
  pub statement : Surroundings → Scope → Found Stmt
  -- in a block, behind some statements
  pub line : Surroundings → Scope × List Stmt → Found (List Stmt)
  -- in the block of a `switch` on a value of this type, behind some pieces
  pub piece : CType → Surroundings → Scope × List Piece → Found (List Piece)
  -- as the body of a `switch`, by its pieces if it is a block
  pub switch_body : CType → Surroundings → Scope → Found (Option (List Piece))
  -- as the body of a function, whose parameters stand in the same scope
  pub function_body : Surroundings → Scope → Found (List Stmt)

abbrev pub Layer : Type 0
Layer = Act-F (Place → Judges) Judges

abbrev pub lines : List Judges → Surroundings → Scope × List Stmt → Found (List Stmt)
lines ls around = in_order (λ l. l.line around) ls

abbrev pub pieces : List Judges → CType → Surroundings → Scope × List Piece → Found (List Piece)
pieces ls t around = in_order (λ l. l.piece t around) ls

-- ---- statements

-- a node that is this statement, in the scope that its parts left
abbrev pub statement_found : Place → Scope → node.Node → Stmt → Found Stmt
statement_found place s n found = concluded place s n (s, found)

module _ (judgement : Scope → Node → Judged Expr) where
  abbrev pub optional : Scope → Option Node → Judged (Option Expr)
  optional s None = Good None
  optional s (Some e) = and_then (judgement s e) (λ x. Good (Some x))

abbrev pub alone : Judges → Surroundings → Scope → Found (List Stmt)
alone l around s = and_then (l.statement around s) (λ d. Good (d.0, d.1 ∷ []))

abbrev pub alone_if_any : Option Judges → Surroundings → Scope → Found (List Stmt)
alone_if_any None around s = Good (s, [])
alone_if_any (Some l) around s = alone l around s

abbrev pub first_clause : Option Judges → Surroundings → Scope → Found (List Stmt)
first_clause None around s = Good (s, [])
first_clause (Some l) around s = l.line around (s, [])

abbrev pub express : Option Expr → Stmt
express None = stmt.Block []
express (Some e) = stmt.Express e

abbrev pub convert_result : CType → Option Expr → Option Expr
convert_result t None = None
convert_result t (Some e) = Some (converted_to t e)

abbrev pub is_block : Option (List Piece) → Bool
is_block None = false
is_block (Some ps) = true

abbrev pub arms_if_any : Option (List Piece) → List Arm
arms_if_any None = []
arms_if_any (Some ps) = arms ps

abbrev pub for_behind : Option Node → Option Node → Judges → Surroundings → Scope × List Stmt → Found Stmt
for_behind test step l around f =
    and_then (optional value_judgement f.0 test) (λ x.
    and_then (optional effect_judgement f.0 step) (λ y.
    and_then (alone l (loop_around around) f.0) (λ d. Good (block_left d.0, stmt.For f.1 x y d.1))))

abbrev pub statement_of : Layer → Place → Surroundings → Scope → Found Stmt
statement_of (act.Block ls) place around s = and_then (lines ls around (block_entered s, [])) (λ d. Good (block_left d.0, stmt.Block d.1))
statement_of (act.Declare specs names) place around s =
    and_then (local_declaration s specs names) (λ d. concluded place d.0 node.Misplaced (d.0, stmt.Block d.1))
statement_of (act.Express e) place around s = and_then (optional effect_judgement s e) (λ x. Good (s, express x))
statement_of (act.If e first second) place around s =
    and_then (value_judgement s e) (λ x.
    and_then (alone first around s) (λ y.
    and_then (alone_if_any second around y.0) (λ z. Good (z.0, stmt.If x y.1 z.1))))
statement_of (act.While e l) place around s =
    and_then (value_judgement s e) (λ x. and_then (alone l (loop_around around) s) (λ d. Good (d.0, stmt.While x d.1)))
statement_of (act.Do l e) place around s =
    and_then (alone l (loop_around around) s) (λ d. and_then (value_judgement d.0 e) (λ x. Good (d.0, stmt.Do d.1 x)))
statement_of (act.For first test step l) place around s =
    and_then (first_clause first around (block_entered s)) (for_behind test step l around)
statement_of (act.Switch e l) place around s =
    and_then (value_judgement s e) (λ x.
    and_then (l.switch_body (promotion x.ctype) (switch_around around) s) (λ d.
    statement_found place d.0 (node.Switch x.ctype (is_block d.1)) (stmt.Switch (promoted x) (arms_if_any d.1))))
statement_of (act.Case e) place around s = and_then (constant s e) (λ c. statement_found place s node.Misplaced (stmt.Block []))
statement_of act.Default place around s = statement_found place s node.Misplaced (stmt.Block [])
statement_of act.Break place around s = statement_found place s (node.Break around.breaks) stmt.Break
statement_of act.Continue place around s = statement_found place s (node.Continue around.continues) stmt.Continue
statement_of (act.Return e) place around s =
    and_then (optional value_judgement s e) (λ x.
    statement_found place s (node.Return around.result x) (stmt.Return (convert_result around.result x)))

abbrev pub line_of : Layer → Place → Surroundings → Scope × List Stmt → Found (List Stmt)
line_of (act.Declare specs names) place around d = and_then (local_declaration d.0 specs names) (λ e. Good (e.0, d.1 ++ e.1))
line_of x place around d = and_then (statement_of x place around d.0) (λ e. Good (e.0, d.1 ++ e.1 ∷ []))

abbrev pub piece_of : Layer → Place → CType → Surroundings → Scope × List Piece → Found (List Piece)
piece_of (act.Case e) place t around d =
    and_then (constant d.0 e) (λ c. concluded place d.0 (node.Case t (labels d.1) c) (d.0, d.1 ++ Labelled (converted t c.value) ∷ []))
piece_of act.Default place t around d = concluded place d.0 (node.Default (has_default d.1)) (d.0, d.1 ++ Otherwise ∷ [])
piece_of x place t around d = and_then (statement_of x place around d.0) (λ e. Good (e.0, d.1 ++ Statement e.1 ∷ []))

abbrev pub switch_body_of : Layer → Place → CType → Surroundings → Scope → Found (Option (List Piece))
switch_body_of (act.Block ls) place t around s =
    and_then (pieces ls t around (block_entered s, [])) (λ d. Good (block_left d.0, Some d.1))
switch_body_of x place t around s = and_then (statement_of x place around s) (λ d. Good (d.0, None))

abbrev pub function_body_of : Layer → Place → Surroundings → Scope → Found (List Stmt)
function_body_of (act.Block ls) place around s = lines ls around (s, [])
function_body_of x place around s = line_of x place around (s, [])

abbrev pub act_step : Layer → Place → Judges
act_step x place = record {
  statement = statement_of x place;
  line = line_of x place;
  piece = piece_of x place;
  switch_body = switch_body_of x place;
  function_body = function_body_of x place;
}

abbrev pub line_step : Line-F (Place → Judges) Judges → Judges
line_step l = l.what l.place

abbrev pub judges : Line → Judges
judges = fold-Line (Place → Judges) Judges act_step line_step

-- the statements of a function with this result, in a scope that has its parameters
abbrev pub body : CType → Line → Scope → Found (List Stmt)
body t b = (judges b).function_body (function_around t)
