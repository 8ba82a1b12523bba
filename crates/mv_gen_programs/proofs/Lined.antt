-- The judgement on lines of generated texts, from those on their expressions.
use Rattle.std.proofs.Common.{◌≡◌, List, [], ◌∷◌, ◌++◌, map, Some, None, refl, ap, ◌∙◌}
use Rattle.mv_syntax.specs.declared.place.Place.{Place}
use Rattle.mv_ast.specs.declared.program.CType.{CType}
use Rattle.mv_ast.specs.declared.program.Expr.{Expr}
use Rattle.mv_ast.specs.declared.program.Form.{Form}
use Rattle.mv_ast.specs.declared.program.Stmt.{Stmt}
use Rattle.mv_ast.specs.declared.program.Stmt.TheVariants as stmt
use Rattle.mv_syntax.specs.declared.unit.Act.TheOpen as act
use Rattle.mv_syntax.specs.declared.unit.Act.TheVariants as a
use Rattle.mv_syntax.specs.declared.unit.Line.{Line}
use Rattle.mv_syntax.specs.declared.unit.Node.{Node}
use Rattle.mv_parse_grammar.specs.Statements.{line_at}
use Rattle.mv_check_scope.specs.declared.scope.Scope.{Scope}
use Rattle.mv_check_scope.specs.Conversions.{int, typed, converted_to}
use Rattle.mv_check_scope.specs.Scoped.{block_entered, block_left}
use Rattle.mv_check_expressions.specs.Judged.{Good, and_then}
use Rattle.mv_check_expressions.specs.Judgements.{value_judgement, effect_judgement}
use Rattle.mv_syntax.specs.declared.unit.Declarator.{Declarator}
use Rattle.mv_syntax.specs.declared.unit.Specs.{Specs}
use Rattle.mv_check_declarations.specs.Locals.{locals_judgement}
use Rattle.mv_check_declarations.specs.Turns.{Behind, through}
use Rattle.mv_check_statements.specs.declared.around.Around.{Around}
use Rattle.mv_check_statements.specs.Surroundings.{in_function, in_loop}
use Rattle.mv_check_statements.specs.Statements.{Judges, judges_of, lines_in_turn, body_judgement, returned}
use Rattle.mv_check_statements.proofs.Blocks.{judged}

-- what a line comes to, behind some statements
abbrev pub GivesLine : Line → Around → Scope → Scope → Stmt → Type 0
GivesLine l around s t x = (ss : List Stmt) → (judges_of l).line around (s, ss) ≡ Good (t, ss ++ x ∷ [])

module _ (at : Place) (around : Around) (s : Scope) where
  pub return_line : (e : Node) (x : Form) → value_judgement s e ≡ Good (typed int x) → around.returns ≡ int → GivesLine (line_at at (a.Return (Some e))) around s s (stmt.Return (Some (typed int x)))
  unfolding returned converted_to
  return_line e x h r ss =
      ap (λ (j : Judges). j.line around (s, ss)) (judged (line_at at (a.Return (Some e))) (act.Return (Some e)) (a.outs-Return (Some e))) ∙ rw (h, r) refl

  pub express_line : (e : Node) (x : Expr) → effect_judgement s e ≡ Good x → GivesLine (line_at at (a.Express (Some e))) around s s (stmt.Express x)
  express_line e x h ss =
      ap (λ (j : Judges). j.line around (s, ss)) (judged (line_at at (a.Express (Some e))) (act.Express (Some e)) (a.outs-Express (Some e))) ∙ rw h refl

  -- a block whose lines come to these statements
  pub block_statement : (ls : List Line) (t : Scope) (xs : List Stmt) → lines_in_turn (map judges_of ls) around (block_entered s, []) ≡ Good (t, xs) →
      (judges_of (line_at at (a.Block ls))).statement around s ≡ Good (block_left t, stmt.Block xs)
  block_statement ls t xs h =
      ap (λ (j : Judges). j.statement around s) (judged (line_at at (a.Block ls)) (act.Block ls) (a.outs-Block ls)) ∙ ap (λ (j : Behind (List Stmt)). and_then j (λ d. Good (block_left d.0, stmt.Block d.1))) h

  -- an `if` without `else`
  pub if_line : (e : Node) (l : Line) (x : Expr) (t : Scope) (y : Stmt) → value_judgement s e ≡ Good x → (judges_of l).statement around s ≡ Good (t, y) →
      GivesLine (line_at at (a.If e l None)) around s t (stmt.If x (y ∷ []) [])
  if_line e l x t y h k ss =
      ap (λ (j : Judges). j.line around (s, ss)) (judged (line_at at (a.If e l None)) (act.If e l None) (a.outs-If e l None)) ∙ rw (h, k) refl

-- the body of a function
pub function_body : (at : Place) (ls : List Line) (t : CType) (s u : Scope) (xs : List Stmt) → lines_in_turn (map judges_of ls) (in_function t) (s, []) ≡ Good (u, xs) →
    body_judgement t (line_at at (a.Block ls)) s ≡ Good (u, xs)
function_body at ls t s u xs h = ap (λ (j : Judges). j.function_body (in_function t) s) (judged (line_at at (a.Block ls)) (act.Block ls) (a.outs-Block ls)) ∙ h

-- a `for` with all three clauses
pub for_line : (at : Place) (around : Around) (s t u : Scope) (first l : Line) (test step : Node) (x : Stmt) (y z : Expr) (b : Stmt) →
    GivesLine first around (block_entered s) t x → value_judgement t test ≡ Good y → effect_judgement t step ≡ Good z → (judges_of l).statement (in_loop around) t ≡ Good (u, b) →
    GivesLine (line_at at (a.For (Some first) (Some test) (Some step) l)) around s (block_left u) (stmt.For (x ∷ []) (Some y) (Some z) (b ∷ []))
for_line at around s t u first l test step x y z b h k m n ss =
    let h' = h [] in
    ap (λ (j : Judges). j.line around (s, ss)) (judged (line_at at (a.For (Some first) (Some test) (Some step) l)) (act.For (Some first) (Some test) (Some step) l) (a.outs-For (Some first) (Some test) (Some step) l))
    ∙ rw (h', k, m, n) refl

-- one more line in turn
pub turn_more : (l : Line) (ls : List Line) (around : Around) (s t : Scope) (x : Stmt) (ss : List Stmt) → GivesLine l around s t x →
    lines_in_turn (map judges_of (l ∷ ls)) around (s, ss) ≡ lines_in_turn (map judges_of ls) around (t, ss ++ x ∷ [])
turn_more l ls around s t x ss h = ap (λ (j : Behind (List Stmt)). and_then j (through (λ m. m.line around) (map judges_of ls))) (h ss)

-- a declaration of one local
pub declare_line : (at : Place) (around : Around) (s t : Scope) (specs : Specs) (names : List Declarator) (x : Stmt) → locals_judgement s specs names ≡ Good (t, x ∷ []) →
    GivesLine (line_at at (a.Declare specs names)) around s t x
declare_line at around s t specs names x h ss =
    ap (λ (j : Judges). j.line around (s, ss)) (judged (line_at at (a.Declare specs names)) (act.Declare specs names) (a.outs-Declare specs names)) ∙ rw h refl
