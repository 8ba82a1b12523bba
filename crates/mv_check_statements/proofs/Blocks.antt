-- The judgement on a line that is a block.
use Rattle.std.proofs.Common.{◌≡◌, List, [], map, ap, ◌∙◌, sym, subst, Result}
use Rattle.mv_syntax.specs.declared.place.Place.{Place}
use Rattle.mv_ast.specs.declared.program.CType.{CType}
use Rattle.mv_syntax.specs.declared.unit.Act.{Act, Act-F, out-Act, map-Act, fold-Act, fold_out-Act}
use Rattle.mv_syntax.specs.declared.unit.Act.TheOpen as act
use Rattle.mv_syntax.specs.declared.unit.Line.{Line, out-Line, fold_out-Line}
use Rattle.mv_check_scope.specs.declared.scope.Scope.{Scope}
use Rattle.mv_check_expressions.specs.declared.error.RuleError.{RuleError}
use Rattle.mv_check_declarations.specs.Turns.{Behind, IsBehind}
use Rattle.mv_check_statements.specs.declared.around.Around.{Around}
use Rattle.mv_check_statements.specs.Statements.{Judges, Layer, act_step, line_step, judges_of, block_judgement, switch_body_of, lines_in_turn}

abbrev pub act_fold : Act → Place → Judges
act_fold = fold-Act (Place → Judges) Judges act_step line_step

abbrev pub layer_of : Act-F Act Line → Layer
layer_of = map-Act Act Line (Place → Judges) Judges act_fold judges_of

pub judged : (l : Line) (x : Act-F Act Line) → out-Act (out-Line l).what ≡ x → judges_of l ≡ act_step (layer_of x) (out-Line l).place
judged l x h =
    fold_out-Line (Place → Judges) Judges act_step line_step l ∙
    (ap (λ (f : Place → Judges). f (out-Line l).place) (fold_out-Act (Place → Judges) Judges act_step line_step (out-Line l).what) ∙
    ap (λ (y : Act-F Act Line). act_step (layer_of y) (out-Line l).place) h)

module _ (l : Line) (items : List Line) (is : out-Act (out-Line l).what ≡ act.Block items) (around : Around) (s : Scope) where
  pub statement_of_block : (judges_of l).statement around s ≡ block_judgement (map judges_of items) around s
  statement_of_block = ap (λ (j : Judges). j.statement around s) (judged l (act.Block items) is)

  pub switch_body_of_block : (t : CType) →
      (judges_of l).switch_body t around s ≡ switch_body_of (act.Block (map judges_of items)) (out-Line l).place t around s
  switch_body_of_block t = ap (λ (j : Judges). j.switch_body t around s) (judged l (act.Block items) is)

  pub function_body_of_block : (judges_of l).function_body around s ≡ lines_in_turn (map judges_of items) around (s, [])
  function_body_of_block = ap (λ (j : Judges). j.function_body around s) (judged l (act.Block items) is)

-- along an equation
pub behind_as : {A : Type 0} {j k : Behind A} {r : Result A RuleError} {s : Scope} → j ≡ k → IsBehind k r s → IsBehind j r s
behind_as {r = r} {s = s} e h = let P : Behind _ → Type 0 = λ x. IsBehind x r s in subst P (sym e) h
