use Rattle.std.proofs.Common.{refl, sym, ◌∙◌, arith}
use Rattle.std.proofs.lemmas.Result.{err_from_is_err_and}
use Rattle.mv_syntax.specs.declared.unit.Declarator.{Declarator}
use Rattle.mv_parse_grammar.specs.Terminals.{terminals}
use Rattle.mv_parse_grammar.specs.Reader as reader
use Rattle.mv_parse_grammar.specs.Declarations.{attributed}
use Rattle.mv_parse_grammar.specs.ExpressionReader.{read}
use Rattle.mv_parse_grammar.specs.DeclarationReader as model
use Rattle.mv_parse_nodes.proofs.Answers.{given_ok, then_ok, then_err, loop_begins, loop_goes_on, loop_stops, loop_fails, loops_at, regrouped, go_on_give}
use Rattle.mv_parse_declarations.proofs.declarator.declarator.Goals as goal

pub loop-declarator-init : goal.loop-declarator-init
loop-declarator-init c = record {
  reads = λ n. loop_begins (model.with_attribute n (read n)) (λ (d : Declarator) r. reader.give d r) (λ d. d) n _ _
      (c.in_ok-declarator.ensures.reads n)
      (go_on_give _ ∙ regrouped _ _ (model.direct (read n) (model.params n) (terminals c.args.text.now c.args.tokens.now)));
  shorter = c.in_ok-declarator.ensures.shorter;
}

pub returns-in_err-mark-clause-reads : goal.returns-in_err-mark-clause-reads
returns-in_err-mark-clause-reads c = λ n. let p = err_from_is_err_and c.from_residual-in_err-mark.result c.from_residual-in_err-mark.ensures.1 in rw (p.1, p.2)
    (loop_fails (c.loop-declarator.invariant.reads n) (c.in-Some.ensures.next c.args.text.now) (then_err _ (c.in_err-mark.ensures.reads n)))

pub loop-declarator-preserved : goal.loop-declarator-preserved
loop-declarator-preserved c = record {
  reads = λ n. loops_at (loop_goes_on (c.loop-declarator.invariant.reads n) (c.in-Some.ensures.next c.args.text.now)
      (then_ok _ (c.in_ok-mark.ensures.reads n) (given_ok (attributed c.loop-declarator.declarator c.in_ok-mark.mark, terminals c.args.text.now c.in_ok-mark.after.now) _ _ refl refl)))
      (sym c.in_ok-declarator-2.ensures) refl;
  shorter = omega (arith, c.in_ok-mark.ensures.shorter, c.loop-declarator.invariant.shorter);
}

pub returns-clause-reads : goal.returns-clause-reads
returns-clause-reads c = λ n. loop_stops (c.loop-declarator.invariant.reads n) (c.in_default.ensures.next c.args.text.now) (given_ok _ _ _ refl refl)
