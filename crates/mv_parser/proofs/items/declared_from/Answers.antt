use Rattle.std.proofs.Common.{[], ◌∷◌, refl, ◌∙◌, arith}
use Rattle.std.proofs.lemmas.Result.{err_from_is_err_and}
use Rattle.mv_parse_grammar.specs.Terminals.{terminals}
use Rattle.mv_parse_grammar.specs.Reader as reader
use Rattle.mv_parse_grammar.specs.ExpressionReader.{read}
use Rattle.mv_parse_grammar.specs.DeclarationReader.{with_init, declared, params}
use Rattle.mv_parse_nodes.proofs.Answers.{given_ok, loop_begins, loop_stops, loops_at, go_on_give, regrouped}
use Rattle.mv_parse_nodes.proofs.Lists.{comma_goes_on, comma_fails}
use Rattle.mv_parser.proofs.items.declared_from.Goals as goal

pub loop-after-init : goal.loop-after-init
loop-after-init c = record {
  reads = λ n. loops_at (loop_begins (reader.comma_pushed (declared n (read n) (params n))) (λ xs r. reader.give xs r) (λ x. x ∷ []) n _ _ (c.in_ok-initialised.ensures.reads n)
      (go_on_give _ ∙ regrouped _ _ (with_init n (read n) c.args.first (terminals c.args.text.now c.args.tokens.now))))
      (cc (c.in_ok-append.ensures, c.new-names.ensures)) refl;
  shorter = c.in_ok-initialised.ensures.shorter;
}

pub returns-in_err-next-clause-reads : goal.returns-in_err-next-clause-reads
returns-in_err-next-clause-reads c = λ n. let p = err_from_is_err_and c.from_residual-in_err-next.result c.from_residual-in_err-next.ensures.1 in rw (p.1, p.2)
    (comma_fails (declared n (read n) (params n)) (c.loop-after.invariant.reads n) (c.in-Some.ensures.next c.args.text.now) (c.in_err-next.ensures.reads n))

pub loop-after-preserved : goal.loop-after-preserved
loop-after-preserved c = record {
  reads = λ n. loops_at (comma_goes_on (declared n (read n) (params n)) (c.loop-after.invariant.reads n) (c.in-Some.ensures.next c.args.text.now) (c.in_ok-next.ensures.reads n))
      (cc (c.in_ok-append-2.ensures)) refl;
  shorter = omega (arith, c.in_ok-next.ensures.shorter, c.in-Some.ensures.shorter, c.loop-after.invariant.shorter);
}

pub returns-clause-reads : goal.returns-clause-reads
returns-clause-reads c = λ n. loop_stops (c.loop-after.invariant.reads n) (c.in_default.ensures.next c.args.text.now) (given_ok _ _ _ refl refl)
