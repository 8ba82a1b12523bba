use Rattle.std.proofs.Common.{List, [], ◌∷◌, ◌++◌, refl, sym, ap, ◌∙◌, arith}
use Rattle.std.proofs.lemmas.Result.{err_from_is_err_and}
use Rattle.mv_syntax.specs.declared.unit.Node.{Node}
use Rattle.mv_parse_grammar.specs.Terminals.{terminals}
use Rattle.mv_parse_grammar.specs.ExpressionReader.{read}
use Rattle.mv_parse_grammar.specs.Expressions.{Assign}
use Rattle.mv_parse_nodes.proofs.Answers.{given_ok, then_ok, then_err}
use Rattle.mv_parse_nodes.proofs.Lists.{braced_begins, closes_at, closes_early, closes_goes_on, closes_fails, closes_stops}
use Rattle.mv_parse_declarations.proofs.initial.values.Goals as goal

pub loop-after-init : goal.loop-after-init
loop-after-init c = record {
  reads = λ n. closes_at (braced_begins n (read n Assign) (terminals c.args.text.now c.args.tokens.now) (c.in_ok-rest.ensures.reads c.args.text.now)
      (c.in_ok-first.ensures.reads n))
      (ap (λ (xs : List Node). xs ++ c.in_ok-first.first ∷ []) (sym c.new-values.ensures) ∙ sym c.in_ok-append.ensures);
  shorter = omega (arith, c.in_ok-first.ensures.shorter, c.in_ok-rest.ensures.shorter);
}

pub returns-in-Some-next_mark-clause-reads : goal.returns-in-Some-next_mark-clause-reads
returns-in-Some-next_mark-clause-reads c = λ n. closes_early (c.loop-after.invariant.reads n) (c.in-Some.ensures.next c.args.text.now) (c.in-Some-next_mark.ensures.next c.args.text.now) (given_ok _ _ _ refl refl)

pub returns-in_err-next-clause-reads : goal.returns-in_err-next-clause-reads
returns-in_err-next-clause-reads c = λ n. let p = err_from_is_err_and c.from_residual-in_err-next.result c.from_residual-in_err-next.ensures.1 in rw (p.1, p.2)
    (closes_fails (c.loop-after.invariant.reads n) (c.in-Some.ensures.next c.args.text.now) (c.in_default-next_mark.ensures.next c.args.text.now) (c.in_err-next.ensures.reads n))

pub loop-after-preserved : goal.loop-after-preserved
loop-after-preserved c = record {
  reads = λ n. closes_at (closes_goes_on (c.loop-after.invariant.reads n) (c.in-Some.ensures.next c.args.text.now) (c.in_default-next_mark.ensures.next c.args.text.now) (c.in_ok-next.ensures.reads n)) (cc (c.in_ok-append-2.ensures));
  shorter = omega (arith, c.in_ok-next.ensures.shorter, c.in-Some.ensures.shorter, c.loop-after.invariant.shorter);
}

pub returns-in_err-rest-2-clause-reads : goal.returns-in_err-rest-2-clause-reads
returns-in_err-rest-2-clause-reads c = λ n. let p = err_from_is_err_and c.from_residual-in_err-rest-2.result c.from_residual-in_err-rest-2.ensures.1 in rw (p.1, p.2)
    (closes_stops (c.loop-after.invariant.reads n) (c.in_default.ensures.next c.args.text.now) (then_err _ (c.in_err-rest-2.ensures.reads c.args.text.now)))

pub returns-clause-reads : goal.returns-clause-reads
returns-clause-reads c = λ n. closes_stops (c.loop-after.invariant.reads n) (c.in_default.ensures.next c.args.text.now) (then_ok _ (c.in_ok-rest-2.ensures.reads c.args.text.now) (given_ok _ _ _ refl refl))
