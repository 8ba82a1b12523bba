-- Each function's answer, put together from those of its calls in the order of the code.
use Rattle.std.proofs.Common.{refl, sym, arith, [], ◌∷◌, ◌++◌}
use Rattle.std.proofs.lemmas.Result.{err_from_is_err_and}
use Rattle.mv_parse_grammar.specs.Terminals.{terminals}
use Rattle.mv_parse_nodes.proofs.Answers.{memory, given_ok, then_ok, then_err, token_ok, choice_yes, choice_no, loop_starts, loop_goes_on, loop_stops, loop_fails, loops_at}
use Rattle.mv_parse_statements.proofs.Steps.{bounded}
use Rattle.mv_parse_statements.proofs.statement.+statement.Goals as goal

pub block_rest-loop-lines-init : goal.block_rest-loop-lines-init
block_rest-loop-lines-init t c = record {
  reads = λ n. loops_at {x = []} (loop_starts _ _ _ _ [] _ n refl) (sym c.new-lines.ensures) refl;
  shorter = omega arith;
}

pub block_rest-returns-in_err-line-clause-reads : goal.block_rest-returns-in_err-line-clause-reads
block_rest-returns-in_err-line-clause-reads t c = λ n. let p = err_from_is_err_and c.from_residual.result c.from_residual.ensures.1 in rw (p.1, p.2)
    (loop_fails (c.loop-lines.invariant.reads n) (c.in-Some.ensures.next c.args.text.now) (then_err _ (c.in_err-line.ensures.reads n)))

pub block_rest-loop-lines-preserved : goal.block_rest-loop-lines-preserved
block_rest-loop-lines-preserved t c = record {
  reads = λ n. loops_at (loop_goes_on (c.loop-lines.invariant.reads n) (c.in-Some.ensures.next c.args.text.now)
      (then_ok _ (c.in_ok-line.ensures.reads n) (given_ok (c.loop-lines.lines ++ c.in_ok-line.line ∷ [], terminals c.args.text.now c.in_ok-line.after.now) _ _ refl refl)))
      (cc (c.in_ok-append.ensures)) refl;
  shorter = omega (arith, c.in_ok-line.ensures.shorter, c.loop-lines.invariant.shorter);
}

pub block_rest-returns-in_err-rest-clause-reads : goal.block_rest-returns-in_err-rest-clause-reads
block_rest-returns-in_err-rest-clause-reads t c = λ n. let p = err_from_is_err_and c.from_residual-in_err-rest.result c.from_residual-in_err-rest.ensures.1 in rw (p.1, p.2)
    (loop_stops (c.loop-lines.invariant.reads n) (c.in_default.ensures.next c.args.text.now) (then_err _ (c.in_err-rest.ensures.reads c.args.text.now)))

pub block_rest-returns-clause-reads : goal.block_rest-returns-clause-reads
block_rest-returns-clause-reads t c = λ n. loop_stops (c.loop-lines.invariant.reads n) (c.in_default.ensures.next c.args.text.now)
    (then_ok _ (c.in_ok-rest.ensures.reads c.args.text.now) (given_ok _ _ _ (sym c.in_ok-line-2.ensures) refl))

pub for_rest-returns-in_err-first-clause-reads : goal.for_rest-returns-in_err-first-clause-reads
for_rest-returns-in_err-first-clause-reads t c = λ n. let p = err_from_is_err_and c.from_residual-in_err-first.result c.from_residual-in_err-first.ensures.1 in rw (p.1, p.2)
    (then_ok _ (c.in_ok-rest.ensures.reads c.args.text.now) (then_err _ (c.in_err-first.ensures.reads n)))

pub for_rest-returns-in_err-test-clause-reads : goal.for_rest-returns-in_err-test-clause-reads
for_rest-returns-in_err-test-clause-reads t c = λ n. let p = err_from_is_err_and c.from_residual-in_err-test.result c.from_residual-in_err-test.ensures.1 in rw (p.1, p.2)
    (then_ok _ (c.in_ok-rest.ensures.reads c.args.text.now) (then_ok _ (c.in_ok-first.ensures.reads n) (then_err _ (c.in_err-test.ensures.reads n))))

pub for_rest-returns-in_err-step-clause-reads : goal.for_rest-returns-in_err-step-clause-reads
for_rest-returns-in_err-step-clause-reads t c = λ n. let p = err_from_is_err_and c.from_residual-in_err-step.result c.from_residual-in_err-step.ensures.1 in rw (p.1, p.2)
    (then_ok _ (c.in_ok-rest.ensures.reads c.args.text.now) (then_ok _ (c.in_ok-first.ensures.reads n) (then_ok _ (c.in_ok-test.ensures.reads n) (then_err _ (c.in_err-step.ensures.reads n)))))

pub for_rest-returns-in_err-body-clause-reads : goal.for_rest-returns-in_err-body-clause-reads
for_rest-returns-in_err-body-clause-reads t c = λ n. let p = err_from_is_err_and c.from_residual-in_err-body.result c.from_residual-in_err-body.ensures.1 in rw (p.1, p.2)
    (then_ok _ (c.in_ok-rest.ensures.reads c.args.text.now) (then_ok _ (c.in_ok-first.ensures.reads n) (then_ok _ (c.in_ok-test.ensures.reads n) (then_ok _ (c.in_ok-step.ensures.reads n)
    (then_err _ (c.in_err-body.ensures.reads n))))))

pub for_rest-returns-in_err-line-clause-reads : goal.for_rest-returns-in_err-line-clause-reads
for_rest-returns-in_err-line-clause-reads t c = λ n. let p = err_from_is_err_and c.from_residual-in_err-line.result c.from_residual-in_err-line.ensures.1 in rw (p.1, p.2) (memory _)

pub for_rest-returns-clause-reads : goal.for_rest-returns-clause-reads
for_rest-returns-clause-reads t c = λ n.
    then_ok _ (c.in_ok-rest.ensures.reads c.args.text.now) (then_ok _ (c.in_ok-first.ensures.reads n) (then_ok _ (c.in_ok-test.ensures.reads n) (then_ok _ (c.in_ok-step.ensures.reads n)
    (then_ok _ (c.in_ok-body.ensures.reads n) (given_ok _ _ _ (sym c.in_ok-line.ensures) refl)))))

pub statement-returns-in-Some-clause-reads : goal.statement-returns-in-Some-clause-reads
statement-returns-in-Some-clause-reads t c =
    let h = c.in-Some.ensures.next c.args.text.now in
    bounded _ (λ n. choice_yes _ _ h (token_ok _ h (c.block_rest.ensures.reads n)))

pub statement-returns-in-Some-next_keyword-clause-reads : goal.statement-returns-in-Some-next_keyword-clause-reads
statement-returns-in-Some-next_keyword-clause-reads t c =
    let h = c.in-Some-next_keyword.ensures.next c.args.text.now in
    bounded _ (λ n. choice_no _ _ _ (c.in_default.ensures.next c.args.text.now) (choice_yes _ _ h (token_ok _ h (c.if_rest.ensures.reads n))))

pub statement-returns-in-Some-next_keyword-2-clause-reads : goal.statement-returns-in-Some-next_keyword-2-clause-reads
statement-returns-in-Some-next_keyword-2-clause-reads t c =
    let h = c.in-Some-next_keyword-2.ensures.next c.args.text.now in
    bounded _ (λ n. choice_no _ _ _ (c.in_default.ensures.next c.args.text.now) (choice_no _ _ _ (c.in_default-next_keyword.ensures.next c.args.text.now)
    (choice_yes _ _ h (token_ok _ h (c.while_rest.ensures.reads n)))))

pub statement-returns-in-Some-next_keyword-4-clause-reads : goal.statement-returns-in-Some-next_keyword-4-clause-reads
statement-returns-in-Some-next_keyword-4-clause-reads t c =
    let h = c.in-Some-next_keyword-4.ensures.next c.args.text.now in
    bounded _ (λ n. choice_no _ _ _ (c.in_default.ensures.next c.args.text.now) (choice_no _ _ _ (c.in_default-next_keyword.ensures.next c.args.text.now)
    (choice_no _ _ _ (c.in_default-next_keyword-2.ensures.next c.args.text.now) (choice_no _ _ _ (c.in_default-next_keyword-3.ensures.next c.args.text.now)
    (choice_yes _ _ h (token_ok _ h (c.for_rest.ensures.reads n)))))))

pub statement-returns-in-Some-next_keyword-5-clause-reads : goal.statement-returns-in-Some-next_keyword-5-clause-reads
statement-returns-in-Some-next_keyword-5-clause-reads t c =
    let h = c.in-Some-next_keyword-5.ensures.next c.args.text.now in
    bounded _ (λ n. choice_no _ _ _ (c.in_default.ensures.next c.args.text.now) (choice_no _ _ _ (c.in_default-next_keyword.ensures.next c.args.text.now)
    (choice_no _ _ _ (c.in_default-next_keyword-2.ensures.next c.args.text.now) (choice_no _ _ _ (c.in_default-next_keyword-3.ensures.next c.args.text.now)
    (choice_no _ _ _ (c.in_default-next_keyword-4.ensures.next c.args.text.now) (choice_yes _ _ h (token_ok _ h (c.switch_rest.ensures.reads n))))))))
