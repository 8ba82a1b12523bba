-- Each function's answer, put together from those of its calls in the order of the code.
use Rattle.std.proofs.Common.{◌-◌, refl, sym, ap, ◌∙◌, arith, [], ◌∷◌, ◌++◌}
use Rattle.std.proofs.lemmas.Result.{err_from_is_err_and}
use Rattle.mv_syntax.specs.declared.unit.What.TheVariants as w
use Rattle.mv_parse_grammar.specs.Terminals.{terminal, terminals, mark}
use Rattle.mv_parse_grammar.specs.Reader as reader
use Rattle.mv_parse_grammar.specs.Expressions.{Assign, Cond, Cast, Unary, node_at, joined}
use Rattle.mv_parse_grammar.specs.ExpressionReader as model
use Rattle.mv_parse_nodes.proofs.Answers.{given_ok, then_ok, then_err, placed_ok, placed_err, token_ok, choice_yes, choice_no, choice_true, loop_begins, loop_begins_at, loop_goes_on, loop_stops, loop_fails, loops_at, skipped, regrouped, err_any, ok_any}
use Rattle.mv_parse_expressions.proofs.Levels.{bounded, level_zero}
use Rattle.mv_parse_expressions.proofs.expression.+expression.Goals as goal
use Rattle.mv_parse_grammar.proofs.Common.{level_opened}

pub arguments-loop-after-init : goal.arguments-loop-after-init
arguments-loop-after-init t c = record {
  reads = λ n. loops_at (loop_begins (reader.comma_pushed (model.read n Assign)) _ (λ x. x ∷ []) n _ _ (c.in_ok-first.ensures.reads n)
      (skipped _ _ _ (c.in_default.ensures.next c.args.text.now) ∙
      regrouped _ _ (model.read n Assign (terminals c.args.text.now c.args.tokens.now))))
      (cc (c.in_ok-append.ensures, c.new-given.ensures)) refl;
  shorter = c.in_ok-first.ensures.shorter;
}

pub arguments-returns-in_err-next-clause-reads : goal.arguments-returns-in_err-next-clause-reads
arguments-returns-in_err-next-clause-reads t c = λ n. let p = err_from_is_err_and c.from_residual-in_err-next.result c.from_residual-in_err-next.ensures.1 in rw (p.1, p.2)
    (loop_fails (c.loop-after.invariant.reads n) (c.in-Some-next_mark.ensures.next c.args.text.now) (token_ok _ (c.in-Some-next_mark.ensures.next c.args.text.now) (then_err _ (c.in_err-next.ensures.reads n))))

pub arguments-loop-after-preserved : goal.arguments-loop-after-preserved
arguments-loop-after-preserved t c = record {
  reads = λ n. loops_at (loop_goes_on (c.loop-after.invariant.reads n) (c.in-Some-next_mark.ensures.next c.args.text.now)
      (token_ok _ (c.in-Some-next_mark.ensures.next c.args.text.now) (then_ok _ (c.in_ok-next.ensures.reads n) (given_ok (c.loop-after.given ++ c.in_ok-next.next ∷ [], terminals c.args.text.now c.in_ok-next.after.now) _ _ refl refl))))
      (cc (c.in_ok-append-2.ensures)) refl;
  shorter = omega (arith, c.in_ok-next.ensures.shorter, c.in-Some-next_mark.ensures.shorter, c.loop-after.invariant.shorter);
}

pub arguments-returns-in_err-rest-clause-reads : goal.arguments-returns-in_err-rest-clause-reads
arguments-returns-in_err-rest-clause-reads t c = λ n. let p = err_from_is_err_and c.from_residual-in_err-rest.result c.from_residual-in_err-rest.ensures.1 in rw (p.1, p.2)
    (loop_stops (c.loop-after.invariant.reads n) (c.in_default-next_mark.ensures.next c.args.text.now) (then_err _ (c.in_err-rest.ensures.reads c.args.text.now)))

pub arguments-returns-clause-reads : goal.arguments-returns-clause-reads
arguments-returns-clause-reads t c = λ n. loop_stops (c.loop-after.invariant.reads n) (c.in_default-next_mark.ensures.next c.args.text.now) (then_ok _ (c.in_ok-rest.ensures.reads c.args.text.now) (given_ok _ _ _ refl refl))

pub assign-returns-clause-reads : goal.assign-returns-clause-reads
assign-returns-clause-reads t c =
    let place = c.place_of-place.result in
    let same = ap (λ p. node_at p (w.Assign (mark (terminal c.args.text.now c.in-Some.operator.now)) c.in_ok-left.left c.in_ok-right.right)) (sym (c.place_of-place.ensures c.args.text.now))
    ∙ (ap (λ m. node_at place (w.Assign m c.in_ok-left.left c.in_ok-right.right)) (sym c.mark_of.ensures) ∙ sym c.in_ok-node.ensures) in
    bounded Assign _ (λ n. placed_ok {ts = (terminals c.args.text.now c.args.tokens.now)} (model.read n Cond) _ (c.in_ok-left.ensures.reads n)
    (choice_yes _ _ (c.in-Some.ensures.next c.args.text.now)
    (token_ok _ (c.in-Some.ensures.next c.args.text.now) (then_ok _ (c.in_ok-right.ensures.reads n) (given_ok _ _ _ same refl)))))

pub binary-returns-then-rank-eq0-clause-reads : goal.binary-returns-then-rank-eq0-clause-reads
binary-returns-then-rank-eq0-clause-reads t c = λ n.
    rw (sym (level_zero n (model.read n) c.args.rank (terminals c.args.text.now c.args.tokens.now) c.if-rank-eq0.true)) (c.cast.ensures.reads n)

pub binary-returns-in_err-left-clause-reads : goal.binary-returns-in_err-left-clause-reads
binary-returns-in_err-left-clause-reads t c =
    λ n. let p = err_from_is_err_and c.from_residual.result c.from_residual.ensures.1 in
    rw (p.1, p.2) (rw (level_opened n (model.read n) c.args.rank (terminals c.args.text.now c.args.tokens.now) (omega arith))
    (placed_err {ts = (terminals c.args.text.now c.args.tokens.now)} (model.level n (model.read n) (c.args.rank - 1)) _
    (c.in_err-left.ensures.reads n)))

pub binary-loop-operator-init : goal.binary-loop-operator-init
binary-loop-operator-init t c = record {
  reads = λ n. loops_at (loop_begins_at _ _ n _ (terminals c.args.text.now c.args.tokens.now) (model.level n (model.read n) (c.args.rank - 1))
      (c.in_ok-left.ensures.reads n) (level_opened n (model.read n) c.args.rank (terminals c.args.text.now c.args.tokens.now) (omega arith)))
      (ap (λ p. (p, c.in_ok-left.left)) (sym (c.place_of-place.ensures c.args.text.now))) refl;
  shorter = c.in_ok-left.ensures.shorter;
}

pub binary-returns-in_err-right-clause-reads : goal.binary-returns-in_err-right-clause-reads
binary-returns-in_err-right-clause-reads t c = λ n. let p = err_from_is_err_and c.from_residual-in_err-right.result c.from_residual-in_err-right.ensures.1 in rw (p.1, p.2)
    (loop_fails (c.loop-operator.invariant.reads n) (c.in-Some.ensures.next c.args.text.now) (token_ok _ (c.in-Some.ensures.next c.args.text.now) (then_err _ (c.in_err-right.ensures.reads n))))

pub binary-loop-operator-preserved : goal.binary-loop-operator-preserved
binary-loop-operator-preserved t c = record {
  reads = λ n. loops_at (loop_goes_on (c.loop-operator.invariant.reads n) (c.in-Some.ensures.next c.args.text.now)
      (token_ok _ (c.in-Some.ensures.next c.args.text.now) (then_ok _ (c.in_ok-right.ensures.reads n)
      (given_ok (joined (c.place_of-place.result, c.loop-operator.left) (λ x. w.Binary (mark (terminal c.args.text.now c.in-Some.operator.now)) x c.in_ok-right.right), terminals c.args.text.now c.in_ok-right.after.now) _ _ refl refl))))
      (ap (λ m. (c.place_of-place.result, node_at c.place_of-place.result (w.Binary m c.loop-operator.left c.in_ok-right.right))) (sym c.mark_of.ensures)
      ∙ ap (λ x. (c.place_of-place.result, x)) (sym c.in_ok-left-2.ensures)) refl;
  shorter = omega (arith, c.in_ok-right.ensures.shorter, c.in-Some.ensures.shorter, c.loop-operator.invariant.shorter);
}

pub binary-returns-clause-reads : goal.binary-returns-clause-reads
binary-returns-clause-reads t c = λ n. loop_stops (c.loop-operator.invariant.reads n) (c.in_default.ensures.next c.args.text.now) (given_ok _ _ _ refl refl)

pub conditional-returns-in_err-after-clause-reads : goal.conditional-returns-in_err-after-clause-reads
conditional-returns-in_err-after-clause-reads t c =
    λ n. let p = err_from_is_err_and c.from_residual-in_err-after.result c.from_residual-in_err-after.ensures.1 in
    rw (p.1, p.2) (bounded Cond _
    (λ n. placed_ok {ts = (terminals c.args.text.now c.args.tokens.now)} (model.level n (model.read n) 10) _ (c.in_ok-test.ensures.reads n)
    (choice_yes _ _ (c.in-Some.ensures.next c.args.text.now)
    (token_ok _ (c.in-Some.ensures.next c.args.text.now)
    (then_ok _ (c.in_ok-first.ensures.reads n) (then_err _ (c.in_err-after.ensures.reads c.args.text.now)))))) n)

pub conditional-returns-clause-reads : goal.conditional-returns-clause-reads
conditional-returns-clause-reads t c =
    let same = ap (λ p. node_at p (w.Choose c.in_ok-test.test c.in_ok-first.first c.in_ok-second.second)) (sym (c.place_of-place.ensures c.args.text.now)) ∙ sym c.in_ok-node.ensures in
    bounded Cond _ (λ n. placed_ok {ts = (terminals c.args.text.now c.args.tokens.now)} (model.level n (model.read n) 10) _
    (c.in_ok-test.ensures.reads n)
    (choice_yes _ _ (c.in-Some.ensures.next c.args.text.now)
    (token_ok _ (c.in-Some.ensures.next c.args.text.now)
    (then_ok _ (c.in_ok-first.ensures.reads n)
    (then_ok _ (c.in_ok-after.ensures.reads c.args.text.now)
    (then_ok _ (c.in_ok-second.ensures.reads n) (given_ok _ _ _ same refl)))))))

pub postfix-returns-in_err-left-clause-reads : goal.postfix-returns-in_err-left-clause-reads
postfix-returns-in_err-left-clause-reads t c =
    λ n. let p = err_from_is_err_and c.from_residual.result c.from_residual.ensures.1 in
    rw (p.1, p.2) (placed_err {ts = (terminals c.args.text.now c.args.tokens.now)} (model.primary (model.read n)) _ (c.in_err-left.ensures.reads n))

pub postfix-loop-left-init : goal.postfix-loop-left-init
postfix-loop-left-init t c = record {
  reads = λ n. loops_at
      (loop_begins_at _ _ n _ (terminals c.args.text.now c.args.tokens.now) (model.primary (model.read n)) (c.in_ok-left.ensures.reads n) refl)
      (ap (λ p. (p, c.in_ok-left.left)) (sym (c.place_of-place.ensures c.args.text.now))) refl;
  shorter = c.in_ok-left.ensures.shorter;
}

pub postfix-returns-in_err-node-clause-reads : goal.postfix-returns-in_err-node-clause-reads
postfix-returns-in_err-node-clause-reads t c = λ n. let p = err_from_is_err_and c.from_residual-in_err-node.result c.from_residual-in_err-node.ensures.1 in rw (p.1, p.2)
    (loop_fails (c.loop-left.invariant.reads n) (c.in-Some.ensures.next c.args.text.now) (err_any (c.in_err-node.ensures.reads n)))

pub postfix-loop-left-preserved : goal.postfix-loop-left-preserved
postfix-loop-left-preserved t c = record {
  reads = λ n. loop_goes_on (c.loop-left.invariant.reads n) (c.in-Some.ensures.next c.args.text.now) (ok_any (c.in_ok-node.ensures.reads n));
  shorter = omega (arith, c.in_ok-node.ensures.shorter, c.loop-left.invariant.shorter);
}

pub postfix-returns-clause-reads : goal.postfix-returns-clause-reads
postfix-returns-clause-reads t c = λ n. loop_stops (c.loop-left.invariant.reads n) (c.in_default.ensures.next c.args.text.now) (given_ok _ _ _ refl refl)

pub cast-returns-in_default-clause-reads : goal.cast-returns-in_default-clause-reads
cast-returns-in_default-clause-reads t c = bounded Cast _ (λ n. choice_no _ _ _ (c.in_default.ensures.next c.args.text.now) (c.operand.ensures.reads n))

pub cast-returns-clause-reads : goal.cast-returns-clause-reads
cast-returns-clause-reads t c =
    let h = c.in-Some.ensures.next c.args.text.now in
    bounded Cast _ (λ n. choice_true _ _ _ h.both (token_ok _ h.taken (then_ok _ (c.in_ok-specs.ensures.reads n) (then_ok _ (c.in_ok-rest.ensures.reads c.args.text.now)
    (then_ok _ (c.in_ok-inner.ensures.reads n) (given_ok _ _ _ (sym c.in_ok-node.ensures) refl))))))

pub unary-returns-clause-reads : goal.unary-returns-clause-reads
unary-returns-clause-reads t c = bounded Unary _ (λ n. c.operand.ensures.reads n)
