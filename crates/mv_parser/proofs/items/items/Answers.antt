use Rattle.std.proofs.Common.{[], ◌∷◌, ◌++◌, refl, sym, ap}
use Rattle.std.proofs.lemmas.Result.{err_from_is_err_and}
use Rattle.mv_parse_grammar.specs.Terminals.{terminals}
use Rattle.mv_parse_nodes.proofs.Answers.{given_ok, then_ok, then_err, loop_starts, loop_goes_on, loop_stops, loop_fails, loops_at, go_on_give, none_at_end}
use Rattle.mv_parser.proofs.items.items.Goals as goal

pub loop-items-init : goal.loop-items-init
loop-items-init c = λ n. loops_at {x = []} (loop_starts _ _ _ _ [] _ n (go_on_give _)) (sym c.new-items.ensures) refl

pub loop-items-preserved : goal.loop-items-preserved
loop-items-preserved c = λ n. loops_at (loop_goes_on (c.loop-items.invariant n) (c.in-Some.ensures.next c.args.text.now)
    (then_ok _ (c.in_ok-item.ensures.reads n) (given_ok (c.loop-items.items ++ c.in_ok-item.item ∷ [], terminals c.args.text.now c.in_ok-item.after.now) _ _ refl refl)))
    (cc (c.in_ok-append.ensures)) refl

pub returns-in_err-item : goal.returns-in_err-item
returns-in_err-item c = λ n. let p = err_from_is_err_and c.from_residual.result c.from_residual.ensures.1 in rw (p.1, p.2)
    (loop_fails (c.loop-items.invariant n) (c.in-Some.ensures.next c.args.text.now) (then_err _ (c.in_err-item.ensures.reads n)))

pub returns : goal.returns
returns c = λ n.
    let e = ap (terminals c.args.text.now) (c.in_default.ensures.next c.args.text.now) in
    loop_stops (c.loop-items.invariant n) (none_at_end _ _ e) (given_ok _ _ _ refl e)
