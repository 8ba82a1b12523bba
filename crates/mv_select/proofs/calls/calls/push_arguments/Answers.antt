use Rattle.std.proofs.Common.{arith, ◌∙◌, sym, ap, ◌∷◌, drop, ◌+◌}
use Rattle.std.proofs.lemmas.List.{drop_more}
use Rattle.mv_select_code.specs.Trees.TreeCode.{seats_at}
use Rattle.mv_select.proofs.OfCalls.Equations.{argument_next}
use Rattle.mv_select.proofs.calls.calls.push_arguments.Goals as goal

pub loop-index-preserved : goal.loop-index-preserved
loop-index-preserved c =
    let i = c.loop-index.index in
    let ts = c.args.arguments.now in
    argument_next (seats_at c.args.places.rooms.now c.args.places.keeping c.args.places.pins.now) i ts c.index-arguments-index.result c.loop-index.code c.push_into.new.code _
    (drop_more ts i c.index-arguments-index.result (omega (arith, c.loop-index-test.true)) ∙ ap (λ t. t ∷ drop (i + 1) ts) (sym c.index-arguments-index.is))
    (c.in_ok-push_into.ensures) c.loop-index.invariant
