use Rattle.std.proofs.Common.{sym, ◌∙◌}
use Rattle.std.proofs.lemmas.Result.{IfOk-weaker}
use Rattle.mv_plain.proofs.PlainTrees.{keeps_left, by_turning}
use Rattle.mv_plain.proofs.plain.from_number.Goals as goal

pub returns-then-commutes : goal.returns-then-commutes
returns-then-commutes c =
    let turns = sym c.commutes.ensures ∙ c.if-commutes.true in
    IfOk-weaker c.with_number.result _ _ (λ t h. by_turning c.args.operator c.args.n c.args.b t turns h) c.with_number.ensures

pub returns : goal.returns
returns c = keeps_left c.args.operator c.args.n c.args.b c.in_ok-new.field-0 c.in_ok-new-2.field-0 c.in_ok-new.ensures c.in_ok-new-2.ensures
