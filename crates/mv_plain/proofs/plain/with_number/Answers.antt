use Rattle.std.proofs.lemmas.Result.{IfOk-weaker}
use Rattle.mv_plain.proofs.PlainTrees.{keeps_right, denied_zero}
use Rattle.mv_plain.proofs.plain.with_number.Goals as goal

pub returns-then-n-eq0 : goal.returns-then-n-eq0
returns-then-n-eq0 c =
    let zero = c.if-n-eq0.true in
    IfOk-weaker c.denied.result _ _ (λ t h. denied_zero c.args.operator c.args.n c.args.a t c.if-operator-eq-EQUAL.true zero h) c.denied.ensures

pub returns : goal.returns
returns c = keeps_right c.args.operator c.args.n c.args.a c.in_ok-new.field-0 c.in_ok-new-2.field-0 c.in_ok-new.ensures c.in_ok-new-2.ensures
