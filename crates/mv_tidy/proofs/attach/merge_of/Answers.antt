use Rattle.std.proofs.Common.{true, false, eqb, sym, ◌∙◌, ap, ne_eqb}
use Rattle.mv_tidy.proofs.Attaching.{merge_is}
use Rattle.mv_tidy.proofs.attach.merge_of.Goals as goal

pub returns-then-n-eq0 : goal.returns-then-n-eq0
returns-then-n-eq0 c =
    merge_is c.merge_sides.result c.args.value.now c.in-Some.n true c.args.x.now c.args.y.now (sym c.constant.ensures ∙ c.in-Some.is)
    (ap (λ n. eqb n 0) c.if-n-eq0.true) c.merge_sides.ensures

pub returns-else-n-eq0 : goal.returns-else-n-eq0
returns-else-n-eq0 c =
    merge_is c.merge_sides-else-n-eq0.result c.args.value.now c.in-Some.n false c.args.x.now c.args.y.now (sym c.constant.ensures ∙ c.in-Some.is)
    (ne_eqb c.in-Some.n 0 c.if-n-eq0.false) c.merge_sides-else-n-eq0.ensures
